-- The twelve bytes in the room, and the three ends of `encode`. Assumes nothing.
use mathlib.Core.Path.{◌≡◌, sym, ap, ◌∙◌}
use mathlib.Core.Bool.{Bool, true, false}
use mathlib.Core.List.{List, ◌++◌}
use Prim.Native.Nat.{ℕ, ◌≤◌, ◌<◌}
use lib.ListN.{length, drop}
use borrow.Author.Tests.{le-leb, lt-leb}
use Rattle.laws.specs.Over.{over, over_zero}
use Rattle.error.specs.declared.Refusal.TheVariants.{NoRoom, NotEncodable}
use Rattle.nav_command.specs.declared.DecodedCommand.{DecodedCommand}
use Rattle.nav_command.specs.Rules.{command_of}
use Rattle.nav_encode.specs.Rules.{bytes_of, same, encodable, encoding, encode_of}
use Rattle.std.specs.Prelude.{Err, Ok}

-- the twelve bytes and the rest of the room are the bytes laid over it
pub laid : (c : DecodedCommand) (bytes l m : List ℕ) → bytes ≡ bytes_of c → m ≡ bytes ++ drop 12 l → m ≡ over l 0 bytes
unfolding bytes_of
laid c bytes l m made e = e ∙ sym (over_zero l bytes ∙ ap (λ (n : ℕ). bytes ++ drop n l) (ap length made))

-- the three ends of `encode`: what was made, decoded, compared
module _ (c d : DecodedCommand) (bytes l : List ℕ) (t : Bool) (made : bytes ≡ bytes_of c) (back : d ≡ command_of bytes) (is : t ≡ same d c) where
  test : t ≡ encodable c
  unfolding encodable
  test = is ∙ ap (λ (x : DecodedCommand). same x c) (back ∙ ap command_of made)

  pub encoded : (m : List ℕ) → t ≡ true → 12 ≤ length l → m ≡ over l 0 bytes → encoding (Ok tt) m ≡ encode_of c l
  unfolding encode_of
  encoded m p room e = rw (← test, p, le-leb 12 (length l) room) (ap (encoding (Ok tt)) (e ∙ ap (over l 0) made))

  pub no_room : t ≡ true → length l < 12 → encoding (Err NoRoom) l ≡ encode_of c l
  unfolding encode_of
  no_room p room = rw (← test, p, lt-leb 12 (length l) room)

  pub not_encodable : t ≡ false → encoding (Err NotEncodable) l ≡ encode_of c l
  unfolding encode_of
  not_encodable p = rw (← test, p)

  pub long : length bytes ≡ 12
  unfolding bytes_of
  long = ap length made
