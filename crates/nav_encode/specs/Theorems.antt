-- What is promised of encoding and decoding together, for every command and all bytes. Assumes nothing.
use Rattle.std.specs.Prelude.{◌≡◌, List, ◌↔◌, ℕ, ◌≤◌, length, take, Err, Ok}
use Rattle.laws.specs.Over.{over}
use Rattle.error.specs.declared.Refusal.TheVariants.{NotEncodable}
use Rattle.nav_command.specs.declared.DecodedCommand.{DecodedCommand}
use Rattle.nav_command.specs.Rules.{command_of}
use Rattle.nav_encode.specs.Rules.{Twelve, cleared, encoding, encode_of}

-- the first twelve bytes of the room after encoding into it
abbrev pub encoded : DecodedCommand → List ℕ → List ℕ
encoded c l = take 12 (encode_of c l).held

-- Decoding what was encoded gives the command back, and the ignored bits of what was encoded are zero.
pub record Returns (c : DecodedCommand) (l : List ℕ) : Type 0 where
  pub back : command_of (encoded c l) ≡ c
  pub zeros : cleared (encoded c l) ≡ encoded c l

abbrev pub DecodesBack : Type 0
DecodesBack = (c : DecodedCommand) (l : List ℕ) → (encode_of c l).answer ≡ Ok tt → Returns c l

-- Encoding what was decoded gives the same bytes with the ignored bits cleared.
abbrev pub EncodesBack : Type 0
EncodesBack =
    (bytes l : List ℕ) → Twelve bytes → 12 ≤ length l → encode_of (command_of bytes) l ≡ encoding (Ok tt) (over l 0 (cleared bytes))

-- A command is refused as not encodable exactly if no twelve bytes decode to it.
abbrev pub NoneDecode : DecodedCommand → Type 0
NoneDecode c = (bytes : List ℕ) → Twelve bytes → command_of bytes ≡ c → ⊥

abbrev pub RefusedIfNone : Type 0
RefusedIfNone = (c : DecodedCommand) (l : List ℕ) → ((encode_of c l).answer ≡ Err NotEncodable) ↔ NoneDecode c

-- The ignored bits are those that decoding does not tell apart.
abbrev pub IgnoredBits : Type 0
IgnoredBits = (a b : List ℕ) → Twelve a → Twelve b → (command_of a ≡ command_of b) ↔ (cleared a ≡ cleared b)
