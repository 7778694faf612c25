-- The four theorems on encoding and decoding. Assumes nothing.
use mathlib.Core.Path.{◌≡◌, ◌∙◌, refl, sym, ap, subst}
use mathlib.Core.Bool.{Bool, true, false}
use mathlib.Core.List.{List, [], ◌∷◌}
use Prim.Native.Nat.{ℕ, zero, suc, ◌<◌}
use native.Mathlib.Omega.{arith}
use lib.Dec.{leb}
use lib.ListN.{length, take, drop, get_or, drop_of_length-le}
use lib.Seq.{drop-cons, take_at}
use borrow.Author.Tests.{le-leb}
use Rattle.laws.specs.Over.{over, over_zero}
use Rattle.error.specs.declared.Refusal.TheVariants.{NotEncodable}
use Rattle.nav_command.specs.declared.CommandGroup.{CommandGroup}
use Rattle.nav_command.specs.declared.CommandGroup.TheVariants as G
use Rattle.nav_command.specs.declared.DecodedCommand.{DecodedCommand}
use Rattle.nav_command.specs.Rules.{byte_at, command_of}
use Rattle.nav_encode.specs.Rules.{Twelve, cleared, bits_of, option_of, compare_byte, set_byte, code_of, bytes_of, encodable, encode_of}
use Rattle.nav_encode.specs.Theorems.{encoded, DecodesBack, EncodesBack, NoneDecode, RefusedIfNone, IgnoredBits}
use Rattle.nav_encode.proofs.Equal.{same_eq, same_refl}
use Rattle.nav_encode.proofs.Round.{kept, again, bit_small}
use Rattle.std.specs.Prelude.{Err, Ok}

-- twelve bytes, one by one
next : (l : List ℕ) (k : ℕ) (rest : List ℕ) → length l ≡ 12 → k < 12 → drop (suc k) l ≡ rest → drop k l ≡ get_or l k 0 ∷ rest
next l k rest h g e = drop-cons l k 0 (omega arith) ∙ ap (λ (x : List ℕ). get_or l k 0 ∷ x) e

spelled : (l : List ℕ) → length l ≡ 12 → l ≡ byte_at l 0 ∷ byte_at l 1 ∷ byte_at l 2 ∷ byte_at l 3 ∷ byte_at l 4 ∷ byte_at l 5 ∷ byte_at l 6 ∷ byte_at l 7 ∷ byte_at l 8 ∷ byte_at l 9 ∷ byte_at l 10 ∷ byte_at l 11 ∷ []
spelled l h = next l 0 _ h (omega arith) (next l 1 _ h (omega arith) (next l 2 _ h (omega arith) (next l 3 _ h (omega arith) (next l 4 _ h (omega arith) (next l 5 _ h (omega arith) (next l 6 _ h (omega arith) (next l 7 _ h (omega arith) (next l 8 _ h (omega arith) (next l 9 _ h (omega arith) (next l 10 _ h (omega arith) (next l 11 _ h (omega arith) (drop_of_length-le l {i = 12} (omega arith)))))))))))))

kept_bytes : (l : List ℕ) → Twelve l → bytes_of (command_of l) ≡ cleared l
kept_bytes l t = subst (λ (x : List ℕ). bytes_of (command_of x) ≡ cleared x) (sym (spelled l t.long)) (kept (byte_at l 0) (byte_at l 1) (byte_at l 2) (byte_at l 3) (byte_at l 4) (byte_at l 5) (byte_at l 6) (byte_at l 7) (byte_at l 8) (byte_at l 9) (byte_at l 10) (byte_at l 11) (t.small 0) (t.small 1) (t.small 2) (t.small 3) (t.small 4) (t.small 5) (t.small 6) (t.small 7) (t.small 8) (t.small 9) (t.small 10) (t.small 11))

again_bytes : (l : List ℕ) → Twelve l → command_of (bytes_of (command_of l)) ≡ command_of l
again_bytes l t = subst (λ (x : List ℕ). command_of (bytes_of (command_of x)) ≡ command_of x) (sym (spelled l t.long)) (again (byte_at l 0) (byte_at l 1) (byte_at l 2) (byte_at l 3) (byte_at l 4) (byte_at l 5) (byte_at l 6) (byte_at l 7) (byte_at l 8) (byte_at l 9) (byte_at l 10) (byte_at l 11) (t.small 0) (t.small 1) (t.small 2) (t.small 3) (t.small 4) (t.small 5) (t.small 6) (t.small 7) (t.small 8) (t.small 9) (t.small 10) (t.small 11))

decoded_encodable : (l : List ℕ) → Twelve l → encodable (command_of l) ≡ true
unfolding encodable
decoded_encodable l t = rw (again_bytes l t) (same_refl (command_of l))

encodable_back : (c : DecodedCommand) → encodable c ≡ true → command_of (bytes_of c) ≡ c
unfolding encodable
encodable_back c e = same_eq (command_of (bytes_of c)) c e

-- what is laid out are twelve bytes

compare_small : (g : CommandGroup) (code : ℕ) → compare_byte g code < 256
compare_small G.Branch code = omega arith
compare_small G.Compare code = omega arith
compare_small G.Set code = omega arith
compare_small (G.Reserved r) code = omega arith

set_small : (g : CommandGroup) (code : ℕ) → set_byte g code < 256
set_small G.Branch code = omega arith
set_small G.Compare code = omega arith
set_small G.Set code = omega arith
set_small (G.Reserved r) code = omega arith

group_small : (g : CommandGroup) → bits_of g < 4
group_small G.Branch = omega arith
group_small G.Compare = omega arith
group_small G.Set = omega arith
group_small (G.Reserved r) = omega arith

choice_small : (g : CommandGroup) (code : ℕ) → option_of g code < 16
choice_small G.Branch code = omega arith
choice_small G.Compare code = omega arith
choice_small G.Set code = omega arith
choice_small (G.Reserved r) code = omega arith

laid_small : (c : DecodedCommand) (i : ℕ) → byte_at (bytes_of c) i < 256
unfolding bytes_of
laid_small c zero = omega (arith, group_small c.group)
laid_small c (suc zero) = omega (arith, bit_small c.imm_op1, bit_small c.imm_op2, choice_small c.group (code_of c.operation))
laid_small c (suc (suc zero)) = compare_small c.group _
laid_small c (suc (suc (suc zero))) = set_small c.group _
laid_small c (suc (suc (suc (suc zero)))) = omega arith
laid_small c (suc (suc (suc (suc (suc zero))))) = omega arith
laid_small c (suc (suc (suc (suc (suc (suc zero)))))) = omega arith
laid_small c (suc (suc (suc (suc (suc (suc (suc zero))))))) = omega arith
laid_small c (suc (suc (suc (suc (suc (suc (suc (suc zero)))))))) = omega arith
laid_small c (suc (suc (suc (suc (suc (suc (suc (suc (suc zero))))))))) = omega arith
laid_small c (suc (suc (suc (suc (suc (suc (suc (suc (suc (suc zero)))))))))) = omega arith
laid_small c (suc (suc (suc (suc (suc (suc (suc (suc (suc (suc (suc zero))))))))))) = omega arith
laid_small c (suc (suc (suc (suc (suc (suc (suc (suc (suc (suc (suc (suc i)))))))))))) = omega arith

laid_twelve : (c : DecodedCommand) → Twelve (bytes_of c)
unfolding bytes_of
laid_twelve c = record { long = refl; small = laid_small c }

-- Encoding what was decoded.
pub encodes : EncodesBack
unfolding encode_of
encodes bytes l t room = rw (decoded_encodable bytes t, le-leb 12 (length l) room, kept_bytes bytes t)

-- Decoding what was encoded.
stands : (c : DecodedCommand) (l : List ℕ) → take 12 (over l 0 (bytes_of c)) ≡ bytes_of c
stands c l = ap (take 12) (over_zero l (bytes_of c)) ∙ take_at (bytes_of c) (drop (length (bytes_of c)) l) 12 (laid_twelve c).long

returned : (c : DecodedCommand) (x : List ℕ) → encodable c ≡ true → x ≡ bytes_of c → (command_of x ≡ c) × (cleared x ≡ x)
returned c x e s =
    let back : command_of (bytes_of c) ≡ c = encodable_back c e in
    rw s (back, sym (kept_bytes (bytes_of c) (laid_twelve c)) ∙ ap bytes_of back)

fine_only : (c : DecodedCommand) (l : List ℕ) → (encode_of c l).answer ≡ Ok tt → (encodable c ≡ true) × ((encode_of c l).held ≡ over l 0 (bytes_of c))
unfolding encode_of
fine_only c l e = go (encodable c) (leb 12 (length l)) refl refl
  where
    go : (p q : Bool) → encodable c ≡ p → leb 12 (length l) ≡ q → (encodable c ≡ true) × ((encode_of c l).held ≡ over l 0 (bytes_of c))
    go true true p q = (p, rw (p, q))
    go true false p q = let z : ◌≡◌ {A = ℕ} 0 1 = cc (rw (p, q) at e) in absurd (omega arith)
    go false q p r = let z : ◌≡◌ {A = ℕ} 0 1 = cc (rw p at e) in absurd (omega arith)

pub decodes : DecodesBack
decodes c l e =
    let f = fine_only c l e in
    let s : encoded c l ≡ bytes_of c = ap (take 12) f.1 ∙ stands c l in
    let r = returned c (encoded c l) f.0 s in
    record { back = r.0; zeros = r.1 }

-- Refused means that none decode to it.
not_refused : (c : DecodedCommand) (l : List ℕ) → encodable c ≡ true → (encode_of c l).answer ≡ Err NotEncodable → ⊥
unfolding encode_of
not_refused c l p e = go (leb 12 (length l)) refl
  where
    go : (q : Bool) → leb 12 (length l) ≡ q → ⊥
    go true q = let z : ◌≡◌ {A = ℕ} 0 1 = cc (rw (p, q) at e) in omega arith
    go false q = let z : ◌≡◌ {A = ℕ} 0 1 = cc (rw (p, q) at e) in omega arith

refuses : (c : DecodedCommand) (l : List ℕ) → encodable c ≡ false → (encode_of c l).answer ≡ Err NotEncodable
unfolding encode_of
refuses c l p = rw p

pub refused : RefusedIfNone
refused c l = (
  λ e bytes t b. not_refused c l (rw b at (decoded_encodable bytes t)) e,
  λ none. go none (encodable c) refl,
)
  where
    go : NoneDecode c → (p : Bool) → encodable c ≡ p → (encode_of c l).answer ≡ Err NotEncodable
    go none true p = absurd (none (bytes_of c) (laid_twelve c) (encodable_back c p))
    go none false p = refuses c l p

-- The ignored bits.
pub ignored : IgnoredBits
ignored a b s t = (
  λ e. sym (kept_bytes a s) ∙ ap bytes_of e ∙ kept_bytes b t,
  λ e. sym (again_bytes a s) ∙ ap command_of (kept_bytes a s ∙ e ∙ sym (kept_bytes b t)) ∙ again_bytes b t,
)
