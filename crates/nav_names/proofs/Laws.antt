-- What the last arms of the matches list, and which registers have a name. Assumes nothing.
use mathlib.Core.Path.{◌≡◌, refl, sym, ap, ◌∙◌}
use mathlib.Core.Bool.{Bool, true, false, cond}
use mathlib.Core.List.{List, [], ◌∷◌}
use Prim.Native.Nat.{ℕ, zero, suc, ◌+◌, ◌≤◌, ◌<◌}
use Prim.Native.String.{String}
use native.Mathlib.Omega.{arith}
use lib.Dec.{eqb, leb, ltb}
use lib.ListN.{length, get_or, get_or-eq_default}
use borrow.Author.Tests.{eqb-true, le-leb, lt-leb, leb-true, ltb-true, ltb-false}
use Rattle.laws.specs.Cases.{by_test}
use Rattle.laws.specs.Table.{listed, at}
use Rattle.text.specs.Rules.{bytes}
use Rattle.register_model.specs.declared.PsrClass.{PsrClass}
use Rattle.register_model.specs.declared.PsrClass.TheVariants.{PlaybackStatus, PlayerSetting, Reserved}
use Rattle.register_model.specs.Rules.{class_of, class_at}
use Rattle.std.specs.Prelude.{Option, Some, None}
use Rattle.register_model.specs.Names.{name_of, reserved}
use Rattle.nav_names.specs.Rules.{mnemonics, mnemonic, name_text, unnamed}

-- past the sheet there is no name
pub no_mnemonic : (n : ℕ) → 47 < n → mnemonic n ≡ []
unfolding mnemonic
no_mnemonic n h = ap bytes (get_or-eq_default mnemonics "" {n = n} h)

-- The last arm of a match on a number: the number is none of the other arms' keys, here from the last to the first.

abbrev pub NoneOf : List ℕ → ℕ → Type 0
NoneOf [] n = Unit
NoneOf (k ∷ keys) n = NoneOf keys n × (n ≡ k → ⊥)

abbrev member : ℕ → List ℕ → Bool
member n [] = false
member n (k ∷ keys) = cond (eqb n k) true (member n keys)

-- the numbers from b + k - 1 down to b
abbrev pub down : ℕ → ℕ → List ℕ
down b zero = []
down b (suc k) = (b + k) ∷ down b k

pub above : (b k n : ℕ) → NoneOf (down b k) n → b ≤ n → b + k ≤ n
above b zero n r h = omega arith
above b (suc k) n (r, ne) h = let g : b + k ≤ n = above b k n r h in omega (arith, ne)

member_of : (t : Bool) (n k : ℕ) (rest : Bool) → eqb n k ≡ t → (n ≡ k → ⊥) → rest ≡ false → cond t true rest ≡ false
member_of true n k rest e ne r = absurd (ne (eqb-true n k e))
member_of false n k rest e ne r = r

not_member : (n : ℕ) (keys : List ℕ) → NoneOf keys n → member n keys ≡ false
not_member n [] r = refl
not_member n (k ∷ keys) (r, ne) = member_of (eqb n k) n k (member n keys) refl ne (not_member n keys r)

-- a rule that gives d at every number below `bound` that is no key, which is computed
others : {A : Type 0} (keys : List ℕ) (f : ℕ → A) (d : A) (bound : ℕ) → listed (λ n. d) 0 bound ≡ listed (λ n. cond (member n keys) d (f n)) 0 bound → (n : ℕ) → n < bound → NoneOf keys n → f n ≡ d
others keys f d bound e n h r =
    let g : cond (member n keys) d (f n) ≡ d = sym (at (λ n. cond (member n keys) d (f n)) d bound e n h) ∙ at (λ n. d) d bound refl n h in
    rw (not_member n keys r) at g

-- A register that is not reserved, and none of the keys from `low` on, comes later: which is computed.

abbrev later : ℕ → ℕ → ℕ → Bool
later low next i = cond (leb low i) (cond (reserved (class_of i)) true (leb next i)) true

comes_later : (keys : List ℕ) (low next : ℕ) → listed (λ i. true) 0 128 ≡ listed (λ i. cond (member i keys) true (later low next i)) 0 128 → (i : ℕ) → (low ≤ i) × (i < 128) × (reserved (class_of i) ≡ false) → NoneOf keys i → (next ≤ i) × (i < 128) × (reserved (class_of i) ≡ false)
comes_later keys low next e i (l, h, r) none =
    let t : later low next i ≡ true = others keys (later low next) true 128 e i h none in
    (leb-true next i (rw (le-leb low i l, r) at t), h, r)

pub past_playback : (i : ℕ) → (0 ≤ i) × (i < 128) × (reserved (class_of i) ≡ false) → NoneOf (7 ∷ 6 ∷ 5 ∷ 4 ∷ 3 ∷ 2 ∷ 1 ∷ 0 ∷ []) i → (8 ≤ i) × (i < 128) × (reserved (class_of i) ≡ false)
unfolding class_of
past_playback i h none = comes_later (7 ∷ 6 ∷ 5 ∷ 4 ∷ 3 ∷ 2 ∷ 1 ∷ 0 ∷ []) 0 8 refl i h none

pub past_menu : (i : ℕ) → (8 ≤ i) × (i < 128) × (reserved (class_of i) ≡ false) → NoneOf (15 ∷ 14 ∷ 13 ∷ 12 ∷ 11 ∷ 10 ∷ 9 ∷ 8 ∷ []) i → (16 ≤ i) × (i < 128) × (reserved (class_of i) ≡ false)
unfolding class_of
past_menu i h none = comes_later (15 ∷ 14 ∷ 13 ∷ 12 ∷ 11 ∷ 10 ∷ 9 ∷ 8 ∷ []) 8 16 refl i h none

pub past_setting : (i : ℕ) → (16 ≤ i) × (i < 128) × (reserved (class_of i) ≡ false) → NoneOf (31 ∷ 30 ∷ 29 ∷ 20 ∷ 19 ∷ 18 ∷ 17 ∷ 16 ∷ []) i → (32 ≤ i) × (i < 128) × (reserved (class_of i) ≡ false)
unfolding class_of
past_setting i h none = comes_later (31 ∷ 30 ∷ 29 ∷ 20 ∷ 19 ∷ 18 ∷ 17 ∷ 16 ∷ []) 16 32 refl i h none

-- from 48 on the registers that are not reserved share a name

abbrev tail : String → ℕ → String
tail name i = cond (leb 32 i) (cond (reserved (class_of i)) name (name_of i)) name

pub shared : (i : ℕ) → (32 ≤ i) × (i < 128) × (reserved (class_of i) ≡ false) → NoneOf (44 ∷ 43 ∷ 42 ∷ 40 ∷ 39 ∷ 38 ∷ 37 ∷ 36 ∷ []) i → name_text i ≡ bytes "(CharacteristicTextCapability)"
unfolding name_text name_of class_of
shared i (l, h, r) none =
    let f : tail "CharacteristicTextCapability" i ≡ "CharacteristicTextCapability" = others (44 ∷ 43 ∷ 42 ∷ 40 ∷ 39 ∷ 38 ∷ 37 ∷ 36 ∷ []) (tail "CharacteristicTextCapability") "CharacteristicTextCapability" 128 refl i h none in
    let n : name_of i ≡ "CharacteristicTextCapability" = rw (le-leb 32 i l, r) at f in
    rw (r, n)

-- The class of a register decides whether it has a name.

pub beyond : (i : ℕ) → 62 ≤ i → reserved (class_of i) ≡ true
unfolding class_of
beyond i h = simp (lt-leb i 7 (omega arith), lt-leb i 12 (omega arith), lt-leb i 14 (omega arith), lt-leb i 39 (omega arith), lt-leb i 44 (omega arith), lt-leb i 9 (omega arith), lt-leb i 40 (omega arith), lt-leb i 13 (omega arith), lt-leb i 20 (omega arith), lt-leb i 31 (omega arith), lt-leb i 61 (omega arith))

pub no_name : (i : ℕ) → reserved (class_of i) ≡ true → name_text i ≡ []
unfolding name_text
no_name i e = rw e

told : (i : ℕ) → unnamed (class_at i) ≡ reserved (class_of i)
unfolding class_at
told i = by_test (ltb i 128) (λ h. rw h) (λ h. rw (h, beyond i (omega (arith, ltb-false i 128 h))))

-- by the class that a register has, or none
pub class_told : (i : ℕ) (k : Option PsrClass) (b : Bool) → k ≡ class_at i → b ≡ unnamed k → reserved (class_of i) ≡ b
class_told i k b e h = sym (told i) ∙ ap unnamed (sym e) ∙ sym h

pub named_below : (i : ℕ) → reserved (class_of i) ≡ false → i < 128
named_below i e = by_test (ltb i 128) (λ h. ltb-true i 128 h) (λ h. let z : true ≡ false = sym (beyond i (omega (arith, ltb-false i 128 h))) ∙ e in let y : ◌≡◌ {A = ℕ} 0 1 = cc in absurd (omega arith))
