-- Words read byte after byte: what one byte tells of the rest. Assumes nothing.
use Rattle.std.specs.Prelude.{◌≡◌, refl, true, false, List, [], ◌∷◌, ℕ, eqb, ◌+◌, ◌≤◌, ◌<◌, leb, length, drop, get_or}
use Rattle.std.proofs.Common.{arith, add-one, drop_of_length-le, drop-cons, leb-true, le-leb, eq-eqb, ne_eqb}
use Rattle.std.proofs.Math.ListN.{get_or-eq_default}
use Rattle.std.proofs.lemmas.Bool.{lt-leb}
use Rattle.std.proofs.lemmas.Bool.Decides.{nat_tests}
use Rattle.std.specs.List.{starts_with}
use Rattle.laws.specs.Cases.{both}
use Rattle.console.specs.Rules.{begins_with, is_digit, more, number_of, no_number, goes_on_at, number_in}

-- a word and what it is to begin with, as std compares them
pub begins : (word with : List ℕ) → starts_with eqb word with ≡ begins_with word with
unfolding begins_with
begins word [] = refl
begins [] (b ∷ with) = refl
begins (a ∷ word) (b ∷ with) = grind (arith, nat_tests, begins word with)

pub all_compared : (word with : List ℕ) (i : ℕ) → length with ≤ i → begins_with (drop i word) (drop i with) ≡ true
unfolding begins_with
all_compared word with i h = rw (drop_of_length-le with {i = i} h)

pub too_short : (word with : List ℕ) (i : ℕ) → length word ≤ i → i < length with → begins_with (drop i word) (drop i with) ≡ false
unfolding begins_with
too_short word with i h g = rw (drop_of_length-le word {i = i} h, drop-cons with i 0 g)

pub other_byte : (word with : List ℕ) (i : ℕ) → i < length word → i < length with → (get_or word i 0 ≡ get_or with i 0 → ⊥)
    → begins_with (drop i word) (drop i with) ≡ false
unfolding begins_with
other_byte word with i h g e = rw (drop-cons word i 0 h, drop-cons with i 0 g, ne_eqb _ _ e)

pub same_byte : (word with : List ℕ) (i : ℕ) → i < length word → i < length with → get_or word i 0 ≡ get_or with i 0
    → begins_with (drop i word) (drop i with) ≡ begins_with (drop (i + 1) word) (drop (i + 1) with)
unfolding begins_with
same_byte word with i h g e = rw (drop-cons word i 0 h, drop-cons with i 0 g, eq-eqb _ _ e, add-one i)

-- digits

pub digit : (b : ℕ) → is_digit b ≡ true → (48 ≤ b) × (b ≤ 57)
digit b e = let t = both (leb 48 b) (leb b 57) e in (leb-true 48 b t.0, leb-true b 57 t.1)

-- a number, from place i on

pub word_ends : (word : List ℕ) (v i : ℕ) → length word ≤ i → goes_on_at v i (drop i word) ≡ number_of v i
unfolding goes_on_at
word_ends word v i h = rw (drop_of_length-le word {i = i} h)

pub digits_end : (word : List ℕ) (v i : ℕ) → i < length word → is_digit (get_or word i 0) ≡ false → goes_on_at v i (drop i word) ≡ number_of v i
unfolding goes_on_at
digits_end word v i h e = rw (drop-cons word i 0 h, e)

pub too_large : (word : List ℕ) (v i : ℕ) → i < length word → is_digit (get_or word i 0) ≡ true → 4294967295 < more v (get_or word i 0)
    → goes_on_at v i (drop i word) ≡ no_number i
unfolding goes_on_at
too_large word v i h e g = rw (drop-cons word i 0 h, e, lt-leb (more v (get_or word i 0)) 4294967295 g)

pub one_more : (word : List ℕ) (v i : ℕ) → i < length word → is_digit (get_or word i 0) ≡ true → more v (get_or word i 0) ≤ 4294967295
    → goes_on_at v i (drop i word) ≡ goes_on_at (more v (get_or word i 0)) (i + 1) (drop (i + 1) word)
unfolding goes_on_at
one_more word v i h e g = rw (drop-cons word i 0 h, e, le-leb (more v (get_or word i 0)) 4294967295 g, add-one i)

-- past the end stands no digit
pub past_the_end : (word : List ℕ) (at : ℕ) → length word ≤ at → number_in word at ≡ no_number at
unfolding number_in
past_the_end word at h = rw (get_or-eq_default word 0 {n = at} h)
