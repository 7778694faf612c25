-- What the loops and the straight lines of this crate write. Assumes nothing.
use mathlib.Core.Path.{◌≡◌, refl, sym, ap, ◌∙◌}
use mathlib.Core.Bool.{Bool, true, false, cond}
use mathlib.Core.List.{List, [], ◌∷◌, ◌++◌}
use Prim.Native.Nat.{ℕ, zero, suc, ◌+◌, ◌-◌, ◌/◌, ◌%◌, ◌^◌, ◌≤◌, ◌<◌}
use native.Mathlib.Nat.{add-zero, mod-eq_of_lt, pow-le-pow_left, le_refl, le_trans, lt_of_lt_of_le, lt_of_le_of_lt, div-le_self}
use native.Mathlib.Numerals.{add-one}
use native.Mathlib.Omega.{arith}
use lib.Dec.{ltb}
use lib.ListN.{length, take, drop, get_or, set, length-append, length-set, drop_of_length-le}
use lib.Seq.{sets, sets-eq, set_comm, set_out, take-suc, take_all, take_at, drop_at, drop-cons, length-take-le}
use borrow.Author.Tests.{ltb-true}
use Rattle.text.specs.Rules.{glyph_of, numeral, numeral_in, blanks, place, Wrote}
use Rattle.text.specs.Laws.{near, then, one_digit, more_digits, few_digits, less}

-- a text that ends inside the room
pub wrote : {l l' t : List ℕ} {at r : ℕ} → length l < 2 ^ 64 → at + length t ≤ length l → l' ≡ sets l at t → r ≡ at + length t → Wrote l at t l' r
wrote {t = t} {at = at} h g e q = record { held = e; end = q ∙ sym (near (at + length t) (omega arith)); room = h }

-- the same for a text whose length is counted
pub counted : {l l' t : List ℕ} {at : ℕ} (k : ℕ) → length l < 2 ^ 64 → k ≡ length t → at + k ≤ length l → l' ≡ sets l at t → Wrote l at t l' (at + k)
counted {t = t} {at = at} k h e g w = wrote h (omega arith) w (ap (λ (x : ℕ). at + x) e)

-- one byte, inside the room and past its end
pub byte_in : (l : List ℕ) (at b : ℕ) → length l < 2 ^ 64 → at < length l → Wrote l at (b ∷ []) (set l at b) (at + 1)
byte_in l at b h g = wrote h (omega arith) refl refl

pub byte_out : (l : List ℕ) (at b r : ℕ) → length l < 2 ^ 64 → length l ≤ at → r ≡ place (at + 1) → Wrote l at (b ∷ []) l r
byte_out l at b r h g e = record { held = sym (set_out l at b g); end = e; room = h }

-- a turn of a copy

longer : (s : List ℕ) (i : ℕ) → i < length s → take (i + 1) s ≡ take i s ++ (get_or s i 0 ∷ [])
longer s i h = ap (λ (n : ℕ). take n s) (add-one i) ∙ take-suc s i 0 h

pub tested : (s : List ℕ) (i : ℕ) {l m l' : List ℕ} {at p r : ℕ} → i < length s → Wrote l at (take i s) m p → Wrote m p (get_or s i 0 ∷ []) l' r → Wrote l at (take (i + 1) s) l' r
tested s i h a b = rw (longer s i h) (then a b)

blanks_more : (k : ℕ) → blanks (k + 1) ≡ blanks k ++ (32 ∷ [])
blanks_more k = ap blanks (add-one k) ∙ go k
  where
    go : (k : ℕ) → blanks (suc k) ≡ blanks k ++ (32 ∷ [])
    go zero = refl
    go (suc k) = ap (λ (x : List ℕ). 32 ∷ x) (go k)

pub blanked : (i : ℕ) {l m l' : List ℕ} {at p r : ℕ} → Wrote l at (blanks i) m p → Wrote m p (32 ∷ []) l' r → Wrote l at (blanks (i + 1)) l' r
blanked i a b = rw (blanks_more i) (then a b)

-- how many digits a number has

pub at_most : (base n : ℕ) → 1 < base → n < 2 ^ 32 → length (numeral base n) ≤ 32
at_most base n b h = few_digits 31 base n b h (lt_of_lt_of_le h (pow-le-pow_left b 32))

-- What counting them keeps: those counted and those of what is left are one more than all.
pub record Counting (base n count left : ℕ) : Type 0 where
  pub inside : left ≤ n
  pub both : count + length (numeral base left) ≡ length (numeral base n) + 1

module _ {base n : ℕ} (b : 1 < base) (h : n < 2 ^ 32) where
  pub count_starts : Counting base n 1 n
  count_starts = record { inside = le_refl n; both = omega arith }

  pub count_on : {count left : ℕ} → base ≤ left → Counting base n count left → Counting base n (count + 1) (left / base)
  count_on {count} {left} g c =
      let fits : left < 2 ^ 32 = lt_of_le_of_lt c.inside h in
      let one : length (numeral base left) ≡ length (numeral base (left / base)) + 1 =
      ap length (more_digits base left b fits g) ∙ length-append (numeral base (left / base)) (glyph_of (left % base) ∷ []) in
      record { inside = le_trans (div-le_self left base) c.inside; both = omega (arith, c.both) }

  pub count_ends : {count left : ℕ} → left < base → Counting base n count left → (count ≡ length (numeral base n)) × (count ≤ 32)
  count_ends {count} {left} g c =
      let one : length (numeral base left) ≡ 1 = ap length (one_digit base left g) in
      let all : count ≡ length (numeral base n) = omega (arith, c.both) in
      (all, omega (arith, at_most base n b h))

-- the k last digits of a number

abbrev lows : ℕ → ℕ → ℕ → List ℕ
lows zero base n = []
lows (suc k) base n = lows k base (n / base) ++ (glyph_of (n % base) ∷ [])

lows_length : (k base n : ℕ) → length (lows k base n) ≡ k
lows_length zero base n = refl
lows_length (suc k) base n = length-append (lows k base (n / base)) (glyph_of (n % base) ∷ []) ∙ omega (arith, lows_length k base (n / base))

-- a numeral of one digit, and of one digit more
lows_in : (t : Bool) (base n : ℕ) (rest : List ℕ) → ltb n base ≡ t → rest ≡ lows (length rest) base (n / base) →
    cond t (glyph_of n ∷ []) (rest ++ (glyph_of (n % base) ∷ [])) ≡ lows (length (cond t (glyph_of n ∷ []) (rest ++ (glyph_of (n % base) ∷ [])))) base n
lows_in true base n rest e h = rw (mod-eq_of_lt {n = n} {m = base} (ltb-true n base e))
lows_in false base n rest e h =
    let c : length (rest ++ (glyph_of (n % base) ∷ [])) ≡ suc (length rest) = length-append rest (glyph_of (n % base) ∷ []) ∙ omega arith in
    rw c (ap (λ (x : List ℕ). x ++ (glyph_of (n % base) ∷ [])) h)

all_lows : (k base n : ℕ) → 1 < base → n < 2 ^ suc k → numeral_in k base n ≡ lows (length (numeral_in k base n)) base n
all_lows zero base n b h = rw (mod-eq_of_lt {n = n} {m = base} (omega (arith, h)))
all_lows (suc k) base n b h = lows_in (ltb n base) base n (numeral_in k base (n / base)) refl (all_lows k base (n / base) b (less (suc k) base n b h))

-- What the loop that fills a numeral in from its end keeps: the first k digits are still to come, and those after them stand.
pub record Filled (base n : ℕ) (l : List ℕ) (at : ℕ) (m : List ℕ) (k left : ℕ) : Type 0 where
  pub inside : k ≤ length (numeral base n)
  coming : lows k base left ≡ take k (numeral base n)
  standing : m ≡ sets l (at + k) (drop k (numeral base n))
  pub long : length m ≡ length l

pub fill_starts : (base n : ℕ) (l : List ℕ) (at k : ℕ) → 1 < base → n < 2 ^ 32 → k ≡ length (numeral base n) → Filled base n l at l k n
unfolding numeral
fill_starts base n l at k b h e =
    let t : List ℕ = numeral base n in
    record {
      inside = omega arith;
      coming = rw e (sym (all_lows 31 base n b h) ∙ sym (take_all (length t) t (le_refl (length t))));
      standing = ap (sets l (at + k)) (sym (drop_of_length-le t {i = k} (omega arith)));
      long = refl;
    }

snoc_first : (xs ys : List ℕ) (a b k : ℕ) → length xs ≡ k → length ys ≡ k → xs ++ (a ∷ []) ≡ ys ++ (b ∷ []) → xs ≡ ys
snoc_first xs ys a b k p q e = sym (take_at xs (a ∷ []) k p) ∙ ap (take k) e ∙ take_at ys (b ∷ []) k q

snoc_last : (xs ys : List ℕ) (a b k : ℕ) → length xs ≡ k → length ys ≡ k → xs ++ (a ∷ []) ≡ ys ++ (b ∷ []) → a ≡ b
snoc_last xs ys a b k p q e =
    let d : (a ∷ []) ≡ (b ∷ []) = sym (drop_at xs (a ∷ []) k p) ∙ ap (drop k) e ∙ drop_at ys (b ∷ []) k q in
    cc

-- a store before a run that stands
set_sets : (t l : List ℕ) (i p x : ℕ) → i < p → set (sets l p t) i x ≡ sets (set l i x) p t
set_sets [] l i p x h = refl
set_sets (y ∷ t) l i p x h =
    set_sets t (set l p y) i (suc p) x (omega arith) ∙ ap (λ (m : List ℕ). sets m (suc p) t) (set_comm l p i y x (λ e. omega arith))

pub fill_on : {base n : ℕ} {l m : List ℕ} {at k left : ℕ} (g : ℕ) → 0 < k → Filled base n l at m k left → g ≡ glyph_of (left % base) → Filled base n l at (set m (at + (k - 1)) g) (k - 1) (left / base)
fill_on {k = zero} g pos f e = absurd (omega arith)
fill_on {base = base} {n = n} {l = l} {m = m} {at = at} {k = suc j} {left = left} g pos f e =
    let t : List ℕ = numeral base n in
    let in_t : j < length t = f.inside in
    let back : suc j - 1 ≡ j = omega arith in
    let both : lows j base (left / base) ++ (glyph_of (left % base) ∷ []) ≡ take j t ++ (get_or t j 0 ∷ []) = f.coming ∙ take-suc t j 0 in_t in
    let lj : length (lows j base (left / base)) ≡ j = lows_length j base (left / base) in
    let tj : length (take j t) ≡ j = length-take-le j t (omega arith) in
    let here : at + suc j ≡ suc (at + j) = omega arith in
    rw back
    (record {
      inside = omega arith;
      coming = snoc_first (lows j base (left / base)) (take j t) (glyph_of (left % base)) (get_or t j 0) j lj tj both;
      standing =
          ap (λ (x : List ℕ). set x (at + j) g) f.standing
          ∙ ap (λ (x : ℕ). set (sets l x (drop (suc j) t)) (at + j) g) here
          ∙ set_sets (drop (suc j) t) l (at + j) (suc (at + j)) g (omega arith)
          ∙ ap (λ (x : ℕ). sets (set l (at + j) x) (suc (at + j)) (drop (suc j) t)) (e ∙ snoc_last (lows j base (left / base)) (take j t) (glyph_of (left % base)) (get_or t j 0) j lj tj both)
          ∙ ap (sets l (at + j)) (sym (drop-cons t j 0 in_t));
      long = length-set m (at + j) g ∙ f.long;
    })

pub fill_ends : {base n : ℕ} {l m : List ℕ} {at k left : ℕ} → k ≤ 0 → Filled base n l at m k left → m ≡ sets l at (numeral base n)
fill_ends {base = base} {n = n} {l = l} {at = at} {k = zero} h f = f.standing ∙ ap (λ (x : ℕ). sets l x (numeral base n)) (add-zero at)
fill_ends {k = suc j} h f = absurd (omega arith)

-- the digits that stand at the start of a local array
pub at_start : (z m t : List ℕ) (k : ℕ) → m ≡ sets z 0 t → k ≡ length t → length t ≤ length z → take k m ≡ t
at_start z m t k e h g =
    ap (take k) (e ∙ sets-eq t z 0 (omega arith)) ∙ take_at t (drop (0 + length t) z) k (sym h)
