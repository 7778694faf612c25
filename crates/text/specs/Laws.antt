-- Laws of numerals, and of texts written one after another. Assumes nothing.
use Rattle.std.specs.Prelude.{◌≡◌, refl, Bool, true, false, List, [], ◌∷◌, ◌++◌, ℕ, zero, suc, ◌+◌, ◌-◌, ◌*◌, ◌/◌, ◌%◌, ◌^◌, ◌≤◌, ◌<◌, ltb, length, set}
use Rattle.std.proofs.Common.{sym, ap, ◌∙◌, add-zero, add_assoc, one-mul, div-le_self, div-lt_iff_lt-mul, lt_of_lt_of_le, lt_of_le_of_lt, mul-le-mul_left, pow-suc, arith, length-append, lt-ltb, le-ltb, ltb-true, ltb-false}
use Rattle.std.proofs.Math.Nat.{pow-zero}
use Rattle.std.proofs.lemmas.List.Edits.{sets}
use Rattle.std.proofs.Math.Seq.{length-sets, set_out}
use Rattle.laws.specs.Over.{over, sets_over}
use Rattle.text.specs.Rules.{glyph_of, numeral, numeral_in, place, Wrote}

-- places

pub near : (n : ℕ) → n < 2 ^ 64 → place n ≡ n
unfolding place
near n h = rw (lt-ltb n (2 ^ 64) h)

pub far : (n : ℕ) → 2 ^ 64 ≤ n → place n ≡ 2 ^ 64 - 1
unfolding place
far n h = rw (le-ltb n (2 ^ 64) h)

at_last : (k : ℕ) → place (2 ^ 64 - 1 + k) ≡ 2 ^ 64 - 1
at_last zero = near (2 ^ 64 - 1) (omega arith)
at_last (suc k) = far (2 ^ 64 - 1 + suc k) (omega arith)

further : (n k : ℕ) → place (place n + k) ≡ place (n + k)
further n k = go (ltb n (2 ^ 64)) refl
  where
    go : (b : Bool) → ltb n (2 ^ 64) ≡ b → place (place n + k) ≡ place (n + k)
    go true e = rw (near n (ltb-true n (2 ^ 64) e))
    go false e =
        let h : 2 ^ 64 ≤ n = ltb-false n (2 ^ 64) e in
        rw (far n h, far (n + k) (omega arith)) (at_last k)

-- texts one after another

sets_past : (t l : List ℕ) (i : ℕ) → length l ≤ i → sets l i t ≡ l
sets_past [] l i h = refl
sets_past (x ∷ t) l i h = rw (set_out l i x h) (sets_past t l (suc i) (omega arith))

pub sets_append : (t u l : List ℕ) (i : ℕ) → sets (sets l i t) (i + length t) u ≡ sets l i (t ++ u)
sets_append [] u l i = let e : i + 0 ≡ i = omega arith in rw e
sets_append (x ∷ t) u l i =
    let e : i + suc (length t) ≡ suc i + length t = omega arith in
    rw e (sets_append t u (set l i x) (suc i))

-- from the place as a usize says it, as from the place itself: past the last place there is no room
sets_place : (l u : List ℕ) (n : ℕ) → length l < 2 ^ 64 → sets l (place n) u ≡ sets l n u
sets_place l u n h = go (ltb n (2 ^ 64)) refl
  where
    go : (b : Bool) → ltb n (2 ^ 64) ≡ b → sets l (place n) u ≡ sets l n u
    go true e = rw (near n (ltb-true n (2 ^ 64) e))
    go false e =
        let g : 2 ^ 64 ≤ n = ltb-false n (2 ^ 64) e in
        rw (far n g) (sets_past u l (2 ^ 64 - 1) (omega arith) ∙ sym (sets_past u l n (omega arith)))

pub nothing : {l : List ℕ} {at : ℕ} → length l < 2 ^ 64 → at < 2 ^ 64 → Wrote l at [] l at
nothing {l} {at} h g = record { held = refl; end = sym (ap place (add-zero at) ∙ near at g); room = h }

pub then : {t u l m l' : List ℕ} {at p r : ℕ} → Wrote l at t m p → Wrote m p u l' r → Wrote l at (t ++ u) l' r
then {t} {u} {l} {m} {l'} {at} {p} {r} a b =
    let long : length (sets l at t) < 2 ^ 64 = rw (length-sets l at t) a.room in
    record {
      held =
          b.held
          ∙ ap (λ (x : List ℕ). sets x p u) a.held
          ∙ ap (λ (x : ℕ). sets (sets l at t) x u) a.end
          ∙ sets_place (sets l at t) u (at + length t) long
          ∙ sets_append t u l at;
      end =
          b.end
          ∙ ap (λ (x : ℕ). place (x + length u)) a.end
          ∙ further (at + length t) (length u)
          ∙ ap place (add_assoc at (length t) (length u) ∙ ap (λ (x : ℕ). at + x) (sym (length-append t u)));
      room = a.room;
    }

-- where the text fits, it lies over the room, and the place after it is known
pub fitted : {t l l' : List ℕ} {at r : ℕ} → Wrote l at t l' r → at + length t ≤ length l → (r ≡ at + length t) × (l' ≡ over l at t)
fitted {t} {l} {l'} {at} {r} w h =
    let g = w.room in
    (w.end ∙ near (at + length t) (omega arith), w.held ∙ sets_over t l at h)

-- numerals

pub one_digit : (base n : ℕ) → n < base → numeral base n ≡ glyph_of n ∷ []
unfolding numeral
one_digit base n h = rw (lt-ltb n base h)

pub less : (k base n : ℕ) → 1 < base → n < 2 ^ suc k → n / base < 2 ^ k
less k base n b h =
    (div-lt_iff_lt-mul {k = base} (omega arith)).1 (lt_of_lt_of_le (rw (pow-suc 2 k) at h) (mul-le-mul_left (2 ^ k) b))

-- more places than a number needs change nothing
enough : (k base n : ℕ) → 1 < base → n < 2 ^ suc k → numeral_in (suc k) base n ≡ numeral_in k base n
enough zero base n b h = rw (lt-ltb n base (omega (arith, h)))
enough (suc k) base n b h = rw (enough k base (n / base) b (less (suc k) base n b h))

pub more_digits : (base n : ℕ) → 1 < base → n < 2 ^ 32 → base ≤ n → numeral base n ≡ numeral base (n / base) ++ (glyph_of (n % base) ∷ [])
unfolding numeral
more_digits base n b h g = rw (le-ltb n base g, enough 30 base (n / base) b (less 31 base n b h))

-- a number below a power of the base has no more digits than the exponent says
digits_by : (t : Bool) (k base n : ℕ) → ltb n base ≡ t → 1 < base → n < 2 ^ 32 → length (numeral base (n / base)) ≤ k → length (numeral base n) ≤ suc k
digits_by true k base n e b h g = rw (one_digit base n (ltb-true n base e)) (omega arith)
digits_by false k base n e b h g =
    rw (more_digits base n b h (ltb-false n base e), length-append (numeral base (n / base)) (glyph_of (n % base) ∷ [])) (omega arith)

power_one : (base : ℕ) → base ^ 1 ≡ base
power_one base = pow-suc base 0 ∙ ap (λ (x : ℕ). x * base) (pow-zero base) ∙ one-mul base

pub few_digits : (k base n : ℕ) → 1 < base → n < 2 ^ 32 → n < base ^ suc k → length (numeral base n) ≤ suc k
few_digits zero base n b h g = rw (one_digit base n (rw (power_one base) at g)) (omega arith)
few_digits (suc k) base n b h g =
    let pos : 0 < base = omega arith in
    let less : n / base < base ^ suc k = (div-lt_iff_lt-mul pos).1 (rw (pow-suc base (suc k)) at g) in
    digits_by (ltb n base) (suc k) base n refl b h
    (few_digits k base (n / base) b (lt_of_le_of_lt (div-le_self n base) h) less)
