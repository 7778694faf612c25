-- The first elements of a list: their sum, whether all of them are small, and the bytes that are made of each. Assumes nothing.
use Rattle.std.specs.Prelude.{◌≡◌, Bool, true, false, ◌&&◌, List, [], ◌++◌, get_or}
use Rattle.std.proofs.Math.Path.{refl}
use Rattle.std.proofs.Common.{sym, ap, ◌∙◌, append_assoc, append-nil, add-zero, add-suc, add-sub_of_le, add-one, arith}
use Prim.Native.Nat.{ℕ, zero, suc, ◌+◌, ◌-◌, ◌≤◌, ◌<◌}
use Rattle.std.proofs.Math.Dec.{ltb}
use borrow.Author.Tests.{lt-ltb, le-ltb, ltb-true}

-- ---- the sum of the first k numbers

unfoldable pub sum : List ℕ → ℕ → ℕ
sum l zero = 0
sum l (suc k) = sum l k + get_or l k 0

pub sum_suc : (l : List ℕ) (k : ℕ) → sum l (k + 1) ≡ sum l k + get_or l k 0
unfolding sum
sum_suc l k = rw (add-one k)

sum_grows : (l : List ℕ) (k m : ℕ) → sum l k ≤ sum l (k + m)
sum_grows l k zero = rw (add-zero k) (omega arith)
sum_grows l k (suc m) = rw (add-suc k m, ← add-one (k + m)) (omega (arith, sum_grows l k m, sum_suc l (k + m)))

pub sum_mono : (l : List ℕ) (k n : ℕ) → k ≤ n → sum l k ≤ sum l n
sum_mono l k n h = rw (add-sub_of_le h) at (sum_grows l k (n - k))

-- ---- whether a test holds of the first k places

unfoldable pub all : (ℕ → Bool) → ℕ → Bool
all p zero = true
all p (suc k) = all p k && p k

and_no : (a : Bool) → a && false ≡ false
and_no true = refl
and_no false = refl

module _ (p : ℕ → Bool) where
  pub all_none : all p 0 ≡ true
  unfolding all
  all_none = refl

  pub all_more : (k : ℕ) → all p k ≡ true → p k ≡ true → all p (k + 1) ≡ true
  unfolding all
  all_more k e h = rw (add-one k) (rw (e, h))

  -- once it fails it stays so
  stays : (k m : ℕ) → p k ≡ false → all p (suc k + m) ≡ false
  unfolding all
  stays k zero h = rw (add-zero (suc k)) (rw h (and_no (all p k)))
  stays k (suc m) h = rw (add-suc (suc k) m) (rw (stays k m h))

  pub all_not : (k n : ℕ) → k < n → p k ≡ false → all p n ≡ false
  all_not k n h f = rw (add-sub_of_le h) at (stays k (n - suc k) f)

  pub all_tells : (n k : ℕ) → all p n ≡ true → k < n → p k ≡ true
  all_tells n k e h = go (p k) refl
    where
      go : (t : Bool) → p k ≡ t → p k ≡ true
      go true q = q
      go false q = let f = all_not k n h q in let z : ◌≡◌ {A = ℕ} 0 1 = cc in absurd (omega arith)

  pub all_made : (n : ℕ) → ((k : ℕ) → k < n → p k ≡ true) → all p n ≡ true
  unfolding all
  all_made zero h = refl
  all_made (suc n) h = rw (all_made n (λ k q. h k (omega arith)), h n (omega arith))

-- ---- whether the first k numbers are below a bound

unfoldable pub all_below : ℕ → List ℕ → ℕ → Bool
all_below b l n = all (λ (k : ℕ). ltb (get_or l k 0) b) n

module _ (b : ℕ) (l : List ℕ) where
  pub below_none : all_below b l 0 ≡ true
  unfolding all_below
  below_none = all_none (λ (k : ℕ). ltb (get_or l k 0) b)

  pub below_more : (k : ℕ) → all_below b l k ≡ true → get_or l k 0 < b → all_below b l (k + 1) ≡ true
  unfolding all_below
  below_more k e h = all_more (λ (i : ℕ). ltb (get_or l i 0) b) k e (lt-ltb (get_or l k 0) b h)

  pub below_not : (k n : ℕ) → k < n → b ≤ get_or l k 0 → all_below b l n ≡ false
  unfolding all_below
  below_not k n h f = all_not (λ (i : ℕ). ltb (get_or l i 0) b) k n h (le-ltb (get_or l k 0) b f)

  pub below_tells : (n k : ℕ) → all_below b l n ≡ true → k < n → get_or l k 0 < b
  unfolding all_below
  below_tells n k e h = ltb-true (get_or l k 0) b (all_tells (λ (i : ℕ). ltb (get_or l i 0) b) n k e h)

  pub below_made : (n : ℕ) → ((k : ℕ) → k < n → get_or l k 0 < b) → all_below b l n ≡ true
  unfolding all_below
  below_made n h = all_made (λ (i : ℕ). ltb (get_or l i 0) b) n (λ k q. lt-ltb (get_or l k 0) b (h k q))

-- ---- blocks of bytes, one after the other: those of the first k

unfoldable pub blocks : (ℕ → List ℕ) → ℕ → List ℕ
blocks f zero = []
blocks f (suc k) = blocks f k ++ f k

pub blocks_suc : (f : ℕ → List ℕ) (k : ℕ) → blocks f (k + 1) ≡ blocks f k ++ f k
unfolding blocks
blocks_suc f k = rw (add-one k)

-- m blocks from the k-th on
pub after : (ℕ → List ℕ) → ℕ → ℕ → List ℕ
after f k zero = []
after f k (suc m) = after f k m ++ f (k + m)

blocks_split : (f : ℕ → List ℕ) (k m : ℕ) → blocks f (k + m) ≡ blocks f k ++ after f k m
unfolding blocks after
blocks_split f k zero = rw (add-zero k) (sym (append-nil (blocks f k)))
blocks_split f k (suc m) = rw (add-suc k m) (rw (blocks_split f k m) (simp append_assoc))

-- around block k
pub blocks_around : (f : ℕ → List ℕ) (k n : ℕ) → k < n → blocks f n ≡ blocks f k ++ (f k ++ after f (k + 1) (n - (k + 1)))
blocks_around f k n h =
    let h1 : k + 1 ≤ n = omega arith in
    ap (blocks f) (sym (add-sub_of_le h1))
    ∙ blocks_split f (k + 1) (n - (k + 1))
    ∙ rw (blocks_suc f k) (simp append_assoc)
