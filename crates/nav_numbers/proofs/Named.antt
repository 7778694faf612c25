-- The laws of rows: what a table of the code has at a place is what the row of the rules names. Assumes nothing.
use Rattle.std.specs.Prelude.{◌≡◌, refl, List, [], ◌∷◌, map, ℕ, zero, suc, ◌-◌, ◌≤◌, ◌<◌, length, get_or}
use Rattle.std.proofs.Common.{arith}

module _ {A B : Type 0} (make : A → B) where
  -- a place inside the row, and one past it
  pub named : (row : List A) (i : ℕ) (a : A) (d : B) → i < length row → make (get_or row i a) ≡ get_or (map make row) i d
  named [] i a d h = absurd (omega arith)
  named (x ∷ row) zero a d h = refl
  named (x ∷ row) (suc i) a d h = named row i a d (omega arith)

  pub unnamed : (row : List A) (i : ℕ) (d : B) → length row ≤ i → d ≡ get_or (map make row) i d
  unnamed [] i d h = refl
  unnamed (x ∷ row) zero d h = absurd (omega arith)
  unnamed (x ∷ row) (suc i) d h = unnamed row i d (omega arith)

  -- the same for a row that counts from one
  pub named_1 : (row : List A) (i : ℕ) (a : A) (d : B) → 0 < i → i ≤ length row → make (get_or row (i - 1) a) ≡ get_or (d ∷ map make row) i d
  named_1 row zero a d p h = absurd (omega arith)
  named_1 row (suc i) a d p h = let back : suc i - 1 ≡ i = omega arith in rw back (named row i a d (omega arith))
