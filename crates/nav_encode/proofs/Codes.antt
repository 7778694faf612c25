-- The code of a decoded operation is the code that it was decoded from. Assumes nothing.
use mathlib.Core.Path.{◌≡◌, ◌∙◌, refl}
use mathlib.Core.List.{List, [], ◌∷◌, map}
use Prim.Native.Nat.{ℕ, zero, suc, ◌+◌}
use native.Mathlib.Omega.{arith}
use lib.ListN.{get_or}
use Rattle.nav_command.specs.declared.Operation.{Operation}
use Rattle.nav_command.specs.declared.Operation.TheVariants.{Compare, Unknown}
use Rattle.nav_command.specs.Rules.{branch_of, compare_of, set_of, branch_rows, set_rows, compares}
use Rattle.nav_encode.specs.Rules.{code_of}

-- the operations of a row have the codes from b on
abbrev Coded : ℕ → List Operation → Type 0
Coded b [] = Unit
Coded b (op ∷ row) = (code_of op ≡ b) × Coded (suc b) row

coded : (row : List Operation) (b n sub code : ℕ) → Coded b row → code ≡ b + n → code_of (get_or row n (Unknown sub code)) ≡ code
coded [] b n sub code k e = refl
coded (op ∷ row) b zero sub code (h, k) e = h ∙ omega arith
coded (op ∷ row) b (suc n) sub code (h, k) e = coded row (suc b) n sub code k (omega arith)

coded_one : (row : List Operation) (n sub : ℕ) → Coded 1 row → code_of (get_or (Unknown sub n ∷ row) n (Unknown sub n)) ≡ n
coded_one row zero sub k = refl
coded_one row (suc n) sub k = coded row 1 n sub (suc n) k (omega arith)

abbrev Rows : ℕ → List (List Operation) → Type 0
Rows b [] = Unit
Rows b (row ∷ rows) = Coded b row × Rows b rows

row_of : (b : ℕ) (rows : List (List Operation)) (sub : ℕ) → Rows b rows → Coded b (get_or rows sub [])
row_of b [] sub k = tt
row_of b (row ∷ rows) zero (h, k) = h
row_of b (row ∷ rows) (suc sub) (h, k) = row_of b rows sub k

pub branch_code_small : (sub option : ℕ) → code_of (branch_of sub option) ≡ option
unfolding branch_of
branch_code_small sub option = coded (get_or branch_rows sub []) 0 option sub option (row_of 0 branch_rows sub (search tt)) (omega arith)

pub compare_code : (sub code : ℕ) → code_of (compare_of sub code) ≡ code
unfolding compare_of
compare_code sub code = coded_one (map Compare compares) code sub (search tt)

pub set_code : (sub code : ℕ) → code_of (set_of sub code) ≡ code
unfolding set_of
set_code sub code = coded_one (get_or set_rows sub []) code sub (row_of 1 set_rows sub (search tt, (search tt, tt)))
