-- What inner functions of the code promise one another, in terms of the rules; none of it has to be believed. Assumes nothing.
use Rattle.std.specs.Prelude.{List, ℕ, zero, suc, Option, None}
use Rattle.std.specs.List.{slice_get}

-- what a row has for a code that counts from 1
abbrev pub code_in : {X : Type 0} → List X → ℕ → Option X
code_in row zero = None
code_in row (suc i) = slice_get row i
