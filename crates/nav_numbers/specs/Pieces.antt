-- What inner functions of the code promise one another, in terms of the rules; none of it has to be believed. Assumes nothing.
use Rattle.std.specs.Prelude.{◌≡◌, cond, List, [], map, ℕ, ◌+◌, ◌≤◌, ltb, length, get_or}
use Rattle.laws.specs.Table.{listed}
use Rattle.nav_command.specs.declared.CommandGroup.{CommandGroup}
use Rattle.nav_command.specs.declared.CommandGroup.TheVariants as G
use Rattle.nav_command.specs.declared.Operation.{Operation}
use Rattle.nav_command.specs.declared.Operation.TheVariants.{Compare}
use Rattle.nav_command.specs.Rules.{compares, branch_rows, set_rows, number_of}
use Rattle.nav_numbers.specs.declared.Place.{Place}
use Rattle.nav_numbers.specs.declared.Row.{Row}
use Rattle.nav_numbers.specs.Rules.{unknown_of}

-- An operation's numbers together, and the sheet's rows by group and sub-group: `count` operations, numbered from `first` on.

abbrev pub place : ℕ → ℕ → ℕ → Place
place n sub code = record { number = n; sub = sub; code = code }

abbrev pub place_of : Operation → Place
place_of op = place (number_of op) (unknown_of op).kind (unknown_of op).value

abbrev pub row_in : CommandGroup → ℕ → List Operation
row_in G.Branch sub = get_or branch_rows sub []
row_in G.Compare sub = map Compare compares
row_in G.Set sub = get_or set_rows sub []
row_in (G.Reserved bits) sub = []

abbrev pub row_of : ℕ → ℕ → Row
row_of count first = record { count = count; first = first }

pub record Numbered (ops : List Operation) (row : Row) : Type 0 where
  pub long : length ops ≡ row.count
  pub places : map place_of ops ≡ listed (λ k. place (row.first + k) 0 0) 0 row.count
  pub fits : row.first + row.count ≤ 48

unfoldable pub row_place : ℕ → ℕ → ℕ → ℕ → ℕ → Place
row_place at count first sub code = cond (ltb at count) (place (first + at) 0 0) (place 0 sub code)
