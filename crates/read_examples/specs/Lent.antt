-- Examples of refusals by number, and of the lengths of lent arrays (document 01, "Numbers and bounds"). Assumes nothing.
use Rattle.std.specs.Prelude.{◌≡◌, refl, Bool, true, false, [], ◌∷◌, map, ℕ, replicate, Err, Ok}
use Rattle.error.specs.Rules.{number_of}
use Rattle.error.specs.declared.Refusal.TheVariants.{TooLong, BadEntry, BadBudget, NotAnEntry}
use Rattle.lent.specs.Rules.{lengths_fit, verdict_number}

-- The first, the fourth and the last refusal of the table.
refusals : map number_of (TooLong ∷ BadEntry ∷ NotAnEntry ∷ []) ≡ 1 ∷ 4 ∷ 10 ∷ []
refusals = refl

-- whether so many numbers of budgets, of a session and of an outcome fit
abbrev fit : ℕ → ℕ → ℕ → Bool
fit b s o = lengths_fit (replicate b 0) (replicate s 0) (replicate o 0)

-- Three budgets; a session holds entry, object, pc, both depths and pending.
lengths : fit 3 6 6 ∷ fit 2 6 6 ∷ fit 3 5 6 ∷ [] ≡ true ∷ false ∷ false ∷ []
unfolding lengths_fit
lengths = refl

-- 0, or a refusal: 7 bad budget.
fine : verdict_number (Ok tt) ≡ 0
fine = refl

bad_budget : verdict_number (Err BadBudget) ≡ 7
bad_budget = refl
