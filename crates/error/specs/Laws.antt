-- What verdicts in their order tell. Assumes nothing.
use Rattle.std.specs.Prelude.{◌≡◌, refl, Bool, true, false, ℕ, Ok, Err}
use Rattle.std.proofs.Common.{arith}
use Rattle.error.specs.Rules.{Verdict, fine, first_of, refused_if}
use Rattle.error.specs.declared.Refusal.{Refusal}

-- where none of two tests refuses, each is fine
pub both_fine : (u v : Verdict) → first_of u v ≡ fine → (u ≡ fine) × (v ≡ fine)
both_fine (Ok u) v h = (refl, h)
both_fine (Err r) v h = let z : ◌≡◌ {A = ℕ} 0 1 = cc in absurd (omega arith)

-- a test that does not refuse was not met
pub not_refused : (t : Bool) (r : Refusal) → refused_if t r ≡ fine → t ≡ false
not_refused true r e = let z : ◌≡◌ {A = ℕ} 0 1 = cc in absurd (omega arith)
not_refused false r e = refl
