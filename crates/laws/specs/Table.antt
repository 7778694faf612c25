-- A table that lists a rule: equal to the rule at each place, once the whole table is computed from it. Assumes nothing.
use Rattle.std.specs.Prelude.{◌≡◌, List, [], ◌∷◌, ℕ, zero, suc, ◌+◌, ◌<◌, get_or}
use Rattle.std.proofs.Common.{ap, ◌∙◌, sym, add-zero, zero-add, add-suc, suc-add, arith}

-- the values of a rule at `n` places from `i` on
abbrev pub listed {ℓ} : {A : Type ℓ} → (ℕ → A) → ℕ → ℕ → List A
listed f i zero = []
listed f i (suc n) = f i ∷ listed f (suc i) n

from : {A : Type 0} (f : ℕ → A) (d : A) (n i k : ℕ) → k < n → get_or (listed f i n) k d ≡ f (i + k)
from f d zero i k h = absurd (omega arith)
from f d (suc n) i zero h = ap f (sym (add-zero i))
from f d (suc n) i (suc k) h = from f d n (suc i) k (omega arith) ∙ ap f (suc-add i k ∙ sym (add-suc i k))

-- a table that lists a rule holds it at each place
pub at : {A : Type 0} (f : ℕ → A) (d : A) (n : ℕ) {table : List A} → table ≡ listed f 0 n → (k : ℕ) → k < n → get_or table k d ≡ f k
at f d n e k h = ap (λ t. get_or t k d) e ∙ from f d n 0 k h ∙ ap f (zero-add k)
