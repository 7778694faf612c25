-- Copying number after number. Assumes nothing.
use Rattle.std.proofs.Common.{◌≡◌, List, [], ◌∷◌, ◌++◌, ℕ, ◌+◌, ◌≤◌, ◌<◌, length, get_or, set, take, sym, ap, ◌∙◌, add-one}
use Rattle.std.proofs.Math.Seq.{take-suc, take-suc-set, take_all}

-- a turn: one element more is that of the other list
pub copied : (out from : List ℕ) (i : ℕ) → take i out ≡ take i from → i < length out → i < length from → take (i + 1) (set out i (get_or from i 0)) ≡ take (i + 1) from
copied out from i was h k =
    rw (add-one i)
    (take-suc-set out i (get_or from i 0) h ∙ ap (λ (l : List ℕ). l ++ (get_or from i 0 ∷ [])) was ∙ sym (take-suc from i 0 k))

pub copied_all : (out from : List ℕ) (i : ℕ) → take i out ≡ take i from → length out ≤ i → length from ≤ i → out ≡ from
copied_all out from i was h k = sym (take_all i out h) ∙ was ∙ take_all i from k
