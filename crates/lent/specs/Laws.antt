-- What lengths that fit tell. Assumes nothing.
use Rattle.std.specs.Prelude.{◌≡◌, true, ◌&&◌, List, ℕ, eqb, length}
use Rattle.std.proofs.Common.{eqb-true}
use Rattle.laws.specs.Cases.{both}
use Rattle.lent.specs.Rules.{lengths_fit}

pub fits_told : (b s o : List ℕ) → lengths_fit b s o ≡ true → (length s ≡ 6) × (length o ≡ 6)
unfolding lengths_fit
fits_told b s o h =
    let two = (both (eqb (length b) 3) (eqb (length s) 6 && eqb (length o) 6) h).1 in
    let each = both (eqb (length s) 6) (eqb (length o) 6) two in
    (eqb-true (length s) 6 each.0, eqb-true (length o) 6 each.1)
