-- The length of the room. Assumes nothing.
use Rattle.std.proofs.Common.{ℕ, sym}
use Rattle.std.proofs.lemmas.List.{length-replicate}
use Rattle.drive.proofs.main.Goals as goal

pub slice_bounds-with_index-end : goal.slice_bounds-with_index-end
slice_bounds-with_index-end c = sym (length-replicate {A = ℕ} 1048577 0)
