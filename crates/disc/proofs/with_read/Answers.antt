-- The length of the room. Assumes nothing.
use Rattle.std.proofs.Common.{ℕ, sym}
use Rattle.std.proofs.lemmas.List.{length-replicate}
use Rattle.disc.proofs.with_read.Goals as goal

pub slice_bounds-with_objects-end : goal.slice_bounds-with_objects-end
slice_bounds-with_objects-end g c = sym (length-replicate {A = ℕ} 1048577 0)
