-- The length of the room. Assumes nothing.
use Rattle.std.proofs.Common.{ℕ, sym}
use Rattle.std.proofs.lemmas.List.{length-replicate}
use Rattle.index.proofs.main.Goals as goal

pub slice_bounds-with_room-end : goal.slice_bounds-with_room-end
slice_bounds-with_room-end c = sym (length-replicate {A = ℕ} 1048577 0)
