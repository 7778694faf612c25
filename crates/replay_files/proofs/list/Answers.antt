-- The length of the room. Assumes nothing.
use Rattle.std.proofs.Common.{ℕ, sym}
use Rattle.std.proofs.lemmas.List.{length-replicate}
use Rattle.replay_files.proofs.list.Goals as goal

pub slice_bounds-list_into-end : goal.slice_bounds-list_into-end
slice_bounds-list_into-end c = sym (length-replicate {A = ℕ} 1638400 0)
