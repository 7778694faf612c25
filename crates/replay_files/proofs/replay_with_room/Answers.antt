-- The length of the room. Assumes nothing.
use Rattle.std.proofs.Common.{ℕ, sym}
use Rattle.std.proofs.lemmas.List.{length-replicate}
use Rattle.replay_files.proofs.replay_with_room.Goals as goal

pub slice_bounds-replay_all-end : goal.slice_bounds-replay_all-end
slice_bounds-replay_all-end c = sym (length-replicate {A = ℕ} 800000 0)
