-- A text whose bound does not fit is measured, and the tests are on what the room has left (`left_test`). Assumes nothing.
use Rattle.movie_object_list.specs.Laws.{left_test}
use Rattle.movie_object_list.proofs.fits.Goals as goal

pub returns-else-longest-room : goal.returns-else-longest-room
returns-else-longest-room g c = rw c.measured.ensures (left_test _ _ _ c.if-at-room.true)
