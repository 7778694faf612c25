use Rattle.index_bdmv_write.specs.RoundTrip.{reading_then_writing}
use Rattle.index_bdmv_write.proofs.reading_then_writing.Goals as goal

pub returns : goal.returns
returns c = reading_then_writing
