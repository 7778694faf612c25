use Rattle.index_bdmv_write.specs.RoundTrip.{writing_then_reading}
use Rattle.index_bdmv_write.proofs.writing_then_reading.Goals as goal

pub returns : goal.returns
returns c = writing_then_reading
