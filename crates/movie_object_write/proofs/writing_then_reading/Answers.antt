use Rattle.movie_object_write.specs.RoundTrip.{writing_then_reading}
use Rattle.movie_object_write.proofs.writing_then_reading.Goals as goal

pub returns : goal.returns
returns c = writing_then_reading
