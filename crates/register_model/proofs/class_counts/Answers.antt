use Rattle.register_model.specs.Laws.{counts}
use Rattle.register_model.proofs.class_counts.Goals as goal

pub returns : goal.returns
returns c = counts
