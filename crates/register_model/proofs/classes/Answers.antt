-- The table lists the rule: one computation over its 128 places. Assumes nothing.
use mathlib.Core.Path.{refl}
use Rattle.register_model.specs.Rules.{class_of, class_table}
use Rattle.register_model.proofs.classes.Goals as goal

pub returns : goal.returns
unfolding class_table class_of
returns c = refl
