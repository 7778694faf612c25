use Rattle.marked_examples.specs.Laws.{marked}
use Rattle.marked_examples.proofs.marked_examples.Goals as goal

pub returns : goal.returns
returns c = marked
