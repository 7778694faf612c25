use Rattle.std.proofs.Common.{arith}
use Rattle.std.proofs.lemmas.Bool.Decides.{nat_tests}
use Rattle.std.proofs.lemmas.Grind.{common_steps}
use Rattle.register_model.specs.Laws.{writes_at, beyond, table_length}
use Rattle.register_model.proofs.may_write.Goals as goal

pub returns : goal.returns
returns c = grind (arith, nat_tests, common_steps, writes_at c.args.index c.classes.ensures, beyond c.args.index, table_length)
