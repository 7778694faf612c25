use Rattle.std.proofs.Common.{arith}
use Rattle.std.proofs.lemmas.Bool.Decides.{nat_tests}
use Rattle.std.proofs.lemmas.Grind.{common_steps}
use Rattle.register_model.specs.Laws.{class_there, class_not_there, table_length}
use Rattle.register_model.proofs.psr_class.Goals as goal

pub returns-in_err-number : goal.returns-in_err-number
returns-in_err-number c = grind (arith, nat_tests, common_steps, c.in_err-number.ensures, class_not_there c.args.index, table_length)

pub returns : goal.returns
returns c = class_there c.args.index (grind (arith, nat_tests, common_steps, c.in_ok-number.ensures, table_length)) c.classes.ensures (grind (arith, nat_tests, common_steps, c.in_ok-number.ensures))
