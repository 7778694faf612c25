-- Every marked example is what the rules compute to. Assumes nothing.
use Rattle.std.specs.Prelude.{refl}
use Rattle.register_model.specs.Rules.{class_of, writable}
use Rattle.common.specs.Rules.{be4}
use Rattle.nav_command.specs.Rules.{branch_of, operand_of, command_of}
use Rattle.nav_command.specs.Rules as nav
use Rattle.registers.specs.Rules.{written_status, written, applied, set_of}
use Rattle.vm.specs.Rules.{compare_of, exec_set, acted, exec_of, step_of}
use Rattle.marked_examples.specs.Cases.{Marked}

pub marked : Marked
unfolding class_of writable branch_of operand_of be4 command_of nav.compare_of nav.set_of written_status written applied set_of compare_of exec_set acted exec_of step_of
marked = (
  (refl, refl),
  (
    (refl, refl),
    (
      (refl, refl),
      (
        (refl, refl),
        (
          (refl, refl),
          (
            (refl, refl),
            (
              (refl, refl),
              ((refl, refl), ((refl, refl), ((refl, refl), ((refl, refl), ((refl, refl), ((refl, refl), ((refl, refl), tt))))))),
            ),
          ),
        ),
      ),
    ),
  ),
)
