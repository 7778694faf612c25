-- Each promise is an equation with a definition, which two answers can't meet unless they are equal. Assumes nothing.
use Rattle.registers.specs.Laws.{unique}
use Rattle.mobj_runner.specs.Rules.{answer_of as runnerAnswer}
use Rattle.nav_driver.specs.Rules.{answer_of as driverAnswer}
use Rattle.disc_check.specs.Rules.{check_of}
use Rattle.one_answer.specs.Rules.{OneAnswer}

pub one_answer : OneAnswer
one_answer =
    record {
      runner = λ file b titles start w. unique (runnerAnswer file b titles start w);
      driver = λ x file b start w. unique (driverAnswer x file b start w);
      check = λ x file. unique (check_of x file);
    }
