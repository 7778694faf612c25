-- The answers that the promises of the drives and of the disc check allow. Assumes nothing.
use Rattle.std.specs.Prelude.{List, ℕ}
use Rattle.registers.specs.Laws.{Unique}
use Rattle.session.specs.declared.Session.{Session}
use Rattle.session.specs.declared.Budgets.{Budgets}
use Rattle.mobj_runner.specs.declared.Start.{Start as ObjectStart}
use Rattle.mobj_runner.specs.Rules.{World, answer_of as runnerAnswer}
use Rattle.nav_driver.specs.declared.Start.{Start as TitleStart}
use Rattle.nav_driver.specs.Rules.{Rooms, answer_of as driverAnswer}
use Rattle.disc_check.specs.Rules.{check_of}

pub record OneAnswer : Type 0 where
  pub runner : (file : List ℕ) (b : Budgets) (titles : List ℕ) (start : ObjectStart) (w : World Session) → Unique (runnerAnswer file b titles start w)
  pub driver : (x file : List ℕ) (b : Budgets) (start : TitleStart) (w : Rooms Session) → Unique (driverAnswer x file b start w)
  pub check : (x file : List ℕ) → Unique (check_of x file)
