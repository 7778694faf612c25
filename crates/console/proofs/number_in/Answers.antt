use Rattle.std.proofs.Common.{◌≡◌, true, false, get_or, arith}
use Rattle.std.proofs.lemmas.Bool.Decides.{nat_tests}
use Rattle.std.proofs.lemmas.Grind.{common_steps}
use Rattle.console.specs.Rules.{is_digit, number_in}
use Rattle.console.proofs.number_in.Goals as goal

pub returns-then-is_some_and : goal.returns-then-is_some_and
unfolding number_in
returns-then-is_some_and c =
    let one : is_digit (get_or c.args.word.now c.args.at 0) ≡ true = grind (arith, nat_tests, common_steps, c.is_some_and.ensures, c.get.ensures) in
    rw one c.digits_from.ensures

pub returns-else-is_some_and : goal.returns-else-is_some_and
unfolding number_in
returns-else-is_some_and c =
    let none : is_digit (get_or c.args.word.now c.args.at 0) ≡ false = grind (arith, nat_tests, common_steps, c.is_some_and.ensures, c.get.ensures) in
    rw none c.no_number.ensures
