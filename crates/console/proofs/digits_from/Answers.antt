-- `digits_from` goes digit after digit. Assumes nothing.
use Rattle.std.proofs.Common.{◌≡◌, ◌+◌, ◌<◌, ◌≤◌, true, false, get_or, drop, sym, ap, ◌∙◌, arith}
use Rattle.std.proofs.lemmas.Bool.Decides.{nat_tests}
use Rattle.std.proofs.lemmas.Grind.{common_steps}
use Rattle.console.specs.Rules.{is_digit, more, number_of, goes_on_at}
use Rattle.console.specs.Laws.{word_ends, digits_end, too_large, one_more}
use Rattle.console.proofs.digits_from.Goals as goal

pub returns-then-not-is_ascii_digit : goal.returns-then-not-is_ascii_digit
returns-then-not-is_ascii_digit c =
    let none : is_digit (get_or c.args.word.now c.loop-i.i 0) ≡ false = grind (arith, nat_tests, common_steps) in
    c.number.ensures ∙ sym (c.loop-i.invariant.says ∙ digits_end _ _ _ c.loop-i-test.true none)

pub returns-in-Err : goal.returns-in-Err
returns-in-Err c =
    let one : is_digit (get_or c.args.word.now c.loop-i.i 0) ≡ true = grind (arith, nat_tests, common_steps) in
    let large : 4294967295 < more c.loop-i.value (get_or c.args.word.now c.loop-i.i 0) = grind (arith, common_steps) in
    c.no_number.ensures ∙ sym (c.loop-i.invariant.says ∙ too_large _ _ _ c.loop-i-test.true one large)

pub loop-i-preserved : goal.loop-i-preserved
loop-i-preserved c =
    let one : is_digit (get_or c.args.word.now c.loop-i.i 0) ≡ true = grind (arith, nat_tests, common_steps) in
    let e : c.in-Ok.next ≡ more c.loop-i.value (get_or c.args.word.now c.loop-i.i 0) = omega (arith, c.in-Ok.ensures) in
    let small : c.in-Ok.next ≤ 4294967295 = omega (arith, c.in-Ok.ensures) in
    record {
      says =
          c.loop-i.invariant.says
          ∙ one_more _ _ _ c.loop-i-test.true one (omega (arith, e, small))
          ∙ ap (λ v. goes_on_at v (c.loop-i.i + 1) (drop (c.loop-i.i + 1) c.args.word.now)) (sym e);
      fits = small;
      none = λ h. absurd (omega arith);
    }

pub returns : goal.returns
returns c =
    let end : c.loop-i.i ≡ c.max.result = grind (arith, c.loop-i.invariant.none, c.loop-i.auto.i-end) in
    c.number-2.ensures
    ∙ sym (c.loop-i.invariant.says ∙ word_ends _ _ _ c.loop-i-test.false ∙ ap (number_of c.loop-i.value) end)
