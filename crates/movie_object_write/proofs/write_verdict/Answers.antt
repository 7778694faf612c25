-- The size is known once the fields fit (`size_is`). Assumes nothing.
use Rattle.std.proofs.Common.{◌∙◌, sym, arith}
use borrow.Author.Tests.{not-false}
use Rattle.error.specs.Laws.{not_refused}
use Rattle.error.specs.declared.Refusal.TheVariants.{NotEncodable}
use Rattle.movie_object_write.specs.Laws.{Encodable, encodable_tells, size_is, commands_few}
use Rattle.movie_object_write.specs.Rules.{write_verdict}
use Rattle.movie_object_write.proofs.write_verdict.Goals as goal
use Rattle.movie_object_write.proofs.write_verdict.Goals.{In_ok-refused_if-2}

fields : (c : In_ok-refused_if-2) → let a = c.args in Encodable a.flags.now a.counts.now a.commands.now
fields c = encodable_tells _ _ _ (sym c.is_encodable.ensures ∙ not-false _ (not_refused _ NotEncodable (sym c.refused_if-2.ensures ∙ c.in_ok-refused_if-2.was)))

pub overflow_add-counts-2 : goal.overflow_add-counts-2
overflow_add-counts-2 c = let f = fields c in omega (arith, f.few, commands_few _ _ _ f)

pub returns : goal.returns
unfolding write_verdict
returns c =
    rw (
      sym c.refused_if.ensures ∙ c.in_ok-refused_if.was,
      ← c.is_encodable.ensures,
      sym c.refused_if-2.ensures ∙ c.in_ok-refused_if-2.was,
      ← size_is _ _ _ (fields (goal.at.returns c).In_ok-refused_if-2),
    ) c.room_verdict.ensures
