use Rattle.laws.specs.Firsts.{blocks}
use Rattle.movie_object_list.specs.Rules.{line_text}
use Rattle.text.specs.Rules.{Wrote}
use Rattle.movie_object_list.proofs.put_lines.Given as goal

abbrev pub invariant-loop-i : goal.invariant-loop-i
invariant-loop-i l = Wrote l.initial.out l.at (blocks (line_text l.commands) l.i) l.out l.p
