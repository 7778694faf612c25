use Rattle.std.proofs.Common.{◌≡◌, length}
use Rattle.laws.specs.Firsts.{blocks}
use Rattle.movie_object_list.specs.Rules.{line_text}
use Rattle.movie_object_list.proofs.lines_length.Given as goal

abbrev pub invariant-loop-i : goal.invariant-loop-i
invariant-loop-i l = l.sum ≡ length (blocks (line_text l.commands) l.i)
