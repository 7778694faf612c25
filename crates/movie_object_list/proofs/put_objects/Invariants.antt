-- After n objects: the next head's place, and the text before it. Assumes nothing.
use Rattle.std.proofs.Common.{◌≡◌}
use Rattle.laws.specs.Firsts.{blocks}
use Rattle.movie_object.specs.Rules.{place}
use Rattle.movie_object_list.specs.Rules.{block_text}
use Rattle.text.specs.Rules.{Wrote}
use Rattle.movie_object_list.proofs.put_objects.Given as goal

abbrev pub invariant-loop-n : goal.invariant-loop-n
invariant-loop-n l =
    record {
      here : l.head ≡ place l.file l.n;
      wrote : Wrote l.initial.out l.at (blocks (block_text l.file) l.n) l.out l.p;
    }
