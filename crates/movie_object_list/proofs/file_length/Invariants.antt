use Rattle.std.proofs.Common.{◌≡◌, length}
use Rattle.laws.specs.Firsts.{blocks}
use Rattle.movie_object.specs.Rules.{place}
use Rattle.movie_object_list.specs.Rules.{block_text}
use Rattle.movie_object_list.proofs.file_length.Given as goal

abbrev pub invariant-loop-n : goal.invariant-loop-n
invariant-loop-n l = record { here : l.head ≡ place l.file l.n; long : l.sum ≡ length (blocks (block_text l.file) l.n) }
