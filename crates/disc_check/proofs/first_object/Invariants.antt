use Rattle.std.proofs.Common.{◌≡◌, ◌-◌}
use Rattle.movie_object.specs.Rules.{count_of}
use Rattle.disc_check.specs.Rules.{first_object}
use Rattle.disc_check.proofs.first_object.Given as goal

-- what is left of the search is the whole of it
abbrev pub invariant-loop-object : goal.invariant-loop-object
invariant-loop-object l =
    first_object l.disc.index l.disc.objects (count_of l.disc.objects - l.object) l.object
    ≡ first_object l.disc.index l.disc.objects (count_of l.disc.objects) 0
