use Rattle.std.proofs.Common.{◌≡◌, ◌-◌, ◌/◌, length}
use Rattle.movie_object.specs.Rules.{count_of}
use Rattle.disc_check.specs.Rules.{first_command}
use Rattle.disc_check.proofs.first_command.Given as goal

-- what is left of the search is the whole of it
abbrev pub invariant-loop-k : goal.invariant-loop-k
invariant-loop-k l =
    first_command l.disc.index (count_of l.disc.objects) l.commands (length l.commands / 12 - l.k) l.k
    ≡ first_command l.disc.index (count_of l.disc.objects) l.commands (length l.commands / 12) 0
