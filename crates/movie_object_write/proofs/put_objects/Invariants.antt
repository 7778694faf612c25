-- After k objects: the place past them, the commands that are left, and the buffer. Assumes nothing.
use Rattle.std.proofs.Common.{◌≡◌, ◌+◌, ◌*◌, length, drop}
use Rattle.laws.specs.Firsts.{sum, blocks}
use Rattle.laws.specs.Over.{over}
use Rattle.movie_object_write.specs.Rules.{object}
use Rattle.movie_object_write.proofs.put_objects.Given as goal

abbrev pub invariant-loop-bits : goal.invariant-loop-bits
invariant-loop-bits l =
    record {
      can : (goal.iterator-loop-bits).can_next l.bits-iterator;
      finite : (goal.iterator-loop-bits).is_finite l.bits-iterator;
      here : l.at ≡ 78 + 4 * length l.yielded + 12 * sum l.counts (length l.yielded);
      left : l.rest ≡ drop (12 * sum l.counts (length l.yielded)) l.commands;
      wrote : l.out ≡ over l.initial.out 78 (blocks (object l.flags l.counts l.commands) (length l.yielded));
    }
