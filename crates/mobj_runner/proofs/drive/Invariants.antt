use Rattle.std.proofs.Common.{◌≡◌, length}
use Rattle.registers.specs.Lent.{held, Same}
use Rattle.mobj_runner.specs.Rules.{world, drive_of}
use Rattle.mobj_runner.proofs.drive.Given as goal

-- what is left of the drive is the whole of it
abbrev pub invariant-loop-next : goal.invariant-loop-next
invariant-loop-next l =
    Same l.fn.banks l.banks × (length l.frames ≡ length l.fn.frames)
    × (drive_of l.objects l.steps l.left (world l.at (held l.banks) l.frames) ≡ drive_of l.objects l.steps l.fn.transitions (world l.fn.s (held l.fn.banks) l.fn.frames))

abbrev pub decreases-loop-next : goal.decreases-loop-next
decreases-loop-next l = l.left
