use Rattle.std.proofs.Common.{◌≡◌, length}
use Rattle.registers.specs.Lent.{held, Same}
use Rattle.nav_driver.specs.Rules.{rooms, titles_of}
use Rattle.nav_driver.proofs.drive.Given as goal

-- what is left of the drive is the whole of it
abbrev pub invariant-loop-next : goal.invariant-loop-next
invariant-loop-next l =
    Same l.fn.banks l.banks × (length l.frames ≡ length l.fn.frames) × (length l.titles ≡ length l.fn.titles)
    × (titles_of l.disc.index l.disc.objects l.b l.left (rooms l.at (held l.banks) l.frames l.titles) ≡ titles_of l.disc.index l.disc.objects l.b l.fn.b.titles (rooms l.fn.s (held l.fn.banks) l.fn.frames l.fn.titles))

abbrev pub decreases-loop-next : goal.decreases-loop-next
decreases-loop-next l = l.left
