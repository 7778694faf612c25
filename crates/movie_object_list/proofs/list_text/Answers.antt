-- A text that fits is written, and else nothing is altered. Assumes nothing.
use Rattle.std.proofs.Common.{◌∙◌, sym, leb-true, leb-false}
use Rattle.nav_list.proofs.Lengths.{room, no_room}
use Rattle.movie_object_list.proofs.list_text.Goals as goal

pub returns-then-fits : goal.returns-then-fits
returns-then-fits g c = room _ _ _ c.args.at _ (leb-true _ _ (sym c.fits.ensures ∙ c.if-fits.true)) c.put.ensures

pub returns-else-fits : goal.returns-else-fits
returns-else-fits g c = no_room _ _ c.args.at (leb-false _ _ (sym c.fits.ensures ∙ c.if-fits.false))
