-- `decodes_back`: the theorem is that of Claims. Assumes nothing.
use Rattle.nav_encode.proofs.Claims.{decodes}
use Rattle.nav_encode.proofs.decodes_back.Goals as goal

pub returns : goal.returns
returns c = decodes
