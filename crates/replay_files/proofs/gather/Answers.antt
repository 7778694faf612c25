-- The table has room for all places. Assumes nothing.
use Rattle.std.proofs.Common.{◌≡◌, sym, ◌∙◌, arith, Ok}
use Rattle.movie_object.specs.Laws.{good, place_least}
use Rattle.movie_object.specs.Rules.{count_of, verdict_of}
use Rattle.replay_files.proofs.gather.Goals as goal

pub gather_at-requires : goal.gather_at-requires
gather_at-requires c =
    let w = c.walk_places.ensures in
    let v : verdict_of c.args.file.now ≡ Ok tt = sym w.judged ∙ c.in-Ok.is in
    (v, w.placed c.in-Ok.is (omega (arith, (good c.args.file.now v).last, place_least c.args.file.now (count_of c.args.file.now), c.requires)))
