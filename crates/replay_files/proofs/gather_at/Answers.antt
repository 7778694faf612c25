-- The table holds where each object stands, and each lies within the file. Assumes nothing.
use Rattle.std.proofs.Common.{◌<◌, arith}
use Rattle.movie_object.specs.Laws.{object_from}
use Rattle.movie_object.specs.Rules.{count_of}
use Rattle.replay_files.proofs.gather_at.Goals as goal

pub head_at-object-requires : goal.head_at-object-requires
head_at-object-requires c =
    let there : c.loop-n.n < count_of c.args.file.now = omega (arith, c.loop-n-test.true, c.count_of-n-end.ensures) in
    omega (arith, object_from _ _ _ c.requires.0 there (c.requires.1.at c.loop-n.n there))

pub part_at-requires : goal.part_at-requires
part_at-requires c =
    let there : c.loop-n.n < count_of c.args.file.now = omega (arith, c.loop-n-test.true, c.count_of-n-end.ensures) in
    object_from _ _ _ c.requires.0 there (c.requires.1.at c.loop-n.n there)
