use Rattle.std.proofs.Common.{◌∙◌, arith}
use Rattle.nav_names.proofs.Laws.{class_told, named_below}
use Rattle.nav_names.proofs.put_name.Goals as goal

pub put_playback-requires : goal.put_playback-requires
put_playback-requires c =
    let named = class_told _ _ _ c.psr_class.ensures c.is_reserved.ensures ∙ c.if-is_reserved.false in
    (omega arith, named_below _ named, named)
