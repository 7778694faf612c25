-- `encode` ends in one of three ways: encoded, no room, not encodable. Assumes nothing.
use Rattle.std.proofs.Common.{◌∙◌, arith}
use Rattle.nav_encode.proofs.Derived.{derived}
use Rattle.nav_encode.proofs.Laws.{laid, encoded, no_room, not_encodable}
use Rattle.nav_encode.proofs.encode.Goals as goal

pub returns-then-not-decodes : goal.returns-then-not-decodes
returns-then-not-decodes c = not_encodable _ _ _ c.args.out.now _ c.bytes_of-bytes.ensures c.decode.ensures (c.eq-decodes.ensures ∙ derived _ _) c.if-not-decodes.true

pub returns-then-out-lt12 : goal.returns-then-out-lt12
returns-then-out-lt12 c = no_room _ _ _ c.args.out.now _ c.bytes_of-bytes.ensures c.decode.ensures (c.eq-decodes.ensures ∙ derived _ _) c.if-not-decodes.false c.if-out-lt12.true

pub returns-else-out-lt12 : goal.returns-else-out-lt12
returns-else-out-lt12 c =
    encoded _ _ _ c.args.out.now _ c.bytes_of-bytes.ensures c.decode.ensures (c.eq-decodes.ensures ∙ derived _ _) _ c.if-not-decodes.false (omega arith)
    (laid c.args.command _ c.args.out.now _ c.bytes_of-bytes.ensures (cc c.copy_from_slice.ensures.after))
