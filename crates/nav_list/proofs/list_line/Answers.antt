-- The line goes straight into room for any line, and else through the local array, which no line outgrows. Assumes nothing.
use Rattle.std.proofs.Common.{◌≡◌, ◌+◌, ◌<◌, length, refl, arith, Result, Err, ℕ}
use Rattle.std.proofs.lemmas.Grind.{common_steps}
use Rattle.error.specs.declared.Refusal.{Refusal}
use Rattle.error.specs.declared.Refusal.TheVariants.{NoRoom}
use Rattle.nav_list.proofs.Lengths.{made, line_short, no_room, room}
use Rattle.nav_list.proofs.list_line.Goals as goal

pub returns-in_err-room : goal.returns-in_err-room
returns-in_err-room c =
    let past : length c.args.out.now < c.args.at = grind (arith, common_steps, c.in_err-room.ensures) in
    let e : ◌≡◌ {A = Result ℕ Refusal} c.from_residual.result (Err NoRoom) = grind (arith, common_steps, c.in_err-room.ensures) in
    rw e (no_room _ _ c.args.at (omega arith))

pub returns-then-room-ge-LONGEST : goal.returns-then-room-ge-LONGEST
returns-then-room-ge-LONGEST c =
    let all : c.args.at + c.in_ok-room.room ≡ length c.args.out.now = grind (arith, common_steps, c.in_ok-room.ensures) in
    room _ _ _ c.args.at _ (omega (arith, line_short c.requires)) c.put_line.ensures

pub returns-then-room-count : goal.returns-then-room-count
returns-then-room-count c =
    let all : c.args.at + c.in_ok-room.room ≡ length c.args.out.now = grind (arith, common_steps, c.in_ok-room.ensures) in
    no_room _ _ c.args.at (omega (arith, (made c.requires c.put_line-count.ensures refl).0))

pub returns-else-room-count : goal.returns-else-room-count
returns-else-room-count c =
    let all : c.args.at + c.in_ok-room.room ≡ length c.args.out.now = grind (arith, common_steps, c.in_ok-room.ensures) in
    room _ _ _ c.args.at _ (omega (arith, (made c.requires c.put_line-count.ensures refl).0)) (rw (made c.requires c.put_line-count.ensures refl).1 at c.put.ensures)
