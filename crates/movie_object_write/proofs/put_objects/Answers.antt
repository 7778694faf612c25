-- Each turn has the next three flags and the next count (`zip_turn`); it is `objects_step`. Assumes nothing.
use Rattle.std.proofs.Common.{◌≡◌, ◌+◌, ◌*◌, ◌<◌, ◌∙◌, ℕ, [], ◌∷◌, ◌++◌, ap, length, get_or, arith, add-zero, length-append, length-drop}
use Rattle.std.proofs.lemmas.Slice.Zip.{zip_turn}
use Rattle.laws.specs.Firsts.{sum}
use Rattle.laws.specs.Over.{over}
use Rattle.movie_object_write.specs.Laws.{Turn, turn, flags_at, flag_bit, count_small, cmds_front, cmds_back, object_is, objects_step}
use Rattle.movie_object_write.proofs.put_objects.Goals as goal
use Rattle.movie_object_write.proofs.put_objects.Goals.{In-Some}

-- what a turn has
abbrev at : In-Some → ℕ
at c = length c.loop-bits.yielded

record Has (c : In-Some) : Type 0 where
  on : at c < length c.args.counts.now
  count : c.in-Some.count.now ≡ get_or c.args.counts.now (at c) 0
  bit : (i : ℕ) → i < 3 → get_or c.in-Some.bits.now i 0 ≡ get_or c.args.flags.now (3 * at c + i) 0
  room : Turn c.args.out.now c.args.counts.now c.args.commands.now (at c)

has : (c : In-Some) → Has c
has c =
    let z = zip_turn c.as_chunks.result.0.now c.args.counts.now c.loop-bits.yielded _ _ c.next.new.self c.next.result (cc) (cc) c.loop-bits.yielded_by _ c.in-Some.is c.next.ensures.steps in
    record {
      on = z.1;
      count = z.3 0;
      bit = flags_at c.args.flags.now c.args.counts.now (at c) c.requires.fields.three z.1 c.as_chunks.ensures.front (z.2 _);
      room = turn _ c.args.flags.now _ _ _ c.requires z.1;
    }

pub split_at-requires : goal.split_at-requires
split_at-requires c =
    let h = has (goal.at.split_at-requires c).In-Some in
    let a = c.args in
    omega (arith, h.room.from, h.room.more, h.count, ap length c.loop-bits.invariant.left, length-drop (12 * sum a.counts.now (length c.loop-bits.yielded)) a.commands.now)

pub flag_byte-requires : goal.flag_byte-requires
flag_byte-requires c =
    let i = (goal.at.flag_byte-requires c).In-Some in
    let h = has i in
    let bit = flag_bit _ c.args.counts.now c.args.commands.now c.requires.fields in
    let k = at i in (
      omega (arith, h.bit 0 (omega arith), bit (3 * k + 0) (omega (arith, h.on))),
      omega (arith, h.bit 1 (omega arith), bit (3 * k + 1) (omega (arith, h.on))),
      omega (arith, h.bit 2 (omega arith), bit (3 * k + 2) (omega (arith, h.on))),
    )

pub overflow_cast-count-in-loop-bits : goal.overflow_cast-count-in-loop-bits
overflow_cast-count-in-loop-bits c = let h = has (goal.at.overflow_cast-count-in-loop-bits c).In-Some in omega (arith, h.count, count_small _ _ _ c.requires.fields _ h.on)

pub put_object-at-requires : goal.put_object-at-requires
put_object-at-requires c =
    let i = (goal.at.put_object-at-requires c).In-Some in
    let h = has i in
    omega (arith, h.room.room, h.room.more, h.count, c.loop-bits.invariant.here, c.split_at.ensures.front_len)

pub loop-bits-preserved : goal.loop-bits-preserved
loop-bits-preserved c =
    let i = (goal.at.loop-bits-preserved c).In-Some in
    let h = has i in
    let l = c.loop-bits in
    let a = c.args in
    let k = at i in
    let more : length (l.yielded ++ (c.in-Some.bits, c.in-Some.count) ∷ []) ≡ k + 1 = length-append l.yielded _ in
    let zero : get_or c.in-Some.bits.now 0 0 ≡ get_or a.flags.now (3 * k) 0 = h.bit 0 (omega arith) ∙ ap (λ (n : ℕ). get_or a.flags.now n 0) (add-zero (3 * k)) in
    let part = cmds_front a.counts.now a.commands.now k h.count l.invariant.left c.split_at.ensures.front in
    rw more
    (record {
      can = (tt, tt);
      finite = tt;
      here = omega (arith, h.room.more, h.count, l.invariant.here, c.put_object-at.ensures.behind, c.split_at.ensures.front_len);
      left = cmds_back a.counts.now a.commands.now k h.count l.invariant.left c.split_at.ensures.back;
      wrote =
          objects_step _ _ _ a.flags.now a.counts.now a.commands.now k l.at h.room l.invariant.here l.invariant.wrote
          (c.put_object-at.ensures.bytes ∙ ap (over _ _) (object_is _ _ _ _ _ _ _ (c.flag_byte.ensures ∙ rw (zero, h.bit 1 (omega arith), h.bit 2 (omega arith))) h.count part));
    })
