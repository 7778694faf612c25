-- Where object n stands, and how long the text before it is. It is short (`objects_short`). Assumes nothing.
use Rattle.std.proofs.Common.{◌≡◌, ℕ, ◌+◌, ◌*◌, ◌≤◌, ◌<◌, ◌∙◌, length, sym, ap, arith}
use Rattle.laws.specs.Firsts.{blocks}
use Rattle.common.specs.Rules.{be2}
use Rattle.movie_object.specs.Rules.{count_of}
use Rattle.movie_object.specs.Laws.{place_zero, place_after, place_next, good}
use Rattle.movie_object_list.specs.Laws.{object_here, objects_more}
use Rattle.movie_object_list.specs.Rules.{text_at, block_text, file_text}
use Rattle.movie_object_list.proofs.Lengths.{objects_short, count_below}
use Rattle.movie_object_list.proofs.file_length.Goals as goal
use Rattle.movie_object_list.proofs.file_length.Goals.{In-loop-n}

-- object n is on the disc and lies within the file
there : (c : In-loop-n) → c.loop-n.n < count_of c.args.file.now
there c = omega (arith, c.loop-n-test.true, c.count_of-n-end.ensures)

inside : (c : In-loop-n) → let p = c.loop-n.head in let s = c.args.file.now in p + 4 + 12 * be2 s (p + 2) ≤ length s
inside c = object_here c.args.file.now c.loop-n.n c.loop-n.head (there c) c.loop-n.invariant.here c.requires

-- one object more, of length r
more : (c : In-loop-n) (r : ℕ) → r ≡ length (text_at c.args.file.now c.loop-n.head c.loop-n.n) → c.loop-n.sum + (r + 1) ≡ length (blocks (block_text c.args.file.now) (c.loop-n.n + 1))
more c r e =
    let l = c.loop-n in
    omega (arith, l.invariant.long, e, objects_more c.args.file.now l.n l.head (there c) l.invariant.here)

small : (c : In-loop-n) (r : ℕ) → r ≡ length (text_at c.args.file.now c.loop-n.head c.loop-n.n) → c.loop-n.sum + (r + 1) ≤ 57 * 65536 + 10 * 16777216
small c r e =
    let l = c.loop-n in
    let s = c.args.file.now in
    let v = c.requires in
    let n = there c in
    omega (
      arith,
      more c r e,
      objects_short s (l.n + 1) (λ i. omega (arith, c.type_inv.file i)) v (omega arith),
      place_next s l.n l.head l.invariant.here,
      inside c,
      (good s v).head.short,
      count_below s (λ i. omega (arith, c.type_inv.file i)),
    )

pub loop-n-init : goal.loop-n-init
unfolding blocks
loop-n-init c = record { here = sym (place_zero _); long = omega arith }

pub overflow_cast-n : goal.overflow_cast-n
overflow_cast-n c = omega (arith, there (goal.at.overflow_cast-n c).In-loop-n, count_below c.args.file.now (λ i. omega (arith, c.type_inv.file i)))

pub object_length-requires : goal.object_length-requires
object_length-requires c = inside (goal.at.object_length-requires c).In-loop-n

pub overflow_add-sum : goal.overflow_add-sum
overflow_add-sum c = omega (arith, small (goal.at.overflow_add-sum c).In-loop-n _ c.object_length.ensures)

pub overflow_add-sum-in-loop-n : goal.overflow_add-sum-in-loop-n
overflow_add-sum-in-loop-n c = omega (arith, small (goal.at.overflow_add-sum-in-loop-n c).In-loop-n _ c.object_length.ensures)

pub next_head-head-requires : goal.next_head-head-requires
next_head-head-requires c = inside (goal.at.next_head-head-requires c).In-loop-n

pub loop-n-preserved : goal.loop-n-preserved
loop-n-preserved c = record { here = c.next_head-head.ensures ∙ place_after _ _ _ c.loop-n.invariant.here; long = more (goal.at.loop-n-preserved c).In-loop-n _ c.object_length.ensures }

pub returns : goal.returns
unfolding file_text
returns c =
    let e : c.loop-n.n ≡ count_of c.args.file.now = omega (arith, c.loop-n-test.false, c.loop-n.auto.n-end, c.count_of-n-end.ensures) in
    c.loop-n.invariant.long ∙ ap (λ (k : ℕ). length (blocks (block_text c.args.file.now) k)) e
