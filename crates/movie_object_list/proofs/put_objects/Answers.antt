-- The invariant: where object n stands, and the text before it. A turn is `objects_step`. Assumes nothing.
use Rattle.std.proofs.Common.{◌≡◌, ◌+◌, ◌*◌, ◌≤◌, ◌<◌, ◌∙◌, length, sym, subst, ℕ, arith}
use Rattle.laws.specs.Firsts.{blocks}
use Rattle.common.specs.Rules.{be2}
use Rattle.movie_object.specs.Rules.{count_of}
use Rattle.movie_object.specs.Laws.{place_zero, place_after}
use Rattle.text.specs.Laws.{nothing}
use Rattle.text.specs.Rules.{Wrote}
use Rattle.movie_object_list.specs.Laws.{object_here, objects_step}
use Rattle.movie_object_list.specs.Rules.{block_text, file_text}
use Rattle.movie_object_list.proofs.Lengths.{count_below}
use Rattle.movie_object_list.proofs.put_objects.Goals as goal
use Rattle.movie_object_list.proofs.put_objects.Goals.{In-loop-n}

-- object n is on the disc and lies within the file
there : (c : In-loop-n) → c.loop-n.n < count_of c.args.file.now
there c = omega (arith, c.loop-n-test.true, c.count_of-n-end.ensures)

inside : (c : In-loop-n) → let p = c.loop-n.head in let s = c.args.file.now in p + 4 + 12 * be2 s (p + 2) ≤ length s
inside c = object_here c.args.file.now c.loop-n.n c.loop-n.head (there c) c.loop-n.invariant.here c.requires

pub loop-n-init : goal.loop-n-init
unfolding blocks
loop-n-init c = record { here = sym (place_zero _); wrote = nothing (omega arith) (omega arith) }

pub overflow_cast-object : goal.overflow_cast-object
overflow_cast-object c = omega (arith, there (goal.at.overflow_cast-object c).In-loop-n, count_below c.args.file.now (λ i. omega (arith, c.type_inv.file i)))

pub put-p-requires : goal.put-p-requires
put-p-requires c = inside (goal.at.put-p-requires c).In-loop-n

pub next_head-head-requires : goal.next_head-head-requires
next_head-head-requires c = inside (goal.at.next_head-head-requires c).In-loop-n

pub loop-n-preserved : goal.loop-n-preserved
loop-n-preserved c =
    let l = c.loop-n in
    record {
      here = c.next_head-head.ensures ∙ place_after _ _ _ l.invariant.here;
      wrote = objects_step c.args.file.now l.n l.head (there (goal.at.loop-n-preserved c).In-loop-n) l.invariant.here l.invariant.wrote c.put-p.ensures c.put_byte-p.ensures;
    }

pub returns : goal.returns
unfolding file_text
returns c =
    let e : c.loop-n.n ≡ count_of c.args.file.now = omega (arith, c.loop-n-test.false, c.loop-n.auto.n-end, c.count_of-n-end.ensures) in
    subst (λ (k : ℕ). Wrote c.args.out.now c.args.at (blocks (block_text c.args.file.now) k) c.loop-n.out c.loop-n.p) e c.loop-n.invariant.wrote
