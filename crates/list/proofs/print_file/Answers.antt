-- The length of the room, and that it is enough. Assumes nothing.
use Rattle.std.proofs.Common.{ℕ, ◌*◌, ◌≤◌, length, sym, subst, arith}
use Rattle.std.proofs.lemmas.List.{length-replicate}
use Rattle.list.proofs.print_file.Goals as goal

pub slice_bounds-print_listing-end : goal.slice_bounds-print_listing-end
slice_bounds-print_listing-end g c = sym (length-replicate {A = ℕ} 1638400 0)

pub print_listing-requires : goal.print_listing-requires
print_listing-requires g c =
    subst (λ (n : ℕ). 25 * length c.args.file.now ≤ n) (sym (length-replicate {A = ℕ} 1638400 0)) (omega (arith, c.requires))
