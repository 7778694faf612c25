-- The turns of the check's two loops. Assumes nothing.
use mathlib.Core.Path.{◌≡◌, sym, ap, ◌∙◌}
use mathlib.Core.Bool.{Bool, true, false, cond}
use mathlib.Core.List.{List}
use Prim.Native.Nat.{ℕ, suc, ◌+◌, ◌-◌, ◌*◌, ◌/◌, ◌≤◌, ◌<◌}
use native.Mathlib.Omega.{arith}
use native.Mathlib.Numerals.{add-one}
use lib.ListN.{length}
use Rattle.movie_object.specs.Rules.{count_of, commands_of}
use Rattle.nav_command.specs.Rules.{command_of}
use Rattle.nav_command.specs.declared.DecodedCommand.{DecodedCommand}
use Rattle.vm.specs.Rules.{fetched}
use Rattle.disc_check.specs.declared.DiscCheck.TheVariants as C
use Rattle.disc_check.specs.Rules.{command_offends, offends_at, first_command, or_else, in_object, first_object}
use Rattle.std.specs.Prelude.{None, Option, Some}

-- before the first turn
pub at_start : {A : Type 0} (f : ℕ → ℕ → A) (n : ℕ) → f (n - 0) 0 ≡ f n 0
at_start f n = let same : n - 0 ≡ n = omega arith in ap (λ k. f k 0) same

module _ (x : List ℕ) (n : ℕ) (cs : List ℕ) (number k : ℕ) where
  command_turn : k < number → first_command x n cs (number - k) k ≡ cond (offends_at x n cs k) (Some k) (first_command x n cs (number - (k + 1)) (k + 1))
  unfolding first_command
  command_turn h = let one : number - k ≡ suc (number - (k + 1)) = omega arith in rw (one, add-one k)

  pub command_end : number ≤ k → None ≡ first_command x n cs (number - k) k
  unfolding first_command
  command_end h = let none : number - k ≡ 0 = omega arith in rw none

  module _ {bytes : List ℕ} {c : DecodedCommand} {bad : Bool} (h : k < number) (b : bytes ≡ fetched cs (12 * k)) (d : c ≡ command_of bytes) (o : bad ≡ command_offends x n c) where
    told : bad ≡ offends_at x n cs k
    told = o ∙ ap (command_offends x n) d ∙ ap (λ l. command_offends x n (command_of l)) b

    pub command_found : bad ≡ true → Some k ≡ first_command x n cs (number - k) k
    command_found e = sym (rw (sym told ∙ e) at (command_turn h))

    pub command_passed : bad ≡ false → first_command x n cs (number - (k + 1)) (k + 1) ≡ first_command x n cs (number - k) k
    command_passed e = sym (rw (sym told ∙ e) at (command_turn h))

module _ (x file : List ℕ) (count n : ℕ) where
  object_turn : n < count → first_object x file (count - n) n ≡ or_else (in_object x file n) n (first_object x file (count - (n + 1)) (n + 1))
  unfolding first_object
  object_turn h = let one : count - n ≡ suc (count - (n + 1)) = omega arith in rw (one, add-one n)

  pub object_end : count ≤ n → C.Passed ≡ first_object x file (count - n) n
  unfolding first_object
  object_end h = let none : count - n ≡ 0 = omega arith in rw none

  module _ {cs : List ℕ} {found : Option ℕ} (h : n < count) (all : count ≡ count_of file) (p : cs ≡ commands_of file n) (f : found ≡ first_command x count cs (length cs / 12) 0) where
    met : found ≡ in_object x file n
    met = f ∙ rw (all, p)

    pub object_found : (k : ℕ) → found ≡ Some k → C.Offends n k ≡ first_object x file (count - n) n
    object_found k e = sym (rw (sym met ∙ e) at (object_turn h))

    pub object_passed : found ≡ None → first_object x file (count - (n + 1)) (n + 1) ≡ first_object x file (count - n) n
    object_passed e = sym (rw (sym met ∙ e) at (object_turn h))
