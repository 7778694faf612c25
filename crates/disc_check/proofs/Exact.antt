-- The check passes exactly the discs of which no command can ask for what the disc lacks. Assumes nothing.
use mathlib.Core.Path.{◌≡◌, refl, sym, ap, subst, ◌∙◌}
use mathlib.Core.Bool.{Bool, true, false}
use mathlib.Core.List.{List, [], ◌∷◌}
use mathlib.Core.Logic.{⊎_elim}
use Prim.Native.Nat.{ℕ, zero, suc, ◌+◌, ◌*◌, ◌/◌, ◌%◌, ◌^◌, ◌<◌, ◌≤◌}
use native.Mathlib.Nat.{eq-or-lt_of_le}
use native.Mathlib.Omega.{arith}
use lib.Dec.{T, eqb, leb, ltb}
use lib.ListN.{length, get_or, get_or-eq_default}
use borrow.Author.Tests.{le-leb, lt-leb, ltb-true, ltb-false, leb-false}
use Rattle.laws.specs.Cases.{either_way, by_test}
use Rattle.error.specs.declared.Refusal.{Refusal}
use Rattle.error.specs.Rules.{Verdict, first_of}
use Rattle.index_bdmv.specs.Rules.{resolve_of, place_of, verdict_of as indexVerdict}
use Rattle.movie_object.specs.Rules.{count_of, commands_of, verdict_of as objectsVerdict}
use Rattle.movie_object.specs.Laws.{commands_missing}
use Rattle.mobj_runner.specs.Laws.{count_small}
use Rattle.nav_command.specs.Rules.{command_of}
use Rattle.nav_command.specs.declared.BranchOp.{BranchOp}
use Rattle.nav_command.specs.declared.BranchOp.TheVariants as B
use Rattle.nav_command.specs.declared.CommandGroup.{CommandGroup}
use Rattle.nav_command.specs.declared.CommandGroup.TheVariants as G
use Rattle.nav_command.specs.declared.DecodedCommand.{DecodedCommand}
use Rattle.nav_command.specs.declared.Operand.{Operand}
use Rattle.nav_command.specs.declared.Operand.TheVariants.{Absent, Immediate, Register}
use Rattle.nav_command.specs.declared.Operation.{Operation}
use Rattle.nav_command.specs.declared.Operation.TheVariants as O
use Rattle.nav_command.specs.declared.RegisterBank.TheVariants.{Gpr, Psr, PsrSecondary}
use Rattle.vm.specs.declared.Stepped.{Stepped}
use Rattle.vm.specs.Laws.{Sized}
use Rattle.vm.specs.Rules.{Banks, banks, After, value_of, branch_of, exec_branch, holds_for, compare_of, exec_set, system_of, set_of, acted, exec_of, fetched, step_of, with, on, halted}
use Rattle.disc_check.specs.declared.DiscCheck.TheVariants as C
use Rattle.disc_check.specs.declared.Reach.{Reach}
use Rattle.disc_check.specs.declared.Reach.TheVariants.{Always, Anything}
use Rattle.disc_check.specs.Rules.{register_reach, reach_of, leads_nowhere, object_offends, title_offends, branch_offends, operation_offends, group_offends, command_offends, offends_at, first_command, in_object, first_object, check_of}
use Rattle.disc_check.specs.Promise.{asking, Contents, Offence, Clean, First, Exact}
use Rattle.std.specs.Prelude.{Err, None, Ok, Option, Result, Some}

pub true_false : {A : Type 0} → true ≡ false → A
true_false h = absurd (subst (λ (b : Bool). T b) h tt)

-- The values of operands: what an operand always has, and what registers filled with a number give it.

register_always : (l : List ℕ) (size i v : ℕ) → length l ≡ size → register_reach i size ≡ Always v → get_or l i 0 ≡ v
unfolding register_reach
register_always l size i v long e =
    by_test (ltb i size)
    (λ h. let z : Anything ≡ Always v = rw h at e in let y : ◌≡◌ {A = ℕ} 0 1 = cc in absurd (omega arith))
    (λ h.
    let z : Always 0 ≡ Always v = rw h at e in
    let y : ◌≡◌ {A = ℕ} 0 v = cc in
    get_or-eq_default l 0 {n = i} (omega (arith, ltb-false i size h)) ∙ y)

always : (a : Operand) (s : Banks) (v : ℕ) → Sized 4096 128 s → reach_of a ≡ Always v → value_of a s ≡ v
always Absent s v h e = cc
always (Immediate w) s v h e = cc
always (Register Gpr i) s v h e = register_always s.general 4096 i v h.0 e
always (Register Psr i) s v h e = register_always s.status 128 i v h.1 e
always (Register PsrSecondary i) s v h e = register_always s.status 128 i v h.1 e

unfoldable copies : ℕ → ℕ → List ℕ
copies v zero = []
copies v (suc n) = v ∷ copies v n

length_copies : (v n : ℕ) → length (copies v n) ≡ n
unfolding copies
length_copies v zero = refl
length_copies v (suc n) = ap suc (length_copies v n)

copies_at : (v n i : ℕ) → i < n → get_or (copies v n) i 0 ≡ v
unfolding copies
copies_at v zero i h = absurd (omega arith)
copies_at v (suc n) zero h = refl
copies_at v (suc n) (suc i) h = copies_at v n i (omega arith)

copies_below : (v n i : ℕ) → v < 2 ^ 32 → get_or (copies v n) i 0 < 2 ^ 32
unfolding copies
copies_below v zero i h = omega arith
copies_below v (suc n) zero h = h
copies_below v (suc n) (suc i) h = copies_below v n i h

abbrev filled : ℕ → Banks
filled v = banks (copies v 4096) (copies v 128)

filled_contents : (v : ℕ) → v < 2 ^ 32 → Contents (filled v)
filled_contents v h =
    record {
      general = length_copies v 4096;
      status = length_copies v 128;
      generals = λ i. copies_below v 4096 i h;
      statuses = λ i. copies_below v 128 i h;
    }

filled_sized : (v : ℕ) → Sized 4096 128 (filled v)
filled_sized v = (length_copies v 4096, length_copies v 128)

register_anything : (v size i : ℕ) → register_reach i size ≡ Anything → get_or (copies v size) i 0 ≡ v
unfolding register_reach
register_anything v size i e =
    by_test (ltb i size)
    (λ h. copies_at v size i (ltb-true i size h))
    (λ h. let z : Always 0 ≡ Anything = rw h at e in let y : ◌≡◌ {A = ℕ} 0 1 = cc in absurd (omega arith))

anything : (a : Operand) (v : ℕ) → reach_of a ≡ Anything → value_of a (filled v) ≡ v
anything Absent v e = let z : ◌≡◌ {A = ℕ} 0 1 = cc in absurd (omega arith)
anything (Immediate w) v e = let z : ◌≡◌ {A = ℕ} 0 1 = cc in absurd (omega arith)
anything (Register Gpr i) v e = register_anything v 4096 i e
anything (Register Psr i) v e = register_anything v 128 i e
anything (Register PsrSecondary i) v e = register_anything v 128 i e

-- An operand that does not offend never names what the disc lacks.

object_fine : (n : ℕ) (a : Operand) (s : Banks) → Sized 4096 128 s → object_offends n (reach_of a) ≡ false → leb n (value_of a s) ≡ false
object_fine n a s h f = go (reach_of a) refl f
  where
    go : (r : Reach) → reach_of a ≡ r → object_offends n r ≡ false → leb n (value_of a s) ≡ false
    go (Always v) e k = rw (always a s v h e) k
    go Anything e k = true_false k

title_fine : (x : List ℕ) (n : ℕ) (a : Operand) (s : Banks) → Sized 4096 128 s → title_offends x n (reach_of a) ≡ false
    → leads_nowhere x n (value_of a s % 65536) ≡ false
title_fine x n a s h f = go (reach_of a) refl f
  where
    go : (r : Reach) → reach_of a ≡ r → title_offends x n r ≡ false → leads_nowhere x n (value_of a s % 65536) ≡ false
    go (Always v) e k = rw (always a s v h e) k
    go Anything e k = true_false k

module _ (x : List ℕ) (n : ℕ) where
  abbrev Fine : Stepped → Type 0
  Fine r = asking x n r.step ≡ false

  branch_fine : (op : BranchOp) (a : Operand) (s : Banks) (y pc count : ℕ) → Sized 4096 128 s → branch_offends x n op (reach_of a) ≡ false
      → Fine (branch_of op (value_of a s) y pc count)
  branch_fine B.Nop a s y pc count h f = refl
  branch_fine B.GoTo a s y pc count h f = either_way Fine (ltb (value_of a s) count) {x = on (value_of a s)} {y = halted pc} refl refl
  branch_fine B.Break a s y pc count h f = refl
  branch_fine B.JumpObject a s y pc count h f = object_fine n a s h f
  branch_fine B.JumpTitle a s y pc count h f = title_fine x n a s h f
  branch_fine B.CallObject a s y pc count h f = object_fine n a s h f
  branch_fine B.CallTitle a s y pc count h f = title_fine x n a s h f
  branch_fine B.Resume a s y pc count h f = refl
  branch_fine B.PlayPL a s y pc count h f = refl
  branch_fine B.PlayPLatPlayItem a s y pc count h f = refl
  branch_fine B.PlayPLatMark a s y pc count h f = refl
  branch_fine B.TerminatePL a s y pc count h f = refl
  branch_fine B.LinkPI a s y pc count h f = refl
  branch_fine B.LinkMK a s y pc count h f = refl

  operation_fine : (op : Operation) (a : Operand) (s : Banks) (y pc count : ℕ) → Sized 4096 128 s → operation_offends x n op a ≡ false
      → Fine (exec_branch op (value_of a s) y pc count)
  operation_fine (O.Branch op) a s y pc count h f = branch_fine op a s y pc count h f
  operation_fine (O.Compare op) a s y pc count h f = refl
  operation_fine (O.Set op) a s y pc count h f = refl
  operation_fine (O.System op) a s y pc count h f = refl
  operation_fine (O.Unknown sub code) a s y pc count h f = refl

  compare_fine : (held : Bool) (pc count : ℕ) → Fine (compare_of held pc count)
  unfolding compare_of
  compare_fine true pc count = refl
  compare_fine false pc count = refl

  set_fine : (sub : ℕ) (op : Operation) (a b : Operand) (u v pc : ℕ) (s : Banks) → Fine (exec_set sub op a b u v pc s).answer
  unfolding exec_set
  set_fine sub op a b u v pc s =
      either_way (λ (t : After Stepped). Fine t.answer) (eqb sub 1) {x = with s (system_of op u v pc)} {y = with (set_of op a b u v s) (on pc)} refl refl

  group_fine : (g : CommandGroup) (c : DecodedCommand) (pc count : ℕ) (s : Banks) → Sized 4096 128 s → group_offends x n g c ≡ false
      → Fine (acted g c (value_of c.operand1 s) (value_of c.operand2 s) pc count s).answer
  unfolding acted
  group_fine G.Branch c pc count s h f = operation_fine c.operation c.operand1 s (value_of c.operand2 s) pc count h f
  group_fine G.Compare c pc count s h f = compare_fine (holds_for c.operation (value_of c.operand1 s) (value_of c.operand2 s)) pc count
  group_fine G.Set c pc count s h f =
      set_fine c.sub_group c.operation c.operand1 c.operand2 (value_of c.operand1 s) (value_of c.operand2 s) pc s
  group_fine (G.Reserved g) c pc count s h f = refl

  -- a step at a command that does not offend asks for nothing that the disc lacks
  pub step_fine : (cs : List ℕ) (k : ℕ) (s : Banks) → Sized 4096 128 s → (k < length cs / 12 → offends_at x n cs k ≡ false) → Fine (step_of cs k s).answer
  unfolding step_of exec_of command_offends
  step_fine cs k s h f = by_test (leb (length cs / 12) k) past obeyed
    where
      past : leb (length cs / 12) k ≡ true → Fine (step_of cs k s).answer
      past e = rw e

      obeyed : leb (length cs / 12) k ≡ false → Fine (step_of cs k s).answer
      obeyed e =
          let c = command_of (fetched cs (12 * k)) in
          rw e (group_fine c.group c (k + 1) (length cs / 12) s h (f (leb-false (length cs / 12) k e)))

-- Title 0 leads nowhere, and no disc has object 4,294,967,295: with these in every register, a register operand offends.

title_0 : (x : List ℕ) (n : ℕ) → leads_nowhere x n 0 ≡ true
unfolding leads_nowhere resolve_of place_of
title_0 x n = refl

-- register contents with which an operand names what the disc lacks
pub record Shown (x : List ℕ) (n : ℕ) (P : ℕ → Bool) (a : Operand) : Type 0 where
  pub regs : Banks
  pub contents : Contents regs
  pub shows : P (value_of a regs) ≡ true

object_shown : (x : List ℕ) (n : ℕ) (a : Operand) → n < 65536 → object_offends n (reach_of a) ≡ true → Shown x n (leb n) a
object_shown x n a few f = go (reach_of a) refl f
  where
    go : (r : Reach) → reach_of a ≡ r → object_offends n r ≡ true → Shown x n (leb n) a
    go (Always v) e k = record { regs = filled 0; contents = filled_contents 0 (omega arith); shows = rw (always a (filled 0) v (filled_sized 0) e) k }
    go Anything e k =
        record {
          regs = filled 4294967295;
          contents = filled_contents 4294967295 (omega arith);
          shows = rw (anything a 4294967295 e) (le-leb n 4294967295 (omega arith));
        }

title_shown : (x : List ℕ) (n : ℕ) (a : Operand) → title_offends x n (reach_of a) ≡ true → Shown x n (λ t. leads_nowhere x n (t % 65536)) a
title_shown x n a f = go (reach_of a) refl f
  where
    go : (r : Reach) → reach_of a ≡ r → title_offends x n r ≡ true → Shown x n (λ t. leads_nowhere x n (t % 65536)) a
    go (Always v) e k = record { regs = filled 0; contents = filled_contents 0 (omega arith); shows = rw (always a (filled 0) v (filled_sized 0) e) k }
    go Anything e k = record { regs = filled 0; contents = filled_contents 0 (omega arith); shows = rw (anything a 0 e) (title_0 x n) }

-- register contents with which a command asks for what the disc lacks
pub record Asked (x : List ℕ) (n : ℕ) (run : Banks → Stepped) : Type 0 where
  pub regs : Banks
  pub contents : Contents regs
  pub asks : asking x n (run regs).step ≡ true

module _ (x : List ℕ) (n : ℕ) (few : n < 65536) where
  branch_asked : (op : BranchOp) (a b : Operand) (pc count : ℕ) → branch_offends x n op (reach_of a) ≡ true
      → Asked x n (λ s. branch_of op (value_of a s) (value_of b s) pc count)
  branch_asked B.Nop a b pc count f = true_false (sym f)
  branch_asked B.GoTo a b pc count f = true_false (sym f)
  branch_asked B.Break a b pc count f = true_false (sym f)
  branch_asked B.JumpObject a b pc count f = let w = object_shown x n a few f in record { regs = w.regs; contents = w.contents; asks = w.shows }
  branch_asked B.JumpTitle a b pc count f = let w = title_shown x n a f in record { regs = w.regs; contents = w.contents; asks = w.shows }
  branch_asked B.CallObject a b pc count f = let w = object_shown x n a few f in record { regs = w.regs; contents = w.contents; asks = w.shows }
  branch_asked B.CallTitle a b pc count f = let w = title_shown x n a f in record { regs = w.regs; contents = w.contents; asks = w.shows }
  branch_asked B.Resume a b pc count f = true_false (sym f)
  branch_asked B.PlayPL a b pc count f = true_false (sym f)
  branch_asked B.PlayPLatPlayItem a b pc count f = true_false (sym f)
  branch_asked B.PlayPLatMark a b pc count f = true_false (sym f)
  branch_asked B.TerminatePL a b pc count f = true_false (sym f)
  branch_asked B.LinkPI a b pc count f = true_false (sym f)
  branch_asked B.LinkMK a b pc count f = true_false (sym f)

  operation_asked : (op : Operation) (a b : Operand) (pc count : ℕ) → operation_offends x n op a ≡ true
      → Asked x n (λ s. exec_branch op (value_of a s) (value_of b s) pc count)
  operation_asked (O.Branch op) a b pc count f = branch_asked op a b pc count f
  operation_asked (O.Compare op) a b pc count f = true_false (sym f)
  operation_asked (O.Set op) a b pc count f = true_false (sym f)
  operation_asked (O.System op) a b pc count f = true_false (sym f)
  operation_asked (O.Unknown sub code) a b pc count f = true_false (sym f)

  group_asked : (g : CommandGroup) (c : DecodedCommand) (pc count : ℕ) → group_offends x n g c ≡ true
      → Asked x n (λ s. (acted g c (value_of c.operand1 s) (value_of c.operand2 s) pc count s).answer)
  unfolding acted
  group_asked G.Branch c pc count f = operation_asked c.operation c.operand1 c.operand2 pc count f
  group_asked G.Compare c pc count f = true_false (sym f)
  group_asked G.Set c pc count f = true_false (sym f)
  group_asked (G.Reserved g) c pc count f = true_false (sym f)

  step_asked : (cs : List ℕ) (k : ℕ) → k < length cs / 12 → offends_at x n cs k ≡ true → Asked x n (λ s. (step_of cs k s).answer)
  unfolding step_of exec_of command_offends
  step_asked cs k there f =
      let c = command_of (fetched cs (12 * k)) in
      let w = group_asked c.group c (k + 1) (length cs / 12) f in
      record { regs = w.regs; contents = w.contents; asks = rw (lt-leb (length cs / 12) k there) w.asks }

-- An offence is a command that the check's rule finds, and the other way round.

pub record Bad (x file : List ℕ) (n k : ℕ) : Type 0 where
  pub object : n < count_of file
  pub command : k < length (commands_of file n) / 12
  pub offends : offends_at x (count_of file) (commands_of file n) k ≡ true

module _ (x file : List ℕ) (n k : ℕ) where
  no_commands : count_of file ≤ n → length (commands_of file n) / 12 ≡ 0
  no_commands h = rw (commands_missing file n h)

  offence_bad : Offence x file n k → Bad x file n k
  offence_bad o =
      let cs = commands_of file n in
      let sized : Sized 4096 128 o.regs = (o.contents.general, o.contents.status) in
      let none : (k < length cs / 12 → offends_at x (count_of file) cs k ≡ false) → Bad x file n k
      = λ f. true_false (sym o.asks ∙ step_fine x (count_of file) cs k o.regs sized f) in
      by_test (ltb n (count_of file))
      (λ on. by_test (ltb k (length cs / 12))
      (λ there. by_test (offends_at x (count_of file) cs k)
      (λ bad. record { object = ltb-true n (count_of file) on; command = ltb-true k (length cs / 12) there; offends = bad })
      (λ fine. none (λ h. fine)))
      (λ off. none (λ h. absurd (omega (arith, ltb-false k (length cs / 12) off)))))
      (λ off. none (λ h. absurd (omega (arith, no_commands (ltb-false n (count_of file) off)))))

  bad_offence : count_of file < 65536 → Bad x file n k → Offence x file n k
  bad_offence few b =
      let w = step_asked x (count_of file) few (commands_of file n) k b.command b.offends in
      record { regs = w.regs; contents = w.contents; asks = w.asks }

-- The first offending command, and the first offending object.

pub record FirstAt (x : List ℕ) (n : ℕ) (cs : List ℕ) (left k m : ℕ) : Type 0 where
  pub from : k ≤ m
  pub to : m < k + left
  pub bad : offends_at x n cs m ≡ true
  pub fine : (j : ℕ) → k ≤ j → j < m → offends_at x n cs j ≡ false

module _ (x : List ℕ) (n : ℕ) (cs : List ℕ) where
  none_each : (left k : ℕ) → first_command x n cs left k ≡ None → (j : ℕ) → k ≤ j → j < k + left → offends_at x n cs j ≡ false
  unfolding first_command
  none_each zero k e j lo hi = absurd (omega arith)
  none_each (suc left) k e j lo hi =
      by_test (offends_at x n cs k)
      (λ b. let z : (Some k) ≡ None = rw b at e in let y : ◌≡◌ {A = ℕ} 0 1 = cc in absurd (omega arith))
      (λ b. ⊎_elim (λ (q : k ≡ j). rw (← q, b)) (λ (q : k < j). none_each left (suc k) (rw b at e) j (omega arith) (omega arith)) (eq-or-lt_of_le lo))

  each_none : (left k : ℕ) → ((j : ℕ) → k ≤ j → j < k + left → offends_at x n cs j ≡ false) → first_command x n cs left k ≡ None
  unfolding first_command
  each_none zero k f = refl
  each_none (suc left) k f = rw (f k (omega arith) (omega arith)) (each_none left (suc k) (λ j lo hi. f j (omega arith) (omega arith)))

  first_at : (left k m : ℕ) → first_command x n cs left k ≡ Some m → FirstAt x n cs left k m
  unfolding first_command
  first_at zero k m e = let z : ◌≡◌ {A = ℕ} 0 1 = cc in absurd (omega arith)
  first_at (suc left) k m e =
      by_test (offends_at x n cs k)
      (λ b.
      let z : (Some k) ≡ Some m = rw b at e in
      let y : ◌≡◌ {A = ℕ} k m = cc in
      record { from = omega arith; to = omega arith; bad = rw y at b; fine = λ j lo hi. absurd (omega arith) })
      (λ b.
      let r = first_at left (suc k) m (rw b at e) in
      record {
        from = omega (arith, r.from);
        to = omega (arith, r.to);
        bad = r.bad;
        fine = λ j lo hi. ⊎_elim (λ (q : k ≡ j). rw (← q, b)) (λ (q : k < j). r.fine j (omega arith) hi) (eq-or-lt_of_le lo);
      })

pub record FirstIn (x file : List ℕ) (left n m k : ℕ) : Type 0 where
  pub from : n ≤ m
  pub to : m < n + left
  pub found : in_object x file m ≡ Some k
  pub none : (j : ℕ) → n ≤ j → j < m → in_object x file j ≡ None

-- what an answer that was given holds
ok_is : {A : Type 0} {a b : A} → ◌≡◌ {A = Result A Refusal} (Ok a) (Ok b) → a ≡ b
ok_is e = cc

module _ (x file : List ℕ) where
  found_or_not : {A : Type 0} (f : Option ℕ) → ((k : ℕ) → f ≡ Some k → A) → (f ≡ None → A) → A
  found_or_not (Some k) p q = p k refl
  found_or_not None p q = q refl

  passed_each : (left n : ℕ) → first_object x file left n ≡ C.Passed → (j : ℕ) → n ≤ j → j < n + left → in_object x file j ≡ None
  unfolding first_object
  passed_each zero n e j lo hi = absurd (omega arith)
  passed_each (suc left) n e j lo hi =
      found_or_not (in_object x file n)
      (λ k b. let z : C.Offends n k ≡ C.Passed = rw b at e in let y : ◌≡◌ {A = ℕ} 0 1 = cc in absurd (omega arith))
      (λ b. ⊎_elim (λ (q : n ≡ j). rw (← q) b) (λ (q : n < j). passed_each left (suc n) (rw b at e) j (omega arith) (omega arith)) (eq-or-lt_of_le lo))

  each_passed : (left n : ℕ) → ((j : ℕ) → n ≤ j → j < n + left → in_object x file j ≡ None) → first_object x file left n ≡ C.Passed
  unfolding first_object
  each_passed zero n f = refl
  each_passed (suc left) n f = rw (f n (omega arith) (omega arith)) (each_passed left (suc n) (λ j lo hi. f j (omega arith) (omega arith)))

  first_in : (left n m k : ℕ) → first_object x file left n ≡ C.Offends m k → FirstIn x file left n m k
  unfolding first_object
  first_in zero n m k e = let z : ◌≡◌ {A = ℕ} 0 1 = cc in absurd (omega arith)
  first_in (suc left) n m k e =
      found_or_not (in_object x file n)
      (λ i b.
      let z : C.Offends n i ≡ C.Offends m k = rw b at e in
      let y : ◌≡◌ {A = ℕ} n m = cc in
      let w : ◌≡◌ {A = ℕ} i k = cc in
      record { from = omega arith; to = omega arith; found = rw (y, w) at b; none = λ j lo hi. absurd (omega arith) })
      (λ b.
      let r = first_in left (suc n) m k (rw b at e) in
      record {
        from = omega (arith, r.from);
        to = omega (arith, r.to);
        found = r.found;
        none = λ j lo hi. ⊎_elim (λ (q : n ≡ j). rw (← q) b) (λ (q : n < j). r.none j (omega arith) hi) (eq-or-lt_of_le lo);
      })

  -- The check of two readable files, and of two that are passed.

  check_fine : indexVerdict x ≡ Ok tt → objectsVerdict file ≡ Ok tt → check_of x file ≡ Ok (first_object x file (count_of file) 0)
  unfolding check_of
  check_fine i o = rw (i, o)

  refused_or_not : {A : Type 0} (v : Verdict) → ((r : Refusal) → v ≡ Err r → A) → (v ≡ Ok tt → A) → A
  refused_or_not (Ok u) p q = q refl
  refused_or_not (Err r) p q = p r refl

  pub passed_first : check_of x file ≡ Ok C.Passed → first_object x file (count_of file) 0 ≡ C.Passed
  unfolding check_of
  passed_first h =
      refused_or_not (first_of (indexVerdict x) (objectsVerdict file))
      (λ r e. let z : (Err r) ≡ Ok C.Passed = rw e at h in let y : ◌≡◌ {A = ℕ} 0 1 = cc in absurd (omega arith))
      (λ e. ok_is (rw e at h))

  -- no command of a passed disc offends
  pub sound : first_object x file (count_of file) 0 ≡ C.Passed → (n k : ℕ) → n < count_of file → k < length (commands_of file n) / 12
      → offends_at x (count_of file) (commands_of file n) k ≡ false
  sound h n k on there =
      none_each x (count_of file) (commands_of file n) (length (commands_of file n) / 12) 0
      (passed_each (count_of file) 0 h n (omega arith) (omega arith)) k (omega arith) (omega arith)

  clean_object : count_of file < 65536 → Clean x file → (n : ℕ) → n < count_of file → in_object x file n ≡ None
  clean_object few clean n on =
      each_none x (count_of file) (commands_of file n) (length (commands_of file n) / 12) 0
      (λ k lo hi. by_test (offends_at x (count_of file) (commands_of file n) k)
      (λ b. absurd (clean n k (bad_offence x file n k few (record { object = on; command = omega arith; offends = b }))))
      (λ b. b))

  first_of_is : count_of file < 65536 → (n k : ℕ) → first_object x file (count_of file) 0 ≡ C.Offends n k → First x file n k
  first_of_is few n k h =
      let r = first_in (count_of file) 0 n k h in
      let cs = commands_of file n in
      let c = first_at x (count_of file) cs (length cs / 12) 0 k r.found in
      record {
        here = bad_offence x file n k few (record { object = omega (arith, r.to); command = omega (arith, c.to); offends = c.bad });
        none = λ m j before o.
            let b = offence_bad x file m j o in
            ⊎_elim
            (λ (lt : m < n). true_false (sym b.offends ∙ none_each x (count_of file) (commands_of file m) (length (commands_of file m) / 12) 0
            (r.none m (omega arith) lt) j (omega arith) (omega (arith, b.command))))
            (λ (same : (m ≡ n) × (j < k)). true_false (sym b.offends ∙ rw same.0 (c.fine j (omega arith) same.1)))
            before;
      }

pub exact : Exact
exact x file i o bytes =
    let few = count_small file bytes in
    let e = check_fine x file i o in
    record {
      passed = λ h n k bad.
          let b = offence_bad x file n k bad in
          true_false (sym b.offends ∙ sound x file (ok_is (sym e ∙ h)) n k b.object b.command);
      clean = λ clean. e ∙ ap Ok (each_passed x file (count_of file) 0 (λ n lo hi. clean_object x file few clean n (omega arith)));
      names = λ n k h. first_of_is x file few n k (ok_is (sym e ∙ h));
    }
