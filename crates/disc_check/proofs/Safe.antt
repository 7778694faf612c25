-- On a passed disc no drive ends in bad object or bad title: every turn keeps the invariant `Good`. Assumes nothing.
use mathlib.Core.Path.{◌≡◌, refl, sym, ap, ◌∙◌}
use mathlib.Core.Bool.{Bool, true, false, ◌||◌}
use mathlib.Core.List.{List}
use Prim.Native.Nat.{ℕ, zero, suc, ◌+◌, ◌*◌, ◌-◌, ◌/◌, ◌%◌, ◌<◌, ◌≤◌}
use native.Mathlib.Omega.{arith}
use native.Mathlib.Numerals.{add-one}
use lib.Dec.{eqb, leb, ltb}
use lib.ListN.{length, get_or, set, length-set}
use lib.Seq.{get_or-set_same, get_or-set_other}
use borrow.Author.Tests.{le-ltb, lt-leb, ltb-false, leb-false}
use Rattle.laws.specs.Cases.{either_way, by_test}
use Rattle.error.specs.declared.Refusal.TheVariants.{NotAnEntry}
use Rattle.error.specs.Rules.{Verdict}
use Rattle.error.specs.Laws.{both_fine}
use Rattle.index_bdmv.specs.Rules.{resolve_of}
use Rattle.movie_object.specs.Rules.{count_of, commands_of}
use Rattle.session.specs.declared.Session.{Session}
use Rattle.session.specs.declared.Budgets.{Budgets}
use Rattle.session.specs.declared.ObjectFrame.{ObjectFrame}
use Rattle.session.specs.declared.TitleFrame.{TitleFrame}
use Rattle.session.specs.Rules.{object_frame, pushed_object, title_frame, pushed_title, object_room, title_room, buffers_verdict, budgets_verdict, entry_verdict, objects_live, titles_live, live_verdict, session_verdict}
use Rattle.session.specs.Laws.{objects_step, titles_step, buffers_banks}
use Rattle.vm.specs.declared.NavRequest.{NavRequest}
use Rattle.vm.specs.declared.NavRequest.TheVariants as Q
use Rattle.vm.specs.declared.End.{End}
use Rattle.vm.specs.declared.End.TheVariants as E
use Rattle.vm.specs.Laws.{Sized, run_sized, sized_step, run_asks}
use Rattle.vm.specs.Rules.{Banks, run_of}
use Rattle.mobj_runner.specs.declared.RunOutcome.{RunOutcome}
use Rattle.mobj_runner.specs.declared.RunOutcome.TheVariants as R
use Rattle.mobj_runner.specs.declared.RunEnd.{RunEnd}
use Rattle.mobj_runner.specs.declared.Turn.{Turn}
use Rattle.mobj_runner.specs.declared.Turn.TheVariants as T
use Rattle.mobj_runner.specs.declared.Follow.{Follow}
use Rattle.mobj_runner.specs.declared.Follow.TheVariants as F
use Rattle.mobj_runner.specs.Rules.{World, world, moved, asked, follows, returned, jumped, called, acted, turn_of, drive_of, continued, ended}
use Rattle.nav_driver.specs.declared.DriveOutcome.TheVariants as D
use Rattle.nav_driver.specs.declared.DriveEnd.{DriveEnd}
use Rattle.nav_driver.specs.declared.Follow.{Follow as TitleFollow}
use Rattle.nav_driver.specs.declared.Follow.TheVariants as N
use Rattle.nav_driver.specs.declared.Turn.{Turn as TitleTurn}
use Rattle.nav_driver.specs.declared.Turn.TheVariants as M
use Rattle.nav_driver.specs.declared.Start.{Start}
use Rattle.nav_driver.specs.declared.Start.TheVariants.{Entry, Here}
use Rattle.nav_driver.specs.Rules.{Rooms, rooms, entered, jump_led, call_led, deeper, cleared, taken, waiting, object_side, titles_of, start_led, arrived, start_of, go_on_of, start_verdict, verdict_for, answered, answer_of, title_value}
use Rattle.nav_driver.specs.Rules as driver
use Rattle.disc_check.specs.Rules.{led_nowhere, leads_nowhere, offends_at}
use Rattle.disc_check.specs.Promise.{lacks, asking, NotBad, NeverBadAnswer, Good, Driven, started, resumed, NeverBad}
use Rattle.disc_check.proofs.Exact.{true_false, step_fine, sound, passed_first}
use Rattle.std.specs.Prelude.{Err, None, Ok, Option, Result, Some}
use Rattle.error.specs.declared.Refusal.{Refusal}

-- The live frames: the last one and those below it, and what a push leaves.

popped : (f : List ℕ) (n d : ℕ) → 0 < d → objects_live f n d ≡ true → ((object_frame f (d - 1)).object < n) × (objects_live f n (d - 1) ≡ true)
popped f n d h l =
    let k = sym (objects_step f n d h) ∙ l in
    by_test (leb n (object_frame f (d - 1)).object)
    (λ e. true_false (sym (rw e at k)))
    (λ e. (leb-false n (object_frame f (d - 1)).object e, rw e at k))

objects_set : (f : List ℕ) (n i v d : ℕ) → d * 2 ≤ i → objects_live (set f i v) n d ≡ objects_live f n d
unfolding objects_live
objects_set f n i v zero h = refl
objects_set f n i v (suc d) h =
    rw (get_or-set_other f i (d * 2) v 0 (λ e. omega arith), objects_set f n i v d (omega arith))

objects_push : (f : List ℕ) (n d : ℕ) (x : ObjectFrame) → d < object_room f → x.object < n → objects_live f n d ≡ true → objects_live (pushed_object f d x) n (d + 1) ≡ true
unfolding objects_live
objects_push f n d x r h l =
    let k : d * 2 < length f = omega arith in
    rw (
      add-one d,
      get_or-set_other (set f (d * 2) x.object) (d * 2 + 1) (d * 2) x.pc 0 (λ e. omega arith),
      get_or-set_same f (d * 2) x.object 0 k,
      lt-leb n x.object h,
      objects_set (set f (d * 2) x.object) n (d * 2 + 1) x.pc d (omega arith),
      objects_set f n (d * 2) x.object d (omega arith),
    )
    l

either : (a b : Bool) → a || b ≡ false → (a ≡ false) × (b ≡ false)
either false b h = (refl, h)
either true b h = true_false h

popped_title : (t : List ℕ) (n d : ℕ) → 0 < d → titles_live t n d ≡ true
    → ((title_frame t (d - 1)).entry ≤ 65537) × ((title_frame t (d - 1)).object < n) × (titles_live t n (d - 1) ≡ true)
popped_title t n d h l =
    let x = title_frame t (d - 1) in
    let k = sym (titles_step t n d h) ∙ l in
    by_test (ltb 65537 x.entry || leb n x.object)
    (λ e. true_false (sym (rw e at k)))
    (λ e.
    let q = either (ltb 65537 x.entry) (leb n x.object) e in
    (ltb-false 65537 x.entry q.0, leb-false n x.object q.1, rw e at k))

titles_set : (t : List ℕ) (n i v d : ℕ) → d * 3 ≤ i → titles_live (set t i v) n d ≡ titles_live t n d
unfolding titles_live
titles_set t n i v zero h = refl
titles_set t n i v (suc d) h =
    rw (get_or-set_other t i (d * 3) v 0 (λ e. omega arith), get_or-set_other t i (d * 3 + 1) v 0 (λ e. omega arith), titles_set t n i v d (omega arith))

titles_push : (t : List ℕ) (n d : ℕ) (x : TitleFrame) → d < title_room t → x.entry ≤ 65537 → x.object < n → titles_live t n d ≡ true
    → titles_live (pushed_title t d x) n (d + 1) ≡ true
unfolding titles_live
titles_push t n d x r he ho l =
    let a = set t (d * 3) x.entry in
    let b = set a (d * 3 + 1) x.object in
    let k : d * 3 < length t = omega arith in
    let k2 : d * 3 + 1 < length a = simp length-set (omega arith) in
    let g1 : get_or (set b (d * 3 + 2) x.pc) (d * 3) 0 ≡ x.entry
    = get_or-set_other b (d * 3 + 2) (d * 3) x.pc 0 (λ e. omega arith) ∙ get_or-set_other a (d * 3 + 1) (d * 3) x.object 0 (λ e. omega arith)
    ∙ get_or-set_same t (d * 3) x.entry 0 k in
    let g2 : get_or (set b (d * 3 + 2) x.pc) (d * 3 + 1) 0 ≡ x.object
    = get_or-set_other b (d * 3 + 2) (d * 3 + 1) x.pc 0 (λ e. omega arith) ∙ get_or-set_same a (d * 3 + 1) x.object 0 k2 in
    let g3 : titles_live (set b (d * 3 + 2) x.pc) n d ≡ titles_live t n d
    = titles_set b n (d * 3 + 2) x.pc d (omega arith) ∙ titles_set a n (d * 3 + 1) x.object d (omega arith) ∙ titles_set t n (d * 3) x.entry d (omega arith) in
    rw (add-one d, g1, g2, g3, le-ltb 65537 x.entry he, lt-leb n x.object ho) l

positive : (d : ℕ) → eqb d 0 ≡ false → 0 < d
positive zero h = true_false h
positive (suc d) h = omega arith

-- The object side: what a turn keeps, and what its outcome may ask for.

-- an outcome of the runner that asks for nothing that the disc lacks
abbrev OutFine : List ℕ → ℕ → RunOutcome → Type 0
OutFine x n R.Finished = Unit {0}
OutFine x n (R.Request q) = lacks x n q ≡ false
OutFine x n (R.BadObject o) = ⊥
OutFine x n R.BudgetExhausted = Unit {0}
OutFine x n R.ObjectStackFull = Unit {0}

abbrev FollowFine : List ℕ → ℕ → Follow → Type 0
FollowFine x n F.Return = Unit {0}
FollowFine x n (F.Jump o) = leb n o ≡ false
FollowFine x n (F.Call o) = leb n o ≡ false
FollowFine x n (F.Ask q) = lacks x n q ≡ false

asked_fine : (x : List ℕ) (n : ℕ) (q : NavRequest) → lacks x n q ≡ false → FollowFine x n (asked q)
asked_fine x n (Q.JumpObject o) h = h
asked_fine x n (Q.CallObject o) h = h
asked_fine x n Q.Resume h = tt
asked_fine x n (Q.JumpTitle t) h = h
asked_fine x n (Q.CallTitle t) h = h
asked_fine x n (Q.PlayPlayList p) h = h
asked_fine x n (Q.PlayPlayListAtPlayItem p i) h = h
asked_fine x n (Q.PlayPlayListAtMark p m) h = h
asked_fine x n Q.TerminatePlayList h = h
asked_fine x n (Q.LinkPlayItem i) h = h
asked_fine x n (Q.LinkMark m) h = h
asked_fine x n (Q.SetSystem op a b) h = h

follows_fine : (x : List ℕ) (n : ℕ) (e : End) → ((q : NavRequest) → e ≡ E.Branch q → lacks x n q ≡ false) → FollowFine x n (follows e)
follows_fine x n E.Halted h = tt
follows_fine x n E.Spent h = tt
follows_fine x n (E.Branch q) h = asked_fine x n q (h q refl)

abbrev SafeTurn : List ℕ → ℕ → List ℕ → Turn → List ℕ → Type 0
SafeTurn x n t (T.Go s) f = Good n f t s
SafeTurn x n t (T.Stop s o) f = OutFine x n o × Good n f t s

module _ (x t : List ℕ) (n : ℕ) where
  return_safe : (f : List ℕ) (s : Session) (left : ℕ) → Good n f t s → SafeTurn x n t (returned f s left) f
  unfolding returned
  return_safe f s left good =
      by_test (eqb s.odepth 0)
      (λ e. rw e (tt, good))
      (λ e.
      let q = popped f n s.odepth (positive s.odepth e) good.objects in
      let r : s.odepth ≤ object_room f = good.object_rooms in
      by_test (eqb left 0)
      (λ e2. rw (e, e2)
      (tt, record { here = good.here; objects = q.1; object_rooms = omega arith; titles = good.titles; title_rooms = good.title_rooms; entry = good.entry }))
      (λ e2. rw (e, e2)
      (record { here = q.0; objects = q.1; object_rooms = omega arith; titles = good.titles; title_rooms = good.title_rooms; entry = good.entry })))

  jump_safe : (f : List ℕ) (s : Session) (o left : ℕ) → leb n o ≡ false → Good n f t s → SafeTurn x n t (jumped n s o left) f
  unfolding jumped
  jump_safe f s o left h good =
      by_test (eqb left 0)
      (λ e. rw e (tt, good))
      (λ e. rw (e, h)
      (record { here = leb-false n o h; objects = good.objects; object_rooms = good.object_rooms; titles = good.titles; title_rooms = good.title_rooms; entry = good.entry }))

  call_safe : (f : List ℕ) (s : Session) (o left : ℕ) → leb n o ≡ false → Good n f t s
      → SafeTurn x n t (called f n s o left).turn (called f n s o left).frames
  unfolding called
  call_safe f s o left h good =
      by_test (eqb left 0)
      (λ e. rw e (tt, good))
      (λ e. by_test (leb (object_room f) s.odepth)
      (λ e2. rw (e, h, e2) (tt, good))
      (λ e2.
      let r : s.odepth < object_room f = leb-false (object_room f) s.odepth e2 in
      rw (e, h, e2)
      (record {
        here = leb-false n o h;
        objects = objects_push f n s.odepth (record { object = s.object; pc = s.pc }) r good.here good.objects;
        object_rooms = simp length-set (omega arith);
        titles = good.titles;
        title_rooms = good.title_rooms;
        entry = good.entry;
      })))

  act_safe : (f : List ℕ) (s : Session) (left : ℕ) (next : Follow) → FollowFine x n next → Good n f t s
      → SafeTurn x n t (acted f n s left next).turn (acted f n s left next).frames
  act_safe f s left F.Return h good = return_safe f s left good
  act_safe f s left (F.Jump o) h good = jump_safe f s o left h good
  act_safe f s left (F.Call o) h good = call_safe f s o left h good
  act_safe f s left (F.Ask q) h good = (h, good)

-- what the check finds of a passed disc
abbrev Sound : List ℕ → List ℕ → Type 0
Sound x file = (n k : ℕ) → n < count_of file → k < length (commands_of file n) / 12 → offends_at x (count_of file) (commands_of file n) k ≡ false

-- no run of an object of a passed disc ends by asking for what the disc lacks
run_fine : (x file : List ℕ) (n steps pc : ℕ) (s : Banks) → Sound x file → n < count_of file → Sized 4096 128 s
    → (q : NavRequest) → (run_of (commands_of file n) steps 0 pc s).answer.end ≡ E.Branch q → lacks x (count_of file) q ≡ false
run_fine x file n steps pc s sound on sized q e =
    run_asks (commands_of file n) (Sized 4096 128) (λ k r h. sized_step 4096 128 (commands_of file n) k r h)
    (λ q. lacks x (count_of file) q ≡ false)
    (λ k r q h a. ap (asking x (count_of file)) (sym a) ∙ step_fine x (count_of file) (commands_of file n) k r h (λ there. sound n k on there))
    steps 0 pc s q sized e

-- the session side of a turn's answer, with registers of the right lengths
abbrev SafeWorld : List ℕ → ℕ → List ℕ → World Turn → Type 0
SafeWorld x n t w = SafeTurn x n t w.it w.frames × Sized 4096 128 w.regs

abbrev SafeEnd : List ℕ → ℕ → List ℕ → World RunEnd → Type 0
SafeEnd x n t w = OutFine x n w.it.outcome × Good n w.frames t w.it.session × Sized 4096 128 w.regs

module _ (x file t : List ℕ) (sound : Sound x file) (steps : ℕ) where
  turn_safe : (left : ℕ) (w : World Session) → Good (count_of file) w.frames t w.it → Sized 4096 128 w.regs
      → SafeWorld x (count_of file) t (turn_of file steps left w)
  unfolding turn_of
  turn_safe left w good sized =
      let s = w.it in
      let m = run_of (commands_of file s.object) steps 0 s.pc w.regs in (
        act_safe x t (count_of file) w.frames (moved s s.object m.answer.pc s.odepth) left (follows m.answer.end)
            (follows_fine x (count_of file) m.answer.end (run_fine x file s.object steps s.pc w.regs sound good.here sized))
            (record { here = good.here; objects = good.objects; object_rooms = good.object_rooms; titles = good.titles; title_rooms = good.title_rooms; entry = good.entry }),
        run_sized 4096 128 (commands_of file s.object) steps 0 s.pc w.regs sized,
      )

  continue_safe : (n : ℕ) (u : Turn) (v : World Turn) (more : World Session → World RunEnd) → SafeTurn x n t u v.frames → Sized 4096 128 v.regs
      → ((w : World Session) → Good n w.frames t w.it → Sized 4096 128 w.regs → SafeEnd x n t (more w)) → SafeEnd x n t (continued u v more)
  continue_safe n (T.Stop s o) v more h sized k = (h.0, h.1, sized)
  continue_safe n (T.Go s) v more h sized k = k (world s v.regs v.frames) h sized

  drive_safe : (left : ℕ) (w : World Session) → Good (count_of file) w.frames t w.it → Sized 4096 128 w.regs
      → SafeEnd x (count_of file) t (drive_of file steps left w)
  unfolding drive_of
  drive_safe zero w good sized =
      let h = turn_safe 0 w good sized in
      continue_safe (count_of file) (turn_of file steps 0 w).it (turn_of file steps 0 w)
      (λ v. world (ended R.BudgetExhausted v.it) v.regs v.frames) h.0 h.1 (λ v g z. (tt, g, z))
  drive_safe (suc left) w good sized =
      let h = turn_safe (suc left) w good sized in
      continue_safe (count_of file) (turn_of file steps (suc left) w).it (turn_of file steps (suc left) w) (drive_of file steps left) h.0 h.1
      (λ v g z. drive_safe left v g z)

-- The title side.

abbrev SafeTitle : ℕ → List ℕ → TitleTurn → List ℕ → Type 0
SafeTitle n f (M.Go s) t = Good n f t s
SafeTitle n f (M.Stop s o) t = NotBad o × Good n f t s

led_somewhere : (x : List ℕ) (n e : ℕ) → leads_nowhere x n e ≡ false → led_nowhere n (resolve_of x e) ≡ false
unfolding leads_nowhere
led_somewhere x n e h = h

enter_safe : (p f t : List ℕ) (n : ℕ) (s : Session) (e o : ℕ) → leb n o ≡ false → e ≤ 65537 → titles_live t n s.tdepth ≡ true → s.tdepth ≤ title_room t
    → SafeTitle n f (entered p n s e o).turn t
unfolding entered objects_live
enter_safe p f t n s e o h he l r =
    rw h (record { here = leb-false n o h; objects = refl; object_rooms = omega arith; titles = l; title_rooms = r; entry = he })

jump_led_safe : (p f t : List ℕ) (n : ℕ) (s : Session) (e : ℕ) (l : Option ℕ) → led_nowhere n l ≡ false → e ≤ 65537 → Good n f t s
    → SafeTitle n f (jump_led p n s e l).turn t
jump_led_safe p f t n s e None h he good = true_false h
jump_led_safe p f t n s e (Some o) h he good = enter_safe p f t n s e o h he good.titles good.title_rooms

call_led_safe : (p f t : List ℕ) (n : ℕ) (s : Session) (e : ℕ) (l : Option ℕ) → led_nowhere n l ≡ false → e ≤ 65537 → Good n f t s
    → SafeTitle n f (call_led p t n s e l).turn (call_led p t n s e l).titles
call_led_safe p f t n s e None h he good = true_false h
call_led_safe p f t n s e (Some o) h he good =
    by_test (leb (title_room t) s.tdepth)
    (λ e2. rw e2 (tt, good))
    (λ e2.
    let r : s.tdepth < title_room t = leb-false (title_room t) s.tdepth e2 in
    let x : TitleFrame = record { entry = s.entry; object = s.object; pc = s.pc } in
    rw e2
    (enter_safe p f (pushed_title t s.tdepth x) n (deeper s) e o h he
    (titles_push t n s.tdepth x r good.entry good.here good.titles)
    (simp length-set (omega arith))))

return_title_safe : (p f t : List ℕ) (n : ℕ) (s : Session) (left : ℕ) → Good n f t s → SafeTitle n f (driver.returned p t s left).turn t
unfolding driver.returned
return_title_safe p f t n s left good =
    by_test (eqb s.tdepth 0)
    (λ e. rw e (tt, good))
    (λ e.
    let q = popped_title t n s.tdepth (positive s.tdepth e) good.titles in
    let r : s.tdepth ≤ title_room t = good.title_rooms in
    by_test (eqb left 0)
    (λ e2. rw (e, e2)
    (tt, record { here = good.here; objects = good.objects; object_rooms = good.object_rooms; titles = q.2; title_rooms = omega arith; entry = good.entry }))
    (λ e2. rw (e, e2)
    (record { here = q.1; objects = good.objects; object_rooms = good.object_rooms; titles = q.2; title_rooms = omega arith; entry = q.0 })))

wait_safe : (f t : List ℕ) (n : ℕ) (s : Session) → Good n f t s → Good n f t (waiting s)
wait_safe f t n s good =
    record { here = good.here; objects = good.objects; object_rooms = good.object_rooms; titles = good.titles; title_rooms = good.title_rooms; entry = good.entry }

title_low : (k : ℕ) → k % 65536 ≤ 65537
title_low k = omega arith

-- what follows an outcome of the runner, where it asks for nothing that the disc lacks
abbrev TitleFine : List ℕ → ℕ → TitleFollow → Type 0
TitleFine x n N.Return = Unit {0}
TitleFine x n (N.Jump t) = leads_nowhere x n (t % 65536) ≡ false
TitleFine x n (N.Call t) = leads_nowhere x n (t % 65536) ≡ false
TitleFine x n (N.Yield o) = NotBad o
TitleFine x n (N.End o) = NotBad o

title_asked_fine : (x : List ℕ) (n : ℕ) (q : NavRequest) → lacks x n q ≡ false → TitleFine x n (driver.asked q)
title_asked_fine x n (Q.JumpObject o) h = tt
title_asked_fine x n (Q.CallObject o) h = tt
title_asked_fine x n Q.Resume h = tt
title_asked_fine x n (Q.JumpTitle t) h = h
title_asked_fine x n (Q.CallTitle t) h = h
title_asked_fine x n (Q.PlayPlayList p) h = tt
title_asked_fine x n (Q.PlayPlayListAtPlayItem p i) h = tt
title_asked_fine x n (Q.PlayPlayListAtMark p m) h = tt
title_asked_fine x n Q.TerminatePlayList h = tt
title_asked_fine x n (Q.LinkPlayItem i) h = tt
title_asked_fine x n (Q.LinkMark m) h = tt
title_asked_fine x n (Q.SetSystem op a b) h = tt

outcome_fine : (x : List ℕ) (n : ℕ) (o : RunOutcome) → OutFine x n o → TitleFine x n (driver.follows o)
outcome_fine x n R.Finished h = tt
outcome_fine x n (R.Request q) h = title_asked_fine x n q h
outcome_fine x n (R.BadObject o) h = absurd h
outcome_fine x n R.BudgetExhausted h = tt
outcome_fine x n R.ObjectStackFull h = tt

title_act_safe : (p f t x : List ℕ) (n : ℕ) (s : Session) (left : ℕ) (next : TitleFollow) → TitleFine x n next → Good n f t s
    → SafeTitle n f (driver.acted p t x n s left next).turn (driver.acted p t x n s left next).titles
unfolding driver.jumped driver.called
title_act_safe p f t x n s left N.Return h good = return_title_safe p f t n s left good
title_act_safe p f t x n s left (N.Jump k) h good =
    by_test (eqb left 0) (λ e. rw e (tt, good))
    (λ e. rw e (jump_led_safe p f t n s (k % 65536) (resolve_of x (k % 65536)) (led_somewhere x n (k % 65536) h) (title_low k) good))
title_act_safe p f t x n s left (N.Call k) h good =
    by_test (eqb left 0) (λ e. rw e (tt, good))
    (λ e. rw e (call_led_safe p f t n s (k % 65536) (resolve_of x (k % 65536)) (led_somewhere x n (k % 65536) h) (title_low k) good))
title_act_safe p f t x n s left (N.Yield o) h good = (h, wait_safe f t n s good)
title_act_safe p f t x n s left (N.End o) h good = (h, good)

-- the title side writes register 4 alone, so the lengths stay
enter_long : (p : List ℕ) (n : ℕ) (s : Session) (e o : ℕ) → length (entered p n s e o).status ≡ length p
unfolding entered
enter_long p n s e o = length-set p 4 (title_value e)

jump_led_long : (p : List ℕ) (n : ℕ) (s : Session) (e : ℕ) (l : Option ℕ) → length (jump_led p n s e l).status ≡ length p
jump_led_long p n s e None = refl
jump_led_long p n s e (Some o) = enter_long p n s e o

call_led_long : (p t : List ℕ) (n : ℕ) (s : Session) (e : ℕ) (l : Option ℕ) → length (call_led p t n s e l).status ≡ length p
call_led_long p t n s e None = refl
call_led_long p t n s e (Some o) =
    by_test (leb (title_room t) s.tdepth) (λ b. rw b) (λ b. rw b (enter_long p n (deeper s) e o))

act_long : (p t x : List ℕ) (n : ℕ) (s : Session) (left : ℕ) (next : TitleFollow) → length (driver.acted p t x n s left next).status ≡ length p
unfolding driver.returned driver.jumped driver.called
act_long p t x n s left N.Return =
    by_test (eqb s.tdepth 0) (λ a. rw a)
    (λ a. by_test (eqb left 0) (λ b. rw (a, b)) (λ b. rw (a, b) (length-set p 4 (title_value (title_frame t (s.tdepth - 1)).entry))))
act_long p t x n s left (N.Jump k) =
    by_test (eqb left 0) (λ a. rw a) (λ a. rw a (jump_led_long p n s (k % 65536) (resolve_of x (k % 65536))))
act_long p t x n s left (N.Call k) =
    by_test (eqb left 0) (λ a. rw a) (λ a. rw a (call_led_long p t n s (k % 65536) (resolve_of x (k % 65536))))
act_long p t x n s left (N.Yield o) = refl
act_long p t x n s left (N.End o) = refl

abbrev SafeDrive : ℕ → Rooms DriveEnd → Type 0
SafeDrive n w = NotBad w.it.outcome × Good n w.frames w.titles w.it.session

abbrev SafeRooms : ℕ → Rooms TitleTurn → Type 0
SafeRooms n w = SafeTitle n w.frames w.it w.titles × Sized 4096 128 w.regs

module _ (x file : List ℕ) (sound : Sound x file) (b : Budgets) where
  title_turn_safe : (left : ℕ) (w : Rooms Session) → Good (count_of file) w.frames w.titles w.it → Sized 4096 128 w.regs
      → SafeRooms (count_of file) (driver.turn_of x file b left w)
  unfolding driver.turn_of
  title_turn_safe left w good sized =
      let m = drive_of file b.steps b.objects (object_side w) in
      let k = drive_safe x file w.titles sound b.steps b.objects (object_side w) good sized in
      let s = m.it.session in
      let next = driver.follows m.it.outcome in (
        title_act_safe m.regs.status m.frames w.titles x (count_of file) s left next (outcome_fine x (count_of file) m.it.outcome k.0) k.1,
        (k.2.0, act_long m.regs.status w.titles x (count_of file) s left next ∙ k.2.1),
      )

  continue_title_safe : (n : ℕ) (u : TitleTurn) (v : Rooms TitleTurn) (more : Rooms Session → Rooms DriveEnd) → SafeTitle n v.frames u v.titles
      → Sized 4096 128 v.regs → ((w : Rooms Session) → Good n w.frames w.titles w.it → Sized 4096 128 w.regs → SafeDrive n (more w))
      → SafeDrive n (driver.continued u v more)
  continue_title_safe n (M.Stop s o) v more h sized k = h
  continue_title_safe n (M.Go s) v more h sized k = k (rooms s v.regs v.frames v.titles) h sized

  titles_safe : (left : ℕ) (w : Rooms Session) → Good (count_of file) w.frames w.titles w.it → Sized 4096 128 w.regs
      → SafeDrive (count_of file) (titles_of x file b left w)
  unfolding titles_of
  titles_safe zero w good sized =
      let h = title_turn_safe 0 w good sized in
      continue_title_safe (count_of file) (driver.turn_of x file b 0 w).it (driver.turn_of x file b 0 w)
      (λ v. rooms (driver.ended D.BudgetExhausted v.it) v.regs v.frames v.titles) h.0 h.1 (λ v g z. (tt, g))
  titles_safe (suc left) w good sized =
      let h = title_turn_safe (suc left) w good sized in
      continue_title_safe (count_of file) (driver.turn_of x file b (suc left) w).it (driver.turn_of x file b (suc left) w) (titles_of x file b left) h.0 h.1
      (λ v g z. titles_safe left v g z)

  led_safe : (e : ℕ) (w : Rooms Session) (l : Option ℕ) → e ≤ 65537 → led_nowhere (count_of file) l ≡ false → Sized 4096 128 w.regs
      → SafeDrive (count_of file) (start_led x file b e w l)
  unfolding titles_live
  led_safe e w None he h sized = true_false h
  led_safe e w (Some o) he h sized =
      let p = w.regs.status in
      continue_title_safe (count_of file) (entered p (count_of file) (cleared w.it) e o).turn
      (arrived w (entered p (count_of file) (cleared w.it) e o)) (titles_of x file b b.titles)
      (enter_safe p w.frames w.titles (count_of file) (cleared w.it) e o h he refl (omega arith))
      (sized.0, enter_long p (count_of file) (cleared w.it) e o ∙ sized.1)
      (λ v g z. titles_safe b.titles v g z)

-- The calls: what a call that is not refused was handed, and what it leaves.

-- the registers are 4,096 and 128 numbers, and the start is one
pub record Handed (start : Start) (w : Rooms Session) : Type 0 where
  pub sized : Sized 4096 128 w.regs
  pub begins : start_verdict start ≡ Ok tt

handed : (x file : List ℕ) (b : Budgets) (start : Start) (w : Rooms Session) → verdict_for x file b start w ≡ Ok tt → Handed start w
unfolding verdict_for
handed x file b start w h =
    let one = both_fine (buffers_verdict w.regs.general w.regs.status w.frames w.titles) _ h in
    let two = both_fine (budgets_verdict b) _ one.1 in
    record { sized = buffers_banks w.regs.general w.regs.status w.frames w.titles one.0; begins = (both_fine (start_verdict start) _ two.1).0 }

entry_low : (e : ℕ) → start_verdict (Entry e) ≡ Ok tt → e ≤ 65537
unfolding entry_verdict
entry_low e h =
    by_test (ltb 65537 e)
    (λ b. let z : (Err NotAnEntry) ≡ Ok tt = rw b at h in let y : ◌≡◌ {A = ℕ} 0 1 = cc in absurd (omega arith))
    (λ b. ltb-false 65537 e b)

abbrev SafeAnswer : ℕ → Result DriveEnd Refusal → List ℕ → List ℕ → Type 0
SafeAnswer n (Err r) f t = Unit {0}
SafeAnswer n (Ok d) f t = NotBad d.outcome × Good n f t d.session

answered_safe : (n : ℕ) (v : Verdict) (d : Rooms DriveEnd) (w : Rooms Session) → (v ≡ Ok tt → SafeDrive n d)
    → SafeAnswer n (answered v d w).it (answered v d w).frames (answered v d w).titles
answered_safe n (Ok u) d w h = h refl
answered_safe n (Err r) d w h = tt

not_bad : (n : ℕ) (a : Result DriveEnd Refusal) (f t : List ℕ) → SafeAnswer n a f t → NeverBadAnswer a
not_bad n (Err r) f t h = tt
not_bad n (Ok d) f t h = h.0

module _ (x file : List ℕ) (sound : Sound x file) where
  run_safe : (b : Budgets) (e : ℕ) (w : Rooms Session) → leads_nowhere x (count_of file) e ≡ false
      → SafeAnswer (count_of file) (answer_of x file b (Entry e) w).it (answer_of x file b (Entry e) w).frames (answer_of x file b (Entry e) w).titles
  unfolding answer_of start_of
  run_safe b e w h =
      answered_safe (count_of file) (verdict_for x file b (Entry e) w) (start_of x file b e w) w
      (λ fine.
      let given = handed x file b (Entry e) w fine in
      led_safe x file sound b e w (resolve_of x e) (entry_low e given.begins) (led_somewhere x (count_of file) e h) given.sized)

  resume_safe : (b : Budgets) (w : Rooms Session) → Good (count_of file) w.frames w.titles w.it
      → SafeAnswer (count_of file) (answer_of x file b Here w).it (answer_of x file b Here w).frames (answer_of x file b Here w).titles
  unfolding answer_of go_on_of
  resume_safe b w good =
      answered_safe (count_of file) (verdict_for x file b Here w) (go_on_of x file b w) w
      (λ fine. either_way (SafeDrive (count_of file)) w.it.pending
      {x = titles_of x file b b.titles (rooms (taken w.it) w.regs w.frames w.titles)}
      {y = rooms (driver.ended D.Finished w.it) w.regs w.frames w.titles}
      (titles_safe x file sound b b.titles (rooms (taken w.it) w.regs w.frames w.titles)
      (record { here = good.here; objects = good.objects; object_rooms = good.object_rooms; titles = good.titles; title_rooms = good.title_rooms; entry = good.entry })
      (handed x file b Here w fine).sized)
      (tt, good))

  driven_good : (s : Session) (f t : List ℕ) → Driven x file s f t → Good (count_of file) f t s
  driven_good s f t (started b e w d h q) = (rw q at (run_safe b e w h)).1
  driven_good s f t (resumed b s₀ r f₀ t₀ d before q) = (rw q at (resume_safe b (rooms s₀ r f₀ t₀) (driven_good s₀ f₀ t₀ before))).1

-- a good session is never refused
accepted : (f t : List ℕ) (n : ℕ) (s : Session) → Good n f t s → session_verdict f t n s s.pending ≡ Ok tt
unfolding session_verdict live_verdict
accepted f t n s good =
    rw (le-ltb (object_room f) s.odepth good.object_rooms, le-ltb (title_room t) s.tdepth good.title_rooms, le-ltb 65537 s.entry good.entry)
    (by_test s.pending
    (λ p. rw (p, lt-leb n s.object good.here, good.objects, good.titles))
    (λ p. rw p))

pub never_bad : NeverBad
never_bad x file h =
    let fine : Sound x file = sound x file (passed_first x file h) in
    record {
      runs = λ b e w leads. not_bad (count_of file) (answer_of x file b (Entry e) w).it _ _ (run_safe x file fine b e w leads);
      resumes = λ b s r f t driven.
          not_bad (count_of file) (answer_of x file b Here (rooms s r f t)).it _ _ (resume_safe x file fine b (rooms s r f t) (driven_good x file fine s f t driven));
      good = driven_good x file fine;
      accepted = λ s f t driven. accepted f t (count_of file) s (driven_good x file fine s f t driven);
    }
