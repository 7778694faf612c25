-- Drives of titles: a turn, a drive of turns, and the driver's calls (document 01, "Objects and titles"). Assumes nothing.
use Rattle.std.specs.Prelude.{true, false, cond, List, ℕ, zero, suc, ◌+◌, ◌-◌, ◌%◌, eqb, leb, ltb, set, Err, None, Ok, Option, Result, Some}
use Rattle.error.specs.Rules.{first_of, Verdict}
use Rattle.index_bdmv.specs.Rules.{resolve_of, verdict_of as indexVerdict}
use Rattle.movie_object.specs.Rules.{count_of, verdict_of as objectsVerdict}
use Rattle.session.specs.declared.Session.{Session}
use Rattle.session.specs.declared.Budgets.{Budgets}
use Rattle.session.specs.declared.TitleFrame.{TitleFrame}
use Rattle.session.specs.Rules.{session, title_frame, pushed_title, title_room, buffers_verdict, budgets_verdict, entry_verdict, session_verdict}
use Rattle.vm.specs.declared.NavRequest.{NavRequest}
use Rattle.vm.specs.declared.NavRequest.TheVariants as Q
use Rattle.vm.specs.Rules.{Banks, banks}
use Rattle.mobj_runner.specs.declared.RunOutcome.{RunOutcome}
use Rattle.mobj_runner.specs.declared.RunOutcome.TheVariants as R
use Rattle.mobj_runner.specs.declared.RunEnd.{RunEnd}
use Rattle.mobj_runner.specs.Rules.{World, world, drive_of}
use Rattle.nav_driver.specs.declared.DriveOutcome.{DriveOutcome}
use Rattle.nav_driver.specs.declared.DriveOutcome.TheVariants as D
use Rattle.nav_driver.specs.declared.Follow.{Follow}
use Rattle.nav_driver.specs.declared.Follow.TheVariants.{Return, Jump, Call, Yield, End}
use Rattle.nav_driver.specs.declared.Turn.{Turn}
use Rattle.nav_driver.specs.declared.Turn.TheVariants.{Go, Stop}
use Rattle.nav_driver.specs.declared.DriveEnd.{DriveEnd}
use Rattle.nav_driver.specs.declared.Start.{Start}
use Rattle.nav_driver.specs.declared.Start.TheVariants.{Entry, Here}
use Rattle.error.specs.declared.Refusal.{Refusal}

-- a title turn, and what the status registers then hold
pub record Seeded : Type 0 where
  pub turn : Turn
  pub status : List ℕ

abbrev pub seeded : Turn → List ℕ → Seeded
seeded m p = record { turn = m; status = p }

-- the same, and what the title frames then hold
pub record Titled : Type 0 where
  pub turn : Turn
  pub status : List ℕ
  pub titles : List ℕ

abbrev pub titled : Turn → List ℕ → List ℕ → Titled
titled m p t = record { turn = m; status = p; titles = t }

abbrev pub beside : List ℕ → Seeded → Titled
beside t m = titled m.turn m.status t

-- Register 4 gets the title number, 65,535 for top menu, 0 for first playback.
unfoldable pub title_value : ℕ → ℕ
title_value e = cond (ltb e 65536) e (cond (eqb e 65536) 0 65535)

-- What the end of the object side asks for. Play and other requests wait for a resume.

abbrev pub playing : ℕ → Option ℕ → Option ℕ → Follow
playing p item mark = Yield (D.Play (record { playlist = p; play_item = item; mark = mark }))

abbrev pub asked : NavRequest → Follow
asked (Q.JumpTitle t) = Jump t
asked (Q.CallTitle t) = Call t
asked Q.Resume = Return
asked (Q.PlayPlayList p) = playing p None None
asked (Q.PlayPlayListAtPlayItem p i) = playing p (Some i) None
asked (Q.PlayPlayListAtMark p m) = playing p None (Some m)
asked Q.TerminatePlayList = Yield (D.Request Q.TerminatePlayList)
asked (Q.LinkPlayItem i) = Yield (D.Request (Q.LinkPlayItem i))
asked (Q.LinkMark m) = Yield (D.Request (Q.LinkMark m))
asked (Q.SetSystem op x y) = Yield (D.Request (Q.SetSystem op x y))
asked (Q.JumpObject o) = Yield (D.Request (Q.JumpObject o))
asked (Q.CallObject o) = Yield (D.Request (Q.CallObject o))

abbrev pub follows : RunOutcome → Follow
follows R.Finished = Return
follows (R.Request q) = asked q
follows (R.BadObject o) = End (D.BadObject o)
follows R.BudgetExhausted = End D.BudgetExhausted
follows R.ObjectStackFull = End D.ObjectStackFull

-- Starting an entry's object: entry and register 4, then the object, which clears the object frames unless it is a bad one.
unfoldable pub entered : List ℕ → ℕ → Session → ℕ → ℕ → Seeded
entered p n s e o =
    seeded
    (cond (leb n o) (Stop (session e s.object s.pc s.odepth s.tdepth s.pending) (D.BadObject o))
    (Go (session e o 0 0 s.tdepth s.pending)))
    (set p 4 (title_value e))

-- JumpTitle: charge, then the title, cut to its low 16 bits, or bad title, then start.

abbrev pub jump_led : List ℕ → ℕ → Session → ℕ → Option ℕ → Seeded
jump_led p n s title None = seeded (Stop s (D.BadTitle title)) p
jump_led p n s title (Some o) = entered p n s title o

unfoldable pub jumped : List ℕ → List ℕ → ℕ → Session → ℕ → ℕ → Seeded
jumped p x n s to left =
    cond (eqb left 0) (seeded (Stop s D.BudgetExhausted) p) (jump_led p n s (to % 65536) (resolve_of x (to % 65536)))

-- CallTitle: charge, title, then room or title stack full, then push, then start.

abbrev pub frame_of : Session → TitleFrame
frame_of s = record { entry = s.entry; object = s.object; pc = s.pc }

abbrev pub deeper : Session → Session
deeper s = session s.entry s.object s.pc s.odepth (s.tdepth + 1) s.pending

abbrev pub call_led : List ℕ → List ℕ → ℕ → Session → ℕ → Option ℕ → Titled
call_led p t n s title None = titled (Stop s (D.BadTitle title)) p t
call_led p t n s title (Some o) =
    cond (leb (title_room t) s.tdepth) (titled (Stop s D.TitleStackFull) p t)
    (beside (pushed_title t s.tdepth (frame_of s)) (entered p n (deeper s) title o))

unfoldable pub called : List ℕ → List ℕ → List ℕ → ℕ → Session → ℕ → ℕ → Titled
called p t x n s to left =
    cond (eqb left 0) (titled (Stop s D.BudgetExhausted) p t) (call_led p t n s (to % 65536) (resolve_of x (to % 65536)))

-- When the objects finish, a title frame is popped, charged: entry, register 4, object and pc. Without one the drive finishes.

abbrev pub popped : Session → Session
popped s = session s.entry s.object s.pc s.odepth (s.tdepth - 1) s.pending

abbrev pub given : Session → TitleFrame → Session
given s x = session x.entry x.object x.pc s.odepth (s.tdepth - 1) s.pending

unfoldable pub returned : List ℕ → List ℕ → Session → ℕ → Seeded
returned p t s left =
    cond (eqb s.tdepth 0) (seeded (Stop s D.Finished) p)
    (cond (eqb left 0) (seeded (Stop (popped s) D.BudgetExhausted) p)
    (seeded (Go (given s (title_frame t (s.tdepth - 1)))) (set p 4 (title_value (title_frame t (s.tdepth - 1)).entry))))

abbrev pub waiting : Session → Session
waiting s = session s.entry s.object s.pc s.odepth s.tdepth true

abbrev pub acted : List ℕ → List ℕ → List ℕ → ℕ → Session → ℕ → Follow → Titled
acted p t x n s left Return = beside t (returned p t s left)
acted p t x n s left (Jump to) = beside t (jumped p x n s to left)
acted p t x n s left (Call to) = called p t x n s to left
acted p t x n s left (Yield o) = titled (Stop (waiting s) o) p t
acted p t x n s left (End o) = titled (Stop s o) p t

-- a value, and what the lent registers and both frame rooms hold
pub record Rooms (A : Type 0) : Type 0 where
  pub it : A
  pub regs : Banks
  pub frames : List ℕ
  pub titles : List ℕ

abbrev pub rooms : {A : Type 0} → A → Banks → List ℕ → List ℕ → Rooms A
rooms a r f t = record { it = a; regs = r; frames = f; titles = t }

-- One title turn: the object side, with its transitions counted anew, and what follows its end.

abbrev pub joined : World RunEnd → Titled → Rooms Turn
joined m a = rooms a.turn (banks m.regs.general a.status) m.frames a.titles

abbrev pub acting : List ℕ → List ℕ → ℕ → ℕ → World RunEnd → Rooms Turn
acting t x n left m = joined m (acted m.regs.status t x n m.it.session left (follows m.it.outcome))

abbrev pub object_side : Rooms Session → World Session
object_side w = world w.it w.regs w.frames

unfoldable pub turn_of : List ℕ → List ℕ → Budgets → ℕ → Rooms Session → Rooms Turn
turn_of x file b left w = acting w.titles x (count_of file) left (drive_of file b.steps b.objects (object_side w))

-- A drive with so many title transitions left: a turn that stops ends it, one that goes on is followed by the rest; none goes on at 0.

abbrev pub ended : DriveOutcome → Session → DriveEnd
ended o s = record { outcome = o; session = s }

abbrev pub continued : Turn → Rooms Turn → (Rooms Session → Rooms DriveEnd) → Rooms DriveEnd
continued (Stop s o) t more = rooms (ended o s) t.regs t.frames t.titles
continued (Go s) t more = more (rooms s t.regs t.frames t.titles)

unfoldable pub titles_of : List ℕ → List ℕ → Budgets → ℕ → Rooms Session → Rooms DriveEnd
titles_of x file b zero w =
    continued (turn_of x file b zero w).it (turn_of x file b zero w)
    (λ v. rooms (ended D.BudgetExhausted v.it) v.regs v.frames v.titles)
titles_of x file b (suc left) w =
    continued (turn_of x file b (suc left) w).it (turn_of x file b (suc left) w) (titles_of x file b left)

-- `run` clears the title frames and pending first; a non-title entry that doesn't resolve answers bad title 65,535.

unfoldable pub bad_number : ℕ → ℕ
bad_number e = cond (ltb e 65536) e 65535

abbrev pub cleared : Session → Session
cleared s = session s.entry s.object s.pc s.odepth 0 false

abbrev pub arrived : Rooms Session → Seeded → Rooms Turn
arrived w m = rooms m.turn (banks w.regs.general m.status) w.frames w.titles

abbrev pub start_led : List ℕ → List ℕ → Budgets → ℕ → Rooms Session → Option ℕ → Rooms DriveEnd
start_led x file b e w None = rooms (ended (D.BadTitle (bad_number e)) (cleared w.it)) w.regs w.frames w.titles
start_led x file b e w (Some o) =
    continued (entered w.regs.status (count_of file) (cleared w.it) e o).turn
    (arrived w (entered w.regs.status (count_of file) (cleared w.it) e o))
    (titles_of x file b b.titles)

unfoldable pub start_of : List ℕ → List ℕ → Budgets → ℕ → Rooms Session → Rooms DriveEnd
start_of x file b e w = start_led x file b e w (resolve_of x e)

-- `resume` without pending answers finished, and otherwise clears it first.

abbrev pub taken : Session → Session
taken s = session s.entry s.object s.pc s.odepth s.tdepth false

unfoldable pub go_on_of : List ℕ → List ℕ → Budgets → Rooms Session → Rooms DriveEnd
go_on_of x file b w =
    cond w.it.pending
    (titles_of x file b b.titles (rooms (taken w.it) w.regs w.frames w.titles))
    (rooms (ended D.Finished w.it) w.regs w.frames w.titles)

abbrev pub begun : List ℕ → List ℕ → Budgets → Rooms Session → Start → Rooms DriveEnd
begun x file b w (Entry e) = start_of x file b e w
begun x file b w Here = go_on_of x file b w

-- The refusals of drives, in their order: 6, 7, 10, the index file, the object file, 8.

abbrev pub start_verdict : Start → Verdict
start_verdict (Entry e) = entry_verdict e
start_verdict Here = Ok tt

unfoldable pub verdict_for : List ℕ → List ℕ → Budgets → Start → Rooms Session → Verdict
verdict_for x file b start w =
    first_of (buffers_verdict w.regs.general w.regs.status w.frames w.titles)
    (first_of (budgets_verdict b)
    (first_of (start_verdict start)
    (first_of (indexVerdict x)
    (first_of (objectsVerdict file) (session_verdict w.frames w.titles (count_of file) w.it w.it.pending)))))

-- A refusal gives its number and leaves everything as it was.
abbrev pub answered : Verdict → Rooms DriveEnd → Rooms Session → Rooms (Result DriveEnd Refusal)
answered (Ok u) d w = rooms (Ok d.it) d.regs d.frames d.titles
answered (Err r) d w = rooms (Err r) w.regs w.frames w.titles

unfoldable pub answer_of : List ℕ → List ℕ → Budgets → Start → Rooms Session → Rooms (Result DriveEnd Refusal)
answer_of x file b start w = answered (verdict_for x file b start w) (begun x file b w start) w
