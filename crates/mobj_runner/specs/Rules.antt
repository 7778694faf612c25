-- Runs of objects: a turn, a drive of turns, and the runner's calls (document 01, "Objects and titles"). Assumes nothing.
use Rattle.std.specs.Prelude.{Bool, true, cond, List, ℕ, zero, suc, ◌+◌, ◌-◌, eqb, leb, Err, Ok, Result}
use Rattle.error.specs.Rules.{first_of, Verdict}
use Rattle.movie_object.specs.Rules.{count_of, commands_of, verdict_of}
use Rattle.session.specs.declared.Session.{Session}
use Rattle.session.specs.declared.Budgets.{Budgets}
use Rattle.session.specs.declared.ObjectFrame.{ObjectFrame}
use Rattle.session.specs.Rules.{session, object_frame, pushed_object, object_room, buffers_verdict, budgets_verdict, session_verdict}
use Rattle.vm.specs.declared.NavRequest.{NavRequest}
use Rattle.vm.specs.declared.NavRequest.TheVariants as Q
use Rattle.vm.specs.declared.End.{End}
use Rattle.vm.specs.declared.End.TheVariants as E
use Rattle.vm.specs.declared.Ran.{Ran}
use Rattle.vm.specs.Rules.{Banks, After, run_of as commandsRun}
use Rattle.mobj_runner.specs.declared.RunOutcome.{RunOutcome}
use Rattle.mobj_runner.specs.declared.RunOutcome.TheVariants as O
use Rattle.mobj_runner.specs.declared.Follow.{Follow}
use Rattle.mobj_runner.specs.declared.Follow.TheVariants.{Return, Jump, Call, Ask}
use Rattle.mobj_runner.specs.declared.Turn.{Turn}
use Rattle.mobj_runner.specs.declared.Turn.TheVariants.{Go, Stop}
use Rattle.mobj_runner.specs.declared.RunEnd.{RunEnd}
use Rattle.mobj_runner.specs.declared.Start.{Start}
use Rattle.mobj_runner.specs.declared.Start.TheVariants.{Object, Here}
use Rattle.error.specs.declared.Refusal.{Refusal}

-- a value, and what the lent registers and object frames hold
pub record World (A : Type 0) : Type 0 where
  pub it : A
  pub regs : Banks
  pub frames : List ℕ

abbrev pub world : {A : Type 0} → A → Banks → List ℕ → World A
world a r f = record { it = a; regs = r; frames = f }

-- a turn, and what the object frames then hold
pub record Framed : Type 0 where
  pub turn : Turn
  pub frames : List ℕ

abbrev pub framed : Turn → List ℕ → Framed
framed t f = record { turn = t; frames = f }

-- the session in another object, at another pc, with other object frames live
abbrev pub moved : Session → ℕ → ℕ → ℕ → Session
moved s o pc d = session s.entry o pc d s.tdepth s.pending

-- A halt, spent steps and Resume return. The runner follows jumps and calls of objects, and hands all else on.

abbrev pub asked : NavRequest → Follow
asked (Q.JumpObject o) = Jump o
asked (Q.CallObject o) = Call o
asked Q.Resume = Return
asked (Q.JumpTitle t) = Ask (Q.JumpTitle t)
asked (Q.CallTitle t) = Ask (Q.CallTitle t)
asked (Q.PlayPlayList p) = Ask (Q.PlayPlayList p)
asked (Q.PlayPlayListAtPlayItem p i) = Ask (Q.PlayPlayListAtPlayItem p i)
asked (Q.PlayPlayListAtMark p m) = Ask (Q.PlayPlayListAtMark p m)
asked Q.TerminatePlayList = Ask Q.TerminatePlayList
asked (Q.LinkPlayItem i) = Ask (Q.LinkPlayItem i)
asked (Q.LinkMark m) = Ask (Q.LinkMark m)
asked (Q.SetSystem op x y) = Ask (Q.SetSystem op x y)

abbrev pub follows : End → Follow
follows E.Halted = Return
follows E.Spent = Return
follows (E.Branch q) = asked q

-- A return pops an object frame, or finishes. It is charged with its frame already popped.
unfoldable pub returned : List ℕ → Session → ℕ → Turn
returned f s left =
    cond (eqb s.odepth 0) (Stop s O.Finished)
    (cond (eqb left 0) (Stop (moved s s.object s.pc (s.odepth - 1)) O.BudgetExhausted)
    (Go (moved s (object_frame f (s.odepth - 1)).object (object_frame f (s.odepth - 1)).pc (s.odepth - 1))))

-- JumpObject: charge, then object on disc or bad object; the object frames stay.
unfoldable pub jumped : ℕ → Session → ℕ → ℕ → Turn
jumped n s o left =
    cond (eqb left 0) (Stop s O.BudgetExhausted)
    (cond (leb n o) (Stop s (O.BadObject o)) (Go (moved s o 0 s.odepth)))

-- CallObject: charge, then object on disc or bad object, then room or object stack full, then push.
abbrev pub frame_of : Session → ObjectFrame
frame_of s = record { object = s.object; pc = s.pc }

unfoldable pub called : List ℕ → ℕ → Session → ℕ → ℕ → Framed
called f n s o left =
    cond (eqb left 0) (framed (Stop s O.BudgetExhausted) f)
    (cond (leb n o) (framed (Stop s (O.BadObject o)) f)
    (cond (leb (object_room f) s.odepth) (framed (Stop s O.ObjectStackFull) f)
    (framed (Go (moved s o 0 (s.odepth + 1))) (pushed_object f s.odepth (frame_of s)))))

abbrev pub acted : List ℕ → ℕ → Session → ℕ → Follow → Framed
acted f n s left Return = framed (returned f s left) f
acted f n s left (Jump o) = framed (jumped n s o left) f
acted f n s left (Call o) = called f n s o left
acted f n s left (Ask q) = framed (Stop s (O.Request q)) f

-- One turn: the object's commands, with their steps counted anew, and what follows their end.

abbrev pub joined : Banks → Framed → World Turn
joined r a = world a.turn r a.frames

abbrev pub acting : List ℕ → ℕ → Session → ℕ → After Ran → World Turn
acting f n s left ran =
    joined ran.regs (acted f n (moved s s.object ran.answer.pc s.odepth) left (follows ran.answer.end))

unfoldable pub turn_of : List ℕ → ℕ → ℕ → World Session → World Turn
turn_of file steps left w =
    acting w.frames (count_of file) w.it left (commandsRun (commands_of file w.it.object) steps 0 w.it.pc w.regs)

-- A drive with so many object transitions left: a turn that stops ends it, one that goes on is followed by the rest; none goes on at 0.

abbrev pub ended : RunOutcome → Session → RunEnd
ended o s = record { outcome = o; session = s }

abbrev pub continued : Turn → World Turn → (World Session → World RunEnd) → World RunEnd
continued (Stop s o) t more = world (ended o s) t.regs t.frames
continued (Go s) t more = more (world s t.regs t.frames)

unfoldable pub drive_of : List ℕ → ℕ → ℕ → World Session → World RunEnd
drive_of file steps zero w =
    continued (turn_of file steps zero w).it (turn_of file steps zero w)
    (λ v. world (ended O.BudgetExhausted v.it) v.regs v.frames)
drive_of file steps (suc left) w =
    continued (turn_of file steps (suc left) w).it (turn_of file steps (suc left) w) (drive_of file steps left)

-- Run starts any object, free of charge, and clears the object frames; one off the disc is bad object. Resume goes on from the session.

unfoldable pub start_of : List ℕ → Budgets → ℕ → World Session → World RunEnd
start_of file b o w =
    cond (leb (count_of file) o) (world (ended (O.BadObject o) w.it) w.regs w.frames)
    (drive_of file b.steps b.objects (world (moved w.it o 0 0) w.regs w.frames))

abbrev pub begun : List ℕ → Budgets → World Session → Start → World RunEnd
begun file b w (Object o) = start_of file b o w
begun file b w Here = drive_of file b.steps b.objects w

-- The runner's refusals, in their order: 6, 7, the object file, 8; its resume is checked as if pending.

abbrev pub waits : Session → Start → Bool
waits s (Object o) = s.pending
waits s Here = true

unfoldable pub verdict_for : List ℕ → Budgets → List ℕ → Bool → World Session → Verdict
verdict_for file b titles pending w =
    first_of (buffers_verdict w.regs.general w.regs.status w.frames titles)
    (first_of (budgets_verdict b)
    (first_of (verdict_of file) (session_verdict w.frames titles (count_of file) w.it pending)))

-- A refusal gives its number and leaves everything as it was.
abbrev pub answered : Verdict → World RunEnd → World Session → World (Result RunEnd Refusal)
answered (Ok u) d w = world (Ok d.it) d.regs d.frames
answered (Err r) d w = world (Err r) w.regs w.frames

unfoldable pub answer_of : List ℕ → Budgets → List ℕ → Start → World Session → World (Result RunEnd Refusal)
answer_of file b titles start w = answered (verdict_for file b titles (waits w.it start) w) (begun file b w start) w
