-- How a drive of objects unrolls, and what its tests tell. Assumes nothing.
use Rattle.std.specs.Prelude.{◌≡◌, ◌≤◌, Bool, List, eqb, get_or, length, Ok, Err}
use Rattle.std.proofs.Common.{sym, ap, ◌∙◌, arith, sub-one}
use Prim.Native.Nat.{ℕ, zero, suc, ◌-◌, ◌<◌}
use Rattle.common.specs.Rules.{be2}
use Rattle.laws.specs.Cases.{either_way}
use Rattle.movie_object.specs.Rules.{count_of, commands_of}
use Rattle.session.specs.declared.Session.{Session}
use Rattle.vm.specs.Rules.{Banks, run_of as commandsRun}
use Rattle.mobj_runner.specs.declared.RunOutcome.{RunOutcome}
use Rattle.mobj_runner.specs.declared.Follow.{Follow}
use Rattle.mobj_runner.specs.declared.Follow.TheVariants.{Return, Jump, Call, Ask}
use Rattle.mobj_runner.specs.declared.Turn.{Turn}
use Rattle.mobj_runner.specs.declared.Turn.TheVariants.{Go, Stop}
use Rattle.mobj_runner.specs.Rules.{World, world, follows, returned, jumped, called, acted, turn_of, drive_of, ended, verdict_for}
use Rattle.mobj_runner.specs.Pieces.{Settled}
use Rattle.error.specs.Rules.{Verdict}
use Rattle.error.specs.declared.Refusal.{Refusal}
use Rattle.error.specs.Laws.{both_fine}
use Rattle.session.specs.declared.Budgets.{Budgets}
use Rattle.session.specs.Rules.{buffers_verdict}
use Rattle.session.specs.Laws.{buffers_room}

stops : {s t : Session} {o : RunOutcome} → Stop s o ≡ Go t → ⊥
stops h = let z : ◌≡◌ {A = ℕ} 0 1 = cc in omega arith

-- with no transition left no turn goes on
act_spent : (f : List ℕ) (n : ℕ) (s : Session) (next : Follow) (t : Session) → (acted f n s 0 next).turn ≡ Go t → ⊥
unfolding returned jumped called
act_spent f n s Return t h = either_way (λ x. x ≡ Go t → ⊥) (eqb s.odepth 0) stops stops h
act_spent f n s (Jump o) t h = stops h
act_spent f n s (Call o) t h = stops h
act_spent f n s (Ask q) t h = stops h

pub turn_spent : (file : List ℕ) (steps : ℕ) (w : World Session) (t : Session) → (turn_of file steps 0 w).it ≡ Go t → ⊥
unfolding turn_of
turn_spent file steps w t h =
    act_spent _ _ _ (follows (commandsRun (commands_of file w.it.object) steps 0 w.it.pc w.regs).answer.end) t h

module _ (file : List ℕ) (steps : ℕ) where
  pub turn_charged : (left : ℕ) (w : World Session) (t : Session) → (turn_of file steps left w).it ≡ Go t → 0 < left
  turn_charged zero w t h = absurd (turn_spent file steps w t h)
  turn_charged (suc left) w t h = omega arith

  -- a turn that stops ends the drive, and one that goes on leaves the rest of it
  pub drive_stop : (left : ℕ) (w : World Session) (s : Session) (o : RunOutcome) (r : Banks) (f : List ℕ)
      → world (Stop s o) r f ≡ turn_of file steps left w → world (ended o s) r f ≡ drive_of file steps left w
  unfolding drive_of
  drive_stop zero w s o r f e = rw (← e)
  drive_stop (suc left) w s o r f e = rw (← e)

  pub drive_go : (left : ℕ) (w : World Session) (s : Session) (r : Banks) (f : List ℕ)
      → world (Go s) r f ≡ turn_of file steps left w → drive_of file steps (left - 1) (world s r f) ≡ drive_of file steps left w
  unfolding drive_of
  drive_go zero w s r f e = absurd (turn_spent file steps w s (ap (λ (x : World Turn). x.it) (sym e)))
  drive_go (suc left) w s r f e = rw (← e, sub-one)

-- a call that is refused settles nothing else
pub settled_refused : {file places gpr psr frames : List ℕ} {answer expected : Verdict} {r : Refusal} → answer ≡ Err r
    → expected ≡ Err r → Settled file places gpr psr frames answer expected
settled_refused p q =
    record {
      judged = p ∙ sym q;
      fine = λ h. let z : ◌≡◌ {A = ℕ} 0 1 = cc in absurd (omega arith);
      placed = λ h. let z : ◌≡◌ {A = ℕ} 0 1 = cc in absurd (omega arith);
      general = λ h. let z : ◌≡◌ {A = ℕ} 0 1 = cc in absurd (omega arith);
      status = λ h. let z : ◌≡◌ {A = ℕ} 0 1 = cc in absurd (omega arith);
      room = λ h. let z : ◌≡◌ {A = ℕ} 0 1 = cc in absurd (omega arith);
    }

-- what a call that is not refused has tested
pub opened_room : (file titles : List ℕ) (b : Budgets) (pending : Bool) (w : World Session) → verdict_for file b titles pending w ≡ Ok tt → length w.frames ≤ 131073
unfolding verdict_for
opened_room file titles b pending w e = (buffers_room _ _ _ _ (both_fine (buffers_verdict w.regs.general w.regs.status w.frames titles) _ e).0).0

-- the number of objects is one of two bytes
pub count_small : (file : List ℕ) → ((i : ℕ) → get_or file i 0 < 256) → count_of file < 65536
unfolding count_of be2
count_small file h = omega (arith, h 76, h 77)
