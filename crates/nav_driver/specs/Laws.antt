-- How a drive of titles unrolls. Assumes nothing.
use Rattle.std.specs.Prelude.{◌≡◌, ◌≤◌, List, eqb, length, Ok, Err}
use Rattle.std.proofs.Common.{sym, ap, ◌∙◌, arith, sub-one}
use Prim.Native.Nat.{ℕ, zero, suc, ◌-◌, ◌<◌}
use Rattle.laws.specs.Cases.{either_way}
use Rattle.session.specs.declared.Session.{Session}
use Rattle.session.specs.declared.Budgets.{Budgets}
use Rattle.vm.specs.Rules.{Banks}
use Rattle.mobj_runner.specs.Rules.{drive_of}
use Rattle.nav_driver.specs.declared.DriveOutcome.{DriveOutcome}
use Rattle.nav_driver.specs.declared.Follow.{Follow}
use Rattle.nav_driver.specs.declared.Follow.TheVariants.{Return, Jump, Call, Yield, End}
use Rattle.nav_driver.specs.declared.Turn.{Turn}
use Rattle.nav_driver.specs.declared.Turn.TheVariants.{Go, Stop}
use Rattle.nav_driver.specs.Rules.{Seeded, follows, jumped, called, returned, acted, object_side, Rooms, rooms, turn_of, titles_of, ended, verdict_for}
use Rattle.nav_driver.specs.Pieces.{Settled}
use Rattle.error.specs.Rules.{Verdict}
use Rattle.error.specs.declared.Refusal.{Refusal}
use Rattle.error.specs.Laws.{both_fine}
use Rattle.session.specs.Rules.{buffers_verdict}
use Rattle.session.specs.Laws.{buffers_room}
use Rattle.nav_driver.specs.declared.Start.{Start}

stops : {s t : Session} {o : DriveOutcome} → Stop s o ≡ Go t → ⊥
stops h = let z : ◌≡◌ {A = ℕ} 0 1 = cc in omega arith

-- with no transition left no title turn goes on
act_spent : (p t x : List ℕ) (n : ℕ) (s : Session) (next : Follow) (r : Session) → (acted p t x n s 0 next).turn ≡ Go r → ⊥
unfolding jumped called returned
act_spent p t x n s Return r h = either_way (λ (m : Seeded). m.turn ≡ Go r → ⊥) (eqb s.tdepth 0) stops stops h
act_spent p t x n s (Jump to) r h = stops h
act_spent p t x n s (Call to) r h = stops h
act_spent p t x n s (Yield o) r h = stops h
act_spent p t x n s (End o) r h = stops h

pub turn_spent : (x file : List ℕ) (b : Budgets) (w : Rooms Session) (t : Session) → (turn_of x file b 0 w).it ≡ Go t → ⊥
unfolding turn_of
turn_spent x file b w t h = act_spent _ _ _ _ _ (follows (drive_of file b.steps b.objects (object_side w)).it.outcome) t h

module _ (x file : List ℕ) (b : Budgets) where
  pub turn_charged : (left : ℕ) (w : Rooms Session) (t : Session) → (turn_of x file b left w).it ≡ Go t → 0 < left
  turn_charged zero w t h = absurd (turn_spent x file b w t h)
  turn_charged (suc left) w t h = omega arith

  -- a turn that stops ends the drive, and one that goes on leaves the rest of it
  pub titles_stop : (left : ℕ) (w : Rooms Session) (s : Session) (o : DriveOutcome) (r : Banks) (f t : List ℕ)
      → rooms (Stop s o) r f t ≡ turn_of x file b left w → rooms (ended o s) r f t ≡ titles_of x file b left w
  unfolding titles_of
  titles_stop zero w s o r f t e = rw (← e)
  titles_stop (suc left) w s o r f t e = rw (← e)

  pub titles_go : (left : ℕ) (w : Rooms Session) (s : Session) (r : Banks) (f t : List ℕ)
      → rooms (Go s) r f t ≡ turn_of x file b left w → titles_of x file b (left - 1) (rooms s r f t) ≡ titles_of x file b left w
  unfolding titles_of
  titles_go zero w s r f t e = absurd (turn_spent x file b w s (ap (λ (v : Rooms Turn). v.it) (sym e)))
  titles_go (suc left) w s r f t e = rw (← e, sub-one)

-- a call that is refused settles nothing else
pub settled_refused : {x file places gpr psr frames titles : List ℕ} {answer expected : Verdict} {r : Refusal} → answer ≡ Err r
    → expected ≡ Err r → Settled x file places gpr psr frames titles answer expected
settled_refused p q =
    record {
      judged = p ∙ sym q;
      index = λ h. let z : ◌≡◌ {A = ℕ} 0 1 = cc in absurd (omega arith);
      fine = λ h. let z : ◌≡◌ {A = ℕ} 0 1 = cc in absurd (omega arith);
      placed = λ h. let z : ◌≡◌ {A = ℕ} 0 1 = cc in absurd (omega arith);
      general = λ h. let z : ◌≡◌ {A = ℕ} 0 1 = cc in absurd (omega arith);
      status = λ h. let z : ◌≡◌ {A = ℕ} 0 1 = cc in absurd (omega arith);
      room = λ h. let z : ◌≡◌ {A = ℕ} 0 1 = cc in absurd (omega arith);
    }

-- what a call that is not refused has tested
pub opened_rooms : (x file : List ℕ) (b : Budgets) (start : Start) (w : Rooms Session) → verdict_for x file b start w ≡ Ok tt → (length w.frames ≤ 131073) × (length w.titles ≤ 196610)
unfolding verdict_for
opened_rooms x file b start w e = buffers_room _ _ _ _ (both_fine (buffers_verdict w.regs.general w.regs.status w.frames w.titles) _ e).0
