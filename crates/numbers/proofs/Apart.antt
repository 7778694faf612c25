-- A request and an outcome by their numbers, and so that two with the same numbers are equal. Assumes nothing.
use mathlib.Core.Path.{◌≡◌, refl, sym, ap, ◌∙◌}
use mathlib.Core.List.{List, [], ◌∷◌}
use Prim.Native.Nat.{ℕ}
use lib.ListN.{get_or}
use Rattle.nav_command.specs.declared.Operation.TheVariants.{Branch, Compare, Set, System, Unknown}
use Rattle.nav_command.specs.declared.SystemOp.TheVariants as Y
use Rattle.nav_numbers.specs.Rules.{sheet_named}
use Rattle.vm.specs.declared.NavRequest.{NavRequest}
use Rattle.vm.specs.declared.NavRequest.TheVariants as Q
use Rattle.mobj_runner.specs.declared.RunOutcome.{RunOutcome}
use Rattle.mobj_runner.specs.declared.RunOutcome.TheVariants as R
use Rattle.nav_driver.specs.declared.DriveOutcome.{DriveOutcome}
use Rattle.nav_driver.specs.declared.DriveOutcome.TheVariants as D
use Rattle.nav_driver.specs.declared.PlayRequest.{PlayRequest}
use Rattle.numbers.specs.declared.Request.{Request}
use Rattle.numbers.specs.Rules.{request, request_of, option_of, run_numbers, drive_numbers}
use Rattle.numbers.specs.Apart.{Made, MadeDrive, MadeRun, ToldApart}
use Rattle.std.specs.Prelude.{None, Option, Some}

-- ---- requests

system : Request → NavRequest
system r = Q.SetSystem (sheet_named r.op (Unknown 1 r.code)) r.first r.second

request_row : Request → List NavRequest
request_row r =
    system r
    ∷ system r
    ∷ system r
    ∷ system r
    ∷ Q.JumpObject r.first
    ∷ Q.JumpTitle r.first
    ∷ Q.CallObject r.first
    ∷ Q.CallTitle r.first
    ∷ Q.Resume
    ∷ Q.PlayPlayList r.first
    ∷ Q.PlayPlayListAtPlayItem r.first r.second
    ∷ Q.PlayPlayListAtMark r.first r.second
    ∷ Q.TerminatePlayList
    ∷ Q.LinkPlayItem r.first
    ∷ Q.LinkMark r.first
    ∷ []

request_from : Request → NavRequest
request_from r = get_or (request_row r) r.op (system r)

request_back : (q : NavRequest) → Made q → request_from (request_of q) ≡ q
unfolding request_from request_row system sheet_named
request_back (Q.JumpObject o) m = refl
request_back (Q.JumpTitle t) m = refl
request_back (Q.CallObject o) m = refl
request_back (Q.CallTitle t) m = refl
request_back Q.Resume m = refl
request_back (Q.PlayPlayList p) m = refl
request_back (Q.PlayPlayListAtPlayItem p i) m = refl
request_back (Q.PlayPlayListAtMark p k) m = refl
request_back Q.TerminatePlayList m = refl
request_back (Q.LinkPlayItem i) m = refl
request_back (Q.LinkMark k) m = refl
request_back (Q.SetSystem (Branch op) a b) m = absurd m
request_back (Q.SetSystem (Compare op) a b) m = absurd m
request_back (Q.SetSystem (Set op) a b) m = absurd m
request_back (Q.SetSystem (System Y.SetStream) a b) m = refl
request_back (Q.SetSystem (System Y.SetNvTimer) a b) m = refl
request_back (Q.SetSystem (System Y.SetButtonPage) a b) m = refl
request_back (Q.SetSystem (System Y.EnableButton) a b) m = refl
request_back (Q.SetSystem (System Y.DisableButton) a b) m = refl
request_back (Q.SetSystem (System Y.SetSecondaryStream) a b) m = refl
request_back (Q.SetSystem (System Y.PopUpOff) a b) m = refl
request_back (Q.SetSystem (System Y.StillOn) a b) m = refl
request_back (Q.SetSystem (System Y.StillOff) a b) m = refl
request_back (Q.SetSystem (System Y.SetOutputMode) a b) m = refl
request_back (Q.SetSystem (System Y.SetStreamSS) a b) m = refl
request_back (Q.SetSystem (Unknown sub code) a b) m = ap (λ (n : ℕ). Q.SetSystem (Unknown n code) a b) (sym m)

requests : (a b : NavRequest) → Made a → Made b → request_of a ≡ request_of b → a ≡ b
requests a b m n e = sym (request_back a m) ∙ ap request_from e ∙ request_back b n

-- ---- outcomes

option_from : ℕ → ℕ → Option ℕ
option_from kind n = get_or (None ∷ Some n ∷ []) kind None

option_back : (o : Option ℕ) → option_from (option_of o).kind (option_of o).value ≡ o
unfolding option_from
option_back None = refl
option_back (Some n) = refl

abbrev play : ℕ → Option ℕ → Option ℕ → PlayRequest
play p item mark = record { playlist = p; play_item = item; mark = mark }

drive_row : List ℕ → List DriveOutcome
drive_row l =
    D.Finished
    ∷ D.Play (play (get_or l 1 0) (option_from (get_or l 2 0) (get_or l 3 0)) (option_from (get_or l 4 0) (get_or l 5 0)))
    ∷ D.Request (request_from (request (get_or l 1 0) (get_or l 2 0) (get_or l 3 0) (get_or l 4 0)))
    ∷ D.BadTitle (get_or l 1 0)
    ∷ D.BadObject (get_or l 1 0)
    ∷ D.BudgetExhausted
    ∷ D.ObjectStackFull
    ∷ D.TitleStackFull
    ∷ []

drive_from : List ℕ → DriveOutcome
drive_from l = get_or (drive_row l) (get_or l 0 0) D.Finished

drive_back : (o : DriveOutcome) → MadeDrive o → drive_from (drive_numbers o) ≡ o
unfolding drive_from drive_row
drive_back D.Finished m = refl
drive_back (D.Play p) m =
    ap (λ (i : Option ℕ). D.Play (play p.playlist i (option_from (option_of p.mark).kind (option_of p.mark).value))) (option_back p.play_item)
    ∙ ap (λ (k : Option ℕ). D.Play (play p.playlist p.play_item k)) (option_back p.mark)
drive_back (D.Request q) m = ap D.Request (request_back q m)
drive_back (D.BadTitle t) m = refl
drive_back (D.BadObject o) m = refl
drive_back D.BudgetExhausted m = refl
drive_back D.ObjectStackFull m = refl
drive_back D.TitleStackFull m = refl

-- the runner's outcome, from the driver's of the same numbers
run_from : List ℕ → RunOutcome
run_from l =
    get_or
    (R.Finished
    ∷ R.Finished
    ∷ R.Request (request_from (request (get_or l 1 0) (get_or l 2 0) (get_or l 3 0) (get_or l 4 0)))
    ∷ R.Finished
    ∷ R.BadObject (get_or l 1 0)
    ∷ R.BudgetExhausted
    ∷ R.ObjectStackFull
    ∷ [])
    (get_or l 0 0)
    R.Finished

run_back : (o : RunOutcome) → MadeRun o → run_from (run_numbers o) ≡ o
unfolding run_from
run_back R.Finished m = refl
run_back (R.Request q) m = ap R.Request (request_back q m)
run_back (R.BadObject o) m = refl
run_back R.BudgetExhausted m = refl
run_back R.ObjectStackFull m = refl

drives : (a b : DriveOutcome) → MadeDrive a → MadeDrive b → drive_numbers a ≡ drive_numbers b → a ≡ b
drives a b m n e = sym (drive_back a m) ∙ ap drive_from e ∙ drive_back b n

runs : (a b : RunOutcome) → MadeRun a → MadeRun b → run_numbers a ≡ run_numbers b → a ≡ b
runs a b m n e = sym (run_back a m) ∙ ap run_from e ∙ run_back b n

pub told_apart : ToldApart
told_apart = (requests, drives, runs)
