-- Examples of runs of objects (document 01, "Objects and titles"). Assumes nothing.
use Rattle.std.specs.Prelude.{◌≡◌, refl, false, List, [], ◌∷◌, ◌++◌, ℕ, Err, None, Ok, Option, Result, Some}
use Rattle.error.specs.declared.Refusal.TheVariants.{BadSession}
use Rattle.common.specs.Rules.{be2, be4, bytes2, bytes4, header_of}
use Rattle.nav_command.specs.Rules.{branch_of, operand_of, command_of}
use Rattle.vm.specs.Rules.{banks, acted, exec_of, step_of, run_from, run_of}
use Rattle.movie_object.specs.Rules.{count_of, next, place, body_of, verdict_of, commands_of}
use Rattle.session.specs.declared.Session.{Session}
use Rattle.session.specs.Rules.{session, fresh, buffers_verdict, budgets_verdict, objects_live, titles_live, live_verdict, session_verdict}
use Rattle.mobj_runner.specs.declared.RunOutcome.{RunOutcome}
use Rattle.mobj_runner.specs.declared.RunOutcome.TheVariants.{Finished, BudgetExhausted, ObjectStackFull}
use Rattle.mobj_runner.specs.declared.Start.TheVariants.{Object, Here}
use Rattle.mobj_runner.specs.Rules.{World, world, ended, returned, jumped, called, turn_of, drive_of, start_of, verdict_for, answer_of}
use Rattle.mobj_runner_examples.specs.Discs.{general, status, jump_object, call_object, object, objects}
use Rattle.error.specs.declared.Refusal.{Refusal}
use Rattle.mobj_runner.specs.declared.RunEnd.{RunEnd}

-- what the examples compute with
opened : Unit {0}
unfolding be2 be4 bytes2 bytes4 header_of branch_of operand_of command_of acted exec_of step_of run_from run_of count_of next place body_of verdict_of commands_of buffers_verdict budgets_verdict objects_live titles_live live_verdict session_verdict returned jumped called turn_of drive_of start_of verdict_for answer_of
opened = tt

-- object 0 calls itself, 1 calls 2, 2 jumps to 3, and 3 has no commands
abbrev file : List ℕ
file = objects 4 (object 1 (call_object 0) ++ object 1 (call_object 2) ++ object 1 (jump_object 3) ++ object 0 [])

-- a run of an object with budgets of so many steps and objects, from a fresh session and fresh banks, and what it leaves
abbrev run : ℕ → ℕ → ℕ → List ℕ → World (Result RunEnd Refusal)
run o steps objects f = answer_of file (record { steps = steps; objects = objects; titles = 0 }) [] (Object o) (world fresh (banks general status) f)

abbrev leaves : RunOutcome → Session → List ℕ → World (Result RunEnd Refusal)
leaves outcome s f = world (Ok (ended outcome s)) (banks general status) f

-- a resume of a session with budgets of one step and no object
abbrev resume : Session → World (Result RunEnd Refusal)
resume s = answer_of file (record { steps = 1; objects = 0; titles = 0 }) [] Here (world s (banks general status) [])

-- Object budget 0 meeting CallObject 0 exhausts, depth 0.
pub call_over_budget : run 0 1 0 (7 ∷ 7 ∷ []) ≡ leaves BudgetExhausted (session 65536 0 1 0 0 false) (7 ∷ 7 ∷ [])
unfolding opened
call_over_budget = refl

-- Every transition is charged before it takes effect.
pub jump_over_budget : run 2 1 0 [] ≡ leaves BudgetExhausted (session 65536 2 1 0 0 false) []
unfolding opened
jump_over_budget = refl

-- A drive goes on until a turn stops: object 2 jumps, charged, to object 3, which ends.
pub driven : drive_of file 1 1 (world (session 65536 2 0 0 0 false) (banks general status) []) ≡ world (ended Finished (session 65536 3 0 0 0 false)) (banks general status) []
unfolding opened
driven = refl

-- Object stack full: nothing is pushed, pc stays past the call.
pub full_stack : run 0 1 2 (7 ∷ 7 ∷ []) ≡ leaves ObjectStackFull (session 65536 0 1 1 0 false) (0 ∷ 1 ∷ [])
unfolding opened
full_stack = refl

-- JumpObject keeps the object frames: object 3 returns to object 1.
pub jump_in_a_call : run 1 1 3 (7 ∷ 7 ∷ []) ≡ leaves Finished (session 65536 1 1 0 0 false) (1 ∷ 1 ∷ [])
unfolding opened
jump_in_a_call = refl

-- Over budget with a return's frame already popped.
pub return_over_budget : run 1 1 2 (7 ∷ 7 ∷ []) ≡ leaves BudgetExhausted (session 65536 3 0 0 0 false) (1 ∷ 1 ∷ [])
unfolding opened
return_over_budget = refl

-- A spent step budget halts, before fetching, and is not budget exhausted.
pub no_steps : run 0 0 0 [] ≡ leaves Finished (session 65536 0 0 0 0 false) []
unfolding opened
no_steps = refl

-- The runner's resume goes on from where the session stands: here past the call.
pub resume_past_the_call : resume (session 65536 0 1 0 0 false) ≡ leaves Finished (session 65536 0 1 0 0 false) []
unfolding opened
resume_past_the_call = refl

-- It is checked as if pending: with its object off the disc it is a bad session.
pub resume_off_the_disc : resume (session 65536 4 0 0 0 false) ≡ world (Err BadSession) (banks general status) []
unfolding opened
resume_off_the_disc = refl
