-- Examples of sessions, budgets and frames (document 01, "Numbers and bounds"). Assumes nothing.
use Rattle.std.specs.Prelude.{◌≡◌, refl, true, false, List, [], ◌∷◌, ℕ, set, replicate, Err, Ok}
use Rattle.error.specs.declared.Refusal.TheVariants.{BadBuffer, BadBudget, BadSession, NotAnEntry}
use Rattle.session.specs.Rules.{session, fresh, defaults, object_frame, pushed_object, title_frame, pushed_title, buffers_verdict, budgets_verdict, entry_verdict, objects_live, titles_live, live_verdict, session_verdict}

-- A fresh one: 65,536, 0, 0, 0, 0, not pending.
pub fresh_session_shown : fresh ≡ record { entry = 65536; object = 0; pc = 0; odepth = 0; tdepth = 0; pending = false }
fresh_session_shown = refl

-- Budgets: the upper ends are the defaults.
pub default_budgets_shown : defaults ≡ record { steps = 1000000; objects = 100000; titles = 10000 }
default_budgets_shown = refl

-- Bad buffer: banks not 4,096 and 128 numbers. Frame room may be 0.
pub no_frame_room : buffers_verdict (replicate 4096 0) (replicate 128 0) [] [] ≡ Ok tt
unfolding buffers_verdict
no_frame_room = refl

pub status_bank_of_127 : buffers_verdict (replicate 4096 0) (replicate 127 0) [] [] ≡ Err BadBuffer
unfolding buffers_verdict
status_bank_of_127 = refl

-- Bad budget: a budget over its limit.
pub budgets_at_the_limit : budgets_verdict defaults ≡ Ok tt
unfolding budgets_verdict
budgets_at_the_limit = refl

pub objects_over_the_limit : budgets_verdict (record { steps = 0; objects = 100001; titles = 0 }) ≡ Err BadBudget
unfolding budgets_verdict
objects_over_the_limit = refl

-- Not an entry: over 65,537, which is the top menu.
pub entry_65537 : entry_verdict 65537 ≡ Ok tt
unfolding entry_verdict
entry_65537 = refl

pub entry_65538 : entry_verdict 65538 ≡ Err NotAnEntry
unfolding entry_verdict
entry_65538 = refl

-- Bad session: while pending, its object isn't on the disc; here of one object.
pub pending_off_the_disc : session_verdict [] [] 1 (session 65536 1 0 0 0 true) true ≡ Err BadSession
unfolding objects_live titles_live live_verdict session_verdict
pending_off_the_disc = refl

-- A depth exceeds its room: five numbers are two frames.
pub depth_over_the_room : session_verdict (0 ∷ 0 ∷ 0 ∷ 0 ∷ 0 ∷ []) [] 1 (session 65536 0 0 3 0 false) false ≡ Err BadSession
unfolding session_verdict
depth_over_the_room = refl

-- An object frame is two numbers (object, pc).
pub second_frame : pushed_object (7 ∷ 7 ∷ 7 ∷ 7 ∷ 7 ∷ []) 1 (record { object = 3; pc = 4 }) ≡ 7 ∷ 7 ∷ 3 ∷ 4 ∷ 7 ∷ []
second_frame = refl

pub second_frame_read : object_frame (7 ∷ 7 ∷ 3 ∷ 4 ∷ 9 ∷ []) 1 ≡ record { object = 3; pc = 4 }
second_frame_read = refl

-- A title frame is three (entry, object, pc); left-over numbers are unused.
pub second_title : pushed_title (7 ∷ 7 ∷ 7 ∷ 7 ∷ 7 ∷ 7 ∷ 7 ∷ []) 1 (record { entry = 1; object = 3; pc = 4 }) ≡ 7 ∷ 7 ∷ 7 ∷ 1 ∷ 3 ∷ 4 ∷ 7 ∷ []
second_title = refl

pub second_title_read : title_frame (7 ∷ 7 ∷ 7 ∷ 1 ∷ 3 ∷ 4 ∷ 9 ∷ []) 1 ≡ record { entry = 1; object = 3; pc = 4 }
second_title_read = refl

-- a room of two numbers
abbrev two : List ℕ
two = 7 ∷ 8 ∷ []

-- A number is stored at its place, counted from 0; past the end of a room nothing changes.
pub second_number : set two 1 9 ≡ 7 ∷ 9 ∷ []
second_number = refl

pub number_past_the_room : set two 2 9 ≡ 7 ∷ 8 ∷ []
number_past_the_room = refl
