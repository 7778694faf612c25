-- The refusals and their numbers (document 01, "Numbers and bounds"). Assumes nothing.
use Rattle.std.specs.Prelude.{Bool, true, false, ℕ, ⊤, Result, Ok, Err}
use Rattle.error.specs.declared.Refusal.{Refusal}
use Rattle.error.specs.declared.Refusal.TheVariants.{TooLong, BadHeader, BadBody, BadEntry, NoRoom, BadBuffer, BadBudget, BadSession, NotEncodable, NotAnEntry}

-- A refusal gives its number and nothing else; 11 to 18 are free for later ones.
abbrev pub number_of : Refusal → ℕ
number_of TooLong = 1
number_of BadHeader = 2
number_of BadBody = 3
number_of BadEntry = 4
number_of NoRoom = 5
number_of BadBuffer = 6
number_of BadBudget = 7
number_of BadSession = 8
number_of NotEncodable = 9
number_of NotAnEntry = 10

-- What a test of the input finds: nothing, or why it is refused.
abbrev pub Verdict : Type 0
Verdict = Result ⊤ Refusal

abbrev pub fine : Verdict
fine = Ok tt

-- A test refuses what is bad.
abbrev pub refused_if : Bool → Refusal → Verdict
refused_if true r = Err r
refused_if false r = Ok tt

-- Tests in their order: the first that refuses is answered.
abbrev pub first_of : Verdict → Verdict → Verdict
first_of (Ok u) later = later
first_of (Err r) later = Err r

-- What a call answers that is refused, or else gives this.
abbrev pub given : {A : Type 0} → Verdict → A → Result A Refusal
given (Ok u) a = Ok a
given (Err r) a = Err r
