-- What the calls for C share: lengths of lent arrays, refusals by number, and what a call hands back and leaves. Assumes nothing.
use Rattle.std.specs.Prelude.{List, Bool, cond, ◌&&◌, ℕ, length, eqb, Err, Ok, Result}
use Rattle.common.specs.Rules.{Left}
use Rattle.error.specs.Rules.{number_of, Verdict}
use Rattle.error.specs.declared.Refusal.{Refusal}
use Rattle.error.specs.declared.Refusal.TheVariants.{BadBuffer}

abbrev pub sized : ℕ → List ℕ → Bool
sized n l = eqb (length l) n

-- three numbers of budgets, six of a session and six of an outcome
unfoldable pub lengths_fit : List ℕ → List ℕ → List ℕ → Bool
lengths_fit b s o = sized 3 b && (sized 6 s && sized 6 o)

-- What a drive hands back, and what the session's and the outcome's arrays then hold: both are written, or neither.
pub record Ended : Type 0 where
  pub number : ℕ
  pub session : List ℕ
  pub outcome : List ℕ

abbrev pub ended : ℕ → List ℕ → List ℕ → Ended
ended n s o = record { number = n; session = s; outcome = o }

-- A test's answer: 0, or the refusal's number.
abbrev pub verdict_number : Verdict → ℕ
verdict_number (Ok u) = 0
verdict_number (Err r) = number_of r

-- What a call hands back, and what one lent array then holds.
pub record Handed : Type 0 where
  pub number : ℕ
  pub held : List ℕ

abbrev pub handed : ℕ → List ℕ → Handed
handed n l = record { number = n; held = l }

abbrev pub refused : Refusal → List ℕ → Handed
refused r l = handed (number_of r) l

-- 6, before all else: an array that has not its length.
abbrev pub into : ℕ → List ℕ → Handed → Handed
into n l h = cond (sized n l) h (refused BadBuffer l)

-- The same where bytes are written into lent room, and how many they are is told beside it.
pub record Length : Type 0 where
  pub number : ℕ
  pub size : ℕ

abbrev pub size : ℕ → ℕ → Length
size n k = record { number = n; size = k }

pub record Measured : Type 0 where
  pub out : List ℕ
  pub told : Length

abbrev pub measured : List ℕ → Length → Measured
measured l t = record { out = l; told = t }

abbrev pub unmeasured : Refusal → List ℕ → ℕ → Measured
unmeasured r l k = measured l (size (number_of r) k)

-- What was written, and its length.
abbrev pub length_by : Result ℕ Refusal → ℕ → Length
length_by (Ok n) k = size 0 n
length_by (Err r) k = size (number_of r) k

abbrev pub file : Left → ℕ → Measured
file f k = measured f.out (length_by f.answer k)
