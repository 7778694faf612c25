-- The class table at each place, and how many registers each class has. Assumes nothing.
use Rattle.std.specs.Prelude.{◌≡◌, refl, true, false, List, ℕ, ◌≤◌, ◌<◌, eqb, length, get_or, None, Some}
use Rattle.std.proofs.Common.{ap, ◌∙◌, arith, lt-ltb, le-ltb}
use Rattle.std.proofs.lemmas.Bool.{lt-leb}
use Rattle.laws.specs.Table.{at}
use Rattle.register_model.specs.declared.PsrClass.{PsrClass}
use Rattle.register_model.specs.declared.PsrClass.TheVariants.{PlaybackStatus, PlayerSetting, Reserved}
use Rattle.register_model.specs.Rules.{class_of, class_number, class_table, class_named, class_at, may_write, writable, Counts}

pub table_length : length class_table ≡ 128
unfolding class_table
table_length = refl

pub table_at : (i : ℕ) → i < 128 → get_or class_table i 0 ≡ class_number (class_of i)
unfolding class_table
table_at i h = at (λ i. class_number (class_of i)) 0 128 refl i h

-- a number of the table is that of its class
pub named : (k : PsrClass) → class_named (class_number k) ≡ k
named (PlaybackStatus false) = refl
named (PlaybackStatus true) = refl
named PlayerSetting = refl
named Reserved = refl

-- a class of number 0 is one that commands may write
zero_writes : (k : PsrClass) → eqb (class_number k) 0 ≡ may_write k
zero_writes (PlaybackStatus false) = refl
zero_writes (PlaybackStatus true) = refl
zero_writes PlayerSetting = refl
zero_writes Reserved = refl

-- from 128 on every register is reserved
pub beyond : (i : ℕ) → 128 ≤ i → writable i ≡ false
unfolding writable class_of
beyond i h = simp (lt-leb i 7 (omega arith), lt-leb i 12 (omega arith), lt-leb i 14 (omega arith), lt-leb i 39 (omega arith), lt-leb i 44 (omega arith), lt-leb i 9 (omega arith), lt-leb i 40 (omega arith), lt-leb i 13 (omega arith), lt-leb i 20 (omega arith), lt-leb i 31 (omega arith), lt-leb i 61 (omega arith))

pub counts : Counts
unfolding class_table class_of
counts = (refl, refl, refl, refl)

-- whether a command may write, by a lent table
pub writes_at : (i : ℕ) {table : List ℕ} → table ≡ class_table → i < 128 → eqb (get_or table i 0) 0 ≡ writable i
unfolding writable
writes_at i e h = ap (λ t. eqb (get_or t i 0) 0) e ∙ ap (λ n. eqb n 0) (table_at i h) ∙ zero_writes (class_of i)

-- the class of a register that is there, from its number in the table, and of one that is not
pub class_there : (i : ℕ) {table : List ℕ} {k : PsrClass} → i < 128 → table ≡ class_table → k ≡ class_named (get_or table i 0) → Some k ≡ class_at i
unfolding class_at
class_there i h t e = rw (lt-ltb i 128 h, e ∙ ap (λ l. class_named (get_or l i 0)) t ∙ ap class_named (table_at i h) ∙ named (class_of i))

pub class_not_there : (i : ℕ) → 128 ≤ i → None ≡ class_at i
unfolding class_at
class_not_there i h = rw (le-ltb i 128 h)
