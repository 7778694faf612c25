-- What follows from the rules of the register banks, for the layers above. Assumes nothing.
use Rattle.std.specs.Prelude.{◌≡◌, refl, Bool, true, false, cond, ℕ, eqb, Ok}
use Rattle.std.proofs.Common.{sym, ◌∙◌, arith, length-set, eqb-true}
use mathlib.Core.List.{List}
use Rattle.std.proofs.Math.ListN.{length}
use Rattle.laws.specs.Cases.{either_way}
use Rattle.error.specs.declared.Refusal.{Refusal}
use Rattle.error.specs.declared.Refusal.TheVariants.{BadBuffer}
use Rattle.register_model.specs.Rules.{writable}
use Rattle.nav_command.specs.declared.Operand.{Operand}
use Rattle.nav_command.specs.declared.Operand.TheVariants.{Absent, Immediate, Register}
use Rattle.nav_command.specs.declared.Operation.{Operation}
use Rattle.nav_command.specs.declared.RegisterBank.TheVariants.{Gpr, Psr, PsrSecondary}
use Rattle.registers.specs.declared.Effect.{Effect}
use Rattle.registers.specs.declared.Effect.TheVariants.{Write, Swap, Nothing}
use Rattle.registers.specs.Rules.{Banks, banks, names, written_status, written, effect_for, applied, set_of, refuses, bank_of, read_of, put_of}

-- Any two answers that an equation with a definition allows are equal.

abbrev pub Unique : {A : Type 0} → A → Type 0
Unique {A} answer = (a b : A) → a ≡ answer → b ≡ answer → a ≡ b

pub unique : {A : Type 0} (answer : A) → Unique answer
unique answer a b p q = p ∙ sym q

-- the same for each public call
pub record OneAnswer : Type 0 where
  pub reads : (size : ℕ) (bank : List ℕ) (i : ℕ) → Unique (read_of size bank i)
  pub writes : (size : ℕ) (bank : List ℕ) (i v : ℕ) → Unique (put_of size bank i v)
  pub verdicts : (size : ℕ) (bank : List ℕ) → Unique (bank_of size bank)

pub one_answer : OneAnswer
one_answer =
    record {
      reads = λ size bank i. unique (read_of size bank i);
      writes = λ size bank i v. unique (put_of size bank i v);
      verdicts = λ size bank. unique (bank_of size bank);
    }

-- A Set command that has no effect leaves all as it is.
pub sets_nothing : (op : Operation) (a b : Operand) (x y : ℕ) (s : Banks) → effect_for op x y ≡ Nothing → s ≡ set_of op a b x y s
unfolding set_of applied
sets_nothing op a b x y s e = rw e (both (names a)) where
  both : (t : Bool) → s ≡ cond t s s
  both true = refl
  both false = refl

-- Both banks keep their lengths.

module _ (g p : ℕ) where
  abbrev pub Sized : Banks → Type 0
  Sized s = (length s.general ≡ g) × (length s.status ≡ p)

  sized_status : (i v : ℕ) (bank : List ℕ) → length bank ≡ p → length (written_status i v bank) ≡ p
  unfolding written_status
  sized_status i v bank h = either_way (λ (l : List ℕ). length l ≡ p) (writable i) (length-set bank i v ∙ h) h

  sized_written : (a : Operand) (v : ℕ) (s : Banks) → Sized s → Sized (written a v s)
  unfolding written
  sized_written Absent v s h = h
  sized_written (Immediate x) v s h = h
  sized_written (Register Gpr i) v s (h, k) = (length-set s.general i v ∙ h, k)
  sized_written (Register Psr i) v s (h, k) = (h, sized_status i v s.status k)
  sized_written (Register PsrSecondary i) v s (h, k) = (h, sized_status i v s.status k)

  sized_applied : (e : Effect) (a b : Operand) (x y : ℕ) (s : Banks) → Sized s → Sized (applied e a b x y s)
  unfolding applied
  sized_applied (Write v) a b x y s h = sized_written a v s h
  sized_applied Swap a b x y s h = sized_written a y (written b x s) (sized_written b x s h)
  sized_applied Nothing a b x y s h = h

  pub sized_set : (op : Operation) (a b : Operand) (x y : ℕ) (s : Banks) → Sized s → Sized (set_of op a b x y s)
  unfolding set_of
  sized_set op a b x y s h = either_way Sized (names a) (sized_applied (effect_for op x y) a b x y s h) h

-- Both banks have all their registers.

abbrev pub Full : List ℕ → List ℕ → Type 0
Full g p = Sized 4096 128 (banks g p)

-- what the test of a bank tells where it passes
passed : (r : Refusal) (fine : Bool) → refuses r fine ≡ Ok tt → fine ≡ true
passed r true h = refl
passed r false h = let z : ◌≡◌ {A = ℕ} 0 1 = cc in absurd (omega arith)

pub fine_bank : (size : ℕ) (bank : List ℕ) → bank_of size bank ≡ Ok tt → length bank ≡ size
unfolding bank_of
fine_bank size bank h = eqb-true (length bank) size (passed BadBuffer (eqb (length bank) size) h)
