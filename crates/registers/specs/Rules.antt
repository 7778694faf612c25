-- The register banks, how operands read and write them, and what a Set leaves (document 01, "One command"). Assumes nothing.
use Rattle.std.specs.Prelude.{Bool, false, cond, List, ℕ, eqb, ltb, length, get_or, set, replicate, Option, Some, None, Result, Ok, Err}
use Rattle.std.specs.Int.Bits.{bit_and, bit_or, bit_xor}
use Rattle.word.specs.Word.{add_low, sub_low, mul_low, div_or0, mod_or0, random, with_bit, without_bit, shift_left, shift_right}
use Rattle.error.specs.declared.Refusal.{Refusal}
use Rattle.error.specs.declared.Refusal.TheVariants.{BadBuffer}
use Rattle.error.specs.Rules.{Verdict}
use Rattle.register_model.specs.Rules.{writable}
use Rattle.nav_command.specs.declared.SetOp.{SetOp}
use Rattle.nav_command.specs.declared.SetOp.TheVariants as S
use Rattle.nav_command.specs.declared.Operation.{Operation}
use Rattle.nav_command.specs.declared.Operation.TheVariants as O
use Rattle.nav_command.specs.declared.RegisterBank.TheVariants.{Gpr, Psr, PsrSecondary}
use Rattle.nav_command.specs.declared.Operand.{Operand}
use Rattle.nav_command.specs.declared.Operand.TheVariants.{Absent, Immediate, Register}
use Rattle.registers.specs.declared.Effect.{Effect}
use Rattle.registers.specs.declared.Effect.TheVariants.{Write, Swap, Nothing}

-- The registers, 4,096 general beside 128 status.

pub record Banks : Type 0 where
  pub general : List ℕ
  pub status : List ℕ

abbrev pub banks : List ℕ → List ℕ → Banks
banks g p = record { general = g; status = p }

-- A fresh bank of each kind: all registers are zero.

abbrev pub fresh_general : List ℕ
fresh_general = replicate 4096 0

abbrev pub fresh_status : List ℕ
fresh_status = replicate 128 0

-- whether an operand names a register: 4,096 are general, 128 status
abbrev pub names : Operand → Bool
names Absent = false
names (Immediate v) = false
names (Register Gpr i) = ltb i 4096
names (Register Psr i) = ltb i 128
names (Register PsrSecondary i) = ltb i 128

-- an operand's value: 0 where there is no operand, or no such register
abbrev pub value_of : Operand → Banks → ℕ
value_of Absent s = 0
value_of (Immediate v) s = v
value_of (Register Gpr i) s = get_or s.general i 0
value_of (Register Psr i) s = get_or s.status i 0
value_of (Register PsrSecondary i) s = get_or s.status i 0

-- what a write leaves: a protected register keeps its value, and an operand that names none takes nothing
unfoldable pub written_status : ℕ → ℕ → List ℕ → List ℕ
written_status i v p = cond (writable i) (set p i v) p

unfoldable pub written : Operand → ℕ → Banks → Banks
written Absent v s = s
written (Immediate x) v s = s
written (Register Gpr i) v s = banks (set s.general i v) s.status
written (Register Psr i) v s = banks s.general (written_status i v s.status)
written (Register PsrSecondary i) v s = banks s.general (written_status i v s.status)

-- Sets. Nothing is done unless the first operand names a register; an unknown one does nothing.

abbrev pub effect_of : SetOp → ℕ → ℕ → Effect
effect_of S.Move x y = Write y
effect_of S.Swap x y = Swap
effect_of S.Add x y = Write (add_low x y)
effect_of S.Sub x y = Write (sub_low x y)
effect_of S.Mul x y = Write (mul_low x y)
effect_of S.Div x y = Write (div_or0 x y)
effect_of S.Mod x y = Write (mod_or0 x y)
effect_of S.Rnd x y = Write (random y)
effect_of S.And x y = Write (bit_and x y)
effect_of S.Or x y = Write (bit_or x y)
effect_of S.Xor x y = Write (bit_xor x y)
effect_of S.BitSet x y = Write (with_bit x y)
effect_of S.BitClear x y = Write (without_bit x y)
effect_of S.ShiftLeft x y = Write (shift_left x y)
effect_of S.ShiftRight x y = Write (shift_right x y)

abbrev pub effect_for : Operation → ℕ → ℕ → Effect
effect_for (O.Branch op) x y = Nothing
effect_for (O.Compare op) x y = Nothing
effect_for (O.Set op) x y = effect_of op x y
effect_for (O.System op) x y = Nothing
effect_for (O.Unknown sub code) x y = Nothing

unfoldable pub applied : Effect → Operand → Operand → ℕ → ℕ → Banks → Banks
applied (Write v) a b x y s = written a v s
applied Swap a b x y s = written a y (written b x s)
applied Nothing a b x y s = s

unfoldable pub set_of : Operation → Operand → Operand → ℕ → ℕ → Banks → Banks
set_of op a b x y s = cond (names a) (applied (effect_for op x y) a b x y s) s

-- Refusal 6: a bank that has not its number of registers.

abbrev pub refuses : Refusal → Bool → Verdict
refuses r fine = cond fine (Ok tt) (Err r)

unfoldable pub bank_of : ℕ → List ℕ → Verdict
bank_of size bank = refuses BadBuffer (eqb (length bank) size)

-- The player's own reads and writes of a bank of `size` registers: a number from `size` on names none.

abbrev pub read_by : Verdict → Result (Option ℕ) Refusal → Result (Option ℕ) Refusal
read_by (Ok u) r = r
read_by (Err r) v = Err r

unfoldable pub read_of : ℕ → List ℕ → ℕ → Result (Option ℕ) Refusal
read_of size bank i = read_by (bank_of size bank) (cond (ltb i size) (Ok (Some (get_or bank i 0))) (Ok None))

abbrev pub put_by : Verdict → List ℕ → List ℕ → List ℕ
put_by (Ok u) old new = new
put_by (Err r) old new = old

unfoldable pub put_of : ℕ → List ℕ → ℕ → ℕ → List ℕ
put_of size bank i v = put_by (bank_of size bank) bank (set bank i v)
