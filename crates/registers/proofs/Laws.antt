-- Both ways to name a status register are one register. Assumes nothing.
use Rattle.std.specs.Prelude.{◌≡◌, refl, Bool, true, false, cond, ℕ, ◌%◌, ◌≤◌, ◌<◌, ltb}
use Rattle.std.proofs.Common.{lt-ltb, le-ltb}
use Rattle.nav_command.specs.Rules.{operand_of}
use Rattle.nav_command.specs.declared.Operand.{Operand}
use Rattle.nav_command.specs.declared.Operand.TheVariants.{Register}
use Rattle.nav_command.specs.declared.Operation.{Operation}
use Rattle.nav_command.specs.declared.RegisterBank.TheVariants.{Psr, PsrSecondary}
use Rattle.registers.specs.declared.Effect.{Effect}
use Rattle.registers.specs.declared.Effect.TheVariants.{Write, Swap, Nothing}
use Rattle.registers.specs.Rules.{Banks, value_of, written, effect_for, applied, set_of}
use Rattle.registers.specs.Pieces.{applied_in, set_in}

-- the first way, and the second
abbrev either : Bool → ℕ → Operand
either t i = Register (cond t Psr PsrSecondary) i

same_effect : (e : Effect) (t : Bool) (i : ℕ) (b : Operand) (x y : ℕ) (s : Banks) → applied e (Register Psr i) b x y s ≡ applied e (either t i) b x y s
unfolding applied written
same_effect e true i b x y s = refl
same_effect (Write v) false i b x y s = refl
same_effect Swap false i b x y s = refl
same_effect Nothing false i b x y s = refl

sets : (op : Operation) (b : Operand) (s : Banks) (t : Bool) (i : ℕ) → i < 128 → applied_in op (Register Psr i) b s ≡ set_in op (either t i) b s
unfolding applied_in set_of
sets op b s true i h = rw (lt-ltb i 128 h)
sets op b s false i h = rw (lt-ltb i 128 h) (same_effect (effect_for op (value_of (Register Psr i) s) (value_of b s)) false i b (value_of (Register Psr i) s) (value_of b s) s)

-- a Set of a status register by a word that names one
pub sets_status : (op : Operation) (b : Operand) (s : Banks) {w i : ℕ} → i ≡ w % 4096 → 0x8000_0000 ≤ w → i < 128
    → applied_in op (Register Psr i) b s ≡ set_in op (operand_of true false w) b s
unfolding operand_of
sets_status op b s {w} {i} e h small = rw (le-ltb w 0x8000_0000 h, ← e) (sets op b s (ltb w 0xC000_0000) i small)
