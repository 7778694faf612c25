-- Texts by numbers. Assumes nothing.
use mathlib.Core.Path.{◌≡◌, refl, ap}
use mathlib.Core.Bool.{true}
use mathlib.Core.List.{List, ◌++◌, append-nil}
use Prim.Native.Nat.{ℕ, zero, suc, ◌%◌, ◌<◌}
use native.Mathlib.Omega.{arith}
use Rattle.text.specs.Rules.{bytes}
use Rattle.nav_names.specs.Rules.{mnemonic}
use Rattle.nav_list.specs.declared.Line.{Line}
use Rattle.nav_list.specs.Rules.{status_text}
use Rattle.nav_list.specs.Numbers.{head_by, operand_by, operands_by, line_by}

pub head_named : (n sub code : ℕ) → (n ≡ 0 → ⊥) → head_by n sub code ≡ mnemonic (n % 256)
head_named zero sub code ne = absurd (ne refl)
head_named (suc n) sub code ne = refl

pub secondary : (kind value : ℕ) → 0 < kind → (kind ≡ 1 → ⊥) → (kind ≡ 2 → ⊥) → (kind ≡ 3 → ⊥) → operand_by kind value ≡ status_text (value % 65536) true
secondary zero value h a b c = absurd (omega arith)
secondary (suc zero) value h a b c = absurd (a refl)
secondary (suc (suc zero)) value h a b c = absurd (b refl)
secondary (suc (suc (suc zero))) value h a b c = absurd (c refl)
secondary (suc (suc (suc (suc kind)))) value h a b c = refl

first_only : (kind value other second : ℕ) → (kind ≡ 0 → ⊥) → other ≡ 0 → operands_by kind value other second ≡ bytes " " ++ operand_by kind value
first_only zero value other second ne e = absurd (ne refl)
first_only (suc kind) value other second ne e = rw (e, append-nil (operand_by (suc kind) value))

both : (kind value other second : ℕ) → (kind ≡ 0 → ⊥) → (other ≡ 0 → ⊥) → operands_by kind value other second ≡ bytes " " ++ (operand_by kind value ++ (bytes ", " ++ operand_by other second))
both zero value other second ne mo = absurd (ne refl)
both (suc kind) value zero second ne mo = absurd (mo refl)
both (suc kind) value (suc other) second ne mo = refl

-- a line without operands, with one, and with two
module _ (l : Line) where
  abbrev headed : List ℕ
  headed = head_by l.head.number l.head.sub l.head.code

  pub no_operand : l.first.kind ≡ 0 → line_by l ≡ headed
  unfolding line_by
  no_operand e = rw (e, append-nil headed)

  pub one_operand : (l.first.kind ≡ 0 → ⊥) → l.second.kind ≡ 0 → line_by l ≡ headed ++ (bytes " " ++ operand_by l.first.kind l.first.value)
  unfolding line_by
  one_operand ne e = ap (λ (x : List ℕ). headed ++ x) (first_only l.first.kind l.first.value l.second.kind l.second.value ne e)

  pub two_operands : (l.first.kind ≡ 0 → ⊥) → (l.second.kind ≡ 0 → ⊥) → line_by l ≡ headed ++ (bytes " " ++ (operand_by l.first.kind l.first.value ++ (bytes ", " ++ operand_by l.second.kind l.second.value)))
  unfolding line_by
  two_operands ne mo = ap (λ (x : List ℕ). headed ++ x) (both l.first.kind l.first.value l.second.kind l.second.value ne mo)
