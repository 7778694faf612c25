-- What the code's struct of both banks holds. Assumes nothing.
use Rattle.std.specs.Prelude.{◌≡◌}
use Rattle.registers.specs.declared.Banks as declared
use Rattle.registers.specs.Rules as rules

abbrev pub held : declared.Banks → rules.Banks
held b = rules.banks b.gpr.now b.psr.now

-- the banks that were lent are still the same ones
abbrev pub Same : declared.Banks → declared.Banks → Type 0
Same b c = (b.gpr.ghost_name ≡ c.gpr.ghost_name) × (b.psr.ghost_name ≡ c.psr.ghost_name)
