-- What inner functions of the code promise one another, in terms of the rules; none of it has to be believed. Assumes nothing.
use Rattle.std.specs.Prelude.{Bool, ◌&&◌, ℕ, ltb}

-- Bytes below 128 are characters by themselves.
abbrev pub all_ascii : ℕ → ℕ → ℕ → ℕ → ℕ → Bool
all_ascii a b c d e = (((ltb a 128 && ltb b 128) && ltb c 128) && ltb d 128) && ltb e 128
