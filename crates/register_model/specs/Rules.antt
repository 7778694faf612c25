-- The class of each status register (document 01, module 3). Assumes nothing.
use Rattle.std.specs.Prelude.{◌≡◌, Bool, true, false, cond, not, ◌||◌, ◌&&◌, List, [], ◌∷◌, ℕ, ◌+◌, eqb, leb, ltb, get_or, None, Option, Some}
use Rattle.laws.specs.Table.{listed}
use Rattle.register_model.specs.declared.PsrClass.{PsrClass}
use Rattle.register_model.specs.declared.PsrClass.TheVariants.{PlaybackStatus, PlayerSetting, Reserved}

abbrev pub between : ℕ → ℕ → ℕ → Bool
between low high i = leb i high && leb low i

-- Commands may write 0..7, 10..12, 14, 36..39 and 42..44.
abbrev pub free : ℕ → Bool
free i = between 0 7 i || between 10 12 i || between 14 14 i || between 36 39 i || between 42 44 i

-- Read-only: 8, 9, 40.
abbrev pub read_only : ℕ → Bool
read_only i = between 8 9 i || between 40 40 i

-- Settings: 13, 15..20, 29..31, 48..61.
abbrev pub setting : ℕ → Bool
setting i = between 13 13 i || between 15 20 i || between 29 31 i || between 48 61 i

-- The others are reserved.
unfoldable pub class_of : ℕ → PsrClass
class_of i =
    cond (free i) (PlaybackStatus false)
    (cond (read_only i) (PlaybackStatus true) (cond (setting i) PlayerSetting Reserved))

-- There are 128 status registers.
unfoldable pub class_at : ℕ → Option PsrClass
class_at i = cond (ltb i 128) (Some (class_of i)) None

-- A command may write a register that is neither read-only, nor a setting, nor reserved.
abbrev pub may_write : PsrClass → Bool
may_write (PlaybackStatus only) = not only
may_write PlayerSetting = false
may_write Reserved = false

unfoldable pub writable : ℕ → Bool
writable i = may_write (class_of i)

-- The table of 128 entries holds each class by its number.
abbrev pub class_number : PsrClass → ℕ
class_number (PlaybackStatus false) = 0
class_number (PlaybackStatus true) = 1
class_number PlayerSetting = 2
class_number Reserved = 3

unfoldable pub class_table : List ℕ
class_table = listed (λ i. class_number (class_of i)) 0 128

-- the class of a number of the table
abbrev pub classes : List PsrClass
classes = PlaybackStatus false ∷ PlaybackStatus true ∷ PlayerSetting ∷ []

abbrev pub class_named : ℕ → PsrClass
class_named n = get_or classes n Reserved

-- how often a number stands in a list
abbrev pub times : ℕ → List ℕ → ℕ
times n [] = 0
times n (x ∷ xs) = cond (eqb n x) 1 0 + times n xs

-- 19 registers are writable, 3 read-only, 24 settings and 82 reserved
abbrev pub Counts : Type 0
Counts = (times 0 class_table ≡ 19) × (times 1 class_table ≡ 3) × (times 2 class_table ≡ 24) × (times 3 class_table ≡ 82)
