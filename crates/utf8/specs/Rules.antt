-- UTF-8 as the table of RFC 3629, section 4, has it: which bytes begin a character, and which may follow. Assumes nothing.
use Rattle.std.specs.Prelude.{Bool, false, cond, ◌&&◌, List, [], ◌∷◌, ℕ, ◌-◌, leb, eqb, Option, Some, None}
use Rattle.utf8.specs.declared.Scan.{Scan}

abbrev pub between : ℕ → ℕ → ℕ → Bool
between low high b = leb low b && leb b high

-- `want n low high`: n bytes more belong to the character, the next of them from low to high and the others from 80 to BF.
abbrev pub want : ℕ → ℕ → ℕ → Option Scan
want n low high = Some (record { more = n; low = low; high = high })

abbrev pub fresh : Option Scan
fresh = want 0 0x80 0xBF

-- After the first byte of a character of four bytes, of three, of any number.
unfoldable pub lead4 : ℕ → Option Scan
lead4 b =
    cond (between 0xF0 0xF0 b) (want 3 0x90 0xBF)
    (cond (between 0xF1 0xF3 b) (want 3 0x80 0xBF)
    (cond (between 0xF4 0xF4 b) (want 3 0x80 0x8F)
    None))

unfoldable pub lead3 : ℕ → Option Scan
lead3 b =
    cond (between 0xE0 0xE0 b) (want 2 0xA0 0xBF)
    (cond (between 0xE1 0xEC b) (want 2 0x80 0xBF)
    (cond (between 0xED 0xED b) (want 2 0x80 0x9F)
    (cond (between 0xEE 0xEF b) (want 2 0x80 0xBF)
    (lead4 b))))

unfoldable pub lead_of : ℕ → Option Scan
lead_of b =
    cond (between 0x00 0x7F b) (want 0 0x80 0xBF)
    (cond (between 0xC2 0xDF b) (want 1 0x80 0xBF)
    (lead3 b))

-- After one byte more.
unfoldable pub step_of : Option Scan → ℕ → Option Scan
step_of None b = None
step_of (Some u) b = cond (eqb u.more 0) (lead_of b) (cond (between u.low u.high b) (want (u.more - 1) 0x80 0xBF) None)

abbrev pub is_whole : Option Scan → Bool
is_whole None = false
is_whole (Some u) = eqb u.more 0

-- The bytes are UTF-8 if the scan ends between two characters.
unfoldable pub scan_of : Option Scan → List ℕ → Bool
scan_of u [] = is_whole u
scan_of u (b ∷ s) = scan_of (step_of u b) s

unfoldable pub is_utf8 : List ℕ → Bool
is_utf8 s = scan_of fresh s
