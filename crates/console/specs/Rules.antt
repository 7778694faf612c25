-- How the words of a command line are read: what a word begins with, and the decimal number in it. Assumes nothing.
use Rattle.std.specs.Prelude.{Bool, true, false, cond, ◌&&◌, List, [], ◌∷◌, ℕ, ◌+◌, ◌-◌, ◌*◌, leb, eqb, drop, get_or, Some, None}
use Rattle.console.specs.declared.Decimal.{Decimal}

-- Whether the first bytes of a word are those of another.
unfoldable pub begins_with : List ℕ → List ℕ → Bool
begins_with word [] = true
begins_with [] (b ∷ with) = false
begins_with (a ∷ word) (b ∷ with) = cond (eqb a b) (begins_with word with) false

-- A digit is `0` to `9`.
abbrev pub is_digit : ℕ → Bool
is_digit b = leb 48 b && leb b 57

-- What digits that said v say with one more.
abbrev pub more : ℕ → ℕ → ℕ
more v b = v * 10 + (b - 48)

-- The answer: the number, if there is one, and where it ends.
abbrev pub number_of : ℕ → ℕ → Decimal
number_of v end = record { value = Some v; end = end }

abbrev pub no_number : ℕ → Decimal
no_number end = record { value = None; end = end }

-- The digits before `at` say v; the number ends before the first byte that is no digit, and over 4,294,967,295 it is none.
unfoldable pub goes_on_at : ℕ → ℕ → List ℕ → Decimal
goes_on_at v at [] = number_of v at
goes_on_at v at (b ∷ rest) =
    cond (is_digit b)
    (cond (leb (more v b) 4294967295) (goes_on_at (more v b) (at + 1) rest) (no_number at))
    (number_of v at)

-- The number from a place of a word on: a digit stands there. Past the end stands none.
unfoldable pub number_in : List ℕ → ℕ → Decimal
number_in word at = cond (is_digit (get_or word at 0)) (goes_on_at 0 at (drop at word)) (no_number at)
