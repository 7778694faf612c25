-- Text as lists of ASCII codes, and what a writer into lent room leaves. Assumes nothing.
use Rattle.std.specs.Prelude.{◌≡◌, cond, List, [], ◌∷◌, ◌++◌, ℕ, zero, suc, ◌+◌, ◌-◌, ◌/◌, ◌%◌, ◌^◌, ◌<◌, ltb, length}
use Prim.Native.Char.{code}
use Prim.Native.String as S
use Rattle.std.proofs.lemmas.List.Edits.{sets}

-- The codes of a literal text.
abbrev pub bytes : S.String → List ℕ
bytes S.[] = []
bytes (S.◌∷◌ c s) = code c ∷ bytes s

-- A digit below 16: `0` to `9`, then `A` to `F`.
abbrev pub glyph_of : ℕ → ℕ
glyph_of d = cond (ltb d 10) (48 + d) (55 + d)

-- A number in a base, the highest digit first and no zero in front; here with at most k + 1 digits.
abbrev pub numeral_in : ℕ → ℕ → ℕ → List ℕ
numeral_in zero base n = glyph_of n ∷ []
numeral_in (suc k) base n =
    cond (ltb n base) (glyph_of n ∷ []) (numeral_in k base (n / base) ++ (glyph_of (n % base) ∷ []))

-- Numbers below 2 ^ 32 have at most 32 digits in any base.
unfoldable pub numeral : ℕ → ℕ → List ℕ
numeral base n = numeral_in 31 base n

abbrev pub blanks : ℕ → List ℕ
blanks zero = []
blanks (suc k) = 32 ∷ blanks k

-- A text right-aligned in a width; a longer one stands whole.
unfoldable pub right_in : ℕ → List ℕ → List ℕ
right_in width t = blanks (width - length t) ++ t

-- A place as a usize can say it: past the last one, the last one.
unfoldable pub place : ℕ → ℕ
place n = cond (ltb n (2 ^ 64)) n (2 ^ 64 - 1)

-- The text t was written at `at` into room that held l and now holds l', cut off at its end, and r is the place after t.
pub record Wrote (l : List ℕ) (at : ℕ) (t l' : List ℕ) (r : ℕ) : Type 0 where
  pub held : l' ≡ sets l at t
  pub end : r ≡ place (at + length t)
  pub room : length l < 2 ^ 64
