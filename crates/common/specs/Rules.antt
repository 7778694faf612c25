-- Big-endian reads and writes, and the tests that all files share (document 01, module 2 and "Numbers and bounds"). Assumes nothing.
use Rattle.std.specs.Prelude.{cond, List, [], ◌∷◌, ℕ, ◌+◌, ◌*◌, ◌/◌, ◌%◌, leb, ltb, eqb, length, get_or, Err, Ok, Result}
use Rattle.laws.specs.Over.{over}
use Rattle.error.specs.Rules.{first_of, refused_if, Verdict, fine}
use Rattle.error.specs.declared.Refusal.TheVariants.{TooLong, BadHeader, BadBody, NoRoom}
use Rattle.error.specs.declared.Refusal.{Refusal}

-- The big-endian number of the two, or of the four, bytes at a place; bytes past the end count as 0.
unfoldable pub be2 : List ℕ → ℕ → ℕ
be2 s at = get_or s at 0 * 256 + get_or s (at + 1) 0

unfoldable pub be4 : List ℕ → ℕ → ℕ
be4 s at = get_or s at 0 * 16777216 + get_or s (at + 1) 0 * 65536 + get_or s (at + 2) 0 * 256 + get_or s (at + 3) 0

-- A number as big-endian bytes.
unfoldable pub bytes2 : ℕ → List ℕ
bytes2 x = (x / 256 % 256) ∷ (x % 256) ∷ []

unfoldable pub bytes4 : ℕ → List ℕ
bytes4 x = (x / 16777216 % 256) ∷ (x / 65536 % 256) ∷ (x / 256 % 256) ∷ (x % 256) ∷ []

-- A seek to the end is allowed, one past it refused; beside the answer stands the position after it, which a refusal leaves where it was.
abbrev pub seek_of : List ℕ → ℕ → ℕ → Verdict × ℕ
seek_of s at to = cond (leb to (length s)) (fine, to) (Err BadBody, at)

-- A read gives the value and goes on behind it, or is refused where it passes the end.
abbrev pub read_u8 : List ℕ → ℕ → Result ℕ Refusal × ℕ
read_u8 s at = cond (leb (at + 1) (length s)) (Ok (get_or s at 0), at + 1) (Err BadBody, at)

abbrev pub read_u16 : List ℕ → ℕ → Result ℕ Refusal × ℕ
read_u16 s at = cond (leb (at + 2) (length s)) (Ok (be2 s at), at + 2) (Err BadBody, at)

abbrev pub read_u32 : List ℕ → ℕ → Result ℕ Refusal × ℕ
read_u32 s at = cond (leb (at + 4) (length s)) (Ok (be4 s at), at + 4) (Err BadBody, at)

-- A file has at most 16,777,216 bytes.
abbrev pub limit : ℕ
limit = 16777216

-- 1 too long: over the limit. 2 bad header: under 40 bytes, or not the kind that is asked for (four letters, as a number).
unfoldable pub header_of : ℕ → List ℕ → Verdict
header_of kind s =
    cond (ltb limit (length s)) (Err TooLong)
    (cond (ltb (length s) 40) (Err BadHeader)
    (cond (eqb (be4 s 0) kind) (Ok tt) (Err BadHeader)))

-- 5: a file of so many bytes is over the limit, or longer than the lent buffer.
unfoldable pub room_verdict : ℕ → ℕ → Verdict
room_verdict size room = first_of (refused_if (ltb limit size) NoRoom) (refused_if (ltb room size) NoRoom)

-- What a writer leaves: its answer beside the lent buffer.
pub record Left : Type 0 where
  pub out : List ℕ
  pub answer : Result ℕ Refusal

abbrev pub left : List ℕ → Result ℕ Refusal → Left
left out answer = record { out = out; answer = answer }

-- The file from place 0, and the rest as it was; on a refusal all of it as it was.
abbrev pub left_as : Verdict → List ℕ → ℕ → List ℕ → Left
left_as (Ok u) file size out = left (over out 0 file) (Ok size)
left_as (Err r) file size out = left out (Err r)
