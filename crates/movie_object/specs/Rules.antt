-- What a MovieObject.bdmv says, and which files are read (document 01, module 5). Assumes nothing.
use Rattle.std.specs.Prelude.{cond, List, [], ℕ, zero, suc, ◌+◌, ◌*◌, ◌/◌, ◌%◌, leb, ltb, length, get_or, take, drop, Err, Ok, Result}
use Rattle.common.specs.Rules.{be2, be4, header_of}
use Rattle.error.specs.Rules.{first_of, given, Verdict}
use Rattle.error.specs.declared.Refusal.TheVariants.{BadBody, NotAnEntry}
use Rattle.movie_object.specs.declared.MovieObjects.{MovieObjects}
use Rattle.movie_object.specs.declared.MovieObject.{MovieObject}
use Rattle.error.specs.declared.Refusal.{Refusal}

-- The number of objects stands at 76.
unfoldable pub count_of : List ℕ → ℕ
count_of s = be2 s 76

-- Each object is two flag bytes, a command count, and twelve bytes per command; the next one follows it.
unfoldable pub next : List ℕ → ℕ → ℕ
next s p = p + 4 + 12 * be2 s (p + 2)

-- Where the head of object n stands. Bytes past the end count as 0, so that it is a number for every n.
unfoldable pub place : List ℕ → ℕ → ℕ
place s zero = 78
place s (suc n) = next s (place s n)

-- The letters MOBJ.
abbrev pub mobj : ℕ
mobj = 0x4D4F424A

-- The length at 40 is counted from 44 and inside the file. Objects may run past the stated length, not past the file.
unfoldable pub body_of : List ℕ → Verdict
body_of s =
    cond (leb (44 + be4 s 40) (length s))
    (cond (leb (place s (count_of s)) (length s)) (Ok tt) (Err BadBody))
    (Err BadBody)

unfoldable pub verdict_of : List ℕ → Verdict
verdict_of s = first_of (header_of mobj s) (body_of s)

-- The commands of the object whose head stands at a place: a part of the file.
abbrev pub part_at : List ℕ → ℕ → List ℕ
part_at s at = take (12 * be2 s (at + 2)) (drop (at + 4) s)

-- The commands of object n, and nothing where there is no such object.
unfoldable pub commands_of : List ℕ → ℕ → List ℕ
commands_of s n = cond (ltb n (count_of s)) (part_at s (place s n)) []

-- ---- what the public calls answer

-- The version, any four bytes, stands at 4.
abbrev pub objects_of : List ℕ → MovieObjects
objects_of s = record { version = be4 s 4; count = count_of s }

unfoldable pub parse_of : List ℕ → Result MovieObjects Refusal
parse_of s = given (verdict_of s) (objects_of s)

-- The flags are the top three bits of an object's first byte.
unfoldable pub head_at : List ℕ → ℕ → MovieObject
head_at s at =
    record {
      resume_intention_flag = get_or s at 0 / 128;
      menu_call_mask = get_or s at 0 / 64 % 2;
      title_search_mask = get_or s at 0 / 32 % 2;
      commands = be2 s (at + 2);
    }

abbrev pub head_of : List ℕ → ℕ → MovieObject
head_of s n = head_at s (place s n)

-- 10 not an entry: an object that isn't on the disc.
abbrev pub on_disc : List ℕ → ℕ → Verdict
on_disc s n = cond (ltb n (count_of s)) (Ok tt) (Err NotAnEntry)

unfoldable pub object_of : List ℕ → ℕ → Result MovieObject Refusal
object_of s n = given (first_of (verdict_of s) (on_disc s n)) (head_of s n)

-- A refused file has no commands.
abbrev pub where_fine : Verdict → List ℕ → List ℕ
where_fine (Ok u) l = l
where_fine (Err r) l = []

unfoldable pub part_of : List ℕ → ℕ → List ℕ
part_of s n = where_fine (verdict_of s) (commands_of s n)
