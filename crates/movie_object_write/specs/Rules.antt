-- The MovieObject.bdmv of a record, what refuses it, and what the writer leaves (document 01, module 5). Assumes nothing.
use Rattle.std.specs.Prelude.{◌≡◌, Bool, not, ◌&&◌, List, ◌∷◌, ◌++◌, ℕ, ◌+◌, ◌*◌, ◌-◌, ◌%◌, ◌≤◌, ◌<◌, eqb, leb, length, get_or, take, drop, replicate, Ok}
use Rattle.laws.specs.Firsts.{sum, all_below, blocks}
use Rattle.common.specs.Rules.{be4, bytes2, bytes4, room_verdict, Left, left_as}
use Rattle.error.specs.Rules.{first_of, refused_if, Verdict}
use Rattle.error.specs.declared.Refusal.TheVariants.{BadBuffer, NotEncodable}
use Rattle.movie_object.specs.declared.MovieObject.{MovieObject}
use Rattle.movie_object.specs.Rules.{mobj, place, count_of, verdict_of, parse_of, object_of, part_of}

-- A record is a version; for each object three flags and a number of commands; and all commands, one after the other.

-- The three flags of object k, and its commands.
abbrev pub resume_at : List ℕ → ℕ → ℕ
resume_at flags k = get_or flags (3 * k) 0

abbrev pub menu_at : List ℕ → ℕ → ℕ
menu_at flags k = get_or flags (3 * k + 1) 0

abbrev pub title_at : List ℕ → ℕ → ℕ
title_at flags k = get_or flags (3 * k + 2) 0

unfoldable pub cmds_at : List ℕ → List ℕ → ℕ → List ℕ
cmds_at counts commands k = take (12 * get_or counts k 0) (drop (12 * sum counts k) commands)

-- ---- the bytes

-- The flags stand in the top three bits of a byte.
abbrev pub flag_byte : ℕ → ℕ → ℕ → ℕ
flag_byte resume menu title = resume * 128 + menu * 64 + title * 32

-- An object: two flag bytes, the number of commands, the commands.
unfoldable pub object_bytes : ℕ → ℕ → List ℕ → List ℕ
object_bytes bits count commands = bits ∷ 0 ∷ (bytes2 count ++ commands)

unfoldable pub object : List ℕ → List ℕ → List ℕ → ℕ → List ℕ
object flags counts commands k =
    object_bytes (flag_byte (resume_at flags k) (menu_at flags k) (title_at flags k)) (get_or counts k 0) (cmds_at counts commands k)

-- The 78 bytes before the objects.
unfoldable pub head_bytes : ℕ → ℕ → ℕ → List ℕ
head_bytes version n stated =
    bytes4 mobj ++ bytes4 version ++ replicate 32 0 ++ bytes4 stated ++ replicate 32 0 ++ bytes2 n

-- Written length: 78 plus 4 per object plus 12 per command. The length at 40 is counted from 44.
unfoldable pub size_of : List ℕ → ℕ
size_of counts = 78 + 4 * length counts + 12 * sum counts (length counts)

unfoldable pub file_of : ℕ → List ℕ → List ℕ → List ℕ → List ℕ
file_of version flags counts commands =
    head_bytes version (length counts) (size_of counts - 44) ++ blocks (object flags counts commands) (length counts)

-- ---- the refusals

-- What the fields can hold: at most 65,535 objects, flags of one bit, counts of two bytes, and as many commands as the counts say.
unfoldable pub encodable : List ℕ → List ℕ → List ℕ → Bool
encodable flags counts commands =
    leb (length counts) 65535
    && (eqb (length flags) (3 * length counts)
    && (all_below 2 flags (length flags)
    && (all_below 65536 counts (length counts)
    && eqb (12 * sum counts (length counts)) (length commands))))

-- 6 commands not in whole twelves; 9 a field that doesn't fit; 5 a file over the limit, or longer than the lent buffer.
unfoldable pub write_verdict : List ℕ → List ℕ → List ℕ → ℕ → Verdict
write_verdict flags counts commands room =
    first_of (refused_if (not (eqb (length commands % 12) 0)) BadBuffer)
    (first_of (refused_if (not (encodable flags counts commands)) NotEncodable)
    (room_verdict (size_of counts) room))

-- ---- what the writer leaves

unfoldable pub write_of : ℕ → List ℕ → List ℕ → List ℕ → List ℕ → Left
write_of version flags counts commands out =
    left_as (write_verdict flags counts commands (length out)) (file_of version flags counts commands) (size_of counts) out

-- ---- the round trips

-- A file holds a record: the reader's calls give its version, its flags, its counts and its commands.
abbrev pub object_read : List ℕ → List ℕ → ℕ → MovieObject
object_read flags counts k =
    record {
      resume_intention_flag = resume_at flags k;
      menu_call_mask = menu_at flags k;
      title_search_mask = title_at flags k;
      commands = get_or counts k 0;
    }

pub record Holds (file : List ℕ) (version : ℕ) (flags counts commands : List ℕ) : Type 0 where
  pub head : parse_of file ≡ Ok (record { version = version; count = length counts })
  pub objects : (k : ℕ) → k < length counts → object_of file k ≡ Ok (object_read flags counts k)
  pub parts : (k : ℕ) → k < length counts → part_of file k ≡ cmds_at counts commands k
  pub three : length flags ≡ 3 * length counts
  pub whole : 12 * sum counts (length counts) ≡ length commands

-- The files that the writer could have made: reserved bytes and bits are zero, the stated length ends with the file, and so does the last object.
pub record Made (file : List ℕ) : Type 0 where
  pub accepted : verdict_of file ≡ Ok tt
  pub reserved : (i : ℕ) → i < 32 → (get_or file (8 + i) 0 ≡ 0) × (get_or file (44 + i) 0 ≡ 0)
  pub stated : 44 + be4 file 40 ≡ length file
  pub ends : place file (count_of file) ≡ length file
  pub unused : (k : ℕ) → k < count_of file → (get_or file (place file k) 0 % 32 ≡ 0) × (get_or file (place file k + 1) 0 ≡ 0)

-- Writing then reading gives the record back, and such a file is one that the writer could have made.
abbrev pub WritingThenReading : Type 0
WritingThenReading =
    (version : ℕ) (flags counts commands : List ℕ) (room : ℕ) → version < 4294967296 → write_verdict flags counts commands room ≡ Ok tt
    → Holds (file_of version flags counts commands) version flags counts commands × Made (file_of version flags counts commands)

-- Reading then writing gives the bytes back, for each file of bytes that the writer could have made.
abbrev pub ReadingThenWriting : Type 0
ReadingThenWriting =
    (file : List ℕ) (version : ℕ) (flags counts commands : List ℕ) (room : ℕ) → ((i : ℕ) → get_or file i 0 < 256) → length file ≤ room
    → Made file → Holds file version flags counts commands
    → (write_verdict flags counts commands room ≡ Ok tt) × (file_of version flags counts commands ≡ file)
