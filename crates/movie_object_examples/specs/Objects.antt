-- Examples of a MovieObject.bdmv, read and written (document 01, module 5). Assumes nothing.
use Rattle.std.specs.Prelude.{◌≡◌, refl, List, [], ◌∷◌, ◌++◌, ℕ, zero, suc, ◌<◌, get_or, set, take, replicate, Err, Ok}
use Rattle.std.proofs.Common.{arith}
use Rattle.laws.specs.Firsts.{sum, all, all_below, blocks}
use Rattle.laws.specs.Over.{over}
use Rattle.common.specs.Rules.{be2, be4, bytes2, bytes4, header_of, room_verdict, left}
use Rattle.error.specs.declared.Refusal.TheVariants.{BadHeader, BadBody, NoRoom, NotEncodable, NotAnEntry}
use Rattle.movie_object.specs.Rules.{count_of, next, place, body_of, verdict_of, part_at, commands_of, parse_of, head_at, object_of, part_of}
use Rattle.movie_object.specs.Pieces.{Walked}
use Rattle.movie_object_write.specs.Rules.{cmds_at, object_bytes, object as object_written, head_bytes, size_of, file_of, encodable, write_verdict, write_of, object_read}

-- what the examples compute with
opened : Unit {0}
unfolding sum all all_below blocks over be2 be4 bytes2 bytes4 header_of room_verdict count_of next place body_of verdict_of commands_of parse_of head_at object_of part_of cmds_at object_bytes object_written head_bytes size_of file_of encodable write_verdict write_of
opened = tt

-- the command `Move r5, 0x10`, and the file of document 01 that has it alone: MOBJ, 0200, and 50 for the length
abbrev pub move : List ℕ
move = 0x50 ∷ 0x40 ∷ 0 ∷ 1 ∷ 0 ∷ 0 ∷ 0 ∷ 5 ∷ 0 ∷ 0 ∷ 0 ∷ 0x10 ∷ []

abbrev pub one : List ℕ
one = bytes4 0x4D4F424A ++ bytes4 0x30323030 ++ replicate 32 0 ++ bytes4 50 ++ replicate 32 0 ++ bytes2 1 ++ bytes4 1 ++ move

-- 78 bytes: no object, and a length of 0
abbrev none : List ℕ
none = bytes4 0x4D4F424A ++ replicate 74 0

-- File lengths 39 and 40, 77 and 78.
pub length_39 : verdict_of (take 39 none) ≡ Err BadHeader
unfolding opened
length_39 = refl

pub length_40 : verdict_of (take 40 none) ≡ Err BadBody
unfolding opened
length_40 = refl

pub length_77 : verdict_of (take 77 none) ≡ Err BadBody
unfolding opened
length_77 = refl

pub length_78 : verdict_of none ≡ Ok tt
unfolding opened
length_78 = refl

-- Objects may run past the stated length.
pub past_the_stated_length : verdict_of (set one 43 0) ≡ Ok tt
unfolding opened
past_the_stated_length = refl

-- The version is any four bytes; the object count stands at 76.
pub version_and_count : parse_of one ≡ Ok (record { version = 0x30323030; count = 1 })
unfolding opened
version_and_count = refl

-- It is two bytes, and zero past the end of a file.
pub count_258 : count_of (set (set one 76 1) 77 2) ≡ 258
unfolding opened
count_258 = refl

pub count_of_a_cut_file : count_of (take 77 (set one 76 1)) ≡ 256
unfolding opened
count_of_a_cut_file = refl

-- The flags are the top three bits of an object's first byte.
pub flags_of_an_object : object_of (set one 78 0xA0) 0
    ≡ (Ok (record { resume_intention_flag = 1; menu_call_mask = 0; title_search_mask = 1; commands = 1 }))
unfolding opened
flags_of_an_object = refl

-- Not an entry: an object that isn't on the disc.
pub no_such_object : object_of one 1 ≡ Err NotAnEntry
unfolding opened
no_such_object = refl

-- Two flag bytes, a command count, and twelve bytes per command.
pub commands_of_an_object : part_of one 0 ≡ move
unfolding opened
commands_of_an_object = refl

-- a file of two objects, of which the first has that command, and where they stand
abbrev pair : List ℕ
pair = bytes4 0x4D4F424A ++ replicate 72 0 ++ bytes2 2 ++ bytes4 1 ++ move ++ bytes4 0

abbrev places : List ℕ
places = 78 ∷ 94 ∷ []

-- The next object follows the one before it.
pub places_of_objects : place pair 0 ∷ place pair 1 ∷ [] ≡ 78 ∷ 94 ∷ []
unfolding opened
places_of_objects = refl

-- By its place: an object's head, and its commands.
pub head_at_78 : head_at (set one 78 0xA0) 78 ≡ record { resume_intention_flag = 1; menu_call_mask = 0; title_search_mask = 1; commands = 1 }
unfolding opened
head_at_78 = refl

pub part_at_78 : part_at pair 78 ≡ take 12 move
unfolding opened
part_at_78 = refl

-- By its number: the second has none, and there is no third.
pub commands_by_number : commands_of pair 0 ∷ commands_of pair 1 ∷ commands_of pair 2 ∷ [] ≡ move ∷ [] ∷ [] ∷ []
unfolding opened
commands_by_number = refl

-- A walk of the heads accepts the file and finds each object.
pub heads_walked : Walked pair places (Ok tt)
unfolding opened
heads_walked = record { judged = refl; placed = λ e room. record { room = room; at = placed } }
  where
    placed : (k : ℕ) → k < count_of pair → get_or places k 0 ≡ place pair k
    placed zero h = refl
    placed (suc zero) h = refl
    placed (suc (suc k)) h = absurd (omega arith)

-- A file cut inside its last command is refused, and has no commands.
pub commands_of_a_cut_file : part_of (take 93 one) 0 ≡ []
unfolding opened
commands_of_a_cut_file = refl

-- Writing gives those bytes.
pub written_file : file_of 0x30323030 (0 ∷ 0 ∷ 0 ∷ []) (1 ∷ []) move ≡ one
unfolding opened
written_file = refl

-- A record field doesn't fit its bits.
pub flag_of_2 : write_verdict (2 ∷ 0 ∷ 0 ∷ []) (1 ∷ []) move 94 ≡ Err NotEncodable
unfolding opened
flag_of_2 = refl

-- Output beyond the written length stays.
pub rest_stays : write_of 0x30323030 (0 ∷ 0 ∷ 0 ∷ []) (1 ∷ []) move (replicate 96 7) ≡ left (one ++ (7 ∷ 7 ∷ [])) (Ok 94)
unfolding opened
rest_stays = refl

-- Output longer than the lent buffer: nothing is written.
pub no_room : write_of 0x30323030 (0 ∷ 0 ∷ 0 ∷ []) (1 ∷ []) move (replicate 93 7) ≡ left (replicate 93 7) (Err NoRoom)
unfolding opened
no_room = refl

-- that file with the first and the last flag, and what the writer makes of its record
abbrev flagged : List ℕ
flagged = set one 78 0xA0

abbrev made : List ℕ
made = file_of 0x30323030 (1 ∷ 0 ∷ 1 ∷ []) (1 ∷ []) move

-- Writing then reading gives the record back.
pub flags_read_back : object_of made 0 ≡ Ok (object_read (1 ∷ 0 ∷ 1 ∷ []) (1 ∷ []) 0)
unfolding opened
flags_read_back = refl

pub commands_read_back : part_of made 0 ≡ move
unfolding opened
commands_read_back = refl

-- Reading then writing gives the bytes back, for a file that the writer could have made.
pub accepted_back : write_verdict (1 ∷ 0 ∷ 1 ∷ []) (1 ∷ []) (part_of flagged 0) 94 ≡ Ok tt
unfolding opened
accepted_back = refl

pub bytes_back : file_of 0x30323030 (1 ∷ 0 ∷ 1 ∷ []) (1 ∷ []) (part_of flagged 0) ≡ flagged
unfolding opened
bytes_back = refl
