-- Examples of what the calls for a MovieObject.bdmv hand out (include/mescjadro.h). Assumes nothing.
use Rattle.std.specs.Prelude.{◌≡◌, refl, List, [], ◌∷◌, ◌++◌, ℕ, replicate}
use Prim.Native.String.{String}
use Rattle.laws.specs.Firsts.{sum, all, all_below, blocks}
use Rattle.laws.specs.Over.{over}
use Rattle.common.specs.Rules.{be2, be4, bytes2, bytes4, header_of, room_verdict}
use Rattle.text.specs.Rules.{bytes, numeral}
use Rattle.nav_list.specs.Rules.{list_of}
use Rattle.movie_object.specs.Rules.{count_of, next, place, body_of, verdict_of, commands_of, parse_of, head_at, object_of}
use Rattle.movie_object_list.specs.Rules.{count_text, heading_text, object_text, file_text, list_object, list_file}
use Rattle.movie_object_write.specs.Rules.{cmds_at, object_bytes, object, head_bytes, size_of, file_of, encodable, write_verdict, write_of}
use Rattle.lent.specs.Rules.{handed, size, measured}
use Rattle.object_calls.specs.Rules.{objects_call, object_call, list_object_call, list_call, write_objects_call}

-- what the examples compute with
opened : Unit {0}
unfolding sum all all_below blocks over be2 be4 bytes2 bytes4 header_of room_verdict numeral list_of count_of next place body_of verdict_of commands_of parse_of head_at object_of count_text heading_text object_text file_text list_object list_file cmds_at object_bytes object head_bytes size_of file_of encodable write_verdict write_of objects_call object_call list_object_call list_call write_objects_call
opened = tt

-- a file of one object with a Nop, which asks to be resumed
abbrev file : List ℕ
file = file_of 0x3032_3030 (1 ∷ 0 ∷ 0 ∷ []) (1 ∷ []) (replicate 12 0)

-- Version and number of objects.
head : objects_call file (9 ∷ 9 ∷ []) ≡ handed 0 (0x3032_3030 ∷ 1 ∷ [])
unfolding opened
head = refl

-- 6 bad buffer: the result has two numbers.
three_numbers : objects_call file (9 ∷ 9 ∷ 9 ∷ []) ≡ handed 6 (9 ∷ 9 ∷ 9 ∷ [])
unfolding opened
three_numbers = refl

-- Its flags, its number of commands, and where they start: four bytes after the head at 78.
object_0 : object_call file 0 (replicate 5 9) ≡ handed 0 (1 ∷ 0 ∷ 0 ∷ 1 ∷ 82 ∷ [])
unfolding opened
object_0 = refl

-- 10 not an entry: the array stays as it was.
object_1 : object_call file 1 (replicate 5 9) ≡ handed 10 (replicate 5 9)
unfolding opened
object_1 = refl

-- a file of two objects without commands, and the sixty bytes of each one's listing
abbrev two : List ℕ
two = file_of 0 (replicate 6 0) (0 ∷ 0 ∷ []) []

abbrev bare : String → List ℕ
bare n = bytes "MovieObject[" ++ bytes n ++ bytes "] (resume=0, menu_mask=0, title_mask=0, 0 cmds)"

-- The listing of one object, without a line end, and its length.
one_listed : list_object_call two 1 (replicate 62 9) 0 ≡ measured (bare "1" ++ (9 ∷ 9 ∷ [])) (size 0 60)
unfolding opened
one_listed = refl

-- 10 not an entry: the room and the length stay as they were.
none_listed : list_object_call two 2 (replicate 62 9) 7 ≡ measured (replicate 62 9) (size 10 7)
unfolding opened
none_listed = refl

-- The listings of all objects, each with a line end, and their length.
all_listed : list_call two (replicate 123 9) 0 ≡ measured (bare "0" ++ (10 ∷ []) ++ bare "1" ++ (10 ∷ 9 ∷ [])) (size 0 122)
unfolding opened
all_listed = refl

-- 5 no room: the room and the length stay as they were.
no_room : list_call two (replicate 121 9) 7 ≡ measured (replicate 121 9) (size 5 7)
unfolding opened
no_room = refl

-- Written length: 78 plus 4 per object plus 12 per command. The rest of the room stays.
written : write_objects_call 0x3032_3030 (1 ∷ 0 ∷ 0 ∷ []) (1 ∷ []) (replicate 12 0) (replicate 96 9) 0 ≡ measured (file ++ (9 ∷ 9 ∷ [])) (size 0 94)
unfolding opened
written = refl

-- 6 bad buffer, before 9: commands not in whole twelves, and a flag of 2.
cut_commands : write_objects_call 0 (2 ∷ 0 ∷ 0 ∷ []) (1 ∷ []) (replicate 11 0) (replicate 96 9) 7 ≡ measured (replicate 96 9) (size 6 7)
unfolding opened
cut_commands = refl
