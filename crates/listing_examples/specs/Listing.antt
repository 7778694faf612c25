-- Examples of objects as text (document 01, "Marked and run examples"). Assumes nothing.
use Rattle.std.specs.Prelude.{◌≡◌, refl, true, List, [], ◌∷◌, ◌++◌, ℕ, ◌+◌, ◌*◌, leb, length, replicate, Err, Ok}
use Prim.Native.String.{String}
use Rattle.laws.specs.Firsts.{blocks}
use Rattle.laws.specs.Over.{over}
use Rattle.common.specs.Rules.{be2, be4, bytes2, bytes4, header_of}
use Rattle.error.specs.declared.Refusal.TheVariants.{NoRoom, NotAnEntry}
use Rattle.text.specs.Rules.{bytes, numeral, right_in}
use Rattle.nav_command.specs.Rules.{set_of, operand_of, command_of}
use Rattle.nav_names.specs.Rules.{mnemonic}
use Rattle.nav_list.specs.Rules.{immediate_text, general_text, line_of, line_at, listing, list_of}
use Rattle.movie_object.specs.Rules.{count_of, next, place, body_of, verdict_of, commands_of, head_at}
use Rattle.movie_object_list.specs.Rules.{count_text, heading_text, prefix_text, object_text, file_text, list_object, list_file}
use Rattle.movie_object_examples.specs.Objects.{move, one}

-- what the examples compute with
opened : Unit {0}
unfolding blocks over be2 be4 bytes2 bytes4 header_of numeral right_in set_of operand_of command_of mnemonic immediate_text general_text line_of line_at list_of count_of next place body_of verdict_of commands_of head_at count_text heading_text prefix_text object_text file_text list_object list_file
opened = tt

-- document 01's listing of its file
abbrev heading : List ℕ
heading = bytes "MovieObject[0] (resume=0, menu_mask=0, title_mask=0, 1 cmd)"

-- a file of two objects without commands, and the line of each
abbrev two : List ℕ
two = bytes "MOBJ0200" ++ replicate 68 0 ++ bytes2 2 ++ replicate 8 0

abbrev bare : String → List ℕ
bare n = bytes "MovieObject[" ++ bytes n ++ bytes "] (resume=0, menu_mask=0, title_mask=0, 0 cmds)"

-- After two spaces the command number, right-aligned in three columns, name, operands.
pub object_as_text : object_text 0 (head_at one 78) move ≡ heading ++ (10 ∷ bytes "    0: Move r5, 0x10")
unfolding opened
object_as_text = refl

-- Each object's listing and a line end.
pub file_as_text : file_text two ≡ bare "0" ++ (10 ∷ []) ++ bare "1" ++ (10 ∷ [])
unfolding opened
file_as_text = refl

-- The text goes from a place on, and all else stays.
pub listed_from_1 : list_object two 1 (replicate 62 7) 1 ≡ listing (Ok 61) ((7 ∷ []) ++ bare "1" ++ (7 ∷ []))
unfolding opened
listed_from_1 = refl

-- An object to list that isn't on the disc.
pub no_such_object : list_object two 2 (replicate 60 7) 0 ≡ listing (Err NotAnEntry) (replicate 60 7)
unfolding opened
no_such_object = refl

-- Output longer than the lent buffer alters nothing.
pub no_room : list_file two (replicate 121 7) 0 ≡ listing (Err NoRoom) (replicate 121 7)
unfolding opened
no_room = refl

-- forty objects without commands, in 238 bytes
abbrev forty : List ℕ
forty = bytes "MOBJ0200" ++ replicate 68 0 ++ bytes2 40 ++ replicate 160 0

-- At most 57 bytes for each object and 10 for each byte of the file are 4,660 here; these are ten lines of 61 bytes and thirty of 62.
pub forty_lines : length (file_text forty) ≡ 2470
unfolding opened
forty_lines = refl

pub within_the_bound : leb (length (file_text forty)) (57 * 40 + 10 * 238) ≡ true
unfolding opened
within_the_bound = refl
