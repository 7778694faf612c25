-- An object, and all objects of a file, as text (document 01, "Marked and run examples"; the Rust's `MovieObject::disassemble`). Assumes nothing.
use Rattle.std.specs.Prelude.{cond, List, [], ◌∷◌, ◌++◌, ℕ, ◌*◌, eqb, Err, Ok}
use Rattle.laws.specs.Firsts.{blocks}
use Rattle.text.specs.Rules.{bytes, numeral, right_in}
use Rattle.error.specs.Rules.{first_of, Verdict}
use Rattle.movie_object.specs.declared.MovieObject.{MovieObject}
use Rattle.movie_object.specs.Rules.{verdict_of, count_of, part_at, head_at, head_of, commands_of, on_disc}
use Rattle.nav_list.specs.Rules.{line_at, Listing, listing, list_of}

-- It is `cmds` unless the count is 1.
unfoldable pub count_text : ℕ → List ℕ
count_text count = numeral 10 count ++ cond (eqb count 1) (bytes " cmd)") (bytes " cmds)")

-- The fields are object number, three flags, command count.
unfoldable pub heading_text : ℕ → MovieObject → List ℕ
heading_text n o =
    bytes "MovieObject["
    ++ numeral 10 n
    ++ bytes "] (resume="
    ++ numeral 10 o.resume_intention_flag
    ++ bytes ", menu_mask="
    ++ numeral 10 o.menu_call_mask
    ++ bytes ", title_mask="
    ++ numeral 10 o.title_search_mask
    ++ bytes ", "
    ++ count_text o.commands

-- Then, on a line of its own and after two spaces, each command's number, right-aligned in three columns, and its text.
unfoldable pub prefix_text : ℕ → List ℕ
prefix_text i = (10 ∷ bytes "  ") ++ right_in 3 (numeral 10 i) ++ bytes ": "

abbrev pub line_text : List ℕ → ℕ → List ℕ
line_text commands i = prefix_text i ++ line_at commands (12 * i)

unfoldable pub object_text : ℕ → MovieObject → List ℕ → List ℕ
object_text n o commands = heading_text n o ++ blocks (line_text commands) o.commands

-- The text of the object whose head stands at a place.
abbrev pub text_at : List ℕ → ℕ → ℕ → List ℕ
text_at s head n = object_text n (head_at s head) (part_at s head)

-- The whole file: the text of each object, and a line end.
abbrev pub block_text : List ℕ → ℕ → List ℕ
block_text s n = object_text n (head_of s n) (commands_of s n) ++ (10 ∷ [])

unfoldable pub file_text : List ℕ → List ℕ
file_text s = blocks (block_text s) (count_of s)

-- A refused file, or an object that isn't on the disc, alters nothing; and so does a text that is longer than the room.
abbrev pub listed_as : Verdict → List ℕ → List ℕ → ℕ → Listing
listed_as (Ok u) text out at = list_of out at text
listed_as (Err r) text out at = listing (Err r) out

unfoldable pub list_object : List ℕ → ℕ → List ℕ → ℕ → Listing
list_object s n out at = listed_as (first_of (verdict_of s) (on_disc s n)) (object_text n (head_of s n) (commands_of s n)) out at

unfoldable pub list_file : List ℕ → List ℕ → ℕ → Listing
list_file s out at = listed_as (verdict_of s) (file_text s) out at
