-- What the listing program prints of a file (document 01, "Marked and run examples"). Assumes nothing.
use Rattle.std.specs.Prelude.{List, ℕ, length}
use Rattle.laws.specs.Over.{over}
use Rattle.error.specs.Rules.{Verdict}
use Rattle.movie_object.specs.Rules.{verdict_of}
use Rattle.movie_object_list.specs.Rules.{file_text}
use Rattle.nav_list.specs.Rules.{Listing, listing}
use Rattle.std.specs.Prelude.{Err, Ok}

-- All of a text, from the room's start, or why the file is refused: no text is too long for the room.
abbrev pub shown_as : Verdict → List ℕ → List ℕ → Listing
shown_as (Ok _) text room = listing (Ok (length text)) (over room 0 text)
shown_as (Err r) text room = listing (Err r) room

abbrev pub shown_of : List ℕ → List ℕ → Listing
shown_of file room = shown_as (verdict_of file) (file_text file) room
