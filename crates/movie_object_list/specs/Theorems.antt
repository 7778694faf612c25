-- How long a listing can be. Assumes nothing.
use Rattle.std.specs.Prelude.{◌≡◌, List, ℕ, ◌+◌, ◌*◌, ◌≤◌, ◌<◌, length, get_or, Ok}
use Rattle.movie_object.specs.Rules.{count_of, verdict_of}
use Rattle.movie_object_list.specs.Rules.{file_text}

-- The text of a file of bytes that is read has at most 57 bytes for each object and 10 for each byte of the file.
abbrev pub LongestListing : Type 0
LongestListing = (s : List ℕ) → ((i : ℕ) → get_or s i 0 < 256) → verdict_of s ≡ Ok tt → length (file_text s) ≤ 57 * count_of s + 10 * length s
