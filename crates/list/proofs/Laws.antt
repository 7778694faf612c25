-- A text of a file has at most 25 bytes for each byte of the file, so that such room holds it. Assumes nothing.
use mathlib.Core.Path.{◌≡◌, refl}
use mathlib.Core.List.{List}
use Prim.Native.Nat.{ℕ, ◌*◌, ◌≤◌, ◌<◌}
use native.Mathlib.Nat.{zero-add}
use native.Mathlib.Omega.{arith}
use lib.ListN.{length, get_or}
use borrow.Author.Tests.{le-leb}
use Rattle.error.specs.Rules.{Verdict}
use Rattle.movie_object.specs.Rules.{verdict_of, count_of}
use Rattle.movie_object.specs.Laws.{good, place_least}
use Rattle.movie_object_list.specs.Rules.{file_text, listed_as, list_file}
use Rattle.movie_object_list.proofs.Lengths.{file_short}
use Rattle.nav_list.specs.Rules.{list_of}
use Rattle.list.specs.Rules.{shown_as, shown_of}
use Rattle.std.specs.Prelude.{Err, Ok}

module _ (s room : List ℕ) (bytes : (i : ℕ) → get_or s i 0 < 256) (enough : 25 * length s ≤ length room) where
  fits : verdict_of s ≡ Ok tt → length (file_text s) ≤ length room
  fits v = omega (arith, enough, file_short s bytes v, place_least s (count_of s), (good s v).last)

  by_verdict : (v : Verdict) → verdict_of s ≡ v → listed_as v (file_text s) room 0 ≡ shown_as v (file_text s) room
  unfolding list_of
  by_verdict (Ok tt) e = rw (zero-add (length (file_text s)), le-leb _ _ (fits e))
  by_verdict (Err r) e = refl

  pub shown : list_file s room 0 ≡ shown_of s room
  unfolding list_file
  shown = by_verdict (verdict_of s) refl
