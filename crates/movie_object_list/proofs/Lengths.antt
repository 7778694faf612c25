-- How long the texts are at most. Assumes nothing.
use Rattle.std.proofs.Common.{◌≡◌, refl, List, ℕ, zero, suc, ◌+◌, ◌*◌, ◌≤◌, ◌<◌, Ok, leb, length, get_or, take, drop, add-one, arith, leb-true, leb-false, length-drop, length-take-le}
use Rattle.std.proofs.Math.ListN.{get_or-eq_default}
use Rattle.laws.specs.Cases.{by_test}
use Rattle.laws.specs.Firsts.{blocks}
use Rattle.laws.specs.Part.{part_at}
use Rattle.common.specs.Rules.{be2}
use Rattle.common.specs.Laws.{be2_below}
use Rattle.movie_object.specs.Rules.{place, count_of, verdict_of, head_at}
use Rattle.movie_object.specs.Laws.{place_suc, object_in, good}
use Rattle.nav_list.proofs.Lengths.{longest}
use Rattle.nav_list.specs.Rules.{line_at}
use Rattle.movie_object_list.specs.Laws.{heading_fits, prefix_short, blocks_more, line_length, text_length, part_length, objects_more}
use Rattle.movie_object_list.specs.Rules.{line_text, text_at, block_text, file_text}
use Rattle.movie_object_list.specs.Theorems.{LongestListing}

abbrev Bytes : List ℕ → Type 0
Bytes s = (i : ℕ) → get_or s i 0 < 256

-- a part of a list of bytes
module _ (s : List ℕ) (k n : ℕ) (inside : k + n ≤ length s) where
  part_long : length (take n (drop k s)) ≡ n
  part_long = length-take-le n (drop k s) (omega (arith, length-drop k s))

  part_small : Bytes s → Bytes (take n (drop k s))
  part_small b i =
      by_test (leb n i)
      (λ t. omega (arith, get_or-eq_default (take n (drop k s)) 0 {n = i} (omega (arith, part_long, leb-true n i t))))
      (λ t. omega (arith, part_at s k n i (leb-false n i t), b (k + i)))

line_short : (s : List ℕ) (k : ℕ) → Bytes s → k + 12 ≤ length s → length (line_at s k) ≤ 102
unfolding line_at
line_short s k b h = longest (take 12 (drop k s)) (record { long = part_long s k 12 h; small = part_small s k 12 h b })

none : (f : ℕ → List ℕ) → length (blocks f 0) ≤ 0
unfolding blocks
none f = omega arith

pub lines_short : (s : List ℕ) (n : ℕ) → Bytes s → n < 65536 → 12 * n ≤ length s → length (blocks (line_text s) n) ≤ 118 * n
lines_short s zero b h l = none (line_text s)
lines_short s (suc n) b h l =
    rw (← add-one n)
    (omega (
      arith,
      blocks_more (line_text s) n,
      line_length s n,
      prefix_short n (omega arith),
      line_short s (12 * n) b (omega arith),
      lines_short s n b (omega arith) (omega arith),
    ))

pub object_short : (s : List ℕ) (head n : ℕ) → Bytes s → n < 65536 → head + 4 + 12 * be2 s (head + 2) ≤ length s → length (text_at s head n) ≤ 96 + 118 * be2 s (head + 2)
unfolding head_at
object_short s head n b h l =
    let count : ℕ = be2 s (head + 2) in
    let commands : List ℕ = take (12 * count) (drop (head + 4) s) in
    omega (
      arith,
      text_length n (head_at s head) commands,
      heading_fits s head n b h,
      lines_short commands count (part_small s (head + 4) (12 * count) l b) (be2_below s (head + 2) b) (omega (arith, part_length s head l)),
    )

pub count_below : (s : List ℕ) → Bytes s → count_of s < 65536
unfolding count_of
count_below s b = be2_below s 76 b

-- an object has 4 bytes and 12 for each command, its text and a line end at most 97 and 118
pub objects_short : (s : List ℕ) (n : ℕ) → Bytes s → verdict_of s ≡ Ok tt → n ≤ count_of s → length (blocks (block_text s) n) ≤ 57 * n + 10 * place s n
objects_short s zero b v h = omega (arith, none (block_text s))
objects_short s (suc n) b v h =
    rw (← add-one n)
    (omega (
      arith,
      objects_more s n (place s n) (omega arith) refl,
      object_short s (place s n) n b (omega (arith, count_below s b)) (object_in s n v (omega arith)),
      place_suc s n,
      objects_short s n b v (omega arith),
    ))

pub file_short : LongestListing
unfolding file_text
file_short s b v = omega (arith, objects_short s (count_of s) b v (omega arith), (good s v).last)
