-- Five bytes of a list, scanned one after the other. Assumes nothing.
use Rattle.std.specs.Prelude.{◌≡◌, refl, true, false, Option, None, List, [], ◌∷◌, ℕ, ◌+◌, ◌≤◌, ◌<◌, length, take, drop, get_or}
use Rattle.std.proofs.Common.{◌∙◌, add_assoc, add-one, drop-cons, arith, le-leb}
use Rattle.std.proofs.lemmas.Bool.Decides.{nat_tests}
use Rattle.std.proofs.Math.Seq.{drop-length}
use Rattle.laws.specs.Part.{part_cons}
use Rattle.utf8.specs.Rules.{fresh, lead_of, step_of, is_whole, scan_of, is_utf8}
use Rattle.utf8.specs.Pieces.{all_ascii}
use Rattle.utf8.specs.declared.Scan.{Scan}

bytes5 : (s : List ℕ) (at : ℕ) → at + 5 ≤ length s → take 5 (drop at s) ≡ get_or s at 0 ∷ get_or s (at + 1) 0 ∷ get_or s (at + 2) 0 ∷ get_or s (at + 3) 0 ∷ get_or s (at + 4) 0 ∷ []
bytes5 s at h =
    let e4 : take 1 (drop (at + 4) s) ≡ get_or s (at + 4) 0 ∷ [] = part_cons s (at + 4) 0 (omega arith) in
    let e3 : take 2 (drop (at + 3) s) ≡ get_or s (at + 3) 0 ∷ get_or s (at + 4) 0 ∷ [] = part_cons s (at + 3) 1 (omega arith) ∙ rw (add_assoc at 3 1, e4) in
    let e2 : take 3 (drop (at + 2) s) ≡ get_or s (at + 2) 0 ∷ get_or s (at + 3) 0 ∷ get_or s (at + 4) 0 ∷ [] = part_cons s (at + 2) 2 (omega arith) ∙ rw (add_assoc at 2 1, e3) in
    let e1 : take 4 (drop (at + 1) s) ≡ get_or s (at + 1) 0 ∷ get_or s (at + 2) 0 ∷ get_or s (at + 3) 0 ∷ get_or s (at + 4) 0 ∷ [] = part_cons s (at + 1) 3 (omega arith) ∙ rw (add_assoc at 1 1, e2) in
    part_cons s at 4 (omega arith) ∙ rw e1

-- five bytes, by what each step of the scan left
pub five : (s : List ℕ) (at : ℕ) (u1 u2 u3 u4 u5 : Option Scan) → at + 5 ≤ length s
    → u1 ≡ step_of fresh (get_or s at 0) → u2 ≡ step_of u1 (get_or s (at + 1) 0) → u3 ≡ step_of u2 (get_or s (at + 2) 0)
    → u4 ≡ step_of u3 (get_or s (at + 3) 0) → u5 ≡ step_of u4 (get_or s (at + 4) 0)
    → is_utf8 (take 5 (drop at s)) ≡ is_whole u5
unfolding is_utf8 scan_of
five s at u1 u2 u3 u4 u5 h e1 e2 e3 e4 e5 = rw (bytes5 s at h, ← e1, ← e2, ← e3, ← e4, ← e5)

-- bytes that no character begins with or goes on with stay so
pub refused : (s : List ℕ) → scan_of None s ≡ false
unfolding scan_of step_of
refused [] = refl
refused (b ∷ s) = refused s

pub starts : (s : List ℕ) → scan_of fresh s ≡ is_utf8 s
unfolding is_utf8
starts s = refl

-- one byte more of those that are left
pub goes_on : (u : Option Scan) (s : List ℕ) (i : ℕ) → i < length s → scan_of (step_of u (get_or s i 0)) (drop (i + 1) s) ≡ scan_of u (drop i s)
unfolding scan_of
goes_on u s i h = rw (drop-cons s i 0, add-one i)

pub ends : (u : Option Scan) (s : List ℕ) → scan_of u (drop (length s) s) ≡ is_whole u
unfolding scan_of
ends u s = simp drop-length

-- a byte below 128 is a character by itself
alone : (b : ℕ) → b < 128 → step_of fresh b ≡ fresh
unfolding step_of lead_of
alone b h = simp (le-leb 0 b (omega arith), le-leb b 127 (omega arith))

-- the fast path: five such bytes are UTF-8
pub ascii : (s : List ℕ) (at : ℕ) → at + 5 ≤ length s
    → all_ascii (get_or s at 0) (get_or s (at + 1) 0) (get_or s (at + 2) 0) (get_or s (at + 3) 0) (get_or s (at + 4) 0) ≡ true
    → is_utf8 (take 5 (drop at s)) ≡ true
unfolding is_utf8 scan_of
ascii s at h t =
    rw (bytes5 s at h) (grind (arith, nat_tests, alone))
