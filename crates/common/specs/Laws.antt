-- Laws of big-endian numbers, and what the reader's answers and the header's verdict tell. Assumes nothing.
use Rattle.std.proofs.Math.Path.{◌≡◌, refl}
use Rattle.std.proofs.Common.{sym, ap, ◌∙◌, add_assoc, arith, length-drop, get_or-append-add, length-take-le, ext_get_or}
use Rattle.std.specs.Prelude.{Bool, List, [], ◌∷◌, ◌++◌, ℕ, ◌+◌, ◌*◌, ◌/◌, ◌%◌, ◌≤◌, ◌<◌, leb, length, get_or, take, drop, replicate, Err, Ok, Result}
use Rattle.std.proofs.Math.Bool.{true, false, cond}
use Rattle.std.proofs.Math.Nat.{div-div-eq-div-mul}
use Rattle.std.proofs.Math.Dec.{ltb, eqb}
use Rattle.std.proofs.lemmas.List.{length-replicate, get_or-replicate}
use Rattle.std.proofs.Math.ListN.{get_or-eq_default}
use borrow.Author.Tests.{leb-true, leb-false, le-ltb, ltb-false, eq-eqb, eqb-true}
use Rattle.laws.specs.Part.{part_cons, part_at}
use Rattle.error.specs.Rules.{Verdict, fine, refused_if}
use Rattle.error.specs.Laws.{both_fine, not_refused}
use Rattle.error.specs.declared.Refusal.{Refusal}
use Rattle.error.specs.declared.Refusal.TheVariants.{TooLong, BadHeader, BadBody, NoRoom}
use Rattle.common.specs.Rules.{be2, be4, bytes2, bytes4, seek_of, read_u8, read_u16, read_u32, limit, header_of, room_verdict, left}

-- ---- numbers in a longer list

-- past a front of known length
pub be2_skip : (p s : List ℕ) (n : ℕ) → be2 (p ++ s) (length p + n) ≡ be2 s n
unfolding be2
be2_skip p s n = simp (add_assoc, get_or-append-add)

-- ---- a number that was written is read back

pub length_bytes2 : (x : ℕ) → length (bytes2 x) ≡ 2
unfolding bytes2
length_bytes2 x = refl

pub length_bytes4 : (x : ℕ) → length (bytes4 x) ≡ 4
unfolding bytes4
length_bytes4 x = refl

pub be2_bytes2 : (q : List ℕ) (x : ℕ) → x < 65536 → be2 (bytes2 x ++ q) 0 ≡ x
unfolding be2 bytes2
be2_bytes2 q x h = omega arith

-- four digits to the base 256, each quotient from the one before
digits : (x y z w : ℕ) → y ≡ x / 256 → z ≡ y / 256 → w ≡ z / 256 → x < 4294967296 → w % 256 * 16777216 + z % 256 * 65536 + y % 256 * 256 + x % 256 ≡ x
digits x y z w ey ez ew h =
    let a : w < 256 = omega arith in
    let b : w % 256 ≡ w = omega arith in
    let c : z ≡ w * 256 + z % 256 = omega arith in
    let d : y ≡ z * 256 + y % 256 = omega arith in
    let e : x ≡ y * 256 + x % 256 = omega arith in
    omega (arith, b, c, d, e)

pub be4_bytes4 : (q : List ℕ) (x : ℕ) → x < 4294967296 → be4 (bytes4 x ++ q) 0 ≡ x
unfolding be4 bytes4
be4_bytes4 q x h = digits x (x / 256) (x / 65536) (x / 16777216) refl (sym (div-div-eq-div-mul x 256 256)) (sym (div-div-eq-div-mul x 65536 256)) h

-- ---- what an answer of the reader tells

-- a position that was reached
pub record Reached (s : List ℕ) (to q : ℕ) : Type 0 where
  pub inside : to ≤ length s
  pub here : q ≡ to

-- a value that was read, and the position behind it
pub record Took (s : List ℕ) (to value x q : ℕ) : Type 0 where
  pub inside : to ≤ length s
  pub is : x ≡ value
  pub here : q ≡ to

-- an answer beside the position after it
abbrev Answer : Type 0 → Type 0
Answer A = Result A Refusal × ℕ

-- which way a test went, from the answer that it picked
yes : {A : Type 0} (t : Bool) {x y z : A} → (y ≡ z → ⊥) → cond t x y ≡ z → (t ≡ true) × (x ≡ z)
yes true n e = (refl, e)
yes false n e = absurd (n e)

no : {A : Type 0} (t : Bool) (y : A) {x z : A} → (x ≡ z → ⊥) → cond t x y ≡ z → t ≡ false
no true y n e = absurd (n e)
no false y n e = refl

-- the same, of an answer beside the position after it
module _ {A : Type 0} (v : A) (to at : ℕ) {m : Result A Refusal} {q : ℕ} where
  went : (t : Bool) {x : A} → ◌≡◌ {A = Answer A} (m, q) (cond t (Ok v, to) (Err BadBody, at)) → m ≡ Ok x → (t ≡ true) × (x ≡ v) × (q ≡ to)
  went true e f = let g = sym f ∙ ap (λ (a : Answer A). a.0) e in (refl, cc, ap (λ (a : Answer A). a.1) e)
  went false e f = let g = sym f ∙ ap (λ (a : Answer A). a.0) e in let z : ◌≡◌ {A = ℕ} 0 1 = cc in absurd (omega arith)

  stayed : (t : Bool) {w : Refusal} → ◌≡◌ {A = Answer A} (m, q) (cond t (Ok v, to) (Err BadBody, at)) → m ≡ Err w → t ≡ false
  stayed true e f = let g = sym f ∙ ap (λ (a : Answer A). a.0) e in let z : ◌≡◌ {A = ℕ} 0 1 = cc in absurd (omega arith)
  stayed false e f = refl

-- from a position that is known by an equation
module _ (s : List ℕ) (at : ℕ) {p q : ℕ} (here : p ≡ at) where
  pub seek_to : (a : ℕ) {m : Verdict} → (m, q) ≡ seek_of s a p → m ≡ fine → Reached s at q
  seek_to a e f = let t = went _ _ _ (leb at (length s)) (rw here at e) f in record { inside = leb-true _ _ t.0; here = t.2 }

  pub seek_past : (a : ℕ) {m : Verdict} {w : Refusal} → (m, q) ≡ seek_of s a p → m ≡ Err w → length s < at
  seek_past a e f = leb-false _ _ (stayed tt at a (leb at (length s)) (rw here at e) f)

  pub u8_read : {m : Result ℕ Refusal} {x : ℕ} → (m, q) ≡ read_u8 s p → m ≡ Ok x → Took s (at + 1) (get_or s at 0) x q
  u8_read e f = let t = went _ _ at (leb (at + 1) (length s)) (rw here at e) f in record { inside = leb-true _ _ t.0; is = t.1; here = t.2 }

  pub u8_past : {m : Result ℕ Refusal} {w : Refusal} → (m, q) ≡ read_u8 s p → m ≡ Err w → length s < at + 1
  u8_past e f = leb-false _ _ (stayed (get_or s at 0) (at + 1) at (leb (at + 1) (length s)) (rw here at e) f)

  pub u16_read : {m : Result ℕ Refusal} {x : ℕ} → (m, q) ≡ read_u16 s p → m ≡ Ok x → Took s (at + 2) (be2 s at) x q
  u16_read e f = let t = went _ _ at (leb (at + 2) (length s)) (rw here at e) f in record { inside = leb-true _ _ t.0; is = t.1; here = t.2 }

  pub u16_past : {m : Result ℕ Refusal} {w : Refusal} → (m, q) ≡ read_u16 s p → m ≡ Err w → length s < at + 2
  u16_past e f = leb-false _ _ (stayed (be2 s at) (at + 2) at (leb (at + 2) (length s)) (rw here at e) f)

  pub u32_read : {m : Result ℕ Refusal} {x : ℕ} → (m, q) ≡ read_u32 s p → m ≡ Ok x → Took s (at + 4) (be4 s at) x q
  u32_read e f = let t = went _ _ at (leb (at + 4) (length s)) (rw here at e) f in record { inside = leb-true _ _ t.0; is = t.1; here = t.2 }

  pub u32_past : {m : Result ℕ Refusal} {w : Refusal} → (m, q) ≡ read_u32 s p → m ≡ Err w → length s < at + 4
  u32_past e f = leb-false _ _ (stayed (be4 s at) (at + 4) at (leb (at + 4) (length s)) (rw here at e) f)

-- ---- the header

-- what an accepted header tells
pub record Headed (kind : ℕ) (s : List ℕ) : Type 0 where
  pub short : length s ≤ limit
  pub long : 40 ≤ length s
  pub named : be4 s 0 ≡ kind

module _ (kind : ℕ) (s : List ℕ) where
  pub header_fine : Headed kind s → header_of kind s ≡ Ok tt
  unfolding header_of
  header_fine h = simp (le-ltb _ _ h.short, le-ltb _ _ h.long, eq-eqb _ _ h.named)

  pub headed : header_of kind s ≡ Ok tt → Headed kind s
  unfolding header_of
  headed e = go (ltb limit (length s)) refl (ltb (length s) 40) refl (eqb (be4 s 0) kind) refl e
    where
      go : (a : Bool) → ltb limit (length s) ≡ a → (b : Bool) → ltb (length s) 40 ≡ b → (d : Bool) → eqb (be4 s 0) kind ≡ d
          → cond a (Err TooLong) (cond b (Err BadHeader) (cond d fine (Err BadHeader))) ≡ fine → Headed kind s
      go true ea b eb d ed v = let z : ◌≡◌ {A = ℕ} 0 1 = cc in absurd (omega arith)
      go false ea true eb d ed v = let z : ◌≡◌ {A = ℕ} 0 1 = cc in absurd (omega arith)
      go false ea false eb false ed v = let z : ◌≡◌ {A = ℕ} 0 1 = cc in absurd (omega arith)
      go false ea false eb true ed v = record { short = ltb-false _ _ ea; long = ltb-false _ _ eb; named = eqb-true _ _ ed }

-- past the end every number is 0
pub be2_past : (s : List ℕ) (at : ℕ) → length s ≤ at → be2 s at ≡ 0
unfolding be2
be2_past s at h = rw (get_or-eq_default s 0 {n = at} h, get_or-eq_default s 0 {n = at + 1} (omega arith))

pub be4_past : (s : List ℕ) (at : ℕ) → length s ≤ at → be4 s at ≡ 0
unfolding be4
be4_past s at h =
    rw (
      get_or-eq_default s 0 {n = at} h,
      get_or-eq_default s 0 {n = at + 1} (omega arith),
      get_or-eq_default s 0 {n = at + 2} (omega arith),
      get_or-eq_default s 0 {n = at + 3} (omega arith),
    )

-- a number of two bytes is below 65,536, and one of four below 4,294,967,296
pub be2_below : (s : List ℕ) (at : ℕ) → ((i : ℕ) → get_or s i 0 < 256) → be2 s at < 65536
unfolding be2
be2_below s at h = omega (arith, h at, h (at + 1))

pub be4_below : (s : List ℕ) (at : ℕ) → ((i : ℕ) → get_or s i 0 < 256) → be4 s at < 4294967296
unfolding be4
be4_below s at b = omega (arith, b at, b (at + 1), b (at + 2), b (at + 3))

-- ---- bytes that were read are written back

-- two bytes at a place, from their number
pub bytes2_be2 : (s : List ℕ) (at : ℕ) → ((i : ℕ) → get_or s i 0 < 256) → at + 2 ≤ length s → take 2 (drop at s) ≡ bytes2 (be2 s at)
unfolding be2 bytes2
bytes2_be2 s at b h =
    let x = get_or s at 0 in
    let y = get_or s (at + 1) 0 in
    let e1 : x ≡ (x * 256 + y) / 256 % 256 = omega (arith, b at, b (at + 1)) in
    let e2 : y ≡ (x * 256 + y) % 256 = omega (arith, b (at + 1)) in
    part_cons s at 1 (omega arith)
    ∙ ap (λ (l : List ℕ). x ∷ l) (part_cons s (at + 1) 0 (omega arith))
    ∙ two e1 e2
  where
    two : {p q u v : ℕ} → p ≡ u → q ≡ v → p ∷ q ∷ [] ≡ u ∷ v ∷ []
    two e f = cc

-- four bytes
places : (x y z w n : ℕ) → x < 256 → y < 256 → z < 256 → w < 256 → n ≡ x * 16777216 + y * 65536 + z * 256 + w
    → (x ≡ n / 16777216 % 256) × (y ≡ n / 65536 % 256) × (z ≡ n / 256 % 256) × (w ≡ n % 256)
places x y z w n hx hy hz hw e =
    let a : n / 256 ≡ x * 65536 + y * 256 + z = omega arith in
    let b : n / 256 / 256 ≡ x * 256 + y = omega (arith, a) in
    let c : n / 256 / 256 / 256 ≡ x = omega (arith, b) in
    let b' : n / 65536 ≡ n / 256 / 256 = sym (div-div-eq-div-mul n 256 256) in
    let c' : n / 16777216 ≡ n / 65536 / 256 = sym (div-div-eq-div-mul n 65536 256) in
    let d : n / 16777216 ≡ x = c' ∙ ap (λ (m : ℕ). m / 256) b' ∙ c in
    let f : n / 65536 ≡ x * 256 + y = b' ∙ b in
    (omega (arith, d), omega (arith, f), omega (arith, a), omega arith)

pub bytes4_be4 : (s : List ℕ) (at : ℕ) → ((i : ℕ) → get_or s i 0 < 256) → at + 4 ≤ length s → take 4 (drop at s) ≡ bytes4 (be4 s at)
unfolding be4 bytes4
bytes4_be4 s at b h =
    let p = places (get_or s at 0) (get_or s (at + 1) 0) (get_or s (at + 2) 0) (get_or s (at + 3) 0) _ (b at) (b (at + 1)) (b (at + 2)) (b (at + 3)) refl in
    let e3 : take 1 (drop (at + 3) s) ≡ get_or s (at + 3) 0 ∷ [] = part_cons s (at + 3) 0 (omega arith) in
    let e2 : take 2 (drop (at + 2) s) ≡ get_or s (at + 2) 0 ∷ get_or s (at + 3) 0 ∷ [] = part_cons s (at + 2) 1 (omega arith) ∙ rw (add_assoc at 2 1, e3) in
    let e1 : take 3 (drop (at + 1) s) ≡ get_or s (at + 1) 0 ∷ get_or s (at + 2) 0 ∷ get_or s (at + 3) 0 ∷ [] = part_cons s (at + 1) 2 (omega arith) ∙ rw (add_assoc at 1 1, e2) in
    part_cons s at 3 (omega arith) ∙ ap (λ (l : List ℕ). get_or s at 0 ∷ l) e1 ∙ four p.0 p.1 p.2 p.3
  where
    four : {p q u v x y z w : ℕ} → p ≡ x → q ≡ y → u ≡ z → v ≡ w → p ∷ q ∷ u ∷ v ∷ [] ≡ x ∷ y ∷ z ∷ w ∷ []
    four e f g h = cc

-- n zeros at a place
pub zeros_at : (s : List ℕ) (at n : ℕ) → at + n ≤ length s → ((i : ℕ) → i < n → get_or s (at + i) 0 ≡ 0) → take n (drop at s) ≡ replicate n 0
zeros_at s at n h z =
    ext_get_or 0 _ _ (e ∙ sym (length-replicate n 0))
    (λ i p. let q : i < n = omega (arith, e) in part_at s at n i q ∙ z i q ∙ sym (get_or-replicate n i 0 0 q))
  where
    e : length (take n (drop at s)) ≡ n
    e = length-take-le n (drop at s) (omega (arith, length-drop at s))

-- ---- what a writer has room for, and what it leaves

pub room_tells : (size room : ℕ) → room_verdict size room ≡ Ok tt → (size ≤ limit) × (size ≤ room)
unfolding room_verdict
room_tells size room e =
    let p = both_fine (refused_if (ltb limit size) NoRoom) _ e in
    (ltb-false _ _ (not_refused _ NoRoom p.0), ltb-false _ _ (not_refused _ NoRoom p.1))

pub room_made : (size room : ℕ) → size ≤ limit → size ≤ room → room_verdict size room ≡ Ok tt
unfolding room_verdict
room_made size room short fits = simp (le-ltb _ _ short, le-ltb _ _ fits)

pub left_is : {out out' : List ℕ} {n n' : ℕ} → out ≡ out' → n ≡ n' → left out (Ok n) ≡ left out' (Ok n')
left_is e f = cc
