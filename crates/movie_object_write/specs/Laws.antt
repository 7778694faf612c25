-- Laws of the writer: the lengths, what an accepted record has, and what each verdict leaves. Assumes nothing.
use Rattle.std.specs.Prelude.{◌≡◌, Bool, true, false, not, List, [], ◌∷◌, eqb, leb, take, drop, set, replicate, Ok}
use Rattle.std.proofs.Math.Path.{refl, ap}
use Rattle.std.proofs.Common.{drop-drop, sym, ◌∙◌, add-one, arith}
use Prim.Native.Nat.{ℕ, zero, suc, ◌+◌, ◌*◌, ◌-◌, ◌/◌, ◌%◌, ◌≤◌, ◌<◌}
use Rattle.std.proofs.Math.Nat.{add-sub_cancel_left}
use Rattle.std.proofs.Math.ListN.{length, get_or, length-append, length-drop}
use Rattle.std.proofs.Math.Seq.{length-take-le}
use borrow.Author.Tests.{le-leb, leb-true, eq-eqb, eqb-true, not-false}
use Rattle.laws.specs.Cases.{both}
use Rattle.laws.specs.Firsts.{sum, sum_suc, sum_mono, all_below, below_tells, below_made, below_not, blocks, blocks_suc}
use Rattle.laws.specs.Over.{over, over_next, store2}
use Rattle.common.specs.Rules.{bytes2, bytes4, limit}
use Rattle.common.specs.Laws.{room_tells, room_made}
use Rattle.error.specs.Laws.{both_fine, not_refused}
use Rattle.error.specs.Rules.{refused_if}
use Rattle.error.specs.declared.Refusal.TheVariants.{BadBuffer, NotEncodable}
use Rattle.movie_object_write.specs.Rules.{resume_at, menu_at, title_at, flag_byte, cmds_at, object_bytes, object, head_bytes, size_of, file_of, encodable, write_verdict}
use Rattle.std.specs.Bool.{MatchBool}
use Rattle.std.specs.Simd.{first_chunks}
use Rattle.laws.specs.Part.{part_at}
use Rattle.std.specs.List.{AllWithin, HoldsAt}

-- ---- lengths

pub length_head_bytes : (version n stated : ℕ) → length (head_bytes version n stated) ≡ 78
unfolding head_bytes bytes4 bytes2
length_head_bytes version n stated = refl

length_object_bytes : (bits c : ℕ) (v : List ℕ) → length (object_bytes bits c v) ≡ 4 + length v
unfolding object_bytes bytes2
length_object_bytes bits c v = omega arith

module _ (flags counts commands : List ℕ) where
  pub length_cmds_at : (k : ℕ) → 12 * sum counts (k + 1) ≤ length commands → length (cmds_at counts commands k) ≡ 12 * get_or counts k 0
  unfolding cmds_at
  length_cmds_at k h =
      length-take-le (12 * get_or counts k 0) (drop (12 * sum counts k) commands) (omega (arith, sum_suc counts k, length-drop (12 * sum counts k) commands))

  length_object : (k : ℕ) → 12 * sum counts (k + 1) ≤ length commands → length (object flags counts commands k) ≡ 4 + 12 * get_or counts k 0
  unfolding object
  length_object k h =
      length_object_bytes (flag_byte (resume_at flags k) (menu_at flags k) (title_at flags k)) (get_or counts k 0) (cmds_at counts commands k)
      ∙ ap (λ (n : ℕ). 4 + n) (length_cmds_at k h)

  pub length_objects : (k : ℕ) → 12 * sum counts k ≤ length commands → length (blocks (object flags counts commands) k) ≡ 4 * k + 12 * sum counts k
  unfolding blocks sum
  length_objects zero h = refl
  length_objects (suc k) h =
      let l = length-append (blocks (object flags counts commands) k) (object flags counts commands k) in
      omega (arith, l, length_objects k (omega arith), length_object k (rw (add-one k) h))

-- ---- what an accepted record has

pub record Encodable (flags counts commands : List ℕ) : Type 0 where
  pub few : length counts ≤ 65535
  pub three : length flags ≡ 3 * length counts
  pub bits : all_below 2 flags (length flags) ≡ true
  pub small : all_below 65536 counts (length counts) ≡ true
  pub whole : 12 * sum counts (length counts) ≡ length commands

sum_below : (l : List ℕ) (n : ℕ) → ((k : ℕ) → k < n → get_or l k 0 < 65536) → sum l n ≤ 65536 * n
unfolding sum
sum_below l zero h = omega arith
sum_below l (suc n) h = omega (arith, sum_below l n (λ k p. h k (omega arith)), h n (omega arith))

module _ (flags counts commands : List ℕ) where
  pub encodable_tells : encodable flags counts commands ≡ true → Encodable flags counts commands
  unfolding encodable
  encodable_tells e =
      let p1 = both (leb (length counts) 65535) _ e in
      let p2 = both (eqb (length flags) (3 * length counts)) _ p1.1 in
      let p3 = both (all_below 2 flags (length flags)) _ p2.1 in
      let p4 = both (all_below 65536 counts (length counts)) _ p3.1 in
      record { few = leb-true _ _ p1.0; three = eqb-true _ _ p2.0; bits = p3.0; small = p4.0; whole = eqb-true _ _ p4.1 }

  pub encodable_made : Encodable flags counts commands → encodable flags counts commands ≡ true
  unfolding encodable
  encodable_made a = simp (le-leb _ _ a.few, eq-eqb _ _ a.three, a.bits, a.small, eq-eqb _ _ a.whole)

  -- a flag of a record is a bit, a count has two bytes
  pub flag_bit : Encodable flags counts commands → (i : ℕ) → i < 3 * length counts → get_or flags i 0 < 2
  flag_bit a i h = below_tells 2 flags (length flags) i a.bits (omega (arith, a.three))

  pub count_small : Encodable flags counts commands → (k : ℕ) → k < length counts → get_or counts k 0 < 65536
  count_small a k h = below_tells 65536 counts (length counts) k a.small h

  pub commands_few : Encodable flags counts commands → length commands ≤ 12 * (65536 * 65535)
  commands_few a = omega (arith, a.whole, a.few, sum_below counts (length counts) (λ k p. count_small a k p))

  pub size_is : Encodable flags counts commands → 78 + 4 * length counts + length commands ≡ size_of counts
  unfolding size_of
  size_is a = omega (arith, a.whole)

pub size_from : (counts : List ℕ) → 78 ≤ size_of counts
unfolding size_of
size_from counts = omega arith

-- what a look at every count finds
pub counts_judged : (l : List ℕ) (r : Bool) → MatchBool r (AllWithin (λ x. x < 65536) l 0 (length l)) ((k : ℕ) × (k < length l) × HoldsAt (λ x. 65536 ≤ x) l k)
    → r ≡ all_below 65536 l (length l)
counts_judged l true h = sym (below_made 65536 l (length l) (λ k p. h k 0 (omega arith) p))
counts_judged l false (k, p, h) = sym (below_not 65536 l k (length l) p (h 0))

-- ---- the verdict

pub record Accepted (flags counts commands : List ℕ) (room : ℕ) : Type 0 where
  pub fields : Encodable flags counts commands
  pub short : size_of counts ≤ limit
  pub fits : size_of counts ≤ room

module _ (flags counts commands : List ℕ) (room : ℕ) where
  pub accepted : write_verdict flags counts commands room ≡ Ok tt → Accepted flags counts commands room
  unfolding write_verdict
  accepted e =
      let p1 = both_fine (refused_if (not (eqb (length commands % 12) 0)) BadBuffer) _ e in
      let p2 = both_fine (refused_if (not (encodable flags counts commands)) NotEncodable) _ p1.1 in
      let p3 = room_tells (size_of counts) room p2.1 in
      record {
        fields = encodable_tells flags counts commands (not-false _ (not_refused _ NotEncodable p2.0));
        short = p3.0;
        fits = p3.1;
      }

  pub accepts : Accepted flags counts commands room → write_verdict flags counts commands room ≡ Ok tt
  unfolding write_verdict
  accepts a =
      let w : length commands % 12 ≡ 0 = omega (arith, a.fields.whole) in
      simp (eq-eqb _ _ w, encodable_made flags counts commands a.fields, room_made (size_of counts) room a.short a.fits)

-- ---- what the calls leave, one after the other

pub head_steps : (l m1 m2 m3 m4 m5 m6 : List ℕ) (version n stated : ℕ) → 78 ≤ length l
    → m1 ≡ over l 0 (bytes4 0x4D4F424A) → m2 ≡ over m1 4 (bytes4 version) → m3 ≡ over m2 8 (replicate 32 0)
    → m4 ≡ over m3 40 (bytes4 stated) → m5 ≡ over m4 44 (replicate 32 0) → m6 ≡ over m5 76 (bytes2 n)
    → m6 ≡ over l 0 (head_bytes version n stated)
unfolding head_bytes bytes4 bytes2
head_steps l m1 m2 m3 m4 m5 m6 version n stated h e1 e2 e3 e4 e5 e6 =
    over_next l m5 m6 0 _ _ 76
    (over_next l m4 m5 0 _ _ 44
    (over_next l m3 m4 0 _ _ 40
    (over_next l m2 m3 0 _ _ 8 (over_next l m1 m2 0 _ _ 4 e1 e2 refl (omega arith)) e3 refl (omega arith)) e4 refl (omega arith)) e5 refl (omega arith)) e6 refl (omega arith)

pub object_steps : (l m1 m2 : List ℕ) (at bits c : ℕ) (v : List ℕ) → at + 4 + length v ≤ length l
    → m1 ≡ over (set (set l at bits) (at + 1) 0) (at + 2) (bytes2 c) → m2 ≡ over m1 (at + 4) v
    → m2 ≡ over l at (object_bytes bits c v)
unfolding object_bytes bytes2
object_steps l m1 m2 at bits c v h e1 e2 =
    over_next l m1 m2 at _ v (at + 4)
    (over_next l _ m1 at (bits ∷ 0 ∷ []) _ (at + 2) (store2 l at bits 0 (omega arith)) e1 refl (omega arith)) e2 refl (omega arith)

-- an object by what the loop read of it
pub object_is : (flags counts commands : List ℕ) (k bits count : ℕ) (part : List ℕ) → bits ≡ flag_byte (resume_at flags k) (menu_at flags k) (title_at flags k)
    → count ≡ get_or counts k 0 → part ≡ cmds_at counts commands k → object_bytes bits count part ≡ object flags counts commands k
unfolding object
object_is flags counts commands k bits count part e f g = cc

-- what a turn of the loop over the objects has room for
pub record Turn (out counts commands : List ℕ) (k : ℕ) : Type 0 where
  pub more : sum counts (k + 1) ≡ sum counts k + get_or counts k 0
  pub from : 12 * sum counts (k + 1) ≤ length commands
  pub room : 78 + 4 * (k + 1) + 12 * sum counts (k + 1) ≤ length out

pub turn : (out flags counts commands : List ℕ) (k : ℕ) → Accepted flags counts commands (length out) → k < length counts → Turn out counts commands k
unfolding size_of
turn out flags counts commands k a h =
    let n = sum_mono counts (k + 1) (length counts) (omega arith) in
    record { more = sum_suc counts k; from = omega (arith, a.fields.whole); room = omega (arith, a.fits) }

pub objects_step : (l m m' flags counts commands : List ℕ) (k at : ℕ) → Turn l counts commands k → at ≡ 78 + 4 * k + 12 * sum counts k
    → m ≡ over l 78 (blocks (object flags counts commands) k) → m' ≡ over m at (object flags counts commands k)
    → m' ≡ over l 78 (blocks (object flags counts commands) (k + 1))
objects_step l m m' flags counts commands k at t e was next =
    let d = length_objects flags counts commands k (omega (arith, t.from, t.more)) in
    let o = length_object flags counts commands k t.from in
    over_next l m m' 78 _ _ at was next (omega (arith, d)) (omega (arith, d, o, t.room, t.more))
    ∙ ap (over l 78) (sym (blocks_suc (object flags counts commands) k))

-- a part of the commands, from where it begins to where it ends
pub cmds_part : (counts commands : List ℕ) (k from : ℕ) → from ≡ 12 * sum counts k → take (from + 12 * get_or counts k 0 - from) (drop from commands) ≡ cmds_at counts commands k
unfolding cmds_at
cmds_part counts commands k from e =
    ap (λ (n : ℕ). take n (drop from commands)) (add-sub_cancel_left from (12 * get_or counts k 0))
    ∙ ap (λ (n : ℕ). take (12 * get_or counts k 0) (drop n commands)) e

-- the flags of object k, as the loop has them
chunk_at : (m k : ℕ) (s d : List ℕ) → k < m → get_or (first_chunks 3 m s) k d ≡ take 3 (drop (3 * k) s)
chunk_at zero k s d h = absurd (omega arith)
chunk_at (suc m) zero s d h = refl
chunk_at (suc m) (suc k) s d h = let e : 3 + 3 * k ≡ 3 * suc k = omega arith in chunk_at m k (drop 3 s) d (omega arith) ∙ ap (take 3) (drop-drop (3 * k) 3 s ∙ ap (λ (n : ℕ). drop n s) e)

pub flags_at : (flags counts : List ℕ) (k : ℕ) {triples : List (List ℕ)} {bits : List ℕ} → length flags ≡ 3 * length counts → k < length counts
    → triples ≡ first_chunks 3 (length flags / 3) flags → bits ≡ get_or triples k bits → (i : ℕ) → i < 3 → get_or bits i 0 ≡ get_or flags (3 * k + i) 0
flags_at flags counts k {triples} {bits} three h e f i p =
    ap (λ (l : List ℕ). get_or l i 0) (f ∙ ap (λ (t : List (List ℕ)). get_or t k bits) e ∙ chunk_at (length flags / 3) k flags bits (omega arith))
    ∙ part_at flags (3 * k) 3 i p

-- its commands, and those after them
module _ (counts commands : List ℕ) (k : ℕ) {count : ℕ} {rest : List ℕ} (here : count ≡ get_or counts k 0) (left : rest ≡ drop (12 * sum counts k) commands) where
  pub cmds_front : {part : List ℕ} → part ≡ take (12 * count) rest → part ≡ cmds_at counts commands k
  unfolding cmds_at
  cmds_front e = rw (e, here, left)

  pub cmds_back : {after : List ℕ} → after ≡ drop (12 * count) rest → after ≡ drop (12 * sum counts (k + 1)) commands
  cmds_back e =
      let n : 12 * sum counts k + 12 * count ≡ 12 * sum counts (k + 1) = omega (arith, here, sum_suc counts k) in
      e ∙ ap (drop (12 * count)) left ∙ drop-drop (12 * count) (12 * sum counts k) commands ∙ ap (λ (m : ℕ). drop m commands) n

-- the two calls that write, one after the other
pub file_steps : (l m1 m2 : List ℕ) (version : ℕ) (flags counts commands : List ℕ) → Accepted flags counts commands (length l)
    → m1 ≡ over l 0 (head_bytes version (length counts) (size_of counts - 44)) → m2 ≡ over m1 78 (blocks (object flags counts commands) (length counts))
    → m2 ≡ over l 0 (file_of version flags counts commands)
unfolding file_of size_of
file_steps l m1 m2 version flags counts commands a e1 e2 =
    let h = length_head_bytes version (length counts) (78 + 4 * length counts + 12 * sum counts (length counts) - 44) in
    over_next l m1 m2 0 _ _ 78 e1 e2 (omega (arith, h)) (omega (arith, h, length_objects flags counts commands (length counts) (omega (arith, a.fields.whole)), a.fits))
