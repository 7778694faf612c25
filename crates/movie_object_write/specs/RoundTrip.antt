-- Writing then reading gives the record back, and reading then writing the bytes of a file that could be written. Assumes nothing.
use Rattle.std.specs.Prelude.{◌≡◌, drop, Ok}
use Rattle.std.proofs.Math.Path.{refl, sym, ap, subst}
use Rattle.std.proofs.Common.{◌∙◌, add_assoc, add-one, take_at, drop-drop}
use mathlib.Core.List.{List, [], ◌∷◌, ◌++◌, append_assoc, append-nil}
use Prim.Native.Nat.{ℕ, zero, suc, ◌+◌, ◌*◌, ◌-◌, ◌/◌, ◌%◌, ◌≤◌, ◌<◌}
use Rattle.std.proofs.Math.Nat.{add-zero}
use native.Mathlib.Omega.{arith}
use Rattle.std.proofs.Math.ListN.{length, get_or, take, replicate, length-append, get_or-append}
use Rattle.std.proofs.lemmas.List.{length-replicate, get_or-replicate}
use Rattle.std.proofs.Math.Seq.{get_or-append-add, drop-append-add, take-add, take-length}
use borrow.Author.Tests.{lt-ltb}
use Rattle.laws.specs.Firsts.{sum, sum_mono, below_made, blocks, blocks_around, after}
use Rattle.laws.specs.Part.{part_cons}
use Rattle.common.specs.Rules.{be2, be4, bytes2, bytes4}
use Rattle.common.specs.Laws.{be2_skip, be2_bytes2, be4_bytes4, be2_below, bytes2_be2, bytes4_be4, zeros_at}
use Rattle.movie_object.specs.declared.MovieObject.{MovieObject}
use Rattle.movie_object.specs.declared.MovieObjects.{MovieObjects}
use Rattle.movie_object.specs.Rules.{mobj, place, count_of, verdict_of, part_at, objects_of, parse_of, head_at, object_of, part_of}
use Rattle.movie_object.specs.Laws.{Good, good, verdict_good, place_zero, place_suc, place_next, commands_from, object_in}
use Rattle.movie_object_write.specs.Rules.{resume_at, menu_at, title_at, flag_byte, cmds_at, object_bytes, object, head_bytes, size_of, file_of, write_verdict, object_read, Holds, Made, WritingThenReading, ReadingThenWriting}
use Rattle.movie_object_write.specs.Laws.{Encodable, flag_bit, count_small, Accepted, accepted, accepts, length_head_bytes, length_cmds_at, length_objects, size_from}

-- ---- one object of the file

bytes_count : (bits c : ℕ) (v r : List ℕ) → c < 65536 → be2 (object_bytes bits c v ++ r) 2 ≡ c
unfolding object_bytes bytes2 be2
bytes_count bits c v r h = be2_bytes2 [] c h

bytes_commands : (bits c n : ℕ) (v r : List ℕ) → length v ≡ n → take n (drop 4 (object_bytes bits c v ++ r)) ≡ v
unfolding object_bytes bytes2
bytes_commands bits c n v r e = take_at v r n e

bytes_flags : (bits c : ℕ) (v r : List ℕ) → (get_or (object_bytes bits c v ++ r) 0 0 ≡ bits) × (get_or (object_bytes bits c v ++ r) 1 0 ≡ 0)
unfolding object_bytes
bytes_flags bits c v r = (refl, refl)

-- a head by its byte of flags and its count
four : {a b c d a' b' c' d' : ℕ} → a ≡ a' → b ≡ b' → c ≡ c' → d ≡ d'
    → ◌≡◌ {A = MovieObject}
    (record { resume_intention_flag = a; menu_call_mask = b; title_search_mask = c; commands = d })
    (record { resume_intention_flag = a'; menu_call_mask = b'; title_search_mask = c'; commands = d' })
four e f g h = cc

head_from : (s flags counts : List ℕ) (at k : ℕ) → get_or s at 0 ≡ flag_byte (resume_at flags k) (menu_at flags k) (title_at flags k) → be2 s (at + 2) ≡ get_or counts k 0
    → resume_at flags k < 2 → menu_at flags k < 2 → title_at flags k < 2 → head_at s at ≡ object_read flags counts k
unfolding head_at
head_from s flags counts at k b c r m t = four (omega arith) (omega arith) (omega arith) c

-- zeros before anything
get_d_replicate_front : (m i : ℕ) (l : List ℕ) → i < m → get_or (replicate m 0 ++ l) i 0 ≡ 0
get_d_replicate_front m i l h = get_or-append (replicate m 0) l 0 i (omega (arith, length-replicate {A = ℕ} m 0)) ∙ get_or-replicate m i 0 0 h

-- ---- writing, then reading

module _ (version : ℕ) (flags counts commands : List ℕ) (room : ℕ) (a : Accepted flags counts commands room) (v32 : version < 4294967296) where
  n : ℕ
  n = length counts

  file : List ℕ
  file = file_of version flags counts commands

  obj : ℕ → List ℕ
  obj = object flags counts commands

  front : ℕ → List ℕ
  front k = head_bytes version n (size_of counts - 44) ++ blocks obj k

  enough : (k : ℕ) → k ≤ n → 12 * sum counts k ≤ length commands
  unfolding n
  enough k h = omega (arith, a.fields.whole, sum_mono counts k (length counts) h)

  length_front : (k : ℕ) → k ≤ n → length (front k) ≡ 78 + 4 * k + 12 * sum counts k
  unfolding front obj
  length_front k h =
      let l = length-append (head_bytes version n (size_of counts - 44)) (blocks (object flags counts commands) k) in
      omega (arith, l, length_head_bytes version n (size_of counts - 44), length_objects flags counts commands k (enough k h))

  length_file : length file ≡ size_of counts
  unfolding file file_of front obj n size_of
  length_file = length_front (length counts) (omega arith)

  -- the file around object k
  rest : ℕ → List ℕ
  rest k = after obj (k + 1) (n - (k + 1))

  split : (k : ℕ) → k < n → file ≡ front k ++ (obj k ++ rest k)
  unfolding file file_of front rest n obj
  split k h = rw (blocks_around (object flags counts commands) k (length counts) h) (simp append_assoc)

  -- the fields of the header
  magic : be4 file 0 ≡ mobj
  unfolding file file_of head_bytes bytes4 bytes2 be4
  magic = refl

  version_back : be4 file 4 ≡ version
  unfolding file file_of head_bytes bytes4 bytes2 be4
  version_back = be4_bytes4 [] version v32

  stated_back : be4 file 40 ≡ size_of counts - 44
  unfolding file file_of head_bytes bytes4 bytes2 be4
  stated_back = be4_bytes4 [] (size_of counts - 44) (omega (arith, a.short))

  count_back : count_of file ≡ n
  unfolding file file_of head_bytes bytes4 bytes2 be2 count_of n
  count_back = be2_bytes2 [] (length counts) (omega (arith, a.fields.few))

  -- a number and a byte of object k, from where its head stands
  count_at : (k : ℕ) → k < n → be2 file (length (front k) + 2) ≡ get_or counts k 0
  unfolding obj object n
  count_at k h =
      ap (λ (l : List ℕ). be2 l (length (front k) + 2)) (split k h)
      ∙ be2_skip (front k) (obj k ++ rest k) 2
      ∙ bytes_count _ (get_or counts k 0) (cmds_at counts commands k) (rest k) (count_small flags counts commands a.fields k h)

  byte_at : (k i : ℕ) → k < n → get_or file (length (front k) + i) 0 ≡ get_or (obj k ++ rest k) i 0
  byte_at k i h = ap (λ (l : List ℕ). get_or l (length (front k) + i) 0) (split k h) ∙ get_or-append-add (front k) (obj k ++ rest k) i 0

  place_front : (k : ℕ) → k ≤ n → place file k ≡ length (front k)
  unfolding sum
  place_front zero h = place_zero file ∙ sym (length_front 0 (omega arith))
  place_front (suc k) h =
      let p = place_next file k (length (front k)) (sym (place_front k (omega arith))) in
      let l = length_front k (omega arith) in
      let l' = length_front (suc k) h in
      omega (arith, rw (add-one k) at p, count_at k (omega arith), l, l')

  last_place : place file (count_of file) ≡ length file
  unfolding n size_of
  last_place = ap (place file) count_back ∙ place_front (length counts) (omega arith) ∙ length_front (length counts) (omega arith) ∙ sym length_file

  fine : verdict_of file ≡ Ok tt
  fine =
      verdict_good file
      (record {
        head = record { short = omega (arith, length_file, a.short); long = omega (arith, length_file, size_from counts); named = magic };
        stated = omega (arith, stated_back, length_file, size_from counts);
        last = omega (arith, last_place);
      })

  -- where object k stands
  here : (k : ℕ) → k < n → place file k ≡ length (front k)
  here k h = place_front k (omega arith)

  flags_back : (k : ℕ) → k < n → (get_or file (place file k) 0 ≡ flag_byte (resume_at flags k) (menu_at flags k) (title_at flags k)) × (get_or file (place file k + 1) 0 ≡ 0)
  unfolding obj object
  flags_back k h =
      let b = bytes_flags (flag_byte (resume_at flags k) (menu_at flags k) (title_at flags k)) (get_or counts k 0) (cmds_at counts commands k) (rest k) in (
        ap (λ (x : ℕ). get_or file x 0) (here k h ∙ sym (add-zero (length (front k)))) ∙ byte_at k 0 h ∙ b.0,
        ap (λ (x : ℕ). get_or file (x + 1) 0) (here k h) ∙ byte_at k 1 h ∙ b.1,
      )

  head_back : (k : ℕ) → k < n → head_at file (place file k) ≡ object_read flags counts k
  unfolding n
  head_back k h =
      let bit = flag_bit flags counts commands a.fields in
      head_from file flags counts (place file k) k (flags_back k h).0
      (ap (λ (x : ℕ). be2 file (x + 2)) (here k h) ∙ count_at k h)
      (bit (3 * k) (omega arith))
      (bit (3 * k + 1) (omega arith))
      (bit (3 * k + 2) (omega arith))

  on_disc_tells : (k : ℕ) → k < n → k < count_of file
  on_disc_tells k h = omega (arith, count_back)

  object_back : (k : ℕ) → k < n → object_of file k ≡ Ok (object_read flags counts k)
  unfolding object_of
  object_back k h = rw (fine, lt-ltb k (count_of file) (on_disc_tells k h), head_back k h)

  part_back : (k : ℕ) → k < n → part_of file k ≡ cmds_at counts commands k
  unfolding part_of obj object n
  part_back k h =
      let v = cmds_at counts commands k in
      rw fine
      (commands_from file k (length (front k)) (on_disc_tells k h) (sym (here k h))
      ∙ ap (λ (x : ℕ). take (12 * x) (drop (length (front k) + 4) file)) (count_at k h)
      ∙ ap (λ (l : List ℕ). take (12 * get_or counts k 0) (drop (length (front k) + 4) l)) (split k h)
      ∙ ap (take (12 * get_or counts k 0)) (drop-append-add (front k) (obj k ++ rest k) 4)
      ∙ bytes_commands _ (get_or counts k 0) (12 * get_or counts k 0) v (rest k) (length_cmds_at flags counts commands k (enough (k + 1) (omega arith))))

  holds : Holds file version flags counts commands
  unfolding parse_of n
  holds =
      record {
        head = rw (fine, version_back, count_back);
        objects = object_back;
        parts = part_back;
        three = a.fields.three;
        whole = a.fields.whole;
      }

  -- the bytes that are always zero
  zeros : (i : ℕ) → i < 32 → (get_or file (8 + i) 0 ≡ 0) × (get_or file (44 + i) 0 ≡ 0)
  unfolding file file_of head_bytes bytes4 bytes2
  zeros i h =
      let r2 : List ℕ = bytes2 (length counts) ++ blocks (object flags counts commands) (length counts) in
      let p1 : List ℕ = bytes4 mobj ++ bytes4 version in
      let r1 : List ℕ = bytes4 (size_of counts - 44) ++ (replicate 32 0 ++ r2) in
      let p2 : List ℕ = p1 ++ replicate 32 0 ++ bytes4 (size_of counts - 44) in (
        get_or-append-add p1 (replicate 32 0 ++ r1) i 0 ∙ get_d_replicate_front 32 i r1 h,
        get_or-append-add p2 (replicate 32 0 ++ r2) i 0 ∙ get_d_replicate_front 32 i r2 h,
      )

  made : Made file
  unfolding n
  made =
      record {
        accepted = fine;
        reserved = zeros;
        stated = omega (arith, stated_back, length_file, size_from counts);
        ends = last_place;
        unused = λ k h. let b = flags_back k (omega (arith, count_back)) in (omega (arith, b.0), b.1);
      }

-- ---- reading, then writing

module _ (s : List ℕ) (version : ℕ) (flags counts commands : List ℕ) (room : ℕ) (bytes : (i : ℕ) → get_or s i 0 < 256) (fits : length s ≤ room)
    (m : Made s) (h : Holds s version flags counts commands) where
  g : Good s
  g = good s m.accepted

  -- what the reader's answers tell
  parsed : (be4 s 4 ≡ version) × (count_of s ≡ length counts)
  unfolding parse_of
  parsed =
      let e = rw m.accepted at h.head in
      let q : objects_of s ≡ record { version = version; count = length counts } = cc in
      (ap (λ (o : MovieObjects). o.version) q, ap (λ (o : MovieObjects). o.count) q)

  on : (k : ℕ) → k < length counts → k < count_of s
  on k p = omega (arith, parsed.1)

  head : (k : ℕ) → k < length counts → head_at s (place s k) ≡ object_read flags counts k
  unfolding object_of
  head k p = let e = rw (m.accepted, lt-ltb k (count_of s) (on k p)) at (h.objects k p) in cc

  count : (k : ℕ) → k < length counts → be2 s (place s k + 2) ≡ get_or counts k 0
  unfolding head_at
  count k p = ap (λ (o : MovieObject). o.commands) (head k p)

  -- the byte of flags, from its three bits
  top : (b r t u : ℕ) → b < 256 → b % 32 ≡ 0 → b / 128 ≡ r → b / 64 % 2 ≡ t → b / 32 % 2 ≡ u → b ≡ flag_byte r t u
  top b r t u q z e f d = omega arith

  flag : (k : ℕ) → k < length counts → get_or s (place s k) 0 ≡ flag_byte (resume_at flags k) (menu_at flags k) (title_at flags k)
  unfolding head_at
  flag k p =
      top _ _ _ _ (bytes (place s k)) (m.unused k (on k p)).0
      (ap (λ (o : MovieObject). o.resume_intention_flag) (head k p))
      (ap (λ (o : MovieObject). o.menu_call_mask) (head k p))
      (ap (λ (o : MovieObject). o.title_search_mask) (head k p))

  part : (k : ℕ) → k < length counts → part_at s (place s k) ≡ cmds_at counts commands k
  unfolding part_of
  part k p = sym (commands_from s k (place s k) (on k p) refl) ∙ (rw m.accepted at (h.parts k p))

  -- object k is the bytes from its place on
  object_same : (k : ℕ) → k < length counts → take (4 + 12 * be2 s (place s k + 2)) (drop (place s k) s) ≡ object flags counts commands k
  unfolding object object_bytes
  object_same k p =
      let at = place s k in
      let c = be2 s (at + 2) in
      let i : at + 4 + 12 * c ≤ length s = object_in s k m.accepted (on k p) in
      let e1 : take 2 (drop at s) ≡ get_or s at 0 ∷ get_or s (at + 1) 0 ∷ [] =
      part_cons s at 1 (omega arith) ∙ ap (λ (l : List ℕ). get_or s at 0 ∷ l) (part_cons s (at + 1) 0 (omega arith)) in
      let e2 : take 2 (drop (at + 2) s) ≡ bytes2 c = bytes2_be2 s (at + 2) bytes (omega arith) in
      let b = flag_byte (resume_at flags k) (menu_at flags k) (title_at flags k) in
      take-add 4 (12 * c) (drop at s)
      ∙ ap (λ (l : List ℕ). l ++ take (12 * c) (drop 4 (drop at s))) (take-add 2 2 (drop at s))
      ∙ ap (λ (l : List ℕ). l ++ take 2 (drop 2 (drop at s)) ++ take (12 * c) (drop 4 (drop at s))) e1
      ∙ ap (λ (l : List ℕ). get_or s at 0 ∷ get_or s (at + 1) 0 ∷ (take 2 l ++ take (12 * c) (drop 4 (drop at s)))) (drop-drop 2 at s)
      ∙ ap (λ (l : List ℕ). get_or s at 0 ∷ get_or s (at + 1) 0 ∷ (l ++ take (12 * c) (drop 4 (drop at s)))) e2
      ∙ ap (λ (l : List ℕ). get_or s at 0 ∷ get_or s (at + 1) 0 ∷ (bytes2 c ++ take (12 * c) l)) (drop-drop 4 at s)
      ∙ ap (λ (l : List ℕ). get_or s at 0 ∷ get_or s (at + 1) 0 ∷ (bytes2 c ++ l)) (part k p)
      ∙ ap (λ (x : ℕ). x ∷ get_or s (at + 1) 0 ∷ (bytes2 c ++ cmds_at counts commands k)) (flag k p)
      ∙ ap (λ (x : ℕ). b ∷ x ∷ (bytes2 c ++ cmds_at counts commands k)) (m.unused k (on k p)).1
      ∙ ap (λ (x : ℕ). b ∷ 0 ∷ (bytes2 x ++ cmds_at counts commands k)) (count k p)

  -- the length that the record says is the file's
  place_is : (k : ℕ) → k ≤ length counts → place s k ≡ 78 + 4 * k + 12 * sum counts k
  unfolding sum
  place_is zero p = place_zero s
  place_is (suc k) p = omega (arith, rw (add-one k) at (place_suc s k), place_is k (omega arith), count k (omega arith))

  size_same : size_of counts ≡ length s
  unfolding size_of
  size_same = sym (place_is (length counts) (omega arith)) ∙ ap (place s) (sym parsed.1) ∙ m.ends

  long : 78 ≤ length s
  long = omega (arith, size_same, size_from counts)

  -- the head is the first 78 bytes
  head_same : take 78 s ≡ head_bytes version (length counts) (size_of counts - 44)
  unfolding head_bytes count_of
  head_same =
      let e0 : take 4 s ≡ bytes4 mobj = bytes4_be4 s 0 bytes (omega (arith, long)) ∙ ap bytes4 g.head.named in
      let e1 : take 4 (drop 4 s) ≡ bytes4 version = bytes4_be4 s 4 bytes (omega (arith, long)) ∙ ap bytes4 parsed.0 in
      let e2 : take 32 (drop 8 s) ≡ replicate 32 0 = zeros_at s 8 32 (omega (arith, long)) (λ i p. (m.reserved i p).0) in
      let st : be4 s 40 ≡ size_of counts - 44 = omega (arith, m.stated, size_same) in
      let e3 : take 4 (drop 40 s) ≡ bytes4 (size_of counts - 44) = bytes4_be4 s 40 bytes (omega (arith, long)) ∙ ap bytes4 st in
      let e4 : take 32 (drop 44 s) ≡ replicate 32 0 = zeros_at s 44 32 (omega (arith, long)) (λ i p. (m.reserved i p).1) in
      let e5 : take 2 (drop 76 s) ≡ bytes2 (length counts) = bytes2_be2 s 76 bytes (omega (arith, long)) ∙ ap bytes2 parsed.1 in
      joined (take-add 76 2 s) (joined (take-add 44 32 s) (joined (take-add 40 4 s) (joined (take-add 8 32 s) (joined (take-add 4 4 s) e0 e1) e2) e3) e4) e5
    where
      joined : {l p q p' q' : List ℕ} → l ≡ p ++ q → p ≡ p' → q ≡ q' → l ≡ p' ++ q'
      joined e f d = cc

  -- and each object follows
  front_same : (k : ℕ) → k ≤ length counts → head_bytes version (length counts) (size_of counts - 44) ++ blocks (object flags counts commands) k ≡ take (place s k) s
  unfolding blocks
  front_same zero p = append-nil _ ∙ sym head_same ∙ ap (λ (x : ℕ). take x s) (sym (place_zero s))
  front_same (suc k) p =
      let q : k < length counts = omega arith in
      sym (append_assoc (head_bytes version (length counts) (size_of counts - 44)) (blocks (object flags counts commands) k) (object flags counts commands k))
      ∙ ap (λ (l : List ℕ). l ++ object flags counts commands k) (front_same k (omega arith))
      ∙ ap (λ (l : List ℕ). take (place s k) s ++ l) (sym (object_same k q))
      ∙ sym (take-add (place s k) (4 + 12 * be2 s (place s k + 2)) s)
      ∙ ap (λ (x : ℕ). take x s) (sym (add_assoc (place s k) 4 (12 * be2 s (place s k + 2))) ∙ sym (rw (add-one k) at (place_suc s k)))

  same_bytes : file_of version flags counts commands ≡ s
  unfolding file_of
  same_bytes = front_same (length counts) (omega arith) ∙ ap (λ (x : ℕ). take x s) (ap (place s) (sym parsed.1) ∙ m.ends) ∙ take-length s

  -- and the record is accepted
  bit : (i : ℕ) → i < length flags → get_or flags i 0 < 2
  unfolding head_at
  bit i p =
      let k = i / 3 in
      let q : k < length counts = omega (arith, h.three) in
      let b = bytes (place s k) in
      let e0 = ap (λ (o : MovieObject). o.resume_intention_flag) (head k q) in
      let e1 = ap (λ (o : MovieObject). o.menu_call_mask) (head k q) in
      let e2 = ap (λ (o : MovieObject). o.title_search_mask) (head k q) in
      third i (i % 3) (omega arith) (omega arith) (omega (arith, e0)) (omega (arith, e1)) (omega (arith, e2))
    where
      third : (i j : ℕ) → j < 3 → i ≡ 3 * (i / 3) + j → get_or flags (3 * (i / 3)) 0 < 2 → get_or flags (3 * (i / 3) + 1) 0 < 2 → get_or flags (3 * (i / 3) + 2) 0 < 2 → get_or flags i 0 < 2
      third i zero u e x y z = subst (λ (n : ℕ). get_or flags n 0 < 2) (sym (e ∙ add-zero _)) x
      third i (suc zero) u e x y z = subst (λ (n : ℕ). get_or flags n 0 < 2) (sym e) y
      third i (suc (suc zero)) u e x y z = subst (λ (n : ℕ). get_or flags n 0 < 2) (sym e) z
      third i (suc (suc (suc j))) u e x y z = absurd (omega arith)

  small : (k : ℕ) → k < length counts → get_or counts k 0 < 65536
  small k p = omega (arith, count k p, be2_below s (place s k + 2) bytes)

  fields : Encodable flags counts commands
  unfolding count_of
  fields =
      record {
        few = omega (arith, parsed.1, be2_below s 76 bytes);
        three = h.three;
        bits = below_made 2 flags (length flags) bit;
        small = below_made 65536 counts (length counts) small;
        whole = h.whole;
      }

  accepted_back : write_verdict flags counts commands room ≡ Ok tt
  accepted_back =
      accepts flags counts commands room
      (record { fields = fields; short = omega (arith, size_same, g.head.short); fits = omega (arith, size_same, fits) })

-- ---- the two theorems

pub writing_then_reading : WritingThenReading
unfolding file
writing_then_reading version flags counts commands room v e =
    let a = accepted flags counts commands room e in
    (holds version flags counts commands room a v, made version flags counts commands room a v)

pub reading_then_writing : ReadingThenWriting
reading_then_writing file version flags counts commands room b l m h =
    (accepted_back file version flags counts commands room b l m h, same_bytes file version flags counts commands room b l m h)
