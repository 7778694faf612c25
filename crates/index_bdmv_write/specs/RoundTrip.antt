-- Writing then reading gives the record back, and reading then writing the bytes of a file that could be written. Assumes nothing.
use Rattle.std.specs.Prelude.{◌≡◌, Bool, cond, leb, drop, Err, Ok, Some}
use Rattle.std.proofs.Math.Path.{refl, sym, ap}
use Rattle.std.proofs.Common.{◌∙◌, add-zero, get_or-drop, drop-drop}
use Rattle.std.proofs.Math.Bool.{true, false}
use mathlib.Core.List.{List, [], ◌∷◌, ◌++◌, append_assoc, append-nil}
use Prim.Native.Nat.{ℕ, zero, suc, ◌+◌, ◌*◌, ◌-◌, ◌≤◌, ◌<◌}
use Rattle.std.proofs.Math.Nat.{add_assoc}
use native.Mathlib.Omega.{arith}
use Rattle.std.proofs.Math.Dec.{eqb}
use Rattle.std.proofs.Math.ListN.{length, get_or, take, replicate, length-append, get_or-append}
use Rattle.std.proofs.lemmas.List.{length-replicate, get_or-replicate}
use Rattle.std.proofs.Math.Seq.{get_or-append-add, take_at, drop_at, take-add, take-length}
use borrow.Author.Tests.{le-ltb, le-leb, eq-eqb, ne_eqb, eqb-true, eqb-false}
use Rattle.laws.specs.Firsts.{all_made, blocks, blocks_around, after}
use Rattle.laws.specs.Part.{part_cons}
use Rattle.common.specs.Rules.{be2, be4, bytes2, bytes4}
use Rattle.common.specs.Laws.{header_fine, be2_skip, be2_bytes2, be4_bytes4, length_bytes2, length_bytes4, bytes2_be2, bytes4_be4, zeros_at}
use Rattle.utf8.specs.Rules.{is_utf8}
use Rattle.error.specs.declared.Refusal.TheVariants.{BadBody, BadEntry}
use Rattle.index_bdmv.specs.declared.AppInfoBdmv.{AppInfoBdmv}
use Rattle.index_bdmv.specs.declared.IndexObjectType.TheVariants.{Hdmv, BdJ}
use Rattle.index_bdmv.specs.declared.IndexBdmv.{IndexBdmv}
use Rattle.index_bdmv.specs.Rules.{indx, kind_at, playback_at, name_at, app_info_verdict, app_info_of, entry_verdict, entries_verdict, start_of, stated_verdict, titles_verdict, indexes_verdict, verdict_of, title_count, place_of, object_at, index_of, parse_of, is_entry, entry_of, name_of}
use Rattle.index_bdmv.specs.Laws as reader
use Rattle.index_bdmv_write.specs.Rules.{Entries, kind_of, playback_of, object_of, name_given, titles_of, tail_bytes, entry_bytes, entry_of_record, app_bytes, head_bytes, special_bytes, title_bytes, size_of, file_of, entry_fits, write_verdict, spot, entry_number, entry_read, index_read, Holds, Unused, Made, WritingThenReading, ReadingThenWriting}
use Rattle.index_bdmv_write.specs.Laws.{Kind, hdmv, bdj, AppFits, Lengths, lengths_tell, lengths_made, fits_made, good_kind, Accepted, accepted, accepts, length_head_bytes, length_name, length_entry, length_special, length_titles}
use Rattle.error.specs.Rules.{fine as passed}

-- ---- what stands in a list from a place on

module _ (l q : List ℕ) (n : ℕ) (from : drop n l ≡ q) where
  behind : (i : ℕ) → get_or l (n + i) 0 ≡ get_or q i 0
  behind i = sym (get_or-drop n l i 0) ∙ ap (λ (x : List ℕ). get_or x i 0) from

  behind_2 : (i : ℕ) → be2 l (n + i) ≡ be2 q i
  unfolding be2
  behind_2 i = rw (behind i, add_assoc n i 1, behind (i + 1))

  behind_4 : (i : ℕ) → be4 l (n + i) ≡ be4 q i
  unfolding be4
  behind_4 i = rw (behind i, add_assoc n i 1, behind (i + 1), add_assoc n i 2, behind (i + 2), add_assoc n i 3, behind (i + 3))

  behind_part : (i m : ℕ) → take m (drop (n + i) l) ≡ take m (drop i q)
  behind_part i m = ap (take m) (sym (drop-drop i n l) ∙ ap (drop i) from)

-- zeros before anything
zeros_front : (m i : ℕ) (l : List ℕ) → i < m → get_or (replicate m 0 ++ l) i 0 ≡ 0
zeros_front m i l h = get_or-append (replicate m 0) l 0 i (omega (arith, length-replicate {A = ℕ} m 0)) ∙ get_or-replicate m i 0 0 h

-- ---- twelve bytes of an entry that stand in a file

record Laid (l : List ℕ) (at kind playback object : ℕ) (name : List ℕ) : Type 0 where
  inside : at + 12 ≤ length l
  byte0 : get_or l at 0 ≡ kind * 64
  byte1 : get_or l (at + 1) 0 ≡ 0
  byte2 : get_or l (at + 2) 0 ≡ playback * 64
  byte3 : get_or l (at + 3) 0 ≡ 0
  number : kind ≡ 1 → object < 65536 → be2 l (at + 4) ≡ object
  zeros6 : kind ≡ 1 → (i : ℕ) → i < 6 → get_or l (at + 6 + i) 0 ≡ 0
  named : kind ≡ 2 → take 5 (drop (at + 4) l) ≡ name
  zeros3 : kind ≡ 2 → (i : ℕ) → i < 3 → get_or l (at + 9 + i) 0 ≡ 0

module _ (l q : List ℕ) (at kind playback object : ℕ) (name : List ℕ) (five : length name ≡ 5) (room : at + 12 ≤ length l)
    (from : drop at l ≡ entry_bytes kind playback object name ++ q) where
  -- the entry by its type
  as_hdmv : kind ≡ 1 → drop at l ≡ (kind * 64) ∷ 0 ∷ (playback * 64) ∷ 0 ∷ (bytes2 object ++ (replicate 6 0 ++ q))
  unfolding entry_bytes tail_bytes
  as_hdmv e =
      from
      ∙ rw (eq-eqb kind 1 e) (ap (λ (x : List ℕ). (kind * 64) ∷ 0 ∷ (playback * 64) ∷ 0 ∷ x) (append_assoc (bytes2 object) (replicate 6 0) q))

  as_bdj : kind ≡ 2 → drop at l ≡ (kind * 64) ∷ 0 ∷ (playback * 64) ∷ 0 ∷ (name ++ (replicate 3 0 ++ q))
  unfolding entry_bytes tail_bytes
  as_bdj e =
      from
      ∙ rw (ne_eqb kind 1 (λ z. omega arith))
      (ap (λ (x : List ℕ). (kind * 64) ∷ 0 ∷ (playback * 64) ∷ 0 ∷ x) (append_assoc name (replicate 3 0) q))

  first : (i b : ℕ) → get_or (entry_bytes kind playback object name ++ q) i 0 ≡ b → get_or l (at + i) 0 ≡ b
  first i b e = behind l _ at from i ∙ e

  six : (i : ℕ) → i < 6 → get_or ((kind * 64) ∷ 0 ∷ (playback * 64) ∷ 0 ∷ (bytes2 object ++ (replicate 6 0 ++ q))) (6 + i) 0 ≡ 0
  unfolding bytes2
  six i h = get_or-append-add ((kind * 64) ∷ 0 ∷ (playback * 64) ∷ 0 ∷ bytes2 object) (replicate 6 0 ++ q) i 0 ∙ zeros_front 6 i q h

  three : (i : ℕ) → i < 3 → get_or ((kind * 64) ∷ 0 ∷ (playback * 64) ∷ 0 ∷ (name ++ (replicate 3 0 ++ q))) (9 + i) 0 ≡ 0
  three i h =
      let p : List ℕ = (kind * 64) ∷ 0 ∷ (playback * 64) ∷ 0 ∷ name in
      let e : length p ≡ 9 = omega (arith, five) in
      ap (λ (x : ℕ). get_or (p ++ (replicate 3 0 ++ q)) (x + i) 0) (sym e) ∙ get_or-append-add p (replicate 3 0 ++ q) i 0 ∙ zeros_front 3 i q h

  laid : Laid l at kind playback object name
  unfolding entry_bytes bytes2
  laid =
      record {
        inside = room;
        byte0 = ap (λ (x : ℕ). get_or l x 0) (sym (add-zero at)) ∙ first 0 (kind * 64) refl;
        byte1 = first 1 0 refl;
        byte2 = first 2 (playback * 64) refl;
        byte3 = first 3 0 refl;
        number = λ e h. behind_2 l _ at (as_hdmv e) 4 ∙ number_back object h;
        zeros6 = λ e i h. ap (λ (x : ℕ). get_or l x 0) (add_assoc at 6 i) ∙ behind l _ at (as_hdmv e) (6 + i) ∙ six i h;
        named = λ e. behind_part l _ at (as_bdj e) 4 5 ∙ take_at name (replicate 3 0 ++ q) 5 five;
        zeros3 = λ e i h. ap (λ (x : ℕ). get_or l x 0) (add_assoc at 9 i) ∙ behind l _ at (as_bdj e) (9 + i) ∙ three i h;
      }
    where
      number_back : (o : ℕ) → o < 65536 → be2 ((kind * 64) ∷ 0 ∷ (playback * 64) ∷ 0 ∷ (bytes2 o ++ (replicate 6 0 ++ q))) 4 ≡ o
      number_back o h = be2_skip ((kind * 64) ∷ 0 ∷ (playback * 64) ∷ 0 ∷ []) (bytes2 o ++ (replicate 6 0 ++ q)) 0 ∙ be2_bytes2 (replicate 6 0 ++ q) o h

-- what the reader says of it
module _ {l : List ℕ} {at kind playback object : ℕ} {name : List ℕ} (d : Laid l at kind playback object name) where
  kind_is : kind_at l at ≡ kind
  kind_is = omega (arith, d.byte0)

  playback_is : playback_at l at ≡ playback
  playback_is = omega (arith, d.byte2)

  verdict_is : Kind kind name → entry_verdict l at ≡ Ok tt
  unfolding entry_verdict
  verdict_is (hdmv e) = rw (le-leb _ _ d.inside, eq-eqb _ _ (kind_is ∙ e))
  verdict_is (bdj e u) = rw (le-leb _ _ d.inside, ne_eqb (kind_at l at) 1 (λ z. omega (arith, kind_is)), eq-eqb _ _ (kind_is ∙ e), d.named e, u)

  read_is : Kind kind name → object < 65536 → object_at l at ≡ cond (eqb kind 1) (Hdmv playback object) (BdJ playback)
  unfolding object_at
  read_is (hdmv e) h = rw (eq-eqb _ _ (kind_is ∙ e), eq-eqb _ _ e, playback_is, d.number e h)
  read_is (bdj e u) h = rw (ne_eqb (kind_at l at) 1 (λ z. omega (arith, kind_is)), ne_eqb kind 1 (λ z. omega arith), playback_is)

  unused_is : Unused l at
  unused_is =
      record {
        byte0 = omega (arith, d.byte0);
        byte1 = d.byte1;
        byte2 = omega (arith, d.byte2);
        byte3 = d.byte3;
        hdmv = λ e. d.zeros6 (sym kind_is ∙ e);
        bdj = λ e. d.zeros3 (sym kind_is ∙ e);
      }

-- ---- entries by their numbers

-- where entry k of a file whose Indexes start at 78 stands
spot_title : (k : ℕ) → 78 + 18 + 12 * (k + 1) ≡ 108 + 12 * k
spot_title k = omega arith

placed : (s : List ℕ) (k : ℕ) → start_of s ≡ 78 → title_count s < 65536 → k < title_count s + 2 → place_of s (entry_number k) ≡ Some (spot k)
placed s zero st few h = reader.place_first s 65536 refl ∙ ap (λ (x : ℕ). (Some (x + 4))) st
placed s (suc zero) st few h = reader.place_menu s 65537 (λ e. omega arith) refl ∙ ap (λ (x : ℕ). (Some (x + 16))) st
placed s (suc (suc k)) st few h =
    reader.place_title s (k + 1) (λ e. omega arith) (λ e. omega arith) (λ e. omega arith) (omega arith)
    ∙ ap (λ (x : ℕ). (Some (x + 18 + 12 * (k + 1)))) st
    ∙ ap Some (spot_title k)

-- such a number is an entry's
numbered : (k n : ℕ) → n < 65536 → k < n + 2 → is_entry (entry_number k) ≡ Ok tt
numbered zero n few h = refl
numbered (suc zero) n few h = refl
numbered (suc (suc k)) n few h = rw (le-leb (k + 1) 65537 (omega arith))

-- an AppInfo by its four fields
app_same : {w x y z w' x' y' z' : ℕ} → w ≡ w' → x ≡ x' → y ≡ y' → z ≡ z'
    → ◌≡◌ {A = AppInfoBdmv}
    (record { initial_output_mode_preference = w; content_exist_flag = x; video_format = y; frame_rate = z })
    (record { initial_output_mode_preference = w'; content_exist_flag = x'; video_format = y'; frame_rate = z' })
app_same e f g h = cc

plus_two : (k : ℕ) → k + 2 ≡ suc (suc k)
plus_two k = omega arith

known_kind : {kind : ℕ} {name : List ℕ} → Kind kind name → (1 ≤ kind) × (kind ≤ 2)
known_kind (hdmv e) = (omega arith, omega arith)
known_kind (bdj e u) = (omega arith, omega arith)

-- ---- writing, then reading

module _ (version : ℕ) (app : AppInfoBdmv) (r : Entries) (room : ℕ) (a : Accepted app r room) (v32 : version < 4294967296) (o16 : (k : ℕ) → object_of r k < 65536) where
  n : ℕ
  n = length r.kinds

  t : ℕ
  t = titles_of r

  file : List ℕ
  file = file_of version app r

  e : ℕ → List ℕ
  e = entry_of_record r

  lens : Lengths r
  lens = a.fields.good.lengths

  count : n ≡ t + 2
  unfolding n t titles_of
  count = omega (arith, lens.two)

  few : t < 65536
  unfolding t titles_of
  few = omega (arith, lens.few)

  twelve : (k : ℕ) → k < n → length (e k) ≡ 12
  unfolding e n
  twelve k h = length_entry r lens.names k h

  head : List ℕ
  head = head_bytes version app

  stated : List ℕ
  stated = bytes4 (26 + 12 * t)

  number : List ℕ
  number = bytes2 t

  titles : List ℕ
  titles = blocks (title_bytes r) t

  -- the file in its pieces
  pieces : file ≡ head ++ (stated ++ (e 0 ++ (e 1 ++ (number ++ titles))))
  unfolding file file_of special_bytes head stated e number titles t
  pieces = simp append_assoc

  length_file : length file ≡ 108 + 12 * t
  unfolding file file_of t titles_of
  length_file =
      let h = head_bytes version app in
      let s = special_bytes r in
      let b = blocks (title_bytes r) (length r.kinds - 2) in
      omega (
        arith,
        length-append (h ++ s) b,
        length-append h s,
        length_head_bytes version app,
        length_special r lens.names lens.two,
        length_titles r lens.names (length r.kinds - 2) (omega (arith, lens.two)),
      )

  from_78 : drop 78 file ≡ stated ++ (e 0 ++ (e 1 ++ (number ++ titles)))
  unfolding head
  from_78 = ap (drop 78) pieces ∙ drop_at head _ 78 (length_head_bytes version app)

  -- past a piece of known length
  past : (l p q : List ℕ) (m k : ℕ) → drop m l ≡ p ++ q → length p ≡ k → drop (m + k) l ≡ q
  past l p q m k f h = sym (drop-drop k m l) ∙ ap (drop k) f ∙ drop_at p q k h

  from_82 : drop 82 file ≡ e 0 ++ (e 1 ++ (number ++ titles))
  unfolding stated
  from_82 = past file stated _ 78 4 from_78 (length_bytes4 (26 + 12 * t))

  from_94 : drop 94 file ≡ e 1 ++ (number ++ titles)
  from_94 = past file (e 0) _ 82 12 from_82 (twelve 0 (omega (arith, count)))

  from_106 : drop 106 file ≡ number ++ titles
  from_106 = past file (e 1) _ 94 12 from_94 (twelve 1 (omega (arith, count)))

  from_108 : drop 108 file ≡ titles
  unfolding number
  from_108 = past file number _ 106 2 from_106 (length_bytes2 t)

  from_title : (k : ℕ) → k < t → drop (108 + 12 * k) file ≡ e (k + 2) ++ after (title_bytes r) (k + 1) (t - (k + 1))
  unfolding titles e t titles_of
  from_title k h =
      past file (blocks (title_bytes r) k) _ 108 (12 * k) (from_108 ∙ blocks_around (title_bytes r) k (length r.kinds - 2) h)
      (length_titles r lens.names k (omega (arith, lens.two)))

  -- every entry stands at its spot
  entry_laid : (k : ℕ) → k < n → Laid file (spot k) (kind_of r k) (playback_of r k) (object_of r k) (name_given r.names k)
  unfolding n e entry_of_record
  entry_laid zero h = laid file _ 82 _ _ _ _ (length_name r lens.names 0 (omega (arith, count))) (omega (arith, length_file)) from_82
  entry_laid (suc zero) h = laid file _ 94 _ _ _ _ (length_name r lens.names 1 (omega (arith, count))) (omega (arith, length_file)) from_94
  entry_laid (suc (suc k)) h =
      laid file _ (108 + 12 * k) _ _ _ _ (length_name r lens.names (suc (suc k)) h) (omega (arith, length_file, count))
      (rw (plus_two k) at (from_title k (omega (arith, count))))

  kind_of_is : (k : ℕ) → k < n → Kind (kind_of r k) (name_given r.names k)
  unfolding n
  kind_of_is k h = good_kind r a.fields.good k h

  entry_fine : (k : ℕ) → k < n → entry_verdict file (spot k) ≡ Ok tt
  entry_fine k h = verdict_is (entry_laid k h) (kind_of_is k h)

  -- the fields of the header
  magic : be4 file 0 ≡ indx
  unfolding file file_of head_bytes bytes4 be4
  magic = refl

  version_back : be4 file 4 ≡ version
  unfolding file file_of head_bytes bytes4 be4
  version_back = be4_bytes4 [] version v32

  start_back : start_of file ≡ 78
  unfolding start_of file file_of head_bytes bytes4 be4
  start_back = refl

  app_length : be4 file 40 ≡ 34
  unfolding file file_of head_bytes bytes4 be4
  app_length = refl

  app_byte0 : get_or file 44 0 ≡ app.initial_output_mode_preference * 8 + app.content_exist_flag * 4
  unfolding file file_of head_bytes bytes4
  app_byte0 = refl

  app_byte1 : get_or file 45 0 ≡ app.video_format * 16 + app.frame_rate
  unfolding file file_of head_bytes bytes4
  app_byte1 = refl

  stated_back : be4 file 78 ≡ 26 + 12 * t
  unfolding stated
  stated_back = behind_4 file _ 78 from_78 0 ∙ be4_bytes4 _ (26 + 12 * t) (omega (arith, few))

  titles_back : title_count file ≡ t
  unfolding title_count number
  titles_back = ap (λ (x : ℕ). be2 file (x + 28)) start_back ∙ behind_2 file _ 106 from_106 0 ∙ be2_bytes2 _ t few

  -- the verdict, test by test
  app_fine : app_info_verdict file ≡ Ok tt
  unfolding app_info_verdict
  app_fine =
      rw (
        le-ltb (length file) 46 (omega (arith, length_file)),
        le-ltb (be4 file 40) 2 (omega (arith, app_length)),
        le-leb (44 + be4 file 40) (length file) (omega (arith, app_length, length_file)),
      )

  stated_fine : stated_verdict file 78 ≡ Ok tt
  unfolding stated_verdict
  stated_fine =
      rw (le-leb (78 + 4) (length file) (omega (arith, length_file)), le-leb (78 + 4 + be4 file 78) (length file) (omega (arith, stated_back, length_file)))

  special_fine : entries_verdict file 82 2 ≡ Ok tt
  special_fine = reader.entries_made file 82 2 two
    where
      two : (k : ℕ) → k < 2 → entry_verdict file (82 + 12 * k) ≡ Ok tt
      two zero h = entry_fine 0 (omega (arith, count))
      two (suc zero) h = entry_fine 1 (omega (arith, count))
      two (suc (suc k)) h = absurd (omega arith)

  titles_fine : entries_verdict file 108 t ≡ Ok tt
  titles_fine = reader.entries_made file 108 t (λ k h. entry_fine (suc (suc k)) (omega (arith, count)))

  number_fine : titles_verdict file 78 ≡ Ok tt
  unfolding titles_verdict title_count
  number_fine =
      rw (le-leb (78 + 30) (length file) (omega (arith, length_file)))
      (ap (entries_verdict file 108) (ap (λ (x : ℕ). be2 file (x + 28)) (sym start_back) ∙ titles_back) ∙ titles_fine)

  fine : verdict_of file ≡ Ok tt
  unfolding verdict_of indexes_verdict
  fine =
      rw (
        header_fine indx file (record { short = omega (arith, length_file, few); long = omega (arith, length_file); named = magic }),
        app_fine,
        start_back,
        stated_fine,
        special_fine,
      )
      number_fine

  -- the reader's answers
  app_back : app_info_of (get_or file 44 0) (get_or file 45 0) ≡ app
  unfolding app_info_of
  app_back =
      let f = a.fields.app_fits_tells in
      app_same
      (omega (arith, app_byte0, f.output, f.content))
      (omega (arith, app_byte0, f.output, f.content))
      (omega (arith, app_byte1, f.video, f.rate))
      (omega (arith, app_byte1, f.video, f.rate))

  read_back : (k : ℕ) → k < n → object_at file (spot k) ≡ entry_read r k
  unfolding entry_read
  read_back k h = read_is (entry_laid k h) (kind_of_is k h) (o16 k)

  place_back : (k : ℕ) → k < n → place_of file (entry_number k) ≡ Some (spot k)
  place_back k h = placed file k start_back (omega (arith, titles_back, few)) (omega (arith, titles_back, count))

  entry_number_is : (k : ℕ) → k < n → is_entry (entry_number k) ≡ Ok tt
  entry_number_is k h = numbered k t few (omega (arith, count))

  parse_back : parse_of file ≡ Ok (index_read version app r)
  unfolding parse_of index_of t
  parse_back =
      rw (fine, version_back, app_back, start_back, read_back 0 (omega (arith, count)), read_back 1 (omega (arith, count)), titles_back)

  entry_back : (k : ℕ) → k < n → entry_of file (entry_number k) ≡ Ok (Some (entry_read r k))
  unfolding entry_of
  entry_back k h = rw (fine, entry_number_is k h, place_back k h, read_back k h)

  name_back : (k : ℕ) → k < n → kind_of r k ≡ 2 → name_of file (entry_number k) ≡ name_given r.names k
  unfolding name_of
  name_back k h two = rw (fine, entry_number_is k h, place_back k h, eq-eqb _ _ (kind_is (entry_laid k h) ∙ two)) ((entry_laid k h).named two)

  kind_known : (k : ℕ) → k < n → (1 ≤ kind_of r k) × (kind_of r k ≤ 2)
  kind_known k h = known_kind (kind_of_is k h)

  holds : Holds file version app r
  unfolding n
  holds = record { head = parse_back; entries = entry_back; names = name_back; known = kind_known; lengths = lengths_made r lens }

  -- the bytes that are always zero
  zeros_28 : (i : ℕ) → i < 28 → get_or file (12 + i) 0 ≡ 0
  unfolding file file_of head_bytes bytes4
  zeros_28 i h =
      let p : List ℕ = bytes4 indx ++ bytes4 version ++ bytes4 78 in
      let q : List ℕ = bytes4 34 ++ (app_bytes app ++ (replicate 32 0 ++ (special_bytes r ++ blocks (title_bytes r) (titles_of r)))) in
      ap (λ (l : List ℕ). get_or l (12 + i) 0) (append_assoc (head_bytes version app) (special_bytes r) (blocks (title_bytes r) (titles_of r)))
      ∙ get_or-append-add p (replicate 28 0 ++ q) i 0
      ∙ zeros_front 28 i q h

  zeros_32 : (i : ℕ) → i < 32 → get_or file (46 + i) 0 ≡ 0
  unfolding file file_of head_bytes bytes4
  zeros_32 i h =
      let p : List ℕ = bytes4 indx ++ bytes4 version ++ bytes4 78 ++ replicate 28 0 ++ bytes4 34 ++ app_bytes app in
      let q : List ℕ = special_bytes r ++ blocks (title_bytes r) (titles_of r) in
      ap (λ (l : List ℕ). get_or l (46 + i) 0) (append_assoc (head_bytes version app) (special_bytes r) (blocks (title_bytes r) (titles_of r)))
      ∙ get_or-append-add p (replicate 32 0 ++ q) i 0
      ∙ zeros_front 32 i q h

  made : Made file
  made =
      let f = a.fields.app_fits_tells in
      record {
        accepted = fine;
        start = start_back;
        app = app_length;
        flags = (omega (arith, app_byte0), omega (arith, app_byte0, f.output, f.content));
        reserved = zeros_28;
        user = zeros_32;
        stated = omega (arith, stated_back, length_file);
        ends = omega (arith, titles_back, length_file);
        unused = λ k h. unused_is (entry_laid k (omega (arith, titles_back, count)));
      }

-- lists in pieces
two : {p q p' q' : List ℕ} → p ≡ p' → q ≡ q' → p ++ q ≡ p' ++ q'
two e f = cc

pair : {a b c d : ℕ} → a ≡ c → b ≡ d → a ∷ b ∷ [] ≡ c ∷ d ∷ []
pair e f = cc

joined : {l p q p' q' : List ℕ} → l ≡ p ++ q → p ≡ p' → q ≡ q' → l ≡ p' ++ q'
joined e f d = cc

four_bytes : (s : List ℕ) (at : ℕ) {a b c d : ℕ} → at + 4 ≤ length s → get_or s at 0 ≡ a → get_or s (at + 1) 0 ≡ b → get_or s (at + 2) 0 ≡ c → get_or s (at + 3) 0 ≡ d
    → take 4 (drop at s) ≡ a ∷ b ∷ c ∷ d ∷ []
four_bytes s at h e0 e1 e2 e3 =
    let p3 : take 1 (drop (at + 3) s) ≡ get_or s (at + 3) 0 ∷ [] = part_cons s (at + 3) 0 (omega arith) in
    let p2 : take 2 (drop (at + 2) s) ≡ get_or s (at + 2) 0 ∷ get_or s (at + 3) 0 ∷ [] = part_cons s (at + 2) 1 (omega arith) ∙ rw (add_assoc at 2 1, p3) in
    let p1 : take 3 (drop (at + 1) s) ≡ get_or s (at + 1) 0 ∷ get_or s (at + 2) 0 ∷ get_or s (at + 3) 0 ∷ [] = part_cons s (at + 1) 2 (omega arith) ∙ rw (add_assoc at 1 1, p2) in
    part_cons s at 3 (omega arith) ∙ rw (p1, e0, e1, e2, e3)

one_more : (k : ℕ) → 108 + 12 * suc k ≡ 108 + 12 * k + 12
one_more k = omega arith

-- what an accepted entry is
kind_read : (s : List ℕ) (at : ℕ) → entry_verdict s at ≡ Ok tt → Kind (kind_at s at) (name_at s at)
unfolding entry_verdict
kind_read s at e = go (leb (at + 12) (length s)) (eqb (kind_at s at) 1) refl (eqb (kind_at s at) 2) refl (is_utf8 (name_at s at)) refl e
  where
    go : (i a : Bool) → eqb (kind_at s at) 1 ≡ a → (b : Bool) → eqb (kind_at s at) 2 ≡ b → (u : Bool) → is_utf8 (name_at s at) ≡ u
        → cond i (cond a passed (cond b (cond u passed (Err BadEntry)) (Err BadEntry))) (Err BadBody) ≡ passed → Kind (kind_at s at) (name_at s at)
    go false a qa b qb u qu v = let z : ◌≡◌ {A = ℕ} 0 1 = cc in absurd (omega arith)
    go true true qa b qb u qu v = hdmv (eqb-true _ _ qa)
    go true false qa true qb true qu v = bdj (eqb-true _ _ qb) qu
    go true false qa true qb false qu v = let z : ◌≡◌ {A = ℕ} 0 1 = cc in absurd (omega arith)
    go true false qa false qb u qu v = let z : ◌≡◌ {A = ℕ} 0 1 = cc in absurd (omega arith)

-- ---- reading, then writing

module _ (s : List ℕ) (version : ℕ) (app : AppInfoBdmv) (r : Entries) (room : ℕ) (bytes : (i : ℕ) → get_or s i 0 < 256) (fits : length s ≤ room)
    (m : Made s) (h : Holds s version app r) where
  g : reader.Good s
  g = reader.good s m.accepted

  ls : Lengths r
  ls = lengths_tell r h.lengths

  -- what the reader's answers tell
  index : index_of s ≡ index_read version app r
  unfolding parse_of
  index = let q = rw m.accepted at h.head in cc

  version_is : be4 s 4 ≡ version
  unfolding index_of
  version_is = ap (λ (i : IndexBdmv). i.version) index

  app_is : app_info_of (get_or s 44 0) (get_or s 45 0) ≡ app
  unfolding index_of
  app_is = ap (λ (i : IndexBdmv). i.app_info) index

  titles_is : title_count s ≡ titles_of r
  unfolding index_of
  titles_is = ap (λ (i : IndexBdmv). i.titles) index

  total : length r.kinds ≡ title_count s + 2
  unfolding titles_of
  total = omega (arith, titles_is, ls.two)

  small : title_count s < 65536
  small = omega (arith, total, ls.few)

  place_is : (k : ℕ) → k < length r.kinds → place_of s (entry_number k) ≡ Some (spot k)
  place_is k p = placed s k m.start small (omega (arith, total))

  number_is : (k : ℕ) → k < length r.kinds → is_entry (entry_number k) ≡ Ok tt
  number_is k p = numbered k (title_count s) small (omega (arith, total))

  object_at_is : (k : ℕ) → k < length r.kinds → object_at s (spot k) ≡ entry_read r k
  unfolding entry_of
  object_at_is k p = let q = rw (m.accepted, number_is k p, place_is k p) at (h.entries k p) in cc

  inside : (k : ℕ) → k < length r.kinds → spot k + 12 ≤ length s
  inside k p = reader.place_in s (entry_number k) m.accepted (spot k) (place_is k p)

  -- the type, the playback type, and the object or the name of entry k
  fine_at : (k : ℕ) → k < length r.kinds → entry_verdict s (spot k) ≡ Ok tt
  fine_at zero p = ap (λ (x : ℕ). entry_verdict s (x + 4 + 12 * 0)) (sym m.start) ∙ reader.entries_fine s (start_of s + 4) 2 0 g.special (omega arith)
  fine_at (suc zero) p = ap (λ (x : ℕ). entry_verdict s (x + 4 + 12 * 1)) (sym m.start) ∙ reader.entries_fine s (start_of s + 4) 2 1 g.special (omega arith)
  fine_at (suc (suc k)) p =
      ap (λ (x : ℕ). entry_verdict s (x + 30 + 12 * k)) (sym m.start) ∙ reader.entries_fine s (start_of s + 30) (title_count s) k g.titles (omega (arith, total))

  same_type : (k : ℕ) → k < length r.kinds → kind_at s (spot k) ≡ kind_of r k
  unfolding object_at entry_read
  same_type k p = go (kind_read s (spot k) (fine_at k p)) (eqb (kind_of r k) 1) refl
    where
      w : (1 ≤ kind_of r k) × (kind_of r k ≤ 2)
      w = h.known k p

      go : Kind (kind_at s (spot k)) (name_at s (spot k)) → (b : Bool) → eqb (kind_of r k) 1 ≡ b → kind_at s (spot k) ≡ kind_of r k
      go (hdmv e) true q = e ∙ sym (eqb-true _ _ q)
      go (hdmv e) false q = let d = rw (eq-eqb _ _ e, q) at (object_at_is k p) in let z : ◌≡◌ {A = ℕ} 0 1 = cc in absurd (omega arith)
      go (bdj e u) true q =
          let d = rw (ne_eqb (kind_at s (spot k)) 1 (λ x. omega arith), q) at (object_at_is k p) in let z : ◌≡◌ {A = ℕ} 0 1 = cc in absurd (omega arith)
      go (bdj e u) false q = let x = eqb-false (kind_of r k) 1 q in omega (arith, x, w.0, w.1)

  same_playback : (k : ℕ) → k < length r.kinds → playback_at s (spot k) ≡ playback_of r k
  unfolding object_at entry_read
  same_playback k p = go (eqb (kind_of r k) 1) refl
    where
      go : (b : Bool) → eqb (kind_of r k) 1 ≡ b → playback_at s (spot k) ≡ playback_of r k
      go true q = let d = rw (same_type k p, q) at (object_at_is k p) in cc
      go false q = let d = rw (same_type k p, q) at (object_at_is k p) in cc

  same_object : (k : ℕ) → k < length r.kinds → kind_of r k ≡ 1 → be2 s (spot k + 4) ≡ object_of r k
  unfolding object_at entry_read
  same_object k p e = let d = rw (same_type k p, eq-eqb _ _ e) at (object_at_is k p) in cc

  same_name : (k : ℕ) → k < length r.kinds → kind_of r k ≡ 2 → name_at s (spot k) ≡ name_given r.names k
  unfolding name_of
  same_name k p e = rw (m.accepted, number_is k p, place_is k p, eq-eqb _ _ (same_type k p ∙ e)) at (h.names k p e)

  -- entry k is the twelve bytes from its spot on
  tail_same : (k : ℕ) → k < length r.kinds → take 8 (drop (spot k + 4) s) ≡ tail_bytes (kind_of r k) (object_of r k) (name_given r.names k)
  unfolding tail_bytes
  tail_same k p = go (eqb (kind_of r k) 1) refl
    where
      at : ℕ
      at = spot k

      u : Unused s at
      u = m.unused k (omega (arith, total))

      go : (b : Bool) → eqb (kind_of r k) 1 ≡ b → take 8 (drop (at + 4) s) ≡ cond b (bytes2 (object_of r k) ++ replicate 6 0) (name_given r.names k ++ replicate 3 0)
      go true q =
          let e : kind_of r k ≡ 1 = eqb-true _ _ q in
          let b2 : take 2 (drop (at + 4) s) ≡ bytes2 (object_of r k) = bytes2_be2 s (at + 4) bytes (omega (arith, inside k p)) ∙ ap bytes2 (same_object k p e) in
          let z : take 6 (drop (at + 6) s) ≡ replicate 6 0 = zeros_at s (at + 6) 6 (omega (arith, inside k p)) (u.hdmv (same_type k p ∙ e)) in
          take-add 2 6 (drop (at + 4) s)
          ∙ two b2 (ap (take 6) (drop-drop 2 (at + 4) s ∙ ap (λ (x : ℕ). drop x s) (add_assoc at 4 2)) ∙ z)
      go false q =
          let x = eqb-false (kind_of r k) 1 q in
          let e : kind_of r k ≡ 2 = omega (arith, x, (h.known k p).0, (h.known k p).1) in
          let z : take 3 (drop (at + 9) s) ≡ replicate 3 0 = zeros_at s (at + 9) 3 (omega (arith, inside k p)) (u.bdj (same_type k p ∙ e)) in
          take-add 5 3 (drop (at + 4) s)
          ∙ two (same_name k p e) (ap (take 3) (drop-drop 5 (at + 4) s ∙ ap (λ (x : ℕ). drop x s) (add_assoc at 4 5)) ∙ z)

  entry_same : (k : ℕ) → k < length r.kinds → take 12 (drop (spot k) s) ≡ entry_of_record r k
  unfolding entry_of_record entry_bytes
  entry_same k p =
      let at = spot k in
      let u : Unused s at = m.unused k (omega (arith, total)) in
      let i = inside k p in
      let e0 : get_or s at 0 ≡ kind_of r k * 64 = omega (arith, u.byte0, same_type k p) in
      let e2 : get_or s (at + 2) 0 ≡ playback_of r k * 64 = omega (arith, u.byte2, same_playback k p) in
      take-add 4 8 (drop at s)
      ∙ two (four_bytes s at (omega arith) e0 u.byte1 e2 u.byte3) (ap (take 8) (drop-drop 4 at s) ∙ tail_same k p)

  length_is : length s ≡ 108 + 12 * titles_of r
  length_is = omega (arith, m.ends, titles_is)

  -- the head is the first 78 bytes
  app_bytes_is : take 2 (drop 44 s) ≡ app_bytes app
  unfolding app_info_of
  app_bytes_is =
      let b = bytes 45 in
      let f = m.flags in
      let w = ap (λ (x : AppInfoBdmv). x.initial_output_mode_preference) app_is in
      let x = ap (λ (x : AppInfoBdmv). x.content_exist_flag) app_is in
      let y = ap (λ (x : AppInfoBdmv). x.video_format) app_is in
      let z = ap (λ (x : AppInfoBdmv). x.frame_rate) app_is in
      part_cons s 44 1 (omega (arith, length_is))
      ∙ ap (λ (l : List ℕ). get_or s 44 0 ∷ l) (part_cons s 45 0 (omega (arith, length_is)))
      ∙ pair (omega (arith, w, x, f.0, f.1)) (omega (arith, y, z))

  head_same : take 78 s ≡ head_bytes version app
  unfolding head_bytes start_of
  head_same =
      let e0 : take 4 s ≡ bytes4 indx = bytes4_be4 s 0 bytes (omega (arith, length_is)) ∙ ap bytes4 g.head.named in
      let e1 : take 4 (drop 4 s) ≡ bytes4 version = bytes4_be4 s 4 bytes (omega (arith, length_is)) ∙ ap bytes4 version_is in
      let e2 : take 4 (drop 8 s) ≡ bytes4 78 = bytes4_be4 s 8 bytes (omega (arith, length_is)) ∙ ap bytes4 m.start in
      let e3 : take 28 (drop 12 s) ≡ replicate 28 0 = zeros_at s 12 28 (omega (arith, length_is)) m.reserved in
      let e4 : take 4 (drop 40 s) ≡ bytes4 34 = bytes4_be4 s 40 bytes (omega (arith, length_is)) ∙ ap bytes4 m.app in
      let e6 : take 32 (drop 46 s) ≡ replicate 32 0 = zeros_at s 46 32 (omega (arith, length_is)) m.user in
      joined (take-add 46 32 s)
      (joined (take-add 44 2 s)
      (joined (take-add 40 4 s)
      (joined (take-add 12 28 s) (joined (take-add 8 4 s) (joined (take-add 4 4 s) e0 e1) e2) e3) e4) app_bytes_is) e6

  -- the Indexes before the titles
  special_same : take 108 s ≡ head_bytes version app ++ special_bytes r
  unfolding special_bytes title_count
  special_same =
      let st : be4 s 78 ≡ 26 + 12 * titles_of r = omega (arith, m.stated, length_is) in
      let e0 : take 4 (drop 78 s) ≡ bytes4 (26 + 12 * titles_of r) = bytes4_be4 s 78 bytes (omega (arith, length_is)) ∙ ap bytes4 st in
      let c : be2 s 106 ≡ titles_of r = ap (λ (x : ℕ). be2 s (x + 28)) (sym m.start) ∙ titles_is in
      let e3 : take 2 (drop 106 s) ≡ bytes2 (titles_of r) = bytes2_be2 s 106 bytes (omega (arith, length_is)) ∙ ap bytes2 c in
      joined (take-add 106 2 s)
      (joined (take-add 94 12 s)
      (joined (take-add 82 12 s) (joined (take-add 78 4 s) head_same e0) (entry_same 0 (omega (arith, ls.two)))) (entry_same 1 (omega (arith, ls.two)))) e3
      ∙ simp append_assoc

  -- and each title follows
  titles_same : (k : ℕ) → k ≤ titles_of r → take (108 + 12 * k) s ≡ head_bytes version app ++ special_bytes r ++ blocks (title_bytes r) k
  unfolding blocks
  titles_same zero p = special_same ∙ sym (append-nil (head_bytes version app ++ special_bytes r))
  titles_same (suc k) p =
      let q : k + 2 < length r.kinds = omega (arith, total, titles_is) in
      ap (λ (x : ℕ). take x s) (one_more k)
      ∙ joined (take-add (108 + 12 * k) 12 s) (titles_same k (omega arith)) (entry_same (suc (suc k)) (omega arith) ∙ ap (entry_of_record r) (sym (plus_two k)))
      ∙ append_assoc (head_bytes version app ++ special_bytes r) (blocks (title_bytes r) k) (entry_of_record r (k + 2))

  same_bytes : file_of version app r ≡ s
  unfolding file_of
  same_bytes = sym (titles_same (titles_of r) (omega arith)) ∙ ap (λ (x : ℕ). take x s) (sym length_is) ∙ take-length s

  -- and the record is accepted
  app_fits_tells : AppFits app
  unfolding app_info_of
  app_fits_tells =
      let b = bytes 45 in
      let w = ap (λ (x : AppInfoBdmv). x.initial_output_mode_preference) app_is in
      let x = ap (λ (x : AppInfoBdmv). x.content_exist_flag) app_is in
      let y = ap (λ (x : AppInfoBdmv). x.video_format) app_is in
      let z = ap (λ (x : AppInfoBdmv). x.frame_rate) app_is in
      record { output = omega (arith, w); content = omega (arith, x); video = omega (arith, y); rate = omega (arith, z) }

  entry_fits_tells : (k : ℕ) → k < length r.kinds → entry_fits r.kinds r.playbacks r.names k ≡ true
  entry_fits_tells k p = fits_made (kind_of r k) (playback_of r k) (name_given r.names k) (omega (arith, same_playback k p, bytes (spot k + 2))) (go (kind_read s (spot k) (fine_at k p)))
    where
      go : Kind (kind_at s (spot k)) (name_at s (spot k)) → Kind (kind_of r k) (name_given r.names k)
      go (hdmv e) = hdmv (sym (same_type k p) ∙ e)
      go (bdj e u) = let q = sym (same_type k p) ∙ e in bdj q (ap is_utf8 (sym (same_name k p q)) ∙ u)

  accepted_back : write_verdict app r room ≡ Ok tt
  unfolding size_of
  accepted_back =
      accepts app r room
      (record {
        fields = record {
          app_fits_tells = app_fits_tells;
          good = record { lengths = ls; entries = all_made (entry_fits r.kinds r.playbacks r.names) (length r.kinds) entry_fits_tells };
        };
        short = omega (arith, length_is, g.head.short);
        fits = omega (arith, length_is, fits);
      })

-- ---- the two theorems

pub writing_then_reading : WritingThenReading
unfolding file
writing_then_reading version app r room v o e =
    let a = accepted app r room e in
    (holds version app r room a v o, made version app r room a v o)

pub reading_then_writing : ReadingThenWriting
reading_then_writing file version app r room b l m h = (accepted_back file version app r room b l m h, same_bytes file version app r room b l m h)
