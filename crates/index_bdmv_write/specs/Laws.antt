-- Laws of the writer: the lengths, what an accepted record has, and what the calls leave. Assumes nothing.
use Rattle.std.proofs.Math.Path.{◌≡◌, refl}
use Rattle.std.proofs.Common.{sym, ap, ◌∙◌}
use Rattle.std.specs.Prelude.{Bool, not, List, [], ◌∷◌, ◌++◌, leb, ltb, length, take, drop, set, replicate, Ok}
use Rattle.std.proofs.Math.Bool.{true, false, cond}
use Prim.Native.Nat.{ℕ, zero, suc, ◌+◌, ◌*◌, ◌-◌, ◌≤◌, ◌<◌}
use Rattle.std.proofs.Math.Nat.{add-sub_cancel_left}
use native.Mathlib.Omega.{arith}
use Rattle.std.proofs.Math.Dec.{eqb}
use Rattle.std.proofs.Math.ListN.{length-append, length-drop}
use Rattle.std.proofs.Math.Seq.{length-take-le}
use borrow.Author.Tests.{lt-ltb, ltb-true, le-leb, leb-true, eq-eqb, ne_eqb, eqb-true, not-false}
use Rattle.laws.specs.Cases.{both, either_way}
use Rattle.laws.specs.Firsts.{all, all_tells, blocks, blocks_suc}
use Rattle.laws.specs.Over.{over, over_next, store4}
use Rattle.common.specs.Rules.{bytes2, bytes4, limit}
use Rattle.common.specs.Laws.{length_bytes2, length_bytes4, room_tells, room_made}
use Rattle.utf8.specs.Rules.{is_utf8}
use Rattle.error.specs.Laws.{both_fine, not_refused}
use Rattle.error.specs.Rules.{refused_if}
use Rattle.error.specs.declared.Refusal.TheVariants.{NotEncodable}
use Rattle.index_bdmv.specs.declared.AppInfoBdmv.{AppInfoBdmv}
use Rattle.index_bdmv_write.specs.Rules.{Entries, entries, kind_of, playback_of, object_of, name_given, titles_of, tail_bytes, entry_bytes, entry_of_record, app_bytes, head_bytes, special_bytes, title_bytes, size_of, file_of, app_fits, kind_fits, entry_fits, lengths_fit, encodable, write_verdict}
use Rattle.index_bdmv_write.specs.declared.Entries.{Entries as Lent}

-- the record that is lent to the writer
abbrev pub lent : Lent → Entries
lent e = entries e.kinds.now e.playbacks.now e.objects.now e.names.now

-- ---- lengths

pub length_head_bytes : (version : ℕ) (app : AppInfoBdmv) → length (head_bytes version app) ≡ 78
unfolding head_bytes bytes4
length_head_bytes version app = refl

pub length_tail_bytes : (kind object : ℕ) (name : List ℕ) → length name ≡ 5 → length (tail_bytes kind object name) ≡ 8
unfolding tail_bytes bytes2
length_tail_bytes kind object name h =
    either_way (λ (l : List ℕ). length l ≡ 8) (eqb kind 1) {x = bytes2 object ++ replicate 6 0} {y = name ++ replicate 3 0} refl
    (length-append name (replicate 3 0) ∙ ap (λ (n : ℕ). n + 3) h)

length_entry_bytes : (kind playback object : ℕ) (name : List ℕ) → length name ≡ 5 → length (entry_bytes kind playback object name) ≡ 12
unfolding entry_bytes
length_entry_bytes kind playback object name h = omega (arith, length_tail_bytes kind object name h)

module _ (r : Entries) (long : length r.names ≡ 5 * length r.kinds) where
  pub length_name : (k : ℕ) → k < length r.kinds → length (name_given r.names k) ≡ 5
  unfolding name_given
  length_name k h = length-take-le 5 (drop (5 * k) r.names) (omega (arith, length-drop (5 * k) r.names))

  pub length_entry : (k : ℕ) → k < length r.kinds → length (entry_of_record r k) ≡ 12
  unfolding entry_of_record
  length_entry k h = length_entry_bytes (kind_of r k) (playback_of r k) (object_of r k) (name_given r.names k) (length_name k h)

  pub length_special : 2 ≤ length r.kinds → length (special_bytes r) ≡ 30
  unfolding special_bytes
  length_special h =
      let a = bytes4 (26 + 12 * titles_of r) in
      let b = entry_of_record r 0 in
      let c = entry_of_record r 1 in
      let d = bytes2 (titles_of r) in
      omega (
        arith,
        length-append (a ++ b ++ c) d,
        length-append (a ++ b) c,
        length-append a b,
        length_bytes4 (26 + 12 * titles_of r),
        length_entry 0 (omega arith),
        length_entry 1 (omega arith),
        length_bytes2 (titles_of r),
      )

  pub length_titles : (k : ℕ) → k + 2 ≤ length r.kinds → length (blocks (title_bytes r) k) ≡ 12 * k
  unfolding blocks
  length_titles zero h = refl
  length_titles (suc k) h =
      omega (arith, length-append (blocks (title_bytes r) k) (title_bytes r k), length_titles k (omega arith), length_entry (k + 2) (omega arith))

-- ---- what an accepted record has

pub record AppFits (a : AppInfoBdmv) : Type 0 where
  pub output : a.initial_output_mode_preference < 2
  pub content : a.content_exist_flag < 2
  pub video : a.video_format < 16
  pub rate : a.frame_rate < 16

pub record Lengths (r : Entries) : Type 0 where
  pub two : 2 ≤ length r.kinds
  pub few : length r.kinds ≤ 65537
  pub playbacks : length r.playbacks ≡ length r.kinds
  pub objects : length r.objects ≡ length r.kinds
  pub names : length r.names ≡ 5 * length r.kinds

app_tells : (a : AppInfoBdmv) → app_fits a ≡ true → AppFits a
app_tells a e =
    let p1 = both (ltb a.initial_output_mode_preference 2) _ e in
    let p2 = both (ltb a.content_exist_flag 2) _ p1.1 in
    let p3 = both (ltb a.video_format 16) _ p2.1 in
    record { output = ltb-true _ _ p1.0; content = ltb-true _ _ p2.0; video = ltb-true _ _ p3.0; rate = ltb-true _ _ p3.1 }

app_made : (a : AppInfoBdmv) → AppFits a → app_fits a ≡ true
app_made a f = simp (lt-ltb _ _ f.output, lt-ltb _ _ f.content, lt-ltb _ _ f.video, lt-ltb _ _ f.rate)

pub record Good (r : Entries) : Type 0 where
  pub lengths : Lengths r
  pub entries : all (entry_fits r.kinds r.playbacks r.names) (length r.kinds) ≡ true

pub record Encodable (app : AppInfoBdmv) (r : Entries) : Type 0 where
  pub app_fits_tells : AppFits app
  pub good : Good r

module _ (r : Entries) where
  pub lengths_tell : lengths_fit (length r.kinds) (length r.playbacks) (length r.objects) (length r.names) ≡ true → Lengths r
  unfolding lengths_fit
  lengths_tell e =
      let p1 = both (leb 2 (length r.kinds)) _ e in
      let p2 = both (leb (length r.kinds) 65537) _ p1.1 in
      let p3 = both (eqb (length r.playbacks) (length r.kinds)) _ p2.1 in
      let p4 = both (eqb (length r.objects) (length r.kinds)) _ p3.1 in
      record {
        two = leb-true _ _ p1.0;
        few = leb-true _ _ p2.0;
        playbacks = eqb-true _ _ p3.0;
        objects = eqb-true _ _ p4.0;
        names = eqb-true _ _ p4.1;
      }

  pub lengths_made : Lengths r → lengths_fit (length r.kinds) (length r.playbacks) (length r.objects) (length r.names) ≡ true
  unfolding lengths_fit
  lengths_made l = simp (le-leb _ _ l.two, le-leb _ _ l.few, eq-eqb _ _ l.playbacks, eq-eqb _ _ l.objects, eq-eqb _ _ l.names)

  pub encodable_tells : (app : AppInfoBdmv) → encodable app r ≡ true → Encodable app r
  unfolding encodable
  encodable_tells app e =
      let p1 = both (app_fits app) _ e in
      let p2 = both (lengths_fit (length r.kinds) (length r.playbacks) (length r.objects) (length r.names)) _ p1.1 in
      record { app_fits_tells = app_tells app p1.0; good = record { lengths = lengths_tell p2.0; entries = p2.1 } }

  pub encodable_made : (app : AppInfoBdmv) → Encodable app r → encodable app r ≡ true
  unfolding encodable
  encodable_made app a = rw (app_made app a.app_fits_tells, lengths_made a.good.lengths, a.good.entries)

-- what a good entry is: HDMV, or BD-J with a name
pub data Kind (kind : ℕ) (name : List ℕ) : Type 0 where
  hdmv : kind ≡ 1 → Kind kind name
  bdj : kind ≡ 2 → is_utf8 name ≡ true → Kind kind name

module _ (kind playback : ℕ) (name : List ℕ) where
  fits_playback : kind_fits kind playback name ≡ true → playback < 4
  unfolding kind_fits
  fits_playback e = ltb-true _ _ (both (ltb playback 4) _ e).0

  fits_kind : kind_fits kind playback name ≡ true → Kind kind name
  unfolding kind_fits
  fits_kind e = go (eqb kind 1) refl (eqb kind 2) refl (both (ltb playback 4) _ e).1
    where
      go : (a : Bool) → eqb kind 1 ≡ a → (b : Bool) → eqb kind 2 ≡ b → cond a true (cond b (is_utf8 name) false) ≡ true → Kind kind name
      go true qa b qb t = hdmv (eqb-true _ _ qa)
      go false qa true qb t = bdj (eqb-true _ _ qb) t
      go false qa false qb t = let z : ◌≡◌ {A = ℕ} 0 1 = cc in absurd (omega arith)

  pub fits_made : playback < 4 → Kind kind name → kind_fits kind playback name ≡ true
  unfolding kind_fits
  fits_made p (hdmv e) = rw (lt-ltb _ _ p, eq-eqb _ _ e)
  fits_made p (bdj e u) = rw (lt-ltb _ _ p, ne_eqb kind 1 (λ q. omega arith), eq-eqb _ _ e, u)

pub kind_small : {kind : ℕ} {name : List ℕ} → Kind kind name → kind < 4
kind_small (hdmv e) = omega arith
kind_small (bdj e u) = omega arith

-- what each entry of a good record is
module _ (r : Entries) (g : Good r) (k : ℕ) (h : k < length r.kinds) where
  pub good_playback : playback_of r k < 4
  good_playback = fits_playback _ _ _ (all_tells (entry_fits r.kinds r.playbacks r.names) (length r.kinds) k g.entries h)

  pub good_kind : Kind (kind_of r k) (name_given r.names k)
  good_kind = fits_kind _ _ _ (all_tells (entry_fits r.kinds r.playbacks r.names) (length r.kinds) k g.entries h)

-- ---- the verdict

pub record Accepted (app : AppInfoBdmv) (r : Entries) (room : ℕ) : Type 0 where
  pub fields : Encodable app r
  pub short : size_of r ≤ limit
  pub fits : size_of r ≤ room

module _ (app : AppInfoBdmv) (r : Entries) (room : ℕ) where
  pub accepted : write_verdict app r room ≡ Ok tt → Accepted app r room
  unfolding write_verdict
  accepted e =
      let p1 = both_fine (refused_if (not (encodable app r)) NotEncodable) _ e in
      let p2 = room_tells (size_of r) room p1.1 in
      record {
        fields = encodable_tells r app (not-false _ (not_refused _ NotEncodable p1.0));
        short = p2.0;
        fits = p2.1;
      }

  pub accepts : Accepted app r room → write_verdict app r room ≡ Ok tt
  unfolding write_verdict
  accepts a = simp (encodable_made r app a.fields, room_made (size_of r) room a.short a.fits)

-- ---- what the calls leave, one after the other

pub head_steps : (l m1 m2 m3 m4 m5 m6 m7 : List ℕ) (version : ℕ) (app : AppInfoBdmv) → 78 ≤ length l
    → m1 ≡ over l 0 (bytes4 0x494E4458) → m2 ≡ over m1 4 (bytes4 version) → m3 ≡ over m2 8 (bytes4 78) → m4 ≡ over m3 12 (replicate 28 0)
    → m5 ≡ over m4 40 (bytes4 34) → m6 ≡ over m5 44 (app_bytes app) → m7 ≡ over m6 46 (replicate 32 0)
    → m7 ≡ over l 0 (head_bytes version app)
unfolding head_bytes bytes4
head_steps l m1 m2 m3 m4 m5 m6 m7 version app h e1 e2 e3 e4 e5 e6 e7 =
    over_next l m6 m7 0 _ _ 46
    (over_next l m5 m6 0 _ _ 44
    (over_next l m4 m5 0 _ _ 40
    (over_next l m3 m4 0 _ _ 12
    (over_next l m2 m3 0 _ _ 8 (over_next l m1 m2 0 _ _ 4 e1 e2 refl (omega arith)) e3 refl (omega arith)) e4 refl (omega arith)) e5 refl (omega arith)) e6 refl (omega arith)) e7 refl (omega arith)

-- the eight bytes after an entry's first four
pub hdmv_steps : (l m1 m2 : List ℕ) (at object : ℕ) → at + 8 ≤ length l
    → m1 ≡ over l at (bytes2 object) → m2 ≡ over m1 (at + 2) (replicate 6 0) → m2 ≡ over l at (bytes2 object ++ replicate 6 0)
unfolding bytes2
hdmv_steps l m1 m2 at object h e1 e2 = over_next l m1 m2 at _ _ (at + 2) e1 e2 refl (omega arith)

pub bdj_steps : (l m1 m2 : List ℕ) (at : ℕ) (name : List ℕ) → length name ≡ 5 → at + 8 ≤ length l
    → m1 ≡ over l at name → m2 ≡ over m1 (at + 5) (replicate 3 0) → m2 ≡ over l at (name ++ replicate 3 0)
bdj_steps l m1 m2 at name five h e1 e2 = over_next l m1 m2 at _ _ (at + 5) e1 e2 (ap (λ (n : ℕ). at + n) (sym five)) (omega arith)

pub entry_steps : (l m : List ℕ) (at kind playback : ℕ) (tail : List ℕ) → length tail ≡ 8 → at + 12 ≤ length l
    → m ≡ over (set (set (set (set l at (kind * 64)) (at + 1) 0) (at + 2) (playback * 64)) (at + 3) 0) (at + 4) tail
    → m ≡ over l at ((kind * 64) ∷ 0 ∷ (playback * 64) ∷ 0 ∷ tail)
entry_steps l m at kind playback tail eight h e =
    over_next l _ m at ((kind * 64) ∷ 0 ∷ (playback * 64) ∷ 0 ∷ []) tail (at + 4) (store4 l at _ 0 _ 0 (omega arith)) e refl (omega arith)

-- two entries, their length before them and the number of titles after them
pub special_steps : (l m1 m2 m3 m4 : List ℕ) (r : Entries) → Lengths r → 108 ≤ length l
    → m1 ≡ over l 78 (bytes4 (26 + 12 * titles_of r)) → m2 ≡ over m1 82 (entry_of_record r 0) → m3 ≡ over m2 94 (entry_of_record r 1) → m4 ≡ over m3 106 (bytes2 (titles_of r))
    → m4 ≡ over l 78 (special_bytes r)
unfolding special_bytes
special_steps l m1 m2 m3 m4 r n h e1 e2 e3 e4 =
    let a = length_bytes4 (26 + 12 * titles_of r) in
    let b = length_entry r n.names 0 (omega (arith, n.two)) in
    let c = length_entry r n.names 1 (omega (arith, n.two)) in
    let d = length_bytes2 (titles_of r) in
    let ab = length-append (bytes4 (26 + 12 * titles_of r)) (entry_of_record r 0) in
    let abc = length-append (bytes4 (26 + 12 * titles_of r) ++ entry_of_record r 0) (entry_of_record r 1) in
    over_next l m3 m4 78 _ _ 106
    (over_next l m2 m3 78 _ _ 94 (over_next l m1 m2 78 _ _ 82 e1 e2 (omega (arith, a)) (omega (arith, a, b))) e3 (omega (arith, a, b, ab)) (omega (arith, a, b, c, ab))) e4
    (omega (arith, a, b, c, ab, abc)) (omega (arith, a, b, c, d, ab, abc))

-- a turn of the loop over the titles
pub titles_step : (l m m' : List ℕ) (r : Entries) (k at : ℕ) → Lengths r → k + 2 < length r.kinds → size_of r ≤ length l → at ≡ 108 + 12 * k
    → m ≡ over l 108 (blocks (title_bytes r) k) → m' ≡ over m at (title_bytes r k)
    → m' ≡ over l 108 (blocks (title_bytes r) (k + 1))
unfolding size_of titles_of
titles_step l m m' r k at n h room e was next =
    let d = length_titles r n.names k (omega arith) in
    let o = length_entry r n.names (k + 2) h in
    over_next l m m' 108 _ _ at was next (omega (arith, d)) (omega (arith, d, o))
    ∙ ap (over l 108) (sym (blocks_suc (title_bytes r) k))

-- the three calls that write, one after the other
pub file_steps : (l m1 m2 m3 : List ℕ) (version : ℕ) (app : AppInfoBdmv) (r : Entries) → Accepted app r (length l)
    → m1 ≡ over l 0 (head_bytes version app) → m2 ≡ over m1 78 (special_bytes r) → m3 ≡ over m2 108 (blocks (title_bytes r) (titles_of r))
    → m3 ≡ over l 0 (file_of version app r)
unfolding file_of size_of titles_of
file_steps l m1 m2 m3 version app r a e1 e2 e3 =
    let n = a.fields.good.lengths in
    let h = length_head_bytes version app in
    let s = length_special r n.names n.two in
    let t = length_titles r n.names (length r.kinds - 2) (omega (arith, n.two)) in
    let hs = length-append (head_bytes version app) (special_bytes r) in
    over_next l m2 m3 0 _ _ 108 (over_next l m1 m2 0 _ _ 78 e1 e2 (omega (arith, h)) (omega (arith, h, s, a.fits))) e3
    (omega (arith, h, s, hs)) (omega (arith, h, s, t, hs, a.fits))

-- the part of the names that an entry lends
pub name_part : (names : List ℕ) (k : ℕ) → take (5 * k + 5 - 5 * k) (drop (5 * k) names) ≡ name_given names k
unfolding name_given
name_part names k = rw (add-sub_cancel_left (5 * k) 5)
