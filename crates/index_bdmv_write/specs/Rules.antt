-- The index.bdmv of a record, what refuses it, and what the writer leaves (document 01, module 6). Assumes nothing.
use Rattle.std.specs.Prelude.{◌≡◌, Bool, true, false, cond, not, ◌&&◌, List, [], ◌∷◌, ◌++◌, ℕ, zero, suc, ◌+◌, ◌*◌, ◌-◌, ◌%◌, ◌≤◌, ◌<◌, eqb, leb, ltb, length, get_or, take, drop, replicate, Ok, Some}
use Rattle.laws.specs.Firsts.{all, blocks}
use Rattle.common.specs.Rules.{be4, bytes2, bytes4, room_verdict, Left, left_as}
use Rattle.utf8.specs.Rules.{is_utf8}
use Rattle.error.specs.Rules.{first_of, refused_if, Verdict}
use Rattle.error.specs.declared.Refusal.TheVariants.{NotEncodable}
use Rattle.index_bdmv.specs.declared.AppInfoBdmv.{AppInfoBdmv}
use Rattle.index_bdmv.specs.declared.IndexObjectType.{IndexObjectType}
use Rattle.index_bdmv.specs.declared.IndexObjectType.TheVariants.{Hdmv, BdJ}
use Rattle.index_bdmv.specs.declared.IndexBdmv.{IndexBdmv}
use Rattle.index_bdmv.specs.Rules.{indx, start_of, title_count, kind_at, verdict_of, parse_of, entry_of, name_of}

-- First playback, top menu, titles: of each its type (1 HDMV, 2 BD-J), playback type, and an object and a name, of which one is used.
pub record Entries : Type 0 where
  pub kinds : List ℕ
  pub playbacks : List ℕ
  pub objects : List ℕ
  pub names : List ℕ

abbrev pub entries : List ℕ → List ℕ → List ℕ → List ℕ → Entries
entries kinds playbacks objects names = record { kinds = kinds; playbacks = playbacks; objects = objects; names = names }

abbrev pub kind_of : Entries → ℕ → ℕ
kind_of r k = get_or r.kinds k 0

abbrev pub playback_of : Entries → ℕ → ℕ
playback_of r k = get_or r.playbacks k 0

abbrev pub object_of : Entries → ℕ → ℕ
object_of r k = get_or r.objects k 0

unfoldable pub name_given : List ℕ → ℕ → List ℕ
name_given names k = take 5 (drop (5 * k) names)

-- The number of titles.
unfoldable pub titles_of : Entries → ℕ
titles_of r = length r.kinds - 2

-- ---- the bytes

-- The type and the playback type stand in the top two bits of bytes 0 and 2; then an object or a name, and zeros.
unfoldable pub tail_bytes : ℕ → ℕ → List ℕ → List ℕ
tail_bytes kind object name = cond (eqb kind 1) (bytes2 object ++ replicate 6 0) (name ++ replicate 3 0)

unfoldable pub entry_bytes : ℕ → ℕ → ℕ → List ℕ → List ℕ
entry_bytes kind playback object name = (kind * 64) ∷ 0 ∷ (playback * 64) ∷ 0 ∷ tail_bytes kind object name

unfoldable pub entry_of_record : Entries → ℕ → List ℕ
entry_of_record r k = entry_bytes (kind_of r k) (playback_of r k) (object_of r k) (name_given r.names k)

-- The AppInfo: two flags in bits 3 and 2, then two halves of a byte.
abbrev pub app_bytes : AppInfoBdmv → List ℕ
app_bytes a =
    (a.initial_output_mode_preference * 8 + a.content_exist_flag * 4) ∷ (a.video_format * 16 + a.frame_rate) ∷ []

-- The 78 bytes before the Indexes, which start there.
unfoldable pub head_bytes : ℕ → AppInfoBdmv → List ℕ
head_bytes version app =
    bytes4 indx ++ bytes4 version ++ bytes4 78 ++ replicate 28 0 ++ bytes4 34 ++ app_bytes app ++ replicate 32 0

-- The Indexes: their length, first playback, top menu, the number of titles, the titles.
unfoldable pub special_bytes : Entries → List ℕ
special_bytes r = bytes4 (26 + 12 * titles_of r) ++ entry_of_record r 0 ++ entry_of_record r 1 ++ bytes2 (titles_of r)

abbrev pub title_bytes : Entries → ℕ → List ℕ
title_bytes r k = entry_of_record r (k + 2)

-- Written length: 108 plus 12 per title.
unfoldable pub size_of : Entries → ℕ
size_of r = 108 + 12 * titles_of r

unfoldable pub file_of : ℕ → AppInfoBdmv → Entries → List ℕ
file_of version app r = head_bytes version app ++ special_bytes r ++ blocks (title_bytes r) (titles_of r)

-- ---- the refusals

-- What the fields can hold.
abbrev pub app_fits : AppInfoBdmv → Bool
app_fits a =
    ltb a.initial_output_mode_preference 2
    && (ltb a.content_exist_flag 2
    && (ltb a.video_format 16
    && ltb a.frame_rate 16))

-- The playback type has two bits; the entry is HDMV, or BD-J with a name that is UTF-8.
unfoldable pub kind_fits : ℕ → ℕ → List ℕ → Bool
kind_fits kind playback name = ltb playback 4 && cond (eqb kind 1) true (cond (eqb kind 2) (is_utf8 name) false)

abbrev pub entry_fits : List ℕ → List ℕ → List ℕ → ℕ → Bool
entry_fits kinds playbacks names k = kind_fits (get_or kinds k 0) (get_or playbacks k 0) (name_given names k)

-- Two special entries and at most 65,535 titles, with a playback type, an object and a name for each.
unfoldable pub lengths_fit : ℕ → ℕ → ℕ → ℕ → Bool
lengths_fit kinds playbacks objects names =
    leb 2 kinds && (leb kinds 65537 && (eqb playbacks kinds && (eqb objects kinds && eqb names (5 * kinds))))

unfoldable pub encodable : AppInfoBdmv → Entries → Bool
encodable app r =
    app_fits app
    && (lengths_fit (length r.kinds) (length r.playbacks) (length r.objects) (length r.names)
    && all (entry_fits r.kinds r.playbacks r.names) (length r.kinds))

-- 9 a field that doesn't fit, or a BD-J name that is not UTF-8; 5 a file over the limit, or longer than the lent buffer.
unfoldable pub write_verdict : AppInfoBdmv → Entries → ℕ → Verdict
write_verdict app r room =
    first_of (refused_if (not (encodable app r)) NotEncodable)
    (room_verdict (size_of r) room)

-- ---- what the writer leaves

unfoldable pub write_of : ℕ → AppInfoBdmv → Entries → List ℕ → Left
write_of version app r out = left_as (write_verdict app r (length out)) (file_of version app r) (size_of r) out

-- ---- the round trips

-- Where entry k of a record stands in a written file, and the number by which it is asked for.
abbrev pub spot : ℕ → ℕ
spot zero = 82
spot (suc zero) = 94
spot (suc (suc k)) = 108 + 12 * k

abbrev pub entry_number : ℕ → ℕ
entry_number zero = 65536
entry_number (suc zero) = 65537
entry_number (suc (suc k)) = k + 1

-- What the reader says of entry k.
unfoldable pub entry_read : Entries → ℕ → IndexObjectType
entry_read r k = cond (eqb (kind_of r k) 1) (Hdmv (playback_of r k) (object_of r k)) (BdJ (playback_of r k))

abbrev pub index_read : ℕ → AppInfoBdmv → Entries → IndexBdmv
index_read version app r =
    record {
      version = version;
      app_info = app;
      first_playback_title = entry_read r 0;
      menu_title = entry_read r 1;
      titles = titles_of r;
    }

-- A file holds a record: the reader's calls give its version, its AppInfo and its entries.
pub record Holds (file : List ℕ) (version : ℕ) (app : AppInfoBdmv) (r : Entries) : Type 0 where
  pub head : parse_of file ≡ Ok (index_read version app r)
  pub entries : (k : ℕ) → k < length r.kinds → entry_of file (entry_number k) ≡ Ok (Some (entry_read r k))
  pub names : (k : ℕ) → k < length r.kinds → kind_of r k ≡ 2 → name_of file (entry_number k) ≡ name_given r.names k
  pub known : (k : ℕ) → k < length r.kinds → (1 ≤ kind_of r k) × (kind_of r k ≤ 2)
  pub lengths : lengths_fit (length r.kinds) (length r.playbacks) (length r.objects) (length r.names) ≡ true

-- An entry whose reserved bits and bytes are zero.
pub record Unused (file : List ℕ) (at : ℕ) : Type 0 where
  pub byte0 : get_or file at 0 % 64 ≡ 0
  pub byte1 : get_or file (at + 1) 0 ≡ 0
  pub byte2 : get_or file (at + 2) 0 % 64 ≡ 0
  pub byte3 : get_or file (at + 3) 0 ≡ 0
  pub hdmv : kind_at file at ≡ 1 → (i : ℕ) → i < 6 → get_or file (at + 6 + i) 0 ≡ 0
  pub bdj : kind_at file at ≡ 2 → (i : ℕ) → i < 3 → get_or file (at + 9 + i) 0 ≡ 0

-- The files that the writer could have made: the Indexes follow the AppInfo and end with the file, and what is reserved is zero.
pub record Made (file : List ℕ) : Type 0 where
  pub accepted : verdict_of file ≡ Ok tt
  pub start : start_of file ≡ 78
  pub app : be4 file 40 ≡ 34
  pub flags : (get_or file 44 0 % 4 ≡ 0) × (get_or file 44 0 < 16)
  pub reserved : (i : ℕ) → i < 28 → get_or file (12 + i) 0 ≡ 0
  pub user : (i : ℕ) → i < 32 → get_or file (46 + i) 0 ≡ 0
  pub stated : 82 + be4 file 78 ≡ length file
  pub ends : 108 + 12 * title_count file ≡ length file
  pub unused : (k : ℕ) → k < title_count file + 2 → Unused file (spot k)

-- Writing then reading gives the record back, and such a file is one that the writer could have made.
abbrev pub WritingThenReading : Type 0
WritingThenReading =
    (version : ℕ) (app : AppInfoBdmv) (r : Entries) (room : ℕ) → version < 4294967296 → ((k : ℕ) → object_of r k < 65536) → write_verdict app r room ≡ Ok tt
    → Holds (file_of version app r) version app r × Made (file_of version app r)

-- Reading then writing gives the bytes back, for each file of bytes that the writer could have made.
abbrev pub ReadingThenWriting : Type 0
ReadingThenWriting =
    (file : List ℕ) (version : ℕ) (app : AppInfoBdmv) (r : Entries) (room : ℕ) → ((i : ℕ) → get_or file i 0 < 256) → length file ≤ room
    → Made file → Holds file version app r
    → (write_verdict app r room ≡ Ok tt) × (file_of version app r ≡ file)
