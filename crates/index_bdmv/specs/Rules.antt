-- What an index.bdmv says, and which files are read (document 01, module 6). Assumes nothing.
use Rattle.std.specs.Prelude.{cond, List, [], ℕ, zero, suc, ◌+◌, ◌*◌, ◌/◌, ◌%◌, leb, ltb, eqb, length, get_or, take, drop, Err, None, Ok, Option, Result, Some}
use Rattle.common.specs.Rules.{be2, be4, header_of}
use Rattle.utf8.specs.Rules.{is_utf8}
use Rattle.error.specs.Rules.{first_of, given, Verdict}
use Rattle.error.specs.declared.Refusal.TheVariants.{BadBody, BadEntry, NotAnEntry}
use Rattle.index_bdmv.specs.declared.AppInfoBdmv.{AppInfoBdmv}
use Rattle.index_bdmv.specs.declared.IndexObjectType.{IndexObjectType}
use Rattle.index_bdmv.specs.declared.IndexObjectType.TheVariants.{Hdmv, BdJ}
use Rattle.index_bdmv.specs.declared.IndexBdmv.{IndexBdmv}
use Rattle.error.specs.declared.Refusal.{Refusal}

-- The letters INDX.
abbrev pub indx : ℕ
indx = 0x494E4458

-- ---- the AppInfo

-- It is read from 44, and its stated end must lie within the file; a length under 2 is refused.
unfoldable pub app_info_verdict : List ℕ → Verdict
app_info_verdict s =
    cond (ltb (length s) 46) (Err BadBody)
    (cond (ltb (be4 s 40) 2) (Err BadBody)
    (cond (leb (44 + be4 s 40) (length s)) (Ok tt) (Err BadBody)))

-- Bits 3 and 2 of its first byte, then two halves of the second.
unfoldable pub app_info_of : ℕ → ℕ → AppInfoBdmv
app_info_of a b =
    record {
      initial_output_mode_preference = a / 8 % 2;
      content_exist_flag = a / 4 % 2;
      video_format = b / 16;
      frame_rate = b % 16;
    }

-- ---- one entry, twelve bytes

-- The type in the top two bits of byte 0, the playback type in those of byte 2, an object or a name of five bytes from byte 4.
abbrev pub kind_at : List ℕ → ℕ → ℕ
kind_at s at = get_or s at 0 / 64

abbrev pub playback_at : List ℕ → ℕ → ℕ
playback_at s at = get_or s (at + 2) 0 / 64

abbrev pub name_at : List ℕ → ℕ → List ℕ
name_at s at = take 5 (drop (at + 4) s)

-- 3 past the end of the file; 4 type 0 or 3, or a BD-J name that is not UTF-8. All twelve bytes are read before they are judged.
unfoldable pub entry_verdict : List ℕ → ℕ → Verdict
entry_verdict s at =
    cond (leb (at + 12) (length s))
    (cond (eqb (kind_at s at) 1) (Ok tt)
    (cond (eqb (kind_at s at) 2) (cond (is_utf8 (name_at s at)) (Ok tt) (Err BadEntry))
    (Err BadEntry)))
    (Err BadBody)

-- The first refusal among n entries from a place on.
unfoldable pub entries_verdict : List ℕ → ℕ → ℕ → Verdict
entries_verdict s at zero = Ok tt
entries_verdict s at (suc n) = first_of (entries_verdict s at n) (entry_verdict s (at + 12 * n))

-- ---- the Indexes

-- They start where bytes 8..11 say, even inside the header.
unfoldable pub start_of : List ℕ → ℕ
start_of s = be4 s 8

-- Their stated end must lie within the file, and entries may run past it.
unfoldable pub stated_verdict : List ℕ → ℕ → Verdict
stated_verdict s p =
    cond (leb (p + 4) (length s))
    (cond (leb (p + 4 + be4 s p) (length s)) (Ok tt) (Err BadBody))
    (Err BadBody)

-- The number of titles, and the titles.
unfoldable pub titles_verdict : List ℕ → ℕ → Verdict
titles_verdict s p = cond (leb (p + 30) (length s)) (entries_verdict s (p + 30) (be2 s (p + 28))) (Err BadBody)

-- First playback and top menu are two entries before them.
unfoldable pub indexes_verdict : List ℕ → ℕ → Verdict
indexes_verdict s p = first_of (stated_verdict s p) (first_of (entries_verdict s (p + 4) 2) (titles_verdict s p))

-- 1, 2, then 3 or 4 as met: the AppInfo, the Indexes, the entries in order.
unfoldable pub verdict_of : List ℕ → Verdict
verdict_of s = first_of (header_of indx s) (first_of (app_info_verdict s) (indexes_verdict s (start_of s)))

-- ---- where an entry leads

unfoldable pub title_count : List ℕ → ℕ
title_count s = be2 s (start_of s + 28)

-- 65,536 first playback, 65,537 top menu, 1..65,535 a title of the disc; nothing else, and never 0, has a place.
unfoldable pub place_of : List ℕ → ℕ → Option ℕ
place_of s e =
    cond (eqb e 65536) (Some (start_of s + 4))
    (cond (eqb e 65537) (Some (start_of s + 16))
    (cond (eqb e 0) None
    (cond (leb e (title_count s)) (Some (start_of s + 18 + 12 * e)) None)))

-- An HDMV entry leads to its object; a BD-J entry doesn't resolve.
abbrev pub lead_at : List ℕ → ℕ → Option ℕ
lead_at s at = cond (eqb (kind_at s at) 1) (Some (be2 s (at + 4))) None

abbrev pub lead_from : List ℕ → Option ℕ → Option ℕ
lead_from s (Some at) = lead_at s at
lead_from s None = None

unfoldable pub resolve_of : List ℕ → ℕ → Option ℕ
resolve_of s e = lead_from s (place_of s e)

-- ---- what the public calls answer

-- What an entry of an accepted file says; a name is asked for by itself.
unfoldable pub object_at : List ℕ → ℕ → IndexObjectType
object_at s at = cond (eqb (kind_at s at) 1) (Hdmv (playback_at s at) (be2 s (at + 4))) (BdJ (playback_at s at))

unfoldable pub index_of : List ℕ → IndexBdmv
index_of s =
    record {
      version = be4 s 4;
      app_info = app_info_of (get_or s 44 0) (get_or s 45 0);
      first_playback_title = object_at s (start_of s + 4);
      menu_title = object_at s (start_of s + 16);
      titles = title_count s;
    }

unfoldable pub parse_of : List ℕ → Result IndexBdmv Refusal
parse_of s = given (verdict_of s) (index_of s)

-- 10 not an entry: over 65,537.
abbrev pub is_entry : ℕ → Verdict
is_entry e = cond (leb e 65537) (Ok tt) (Err NotAnEntry)

abbrev pub entry_from : List ℕ → Option ℕ → Option IndexObjectType
entry_from s (Some at) = Some (object_at s at)
entry_from s None = None

unfoldable pub entry_of : List ℕ → ℕ → Result (Option IndexObjectType) Refusal
entry_of s e = given (first_of (verdict_of s) (is_entry e)) (entry_from s (place_of s e))

unfoldable pub resolve_movie_object : List ℕ → ℕ → Result (Option ℕ) Refusal
resolve_movie_object s e = given (first_of (verdict_of s) (is_entry e)) (resolve_of s e)

-- The name of a BD-J entry, a part of the file; nothing where there is none, or where the call is refused.
abbrev pub name_from : List ℕ → Option ℕ → List ℕ
name_from s (Some at) = cond (eqb (kind_at s at) 2) (name_at s at) []
name_from s None = []

abbrev pub where_fine : Verdict → List ℕ → List ℕ
where_fine (Ok u) l = l
where_fine (Err r) l = []

unfoldable pub name_of : List ℕ → ℕ → List ℕ
name_of s e = where_fine (first_of (verdict_of s) (is_entry e)) (name_from s (place_of s e))
