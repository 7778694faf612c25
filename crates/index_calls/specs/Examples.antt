-- Examples of what the calls for an index.bdmv hand out (include/mescjadro.h). Assumes nothing.
use Rattle.std.specs.Prelude.{◌≡◌, refl, List, [], ◌∷◌, ◌++◌, ℕ, set, replicate}
use Rattle.laws.specs.Firsts.{all, blocks}
use Rattle.laws.specs.Over.{over}
use Rattle.common.specs.Rules.{be2, be4, bytes2, bytes4, header_of, room_verdict}
use Rattle.text.specs.Rules.{bytes}
use Rattle.utf8.specs.Rules.{lead4, lead3, lead_of, step_of, scan_of, is_utf8}
use Rattle.index_bdmv.specs.Rules.{app_info_verdict, app_info_of, entry_verdict, entries_verdict, start_of, stated_verdict, titles_verdict, indexes_verdict, verdict_of, title_count, place_of, resolve_of, object_at, index_of, parse_of, entry_of, resolve_movie_object, name_of}
use Rattle.index_bdmv_write.specs.Rules.{Entries, entries, name_given, titles_of, tail_bytes, entry_bytes, entry_of_record, head_bytes, special_bytes, size_of, file_of, kind_fits, lengths_fit, encodable, write_verdict, write_of}
use Rattle.lent.specs.Rules.{handed, size, measured}
use Rattle.index_calls.specs.Rules.{app_of, index_call, entry_call, resolve_call, write_index_call}

-- what the examples compute with
opened : Unit {0}
unfolding all blocks over be2 be4 bytes2 bytes4 header_of room_verdict lead4 lead3 lead_of step_of scan_of is_utf8 app_info_verdict app_info_of entry_verdict entries_verdict start_of stated_verdict titles_verdict indexes_verdict verdict_of title_count place_of resolve_of object_at index_of parse_of entry_of resolve_movie_object name_of name_given titles_of tail_bytes entry_bytes entry_of_record head_bytes special_bytes size_of file_of kind_fits lengths_fit encodable write_verdict write_of index_call entry_call resolve_call write_index_call
opened = tt

-- a record: flags 0 and 1, video format 6, frame rate 4; first playback object 0, top menu the name 12345, title 1 object 3
abbrev app : List ℕ
app = 0 ∷ 1 ∷ 6 ∷ 4 ∷ []

abbrev given : Entries
given = entries (1 ∷ 2 ∷ 1 ∷ []) (0 ∷ 1 ∷ 2 ∷ []) (0 ∷ 0 ∷ 3 ∷ []) (replicate 5 0 ++ bytes "12345" ++ replicate 5 0)

-- its file
abbrev file : List ℕ
file = file_of 0x3032_3030 (app_of app) given

-- Version, both flags, video format, frame rate, number of titles.
head : index_call file (replicate 6 9) ≡ handed 0 (0x3032_3030 ∷ 0 ∷ 1 ∷ 6 ∷ 4 ∷ 1 ∷ [])
unfolding opened
head = refl

-- 4 bad entry, first playback of type 0: the array stays as it was.
bad_entry : index_call (set file 82 0) (replicate 6 9) ≡ handed 4 (replicate 6 9)
unfolding opened
bad_entry = refl

-- A BD-J entry: 2, its playback type, no object, and the five bytes of its name.
top_menu : entry_call file 65537 (replicate 8 9) ≡ handed 0 (2 ∷ 1 ∷ 0 ∷ bytes "12345")
unfolding opened
top_menu = refl

-- A title that the disc has not is nothing, and no refusal.
title_2 : entry_call file 2 (replicate 8 9) ≡ handed 0 (replicate 8 0)
unfolding opened
title_2 = refl

-- 1 and the object number, or 0 and 0 where an entry leads nowhere: a BD-J entry doesn't resolve.
title_1_leads : resolve_call file 1 (9 ∷ 9 ∷ []) ≡ handed 0 (1 ∷ 3 ∷ [])
unfolding opened
title_1_leads = refl

top_menu_leads : resolve_call file 65537 (9 ∷ 9 ∷ []) ≡ handed 0 (0 ∷ 0 ∷ [])
unfolding opened
top_menu_leads = refl

-- Written length: 108 plus 12 per title. The rest of the room stays.
written : write_index_call 0x3032_3030 app given (replicate 121 9) 0 ≡ measured (file ++ (9 ∷ [])) (size 0 120)
unfolding opened
written = refl

-- 6 bad buffer, an AppInfo of three bytes and not four: the room and the length stay as they were.
three_bytes : write_index_call 0 (0 ∷ 0 ∷ 0 ∷ []) given (replicate 121 9) 7 ≡ measured (replicate 121 9) (size 6 7)
unfolding opened
three_bytes = refl
