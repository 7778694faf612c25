-- Examples of an index.bdmv, read and written (document 01, module 6). Assumes nothing.
use Rattle.std.specs.Prelude.{◌≡◌, refl, List, [], ◌∷◌, ◌++◌, ℕ, ◌*◌, set, take, drop, replicate, Err, None, Ok, Some}
use Rattle.laws.specs.Firsts.{all, blocks}
use Rattle.common.specs.Rules.{be2, be4, bytes2, bytes4, header_of, room_verdict}
use Rattle.error.specs.declared.Refusal.TheVariants.{BadBody, BadEntry, NotEncodable, NotAnEntry}
use Rattle.utf8.specs.Rules.{lead4, lead3, lead_of, step_of, scan_of, is_utf8}
use Rattle.index_bdmv.specs.declared.AppInfoBdmv.{AppInfoBdmv}
use Rattle.index_bdmv.specs.declared.IndexObjectType.TheVariants.{Hdmv, BdJ}
use Rattle.index_bdmv.specs.Rules.{app_info_verdict, app_info_of, entry_verdict, entries_verdict, start_of, stated_verdict, titles_verdict, indexes_verdict, verdict_of, title_count, place_of, resolve_of, object_at, index_of, parse_of, entry_from, entry_of, resolve_movie_object, name_from, name_of}
use Rattle.index_bdmv_write.specs.Rules.{Entries, entries, name_given, titles_of, tail_bytes, entry_bytes, entry_of_record, head_bytes, special_bytes, size_of, file_of, kind_fits, lengths_fit, encodable, write_verdict, entry_read}

-- what the examples compute with
opened : Unit {0}
unfolding all blocks be2 be4 bytes2 bytes4 header_of room_verdict lead4 lead3 lead_of step_of scan_of is_utf8 app_info_verdict app_info_of entry_verdict entries_verdict start_of stated_verdict titles_verdict indexes_verdict verdict_of title_count place_of resolve_of object_at index_of parse_of entry_of resolve_movie_object name_of name_given titles_of tail_bytes entry_bytes entry_of_record head_bytes special_bytes size_of file_of kind_fits lengths_fit encodable write_verdict entry_read
opened = tt

-- an entry of each type: a playback type, and an object or the name 00000
abbrev hdmv : ℕ → ℕ → List ℕ
hdmv playback object = 64 ∷ 0 ∷ (playback * 64) ∷ 0 ∷ 0 ∷ object ∷ replicate 6 0

abbrev bdj : ℕ → List ℕ
bdj playback = (128 ∷ 0 ∷ (playback * 64) ∷ 0 ∷ replicate 5 48) ++ replicate 3 0

-- an index of one title: first playback is object 0, top menu the name 00000, and title 1 object 3
abbrev index : List ℕ
index =
    bytes4 0x494E4458 ++ bytes4 0x30323030 ++ bytes4 78 ++ replicate 28 0
    ++ bytes4 34 ++ (4 ∷ 0x61 ∷ replicate 32 0)
    ++ bytes4 38 ++ hdmv 0 0 ++ bdj 1 ++ bytes2 1 ++ hdmv 2 3

-- the record of it
abbrev app : AppInfoBdmv
app = record { initial_output_mode_preference = 0; content_exist_flag = 1; video_format = 6; frame_rate = 1 }

abbrev given : Entries
given = entries (1 ∷ 2 ∷ 1 ∷ []) (0 ∷ 1 ∷ 2 ∷ []) (0 ∷ 0 ∷ 3 ∷ []) (replicate 15 48)

pub whole_file : verdict_of index ≡ Ok tt
unfolding opened
whole_file = refl

-- Entries may run past the stated end of the Indexes.
pub past_the_stated_end : verdict_of (set index 81 0) ≡ Ok tt
unfolding opened
past_the_stated_end = refl

-- The stated end of the AppInfo must lie within the file.
pub app_info_past_the_end : verdict_of (set index 43 77) ≡ Err BadBody
unfolding opened
app_info_past_the_end = refl

-- Bad entry: object type 0 or 3.
pub object_type_3 : verdict_of (set index 82 192) ≡ Err BadEntry
unfolding opened
object_type_3 = refl

-- AppInfo: bits 3 and 2 of its first byte, then two halves of the second; and how many titles there are.
pub parsed_file : parse_of index
    ≡ (Ok (record { version = 0x30323030; app_info = app; first_playback_title = Hdmv 0 0; menu_title = BdJ 1; titles = 1 }))
unfolding opened
parsed_file = refl

-- An HDMV entry: playback type and object.
pub title_1 : entry_of index 1 ≡ Ok (Some (Hdmv 2 3))
unfolding opened
title_1 = refl

-- Title 0 never resolves.
pub title_0 : resolve_movie_object index 0 ≡ Ok None
unfolding opened
title_0 = refl

-- Not an entry: over 65,537.
pub entry_65538 : resolve_movie_object index 65538 ≡ Err NotAnEntry
unfolding opened
entry_65538 = refl

-- Five name bytes are kept.
pub name_of_the_top_menu : name_of index 65537 ≡ replicate 5 48
unfolding opened
name_of_the_top_menu = refl

-- Of an accepted file: title 1 leads to its object, and a BD-J entry to none.
pub leads : resolve_of index 1 ∷ resolve_of index 65537 ∷ [] ≡ Some 3 ∷ None ∷ []
unfolding opened
leads = refl

-- The top menu is a BD-J entry, and there is no title 2.
pub entries_by_number : entry_from index (place_of index 65537) ∷ entry_from index (place_of index 2) ∷ [] ≡ Some (BdJ 1) ∷ None ∷ []
unfolding opened
entries_by_number = refl

-- An HDMV entry has no name.
pub names_by_number : name_from index (place_of index 65537) ∷ name_from index (place_of index 1) ∷ [] ≡ replicate 5 48 ∷ [] ∷ []
unfolding opened
names_by_number = refl

-- Writing gives those bytes.
pub written_file : file_of 0x30323030 app given ≡ index
unfolding opened
written_file = refl

-- The playback type of title 1, in the top two bits of byte 2.
pub playback_of_title_1 : take 4 (drop 108 (file_of 0x30323030 app given)) ≡ 64 ∷ 0 ∷ 128 ∷ 0 ∷ []
unfolding opened
playback_of_title_1 = refl

-- A BD-J name isn't UTF-8.
pub bad_name : write_verdict app (entries (1 ∷ 2 ∷ []) (0 ∷ 0 ∷ []) (0 ∷ 0 ∷ []) (replicate 10 0xFF)) 108 ≡ Err NotEncodable
unfolding opened
bad_name = refl

-- what the writer makes of that record, and the record as it is read: a name that its type doesn't use is lost
abbrev made : List ℕ
made = file_of 0x30323030 app given

abbrev reread : Entries
reread = entries (1 ∷ 2 ∷ 1 ∷ []) (0 ∷ 1 ∷ 2 ∷ []) (0 ∷ 0 ∷ 3 ∷ []) (replicate 5 0 ++ name_of index 65537 ++ replicate 5 0)

-- Writing then reading gives the record back.
pub title_read_back : entry_of made 1 ≡ Ok (Some (entry_read given 2))
unfolding opened
title_read_back = refl

pub name_read_back : name_of made 65537 ≡ name_given given.names 1
unfolding opened
name_read_back = refl

-- Reading then writing gives the bytes back, for a file that the writer could have made.
pub accepted_back : write_verdict app reread 120 ≡ Ok tt
unfolding opened
accepted_back = refl

pub bytes_back : file_of 0x30323030 app reread ≡ index
unfolding opened
bytes_back = refl
