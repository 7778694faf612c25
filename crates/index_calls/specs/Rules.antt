-- What the calls for C of an index.bdmv hand back and leave. A refusal hands back its number and leaves all as it was. Assumes nothing.
use Rattle.std.specs.Prelude.{List, [], ◌∷◌, cond, ℕ, get_or, Err, None, Ok, Option, Result, Some}
use Rattle.error.specs.declared.Refusal.TheVariants.{BadBuffer}
use Rattle.index_bdmv.specs.Rules.{parse_of, entry_of, name_of, resolve_movie_object}
use Rattle.index_bdmv.specs.declared.AppInfoBdmv.{AppInfoBdmv}
use Rattle.index_bdmv.specs.declared.IndexObjectType.{IndexObjectType}
use Rattle.index_bdmv.specs.declared.IndexObjectType.TheVariants.{Hdmv, BdJ}
use Rattle.index_bdmv_write.specs.Rules.{Entries, write_of}
use Rattle.lent.specs.Rules.{sized, Handed, handed, refused, into, Measured, unmeasured, file}
use Rattle.error.specs.declared.Refusal.{Refusal}
use Rattle.index_bdmv.specs.declared.IndexBdmv.{IndexBdmv}

abbrev pub index_numbers : ℕ → AppInfoBdmv → ℕ → List ℕ
index_numbers version a titles =
    version
    ∷ a.initial_output_mode_preference
    ∷ a.content_exist_flag
    ∷ a.video_format
    ∷ a.frame_rate
    ∷ titles
    ∷ []

abbrev pub index_by : Result IndexBdmv Refusal → List ℕ → Handed
index_by (Ok i) l = handed 0 (index_numbers i.version i.app_info i.titles)
index_by (Err r) l = refused r l

unfoldable pub index_call : List ℕ → List ℕ → Handed
index_call x l = into 6 l (index_by (parse_of x) l)

-- type, playback type, object and the five bytes of a name; what an entry hasn't is 0
abbrev pub entry_numbers : ℕ → ℕ → ℕ → List ℕ → List ℕ
entry_numbers kind playback o name =
    kind
    ∷ playback
    ∷ o
    ∷ get_or name 0 0
    ∷ get_or name 1 0
    ∷ get_or name 2 0
    ∷ get_or name 3 0
    ∷ get_or name 4 0
    ∷ []

abbrev pub type_numbers : IndexObjectType → List ℕ → List ℕ
type_numbers (Hdmv playback o) name = entry_numbers 1 playback o name
type_numbers (BdJ playback) name = entry_numbers 2 playback 0 name

abbrev pub entry_by : Result (Option IndexObjectType) Refusal → List ℕ → List ℕ → Handed
entry_by (Ok (Some o)) name l = handed 0 (type_numbers o name)
entry_by (Ok None) name l = handed 0 (entry_numbers 0 0 0 name)
entry_by (Err r) name l = refused r l

unfoldable pub entry_call : List ℕ → ℕ → List ℕ → Handed
entry_call x e l = into 8 l (entry_by (entry_of x e) (name_of x e) l)

abbrev pub lead_numbers : Option ℕ → List ℕ
lead_numbers (Some o) = 1 ∷ o ∷ []
lead_numbers None = 0 ∷ 0 ∷ []

abbrev pub resolved_by : Result (Option ℕ) Refusal → List ℕ → Handed
resolved_by (Ok to) l = handed 0 (lead_numbers to)
resolved_by (Err r) l = refused r l

unfoldable pub resolve_call : List ℕ → ℕ → List ℕ → Handed
resolve_call x e l = into 2 l (resolved_by (resolve_movie_object x e) l)

abbrev pub app_of : List ℕ → AppInfoBdmv
app_of a =
    record {
      initial_output_mode_preference = get_or a 0 0;
      content_exist_flag = get_or a 1 0;
      video_format = get_or a 2 0;
      frame_rate = get_or a 3 0;
    }

unfoldable pub write_index_call : ℕ → List ℕ → Entries → List ℕ → ℕ → Measured
write_index_call version app r out k =
    cond (sized 4 app) (file (write_of version (app_of app) r out) k) (unmeasured BadBuffer out k)
