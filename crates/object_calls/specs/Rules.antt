-- What the calls for C of a MovieObject.bdmv hand back and leave. A refusal hands back its number and leaves all as it was. Assumes nothing.
use Rattle.std.specs.Prelude.{List, [], ◌∷◌, ℕ, ◌+◌, Err, Ok, Result}
use Rattle.movie_object.specs.Rules.{place, object_of, parse_of}
use Rattle.movie_object.specs.declared.MovieObject.{MovieObject}
use Rattle.movie_object_list.specs.Rules.{list_object, list_file}
use Rattle.movie_object_write.specs.Rules.{write_of}
use Rattle.lent.specs.Rules.{Handed, handed, refused, into, Measured, file}
use Rattle.command_calls.specs.Rules.{text}
use Rattle.error.specs.declared.Refusal.{Refusal}
use Rattle.movie_object.specs.declared.MovieObjects.{MovieObjects}

abbrev pub objects_by : Result MovieObjects Refusal → List ℕ → Handed
objects_by (Ok m) l = handed 0 (m.version ∷ m.count ∷ [])
objects_by (Err r) l = refused r l

unfoldable pub objects_call : List ℕ → List ℕ → Handed
objects_call file l = into 2 l (objects_by (parse_of file) l)

-- its commands start four bytes after its head
abbrev pub object_numbers : MovieObject → ℕ → List ℕ
object_numbers m at =
    m.resume_intention_flag ∷ m.menu_call_mask ∷ m.title_search_mask ∷ m.commands ∷ (at + 4) ∷ []

abbrev pub object_by : Result MovieObject Refusal → ℕ → List ℕ → Handed
object_by (Ok m) at l = handed 0 (object_numbers m at)
object_by (Err r) at l = refused r l

unfoldable pub object_call : List ℕ → ℕ → List ℕ → Handed
object_call file n l = into 5 l (object_by (object_of file n) (place file n) l)

unfoldable pub list_object_call : List ℕ → ℕ → List ℕ → ℕ → Measured
list_object_call file n out k = text (list_object file n out 0) k

unfoldable pub list_call : List ℕ → List ℕ → ℕ → Measured
list_call file out k = text (list_file file out 0) k

unfoldable pub write_objects_call : ℕ → List ℕ → List ℕ → List ℕ → List ℕ → ℕ → Measured
write_objects_call version flags counts commands out k = file (write_of version flags counts commands out) k
