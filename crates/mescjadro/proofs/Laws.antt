-- What the calls need beside the promises of what they call. Assumes nothing.
use Rattle.std.proofs.Common.{◌≡◌, refl, ap, ◌∙◌, arith, eq-eqb}
use Rattle.std.proofs.Math.Bool.{Bool, true, false, cond}
use Rattle.std.proofs.Math.Dec.{ltb}
use Rattle.std.proofs.Math.Seq.{take_all}
use borrow.Author.Tests.{ltb-true}
use Rattle.std.specs.Prelude.{List, ℕ, ◌≤◌, ◌<◌, length, replicate, Ok, Err}
use Rattle.error.specs.declared.Refusal.TheVariants.{NotAnEntry}
use Rattle.error.specs.Rules.{Verdict, first_of, given}
use Rattle.common.specs.Rules.{be4}
use Rattle.movie_object.specs.declared.MovieObject.{MovieObject}
use Rattle.movie_object.specs.Rules.{place, count_of, verdict_of, head_of, object_of}
use Rattle.movie_object.specs.Laws.{good, object_in}
use Rattle.nav_command.specs.Rules.{command_of}
use Rattle.nav_list.specs.Rules.{line_of, line_at}
use Rattle.vm.specs.Rules.{banks, fetched}
use Rattle.player_calls.specs.Rules.{banked, fresh_banks}

-- decoding looks at the first twelve bytes alone
same_command : (cs : List ℕ) → command_of (fetched cs 0) ≡ command_of cs
unfolding command_of be4
same_command cs = refl

pub decodes : (cs bytes : List ℕ) → bytes ≡ fetched cs 0 → command_of bytes ≡ command_of cs
decodes cs bytes e = ap command_of e ∙ same_command cs

-- the line at the start of twelve bytes is theirs
pub line_whole : (command : List ℕ) → length command ≡ 12 → line_at command 0 ≡ line_of (command_of command)
unfolding line_at
line_whole command long = ap (λ (b : List ℕ). line_of (command_of b)) (take_all 12 command (omega arith))

found_by : (v : Verdict) (b : Bool) (o h : MovieObject) → given (first_of v (cond b (Ok tt) (Err NotAnEntry))) o ≡ Ok h → (v ≡ Ok tt) × (b ≡ true)
found_by (Ok u) true o h e = (refl, refl)
found_by (Ok u) false o h e = let z : ◌≡◌ {A = ℕ} 0 1 = cc in absurd (omega arith)
found_by (Err r) b o h e = let z : ◌≡◌ {A = ℕ} 0 1 = cc in absurd (omega arith)

-- an object that is found is one of an accepted file, and stands within it
pub found_tells : (s : List ℕ) (n : ℕ) (h : MovieObject) → object_of s n ≡ Ok h → (verdict_of s ≡ Ok tt) × (n < count_of s) × (place s n ≤ 16777216)
unfolding object_of
found_tells s n h e =
    let t = found_by (verdict_of s) (ltb n (count_of s)) (head_of s n) h e in
    let on = ltb-true n (count_of s) t.1 in
    (t.0, on, omega (arith, object_in s n t.0 on, (good s t.0).head.short))

-- banks of their lengths, cleared
pub fresh_made : (g p g' p' : List ℕ) → length g ≡ 4096 → length p ≡ 128 → g' ≡ replicate (length g) 0 → p' ≡ replicate (length p) 0 → banked 0 (banks g' p') ≡ fresh_banks g p
unfolding fresh_banks
fresh_made g p g' p' eg ep cg cp =
    rw (eq-eqb (length g) 4096 eg, eq-eqb (length p) 128 ep)
    (ap (λ (l : List ℕ). banked 0 (banks l p')) (cg ∙ ap (λ (k : ℕ). replicate k 0) eg)
    ∙ ap (λ (l : List ℕ). banked 0 (banks (replicate 4096 0) l)) (cp ∙ ap (λ (k : ℕ). replicate k 0) ep))
