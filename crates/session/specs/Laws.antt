-- The live frames from the last one down, and what accepted rooms tell. Assumes nothing.
use Rattle.std.specs.Prelude.{◌≡◌, refl, Bool, true, not, ◌||◌, ◌&&◌, List, leb, ltb, length, Ok}
use Rattle.std.proofs.Common.{sym, ap, ◌∙◌, arith, add-zero, add-one, add_assoc, add_comm, zero-add, le-leb}
use Rattle.std.proofs.Math.Bool.{false, cond, and_assoc, and_comm}
use Prim.Native.Nat.{ℕ, zero, suc, ◌+◌, ◌-◌, ◌≤◌, ◌<◌}
use Rattle.std.proofs.Math.Numerals.{sub-one}
use Rattle.std.proofs.lemmas.Bool.{lt-leb}
use Rattle.std.proofs.lemmas.Bool.Decides.{nat_tests}
use Rattle.error.specs.Laws.{not_refused}
use Rattle.error.specs.Rules.{refused_if}
use Rattle.error.specs.declared.Refusal.{Refusal}
use Rattle.error.specs.declared.Refusal.TheVariants.{BadBuffer}
use Rattle.session.specs.declared.ObjectFrame.{ObjectFrame}
use Rattle.session.specs.declared.TitleFrame.{TitleFrame}
use Rattle.session.specs.Rules.{object_frame, title_frame, bad_banks, bad_rooms, buffers_verdict, objects_live, titles_live}
use Rattle.std.specs.List.{list_all, range_with_len}

module _ (f : List ℕ) (n d : ℕ) (some : 0 < d) where
  pub objects_step : objects_live f n d ≡ cond (leb n (object_frame f (d - 1)).object) false (objects_live f n (d - 1))
  unfolding objects_live
  objects_step = go d some
    where
      go : (d : ℕ) → 0 < d → objects_live f n d ≡ cond (leb n (object_frame f (d - 1)).object) false (objects_live f n (d - 1))
      go zero h = absurd (omega arith)
      go (suc d) h = rw sub-one

  pub object_off : {x : ObjectFrame} → x ≡ object_frame f (d - 1) → n ≤ x.object → false ≡ objects_live f n d
  object_off {x} e h = sym (objects_step ∙ ap (λ (y : ObjectFrame). cond (leb n y.object) false (objects_live f n (d - 1))) (sym e) ∙ rw (le-leb n x.object h))

  pub object_on : {x : ObjectFrame} → x ≡ object_frame f (d - 1) → x.object < n → objects_live f n (d - 1) ≡ objects_live f n d
  object_on {x} e h = sym (objects_step ∙ ap (λ (y : ObjectFrame). cond (leb n y.object) false (objects_live f n (d - 1))) (sym e) ∙ rw (lt-leb n x.object h))

module _ (t : List ℕ) (n d : ℕ) (some : 0 < d) where
  abbrev bad : TitleFrame → Bool
  bad x = ltb 65537 x.entry || leb n x.object

  pub titles_step : titles_live t n d ≡ cond (bad (title_frame t (d - 1))) false (titles_live t n (d - 1))
  unfolding titles_live
  titles_step = go d some
    where
      go : (d : ℕ) → 0 < d → titles_live t n d ≡ cond (bad (title_frame t (d - 1))) false (titles_live t n (d - 1))
      go zero h = absurd (omega arith)
      go (suc d) h = rw sub-one

  pub title_off : {x : TitleFrame} → x ≡ title_frame t (d - 1) → bad x ≡ true → false ≡ titles_live t n d
  title_off e h = sym (titles_step ∙ ap (λ (y : TitleFrame). cond (bad y) false (titles_live t n (d - 1))) (sym e) ∙ rw h)

  pub title_on : {x : TitleFrame} → x ≡ title_frame t (d - 1) → bad x ≡ false → titles_live t n (d - 1) ≡ titles_live t n d
  title_on e h = sym (titles_step ∙ ap (λ (y : TitleFrame). cond (bad y) false (titles_live t n (d - 1))) (sym e) ∙ rw h)

refused_fine : (b : Bool) (r : Refusal) → refused_if b r ≡ Ok tt → b ≡ false
refused_fine = not_refused

neither : (a b : Bool) → a || b ≡ false → (a ≡ false) × (b ≡ false)
neither false b h = (refl, h)
neither true b h = let z : ◌≡◌ {A = ℕ} 0 1 = cc in absurd (omega arith)

not_false : (b : Bool) → not b ≡ false → b ≡ true
not_false true h = refl
not_false false h = let z : ◌≡◌ {A = ℕ} 0 1 = cc in absurd (omega arith)

-- a test of each number below d, made from the first one up or from the last one down
module _ (test : ℕ → Bool) where
  last : (a d : ℕ) → list_all test (range_with_len a (suc d)) ≡ list_all test (range_with_len a d) && test (a + d)
  last a zero = rw add-zero (and_comm (test a) true)
  last a (suc d) = rw (last (a + 1) d, add_assoc a 1 d, add_comm 1 d, add-one d) (sym (and_assoc (test a) (list_all test (range_with_len (a + 1) d)) _))

  pub from_last : (live : ℕ → Bool) → live 0 ≡ true → ((d : ℕ) → live (suc d) ≡ cond (not (test d)) false (live d)) → (d : ℕ) → list_all test (range_with_len 0 d) ≡ live d
  from_last live none more zero = sym none
  from_last live none more (suc d) = rw (last 0 d, zero-add, from_last live none more d, more d) (grind (arith, nat_tests))

pub objects_all : (f : List ℕ) (n d : ℕ) → list_all (λ k. ltb (object_frame f k).object n) (range_with_len 0 d) ≡ objects_live f n d
unfolding objects_live
objects_all f n d = from_last (λ k. ltb (object_frame f k).object n) (objects_live f n) refl (λ d. grind (arith, nat_tests)) d

pub titles_all : (t : List ℕ) (n d : ℕ) → list_all (λ k. leb (title_frame t k).entry 65537 && ltb (title_frame t k).object n) (range_with_len 0 d) ≡ titles_live t n d
unfolding titles_live
titles_all t n d = from_last (λ k. leb (title_frame t k).entry 65537 && ltb (title_frame t k).object n) (titles_live t n) refl (λ d. grind (arith, nat_tests)) d

-- accepted rooms hold at most 65,536 frames of each kind
pub buffers_room : (g p f t : List ℕ) → buffers_verdict g p f t ≡ Ok tt → (length f ≤ 131073) × (length t ≤ 196610)
unfolding buffers_verdict
buffers_room g p f t h = let e = not_refused (bad_banks g p || bad_rooms f t) BadBuffer h in (grind (arith, nat_tests), grind (arith, nat_tests))

-- accepted banks are 4,096 and 128 numbers
pub buffers_banks : (g p f t : List ℕ) → buffers_verdict g p f t ≡ Ok tt → (length g ≡ 4096) × (length p ≡ 128)
unfolding buffers_verdict
buffers_banks g p f t h = let e = not_refused (bad_banks g p || bad_rooms f t) BadBuffer h in (grind (arith, nat_tests), grind (arith, nat_tests))
