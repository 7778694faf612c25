-- Laws of the verdict, and where the entries of an accepted file stand. Assumes nothing.
use Rattle.std.specs.Prelude.{◌≡◌, Bool, true, false, cond, List, ℕ, zero, suc, ◌+◌, ◌*◌, ◌-◌, ◌/◌, ◌≤◌, ◌<◌, leb, ltb, eqb, get_or, Err, None, Ok, Result, Some}
use Rattle.std.proofs.Math.Path.{refl}
use Rattle.std.proofs.Common.{sym, ◌∙◌, ap, add-zero, add-suc, add-sub_of_le, add-one}
use native.Mathlib.Omega.{arith}
use Rattle.std.proofs.Math.ListN.{length}
use borrow.Author.Tests.{le-leb, lt-leb, lt-ltb, le-ltb, leb-true, leb-false, eq-eqb, ne_eqb, eqb-true, eqb-false, ltb-false}
use Rattle.common.specs.declared.Reader.{Reader}
use Rattle.common.specs.Rules.{be2, be4, header_of}
use Rattle.common.specs.Laws.{Took, Headed, headed}
use Rattle.error.specs.Rules.{first_of, Verdict, fine}
use Rattle.error.specs.Laws.{both_fine}
use Rattle.error.specs.declared.Refusal.{Refusal}
use Rattle.error.specs.declared.Refusal.TheVariants.{BadBody, BadEntry}
use Rattle.utf8.specs.Rules.{is_utf8}
use Rattle.index_bdmv.specs.Rules.{indx, app_info_verdict, name_at, entry_verdict, entries_verdict, start_of, stated_verdict, titles_verdict, indexes_verdict, verdict_of, title_count, place_of}

-- ---- tests in their order

-- a test that passes before one that refuses
yes_fine : (t : Bool) (a b : Verdict) (r : Refusal) → b ≡ Err r → cond t a b ≡ Ok tt → (t ≡ true) × (a ≡ Ok tt)
yes_fine true a b r n e = (refl, e)
yes_fine false a b r n e = let z : ◌≡◌ {A = ℕ} 0 1 = cc in absurd (omega arith)

-- a test that refuses before one that passes
no_fine : (t : Bool) (a b : Verdict) (r : Refusal) → a ≡ Err r → cond t a b ≡ Ok tt → (t ≡ false) × (b ≡ Ok tt)
no_fine true a b r n e = let z : ◌≡◌ {A = ℕ} 0 1 = cc in absurd (omega arith)
no_fine false a b r n e = (refl, e)

-- ---- entries

entry_in : (s : List ℕ) (at : ℕ) → entry_verdict s at ≡ Ok tt → at + 12 ≤ length s
unfolding entry_verdict
entry_in s at e = leb-true _ _ (yes_fine (leb (at + 12) (length s)) _ (Err BadBody) BadBody refl e).0

-- how each answer on the twelve bytes at a place is found, from the byte that was read there
module _ (s : List ℕ) (at : ℕ) where
  pub entry_past : length s < at + 12 → entry_verdict s at ≡ Err BadBody
  unfolding entry_verdict
  entry_past h = simp (lt-leb _ _ h)

  module _ {b : ℕ} (inside : at + 12 ≤ length s) (read : b ≡ get_or s at 0) where
    pub entry_hdmv : b / 64 ≡ 1 → entry_verdict s at ≡ Ok tt
    unfolding entry_verdict
    entry_hdmv k = simp (le-leb _ _ inside, eq-eqb _ _ (rw read at k))

    pub entry_bdj : (b / 64 ≡ 1 → ⊥) → b / 64 ≡ 2 → (t : Bool) → is_utf8 (name_at s at) ≡ t → entry_verdict s at ≡ cond t (Ok tt) (Err BadEntry)
    unfolding entry_verdict
    entry_bdj n k t u = simp (le-leb _ _ inside, ne_eqb _ _ (rw read at n), eq-eqb _ _ (rw read at k), u)

    pub entry_bad : (b / 64 ≡ 1 → ⊥) → (b / 64 ≡ 2 → ⊥) → entry_verdict s at ≡ Err BadEntry
    unfolding entry_verdict
    entry_bad n m = simp (le-leb _ _ inside, ne_eqb _ _ (rw read at n), ne_eqb _ _ (rw read at m))

pub entries_none : (s : List ℕ) (at : ℕ) → entries_verdict s at 0 ≡ Ok tt
unfolding entries_verdict
entries_none s at = refl

-- one entry more
pub entries_more : (s : List ℕ) (at n : ℕ) → entries_verdict s at n ≡ Ok tt → entries_verdict s at (n + 1) ≡ entry_verdict s (at + 12 * n)
unfolding entries_verdict
entries_more s at n e = rw (add-one n) (rw e)

-- a refusal stays the first
stays : (s : List ℕ) (at n m : ℕ) (r : Refusal) → entries_verdict s at n ≡ Err r → entries_verdict s at (n + m) ≡ Err r
unfolding entries_verdict
stays s at n zero r e = rw (add-zero n) e
stays s at n (suc m) r e = rw (add-suc n m) (rw (stays s at n m r e))

pub entries_refused : (s : List ℕ) (at k n : ℕ) (r : Refusal) → k < n → entries_verdict s at k ≡ Ok tt → entry_verdict s (at + 12 * k) ≡ Err r → entries_verdict s at n ≡ Err r
entries_refused s at k n r h f e =
    ap (entries_verdict s at) (sym (add-sub_of_le (omega arith))) ∙ stays s at (k + 1) (n - (k + 1)) r (entries_more s at k f ∙ e)

-- where all are fine, each is
pub entries_fine : (s : List ℕ) (at n k : ℕ) → entries_verdict s at n ≡ Ok tt → k < n → entry_verdict s (at + 12 * k) ≡ Ok tt
unfolding entries_verdict
entries_fine s at zero k e h = absurd (omega arith)
entries_fine s at (suc n) k e h =
    let t = both_fine (entries_verdict s at n) (entry_verdict s (at + 12 * n)) e in
    go t.1 (entries_fine s at n k t.0) (eqb k n) refl
  where
    go : entry_verdict s (at + 12 * n) ≡ Ok tt → (k < n → entry_verdict s (at + 12 * k) ≡ Ok tt) → (b : Bool) → eqb k n ≡ b → entry_verdict s (at + 12 * k) ≡ Ok tt
    go here earlier true q = ap (λ (i : ℕ). entry_verdict s (at + 12 * i)) (eqb-true k n q) ∙ here
    go here earlier false q = earlier (let d = eqb-false k n q in omega (arith, d))

-- and where each is fine, all are
pub entries_made : (s : List ℕ) (at n : ℕ) → ((k : ℕ) → k < n → entry_verdict s (at + 12 * k) ≡ Ok tt) → entries_verdict s at n ≡ Ok tt
unfolding entries_verdict
entries_made s at zero h = refl
entries_made s at (suc n) h = rw (entries_made s at n (λ k p. h k (omega arith)), h n (omega arith))

-- ---- positions

-- where a reader goes on behind a test, and what each answer tells
unfoldable pub moved_as : Verdict → ℕ → Result ℕ Refusal
moved_as (Ok u) p = Ok p
moved_as (Err r) p = Err r

pub moved_fine : (v : Verdict) (p q : ℕ) → v ≡ fine → q ≡ p → ◌≡◌ {A = Result ℕ Refusal} (Ok q) (moved_as v p)
unfolding moved_as
moved_fine v p q e h = rw (e, h)

pub moved_bad : (v : Verdict) (p : ℕ) (w : Refusal) → v ≡ Err w → ◌≡◌ {A = Result ℕ Refusal} (Err w) (moved_as v p)
unfolding moved_as
moved_bad v p w e = rw e

pub moved_to : (v : Verdict) (p : ℕ) {m : Result ℕ Refusal} {q : ℕ} → m ≡ moved_as v p → m ≡ Ok q → (v ≡ fine) × (q ≡ p)
unfolding moved_as
moved_to (Ok u) p e f = (refl, cc)
moved_to (Err w) p e f = let z : ◌≡◌ {A = ℕ} 0 1 = cc in absurd (omega arith)

pub moved_refused : (v : Verdict) (p : ℕ) {m : Result ℕ Refusal} {w : Refusal} → m ≡ moved_as v p → m ≡ Err w → v ≡ Err w
unfolding moved_as
moved_refused (Ok u) p e f = let z : ◌≡◌ {A = ℕ} 0 1 = cc in absurd (omega arith)
moved_refused (Err u) p e f = cc

-- what opening the Indexes answers: a reader of the same file behind their length, where their stated end is good
abbrev pub Opened : List ℕ → Result Reader Refusal → Type 0
Opened s (Ok r) = (stated_verdict s (start_of s) ≡ fine) × (r.buf.now ≡ s) × (r.pos ≡ start_of s + 4)
Opened s (Err w) = stated_verdict s (start_of s) ≡ Err w

-- ---- the parts before the entries

same : {A : Type 0} (b : Bool) (x : A) → cond b x x ≡ x
same true x = refl
same false x = refl

module _ (s : List ℕ) where
  -- the AppInfo
  pub app_short : length s < 46 → Err BadBody ≡ app_info_verdict s
  unfolding app_info_verdict
  app_short h = simp (lt-ltb _ _ h)

  pub app_few : be4 s 40 < 2 → Err BadBody ≡ app_info_verdict s
  unfolding app_info_verdict
  app_few h = simp (lt-ltb _ _ h) (sym (same {A = Verdict} (ltb (length s) 46) (Err BadBody)))

  pub app_past : length s < 44 + be4 s 40 → Err BadBody ≡ app_info_verdict s
  unfolding app_info_verdict
  app_past h = simp (lt-leb _ _ h, same {A = Verdict} (ltb (be4 s 40) 2) (Err BadBody)) (sym (same {A = Verdict} (ltb (length s) 46) (Err BadBody)))

  pub app_fine : 2 ≤ be4 s 40 → 44 + be4 s 40 ≤ length s → Ok tt ≡ app_info_verdict s
  unfolding app_info_verdict
  app_fine h g = let l : 46 ≤ length s = omega arith in simp (le-ltb _ _ l, le-ltb _ _ h, le-leb _ _ g)

  pub app_in : app_info_verdict s ≡ Ok tt → 46 ≤ length s
  unfolding app_info_verdict
  app_in e = ltb-false _ _ (no_fine (ltb (length s) 46) (Err BadBody) _ BadBody refl e).0

  -- the stated end of the Indexes
  module _ (p : ℕ) where
    pub stated_short : length s < p + 4 → stated_verdict s p ≡ Err BadBody
    unfolding stated_verdict
    stated_short h = simp (lt-leb _ _ h)

    pub stated_past : length s < p + 4 + be4 s p → stated_verdict s p ≡ Err BadBody
    unfolding stated_verdict
    stated_past h = simp (lt-leb _ _ h) (same {A = Verdict} (leb (p + 4) (length s)) (Err BadBody))

    pub stated_fine : p + 4 + be4 s p ≤ length s → stated_verdict s p ≡ Ok tt
    unfolding stated_verdict
    stated_fine h = let l : p + 4 ≤ length s = omega arith in simp (le-leb _ _ l, le-leb _ _ h)

    -- there is no other refusal
    pub stated_bad : {w : Refusal} → stated_verdict s p ≡ Err w → stated_verdict s p ≡ Err BadBody
    stated_bad {w} e = go (leb (p + 4 + be4 s p) (length s)) refl
      where
        go : (b : Bool) → leb (p + 4 + be4 s p) (length s) ≡ b → stated_verdict s p ≡ Err BadBody
        go true q = let f = stated_fine (leb-true _ _ q) in let z : ◌≡◌ {A = ℕ} 0 1 = cc in absurd (omega arith)
        go false q = stated_past (leb-false _ _ q)

-- the number of titles, and the titles, from where the number stands
unfoldable pub titles_from : List ℕ → ℕ → Verdict
titles_from s p = cond (leb (p + 2) (length s)) (entries_verdict s (p + 2) (be2 s p)) (Err BadBody)

module _ (s : List ℕ) (p : ℕ) where
  pub titles_past : length s < p + 2 → Err BadBody ≡ titles_from s p
  unfolding titles_from
  titles_past h = simp (lt-leb _ _ h)

  pub titles_read : {n q : ℕ} → Took s (p + 2) (be2 s p) n q → entries_verdict s q n ≡ titles_from s p
  unfolding titles_from
  titles_read t = rw (t.is, t.here) (simp (le-leb _ _ t.inside))

  -- the number stands behind two entries
  pub titles_from_is : {q : ℕ} → q ≡ p + 4 + 12 * 2 → titles_from s q ≡ titles_verdict s p
  unfolding titles_from titles_verdict
  titles_from_is {q} e = let f : q ≡ p + 28 = omega arith in let g : p + 28 + 2 ≡ p + 30 = omega arith in rw (f, g)

-- ---- the whole file

-- what an accepted file has
pub record Good (s : List ℕ) : Type 0 where
  pub head : Headed indx s
  pub app : app_info_verdict s ≡ Ok tt
  pub special : entries_verdict s (start_of s + 4) 2 ≡ Ok tt
  pub number : start_of s + 30 ≤ length s
  pub titles : entries_verdict s (start_of s + 30) (title_count s) ≡ Ok tt

pub good : (s : List ℕ) → verdict_of s ≡ Ok tt → Good s
unfolding verdict_of indexes_verdict titles_verdict title_count
good s v =
    let h = both_fine (header_of indx s) (first_of (app_info_verdict s) (indexes_verdict s (start_of s))) v in
    let a = both_fine (app_info_verdict s) (indexes_verdict s (start_of s)) h.1 in
    let i = both_fine (stated_verdict s (start_of s)) (first_of (entries_verdict s (start_of s + 4) 2) (titles_verdict s (start_of s))) a.1 in
    let t = both_fine (entries_verdict s (start_of s + 4) 2) (titles_verdict s (start_of s)) i.1 in
    let n = yes_fine (leb (start_of s + 30) (length s)) (entries_verdict s (start_of s + 30) (be2 s (start_of s + 28))) (Err BadBody) BadBody refl t.1 in
    record { head = headed indx s h.0; app = a.0; special = t.0; number = leb-true _ _ n.0; titles = n.1 }

-- how long an accepted file is at least
pub long : (s : List ℕ) → verdict_of s ≡ Ok tt → 46 ≤ length s
long s v = app_in s (good s v).app

pub number_in : (s : List ℕ) → verdict_of s ≡ Ok tt → start_of s + 30 ≤ length s
number_in s v = (good s v).number

-- ---- where an entry stands

module _ (s : List ℕ) (e : ℕ) where
  pub place_first : e ≡ 65536 → place_of s e ≡ Some (start_of s + 4)
  unfolding place_of
  place_first p = simp (eq-eqb e 65536 p)

  pub place_menu : (e ≡ 65536 → ⊥) → e ≡ 65537 → place_of s e ≡ Some (start_of s + 16)
  unfolding place_of
  place_menu n p = simp (ne_eqb e 65536 n, eq-eqb e 65537 p)

  pub place_zero : e ≡ 0 → place_of s e ≡ None
  unfolding place_of
  place_zero p = simp (ne_eqb e 65536 (λ q. omega arith), ne_eqb e 65537 (λ q. omega arith), eq-eqb e 0 p)

  pub place_title : (e ≡ 65536 → ⊥) → (e ≡ 65537 → ⊥) → (e ≡ 0 → ⊥) → e ≤ title_count s → place_of s e ≡ Some (start_of s + 18 + 12 * e)
  unfolding place_of
  place_title n m z h = simp (ne_eqb e 65536 n, ne_eqb e 65537 m, ne_eqb e 0 z, le-leb e (title_count s) h)

  pub place_past : (e ≡ 65536 → ⊥) → (e ≡ 65537 → ⊥) → (e ≡ 0 → ⊥) → title_count s < e → place_of s e ≡ None
  unfolding place_of
  place_past n m z h = simp (ne_eqb e 65536 n, ne_eqb e 65537 m, ne_eqb e 0 z, lt-leb e (title_count s) h)

  -- every entry of an accepted file lies within it
  pub place_in : verdict_of s ≡ Ok tt → (at : ℕ) → place_of s e ≡ Some at → at + 12 ≤ length s
  place_in v at p = go (eqb e 65536) refl (eqb e 65537) refl (eqb e 0) refl (leb e (title_count s)) refl
    where
      g : Good s
      g = good s v

      told : (n : ℕ) → place_of s e ≡ Some n → at ≡ n
      told n q = cc

      never : place_of s e ≡ None → at + 12 ≤ length s
      never q = let z : ◌≡◌ {A = ℕ} 0 1 = cc in absurd (omega arith)

      go : (a : Bool) → eqb e 65536 ≡ a → (b : Bool) → eqb e 65537 ≡ b → (z : Bool) → eqb e 0 ≡ z → (t : Bool) → leb e (title_count s) ≡ t → at + 12 ≤ length s
      go true qa b qb z qz t qt =
          omega (arith, told _ (place_first (eqb-true _ _ qa)), entry_in s (start_of s + 4 + 12 * 0) (entries_fine s (start_of s + 4) 2 0 g.special (omega arith)))
      go false qa true qb z qz t qt =
          omega (arith, told _ (place_menu (eqb-false _ _ qa) (eqb-true _ _ qb)), entry_in s (start_of s + 4 + 12 * 1) (entries_fine s (start_of s + 4) 2 1 g.special (omega arith)))
      go false qa false qb true qz t qt = never (place_zero (eqb-true _ _ qz))
      go false qa false qb false qz false qt = never (place_past (eqb-false _ _ qa) (eqb-false _ _ qb) (eqb-false _ _ qz) (leb-false _ _ qt))
      go false qa false qb false qz true qt =
          let n : e ≡ 0 → ⊥ = eqb-false _ _ qz in
          let h = leb-true e (title_count s) qt in
          omega (
            arith,
            told _ (place_title (eqb-false _ _ qa) (eqb-false _ _ qb) n h),
            n,
            entry_in s (start_of s + 30 + 12 * (e - 1)) (entries_fine s (start_of s + 30) (title_count s) (e - 1) g.titles (omega (arith, n))),
          )
