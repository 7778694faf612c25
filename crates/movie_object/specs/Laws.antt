-- Laws of places, of the verdict, and of an object's commands. Assumes nothing.
use Rattle.std.proofs.Math.Path.{◌≡◌, refl, sym}
use Rattle.std.proofs.Common.{◌∙◌, ap, subst, add-zero, add-suc, add-sub_of_le, add-one, arith, length-drop, length-set, length-take-le, get_or-set_same, get_or-set_other, below_more}
use Rattle.std.specs.Prelude.{Bool, List, [], ℕ, zero, suc, ◌+◌, ◌*◌, ◌-◌, ◌/◌, ◌%◌, ◌≤◌, ◌<◌, ltb, length, get_or, set, drop, Err, Ok, Result, IsErrAnd}
use Rattle.std.proofs.Math.Bool.{true, false, cond}
use Rattle.std.proofs.Math.Dec.{leb}
use borrow.Author.Tests.{le-leb, lt-leb, leb-true, leb-false, lt-ltb, le-ltb, ltb-true, ltb-false}
use Rattle.common.specs.Rules.{be2, be4, seek_of, read_u16, limit, header_of}
use Rattle.common.specs.Laws.{Headed, headed, header_fine}
use Rattle.error.specs.declared.Refusal.{Refusal}
use Rattle.error.specs.declared.Refusal.TheVariants.{BadBody}
use Rattle.error.specs.Rules.{Verdict}
use Rattle.movie_object.specs.Rules.{next, place, count_of, mobj, body_of, verdict_of, part_at, commands_of}
use Rattle.movie_object.specs.Pieces.{Placed, Walked}

-- what the exit of a `?` answers
pub left_with : {T : Type 0} (v : Result T Refusal) {r : Refusal} → IsErrAnd v (λ w. w ≡ r) → v ≡ Err r
left_with (Ok x) h = absurd h
left_with (Err w) h = cc

-- ---- places

pub place_zero : (s : List ℕ) → place s 0 ≡ 78
unfolding place
place_zero s = refl

pub place_suc : (s : List ℕ) (n : ℕ) → place s (n + 1) ≡ place s n + 4 + 12 * be2 s (place s n + 2)
unfolding place next
place_suc s n = rw (add-one n)

-- the next place, from a place that is known by an equation: what a turn of a walk asks
pub place_next : (s : List ℕ) (n p : ℕ) → p ≡ place s n → place s (n + 1) ≡ p + 4 + 12 * be2 s (p + 2)
place_next s n p e = rw e (place_suc s n)

pub place_after : (s : List ℕ) (n p : ℕ) → p ≡ place s n → next s p ≡ place s (n + 1)
unfolding place next
place_after s n p e = rw (add-one n, e)

-- past one object, from its number of commands and the position behind it
pub next_from : (s : List ℕ) (p : ℕ) {b n : ℕ} → n ≡ be2 s (p + 2) → b ≡ p + 2 + 2 → b + 12 * n ≡ next s p
unfolding next
next_from s p en eb = omega (arith, en, eb)

pub next_past : (s : List ℕ) (p q : ℕ) → length s < p + 4 → seek_of s q (next s p) ≡ (Err BadBody, q)
unfolding next
next_past s p q h = let l : length s < p + 4 + 12 * be2 s (p + 2) = omega arith in simp (lt-leb _ _ l)

-- what the answer of a move to a place tells
module _ (s : List ℕ) (p q : ℕ) {m : Verdict} where
  pub moved_to : m ≡ (seek_of s q p).0 → m ≡ Ok tt → p ≤ length s
  moved_to e f = go (leb p (length s)) refl (sym e ∙ f)
    where
      go : (b : Bool) → leb p (length s) ≡ b → ◌≡◌ {A = Verdict} (cond {A = Verdict × ℕ} b (Ok tt, p) (Err BadBody, q)).0 (Ok tt) → p ≤ length s
      go true l h = leb-true _ _ l
      go false l h = let z : ◌≡◌ {A = ℕ} 0 1 = cc in absurd (omega arith)

  pub moved_past : {w : Refusal} → m ≡ (seek_of s q p).0 → m ≡ Err w → (length s < p) × (w ≡ BadBody)
  moved_past {w} e f = go (leb p (length s)) refl (sym e ∙ f)
    where
      go : (b : Bool) → leb p (length s) ≡ b → ◌≡◌ {A = Verdict} (cond {A = Verdict × ℕ} b (Ok tt, p) (Err BadBody, q)).0 (Err w) → (length s < p) × (w ≡ BadBody)
      go true l h = let z : ◌≡◌ {A = ℕ} 0 1 = cc in absurd (omega arith)
      go false l h = (leb-false _ _ l, cc)

-- m objects further on is no earlier
grows : (s : List ℕ) (n m : ℕ) → place s n ≤ place s (n + m)
grows s n zero = rw (add-zero n) (omega arith)
grows s n (suc m) = rw (add-suc n m, ← add-one (n + m)) (omega (arith, grows s n m, place_suc s (n + m)))

place_mono : (s : List ℕ) (n m : ℕ) → n ≤ m → place s n ≤ place s m
place_mono s n m h = rw (add-sub_of_le h) at (grows s n (m - n))

-- each object has a head, so there are fewer of them than bytes
pub place_least : (s : List ℕ) (n : ℕ) → 78 + 4 * n ≤ place s n
place_least s zero = omega (arith, place_zero s)
place_least s (suc n) = omega (arith, place_least s n, rw (add-one n) at (place_suc s n))

pub place_from : (s : List ℕ) (n : ℕ) → 78 ≤ place s n
place_from s n = omega (arith, place_zero s, place_mono s 0 n (omega arith))

-- ---- the verdict: how it is found, and what it tells

-- what an accepted file has
pub record Good (s : List ℕ) : Type 0 where
  pub head : Headed mobj s
  pub stated : 44 + be4 s 40 ≤ length s
  pub last : place s (count_of s) ≤ length s

same : {A : Type 0} (b : Bool) (x : A) → cond b x x ≡ x
same true x = refl
same false x = refl

module _ (s : List ℕ) where
  pub verdict_header : (r : Refusal) → header_of mobj s ≡ Err r → verdict_of s ≡ Err r
  unfolding verdict_of
  verdict_header r e = rw e

  verdict_stated : header_of mobj s ≡ Ok tt → length s < 44 + be4 s 40 → verdict_of s ≡ Err BadBody
  unfolding verdict_of body_of
  verdict_stated h l = simp (h, lt-leb _ _ l)

  verdict_last : header_of mobj s ≡ Ok tt → length s < place s (count_of s) → verdict_of s ≡ Err BadBody
  unfolding verdict_of body_of
  verdict_last h l = simp (h, lt-leb _ _ l) (same (leb (44 + be4 s 40) (length s)) (Err BadBody))

  pub verdict_good : Good s → verdict_of s ≡ Ok tt
  unfolding verdict_of body_of
  verdict_good g = simp (header_fine mobj s g.head, le-leb _ _ g.stated, le-leb _ _ g.last)

  pub good : verdict_of s ≡ Ok tt → Good s
  good v = go (header_of mobj s) refl (leb (44 + be4 s 40) (length s)) refl (leb (place s (count_of s)) (length s)) refl
    where
      no : (r : Refusal) → verdict_of s ≡ Err r → Good s
      no r e = let z : ◌≡◌ {A = ℕ} 0 1 = cc in absurd (omega arith)

      go : (h : Verdict) → header_of mobj s ≡ h → (a : Bool) → leb (44 + be4 s 40) (length s) ≡ a → (b : Bool) → leb (place s (count_of s)) (length s) ≡ b → Good s
      go (Err r) eh a ea b eb = no r (verdict_header r eh)
      go (Ok u) eh false ea b eb = no BadBody (verdict_stated eh (leb-false _ _ ea))
      go (Ok u) eh true ea false eb = no BadBody (verdict_last eh (leb-false _ _ eb))
      go (Ok u) eh true ea true eb = record { head = headed mobj s eh; stated = leb-true _ _ ea; last = leb-true _ _ eb }

-- the count lies within it
pub count_in : (s : List ℕ) → verdict_of s ≡ Ok tt → 78 ≤ length s
count_in s v = omega (arith, (good s v).last, place_from s (count_of s))

-- ---- the head of the body

-- the number of objects, where the stated length lies within the file
unfoldable pub count_read : List ℕ → Result ℕ Refusal
count_read s = cond (leb (44 + be4 s 40) (length s)) (cond (leb 78 (length s)) (Ok (count_of s)) (Err BadBody)) (Err BadBody)

-- how it is found
module _ (s : List ℕ) where
  pub count_read_is : (a : ℕ) → a ≡ 76 → 44 + be4 s 40 ≤ length s → read_u16 s a ≡ (count_read s, cond (leb 78 (length s)) 78 76)
  unfolding count_read count_of
  count_read_is a e h = simp (e, le-leb _ _ h) (pick (leb 78 (length s)))
    where
      pick : (b : Bool) → ◌≡◌ {A = Result ℕ Refusal × ℕ} (cond b (Ok (be2 s 76), 78) (Err BadBody, 76)) (cond b (Ok (be2 s 76)) (Err BadBody), cond b 78 76)
      pick true = refl
      pick false = refl

  pub count_stated : length s < 44 + be4 s 40 → count_read s ≡ Err BadBody
  unfolding count_read
  count_stated h = simp (lt-leb _ _ h)

  pub count_short : length s < 78 → count_read s ≡ Err BadBody
  unfolding count_read
  count_short h = simp (lt-leb _ _ h) (same (leb (44 + be4 s 40) (length s)) (Err BadBody))

-- what it tells
pub record Counted (s : List ℕ) (n : ℕ) : Type 0 where
  pub stated : 44 + be4 s 40 ≤ length s
  pub inside : 78 ≤ length s
  pub count : n ≡ count_of s

module _ (s : List ℕ) where
  pub counted : {m : Result ℕ Refusal} {n : ℕ} → m ≡ count_read s → m ≡ Ok n → Counted s n
  unfolding count_read
  counted {m} {n} e f = go (leb (44 + be4 s 40) (length s)) refl (leb 78 (length s)) refl (sym e ∙ f)
    where
      go : (a : Bool) → leb (44 + be4 s 40) (length s) ≡ a → (b : Bool) → leb 78 (length s) ≡ b → cond a (cond b (Ok (count_of s)) (Err BadBody)) (Err BadBody) ≡ Ok n → Counted s n
      go true p true q h = record { stated = leb-true _ _ p; inside = leb-true _ _ q; count = cc }
      go true p false q h = let z : ◌≡◌ {A = ℕ} 0 1 = cc in absurd (omega arith)
      go false p b q h = let z : ◌≡◌ {A = ℕ} 0 1 = cc in absurd (omega arith)

  -- and where a reader stands that has read it
  pub counted_here : (a : ℕ) {n q : ℕ} → a ≡ 76 → 44 + be4 s 40 ≤ length s → ◌≡◌ {A = Result ℕ Refusal × ℕ} (Ok n, q) (read_u16 s a) → Counted s n × (q ≡ 78)
  counted_here a {n} {q} e h t =
      let u : ◌≡◌ {A = Result ℕ Refusal × ℕ} (Ok n, q) (count_read s, cond (leb 78 (length s)) 78 76) = t ∙ count_read_is s a e h in
      let c = counted (ap (λ (x : Result ℕ Refusal × ℕ). x.0) u) refl in
      (c, ap (λ (x : Result ℕ Refusal × ℕ). x.1) u ∙ simp (le-leb _ _ c.inside))

  pub verdict_uncounted : {m : Result ℕ Refusal} {w : Refusal} → header_of mobj s ≡ Ok tt → m ≡ count_read s → m ≡ Err w → (verdict_of s ≡ Err w) × (w ≡ BadBody)
  unfolding count_read
  verdict_uncounted {m} {w} head e f = go (leb (44 + be4 s 40) (length s)) refl (leb 78 (length s)) refl (sym e ∙ f)
    where
      go : (a : Bool) → leb (44 + be4 s 40) (length s) ≡ a → (b : Bool) → leb 78 (length s) ≡ b → cond a (cond b (Ok (count_of s)) (Err BadBody)) (Err BadBody) ≡ Err w → (verdict_of s ≡ Err w) × (w ≡ BadBody)
      go true p true q h = let z : ◌≡◌ {A = ℕ} 0 1 = cc in absurd (omega arith)
      go true p false q h = (verdict_last s head (omega (arith, leb-false _ _ q, place_from s (count_of s))) ∙ cc, cc)
      go false p b q h = (verdict_stated s head (leb-false _ _ p) ∙ cc, cc)

-- ---- an object and its commands

module _ (s : List ℕ) (n : ℕ) where
  -- an object of an accepted file lies within it
  pub object_in : verdict_of s ≡ Ok tt → n < count_of s → place s n + 4 + 12 * be2 s (place s n + 2) ≤ length s
  object_in v h = omega (arith, (good s v).last, place_suc s n, place_mono s (n + 1) (count_of s) (omega arith))

  -- the same, from a place that is known by an equation
  pub object_from : (p : ℕ) → verdict_of s ≡ Ok tt → n < count_of s → p ≡ place s n → p + 4 + 12 * be2 s (p + 2) ≤ length s
  object_from p v h e = rw e (object_in v h)

  -- and so does its head
  pub head_from : (p : ℕ) → verdict_of s ≡ Ok tt → n < count_of s → p ≡ place s n → (p + 4 ≤ length s) × (length s ≤ limit)
  head_from p v h e = (omega (arith, object_from p v h e), (good s v).head.short)

  commands_there : n < count_of s → commands_of s n ≡ part_at s (place s n)
  unfolding commands_of
  commands_there h = simp (lt-ltb n (count_of s) h)

  -- the same, from a place that is known by an equation
  pub commands_from : (p : ℕ) → n < count_of s → p ≡ place s n → commands_of s n ≡ part_at s p
  commands_from p h e = rw e (commands_there h)

  pub commands_missing : count_of s ≤ n → commands_of s n ≡ []
  unfolding commands_of
  commands_missing h = simp (le-ltb n (count_of s) h)

  commands_length : verdict_of s ≡ Ok tt → n < count_of s → length (commands_of s n) ≡ 12 * be2 s (place s n + 2)
  commands_length v h =
      ap length (commands_there h)
      ∙ length-take-le (12 * be2 s (place s n + 2)) (drop (place s n + 4) s) (omega (arith, object_in v h, length-drop (place s n + 4) s))

  -- commands come in whole twelves, as many as the count says, and no more than a file has room for
  pub record Whole : Type 0 where
    pub count : ℕ
    pub twelves : length (commands_of s n) ≡ 12 * count
    pub fits : 12 * count ≤ limit

  commands_whole : verdict_of s ≡ Ok tt → Whole
  commands_whole v = go (ltb n (count_of s)) refl
    where
      go : (b : Bool) → ltb n (count_of s) ≡ b → Whole
      go true e =
          let h : n < count_of s = ltb-true n (count_of s) e in
          record { count = be2 s (place s n + 2); twelves = commands_length v h; fits = omega (arith, object_in v h, (good s v).head.short) }
      go false e = record { count = 0; twelves = ap length (commands_missing (ltb-false n (count_of s) e)); fits = omega arith }

  pub commands_mod : verdict_of s ≡ Ok tt → length (commands_of s n) % 12 ≡ 0
  commands_mod v = let w = commands_whole v in omega (arith, w.twelves)

  -- a program counter stays below this, whatever the bytes are
  pub commands_few : verdict_of s ≡ Ok tt → length (commands_of s n) / 12 ≤ 1398101
  commands_few v = let w = commands_whole v in omega (arith, w.twelves, w.fits)

-- ---- a table of places

-- the numbers of t below n, as far as it reaches, are the places of those objects
pub record Filled (s : List ℕ) (n : ℕ) (t : List ℕ) : Type 0 where
  pub at : (k : ℕ) → k < n → k < length t → get_or t k 0 ≡ place s k

pub filled_none : (s t : List ℕ) → Filled s 0 t
filled_none s t = record { at = λ k h b. absurd (omega arith) }

filled_more : (s t : List ℕ) (k p : ℕ) → Filled s k t → p ≡ place s k → Filled s (k + 1) (set t k p)
filled_more s t k p was e =
    record {
      at = below_more (λ (i : ℕ). i < length (set t k p) → get_or (set t k p) i 0 ≡ place s i) k
          (λ i b r. get_or-set_other t k i p 0 (λ q. omega arith) ∙ was.at i b (omega (arith, length-set t k p)))
          (λ r. get_or-set_same t k p 0 (omega (arith, length-set t k p)) ∙ e);
    }

filled_placed : (s t : List ℕ) → Filled s (count_of s) t → count_of s ≤ length t → Placed s t
filled_placed s t f h = record { room = h; at = λ k b. f.at k b (omega arith) }

-- what a walk over n heads answers: whether all of them lie within the file, and then their places
pub record Heads (s : List ℕ) (n : ℕ) (t : List ℕ) (r : Verdict) : Type 0 where
  pub judged : r ≡ cond (leb (place s n) (length s)) (Ok tt) (Err BadBody)
  pub filled : r ≡ Ok tt → Filled s n t

-- after k of n heads: the place past them, and the table as far as it reaches
pub record Walking (s : List ℕ) (n : ℕ) (t : List ℕ) (at k : ℕ) : Type 0 where
  pub passed : k ≤ n
  pub here : at ≡ place s k
  pub inside : at ≤ length s
  pub filled : Filled s k t

module _ {s t : List ℕ} {n at k : ℕ} (w : Walking s n t at k) where
  -- one head more
  pub walk_on : {u : List ℕ} {to : ℕ} → k < n → u ≡ set t k at → to ≡ next s at → to ≤ length s → Walking s n u to (k + 1)
  walk_on {u} {to} h put e l =
      record {
        passed = omega arith;
        here = e ∙ place_after s k at w.here;
        inside = l;
        filled = subst (Filled s (k + 1)) (sym put) (filled_more s t k at w.filled w.here);
      }

  -- an object that passes the end
  pub walk_stops : {u : List ℕ} {v : Refusal} → k < n → (length s < next s at) × (v ≡ BadBody) → Heads s n u (Err v)
  walk_stops h (past, e) =
      let l : length s < place s n = omega (arith, place_after s k at w.here, place_mono s (k + 1) n (omega arith)) in
      record {
        judged = simp (lt-leb _ _ l, e);
        filled = λ f. let z : ◌≡◌ {A = ℕ} 0 1 = cc in absurd (omega arith);
      }

  -- the end of the walk
  pub walk_ends : n ≤ k → Heads s n t (Ok tt)
  walk_ends h =
      let e : k ≡ n = omega (arith, w.passed) in
      let l : place s n ≤ length s = omega (arith, w.inside, w.here ∙ ap (place s) e) in
      record {
        judged = simp (le-leb _ _ l);
        filled = λ g. subst (λ (i : ℕ). Filled s i t) e w.filled;
      }

-- what the walk answers in each case
module _ (s t : List ℕ) where
  pub walked_refused : (v : Verdict) (r : Refusal) → v ≡ Err r → verdict_of s ≡ Err r → Walked s t v
  walked_refused v r e f = record { judged = e ∙ sym f; placed = λ g h. let z : ◌≡◌ {A = ℕ} 0 1 = cc in absurd (omega arith) }

  -- behind a good header and a good count the walk decides
  pub walked_heads : (v : Verdict) (n : ℕ) → header_of mobj s ≡ Ok tt → Counted s n → Heads s n t v → Walked s t v
  unfolding verdict_of body_of
  walked_heads v n h c w =
      record {
        judged = rw c.count at w.judged ∙ sym (simp (h, le-leb _ _ c.stated));
        placed = λ e g. filled_placed s t (rw c.count at (w.filled e)) g;
      }
