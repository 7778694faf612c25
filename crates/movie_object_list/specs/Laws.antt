-- Laws of the listing: how long its pieces are, and what is written one after the other. Assumes nothing.
use Rattle.std.specs.Prelude.{◌≡◌, refl, cond, List, [], ◌∷◌, ◌++◌, ℕ, zero, suc, ◌+◌, ◌*◌, ◌-◌, ◌^◌, ◌≤◌, ◌<◌, eqb, leb, length, get_or, drop, Ok}
use Rattle.std.proofs.Common.{sym, ap, ◌∙◌, subst, zero-add, arith, length-append, length-drop, length-take-le, le-leb, leb-true, leb-false}
use Rattle.std.proofs.Math.Seq.{length-sets}
use Rattle.std.proofs.lemmas.Bool.{lt-leb}
use Rattle.laws.specs.Cases.{either_way, by_test}
use Rattle.laws.specs.Firsts.{blocks, blocks_suc}
use Rattle.common.specs.Rules.{be2}
use Rattle.common.specs.Laws.{be2_below}
use Rattle.text.specs.Rules.{bytes, numeral, blanks, right_in, place, Wrote}
use Rattle.text.specs.Laws.{few_digits, near, fitted, then}
use Rattle.movie_object.specs.declared.MovieObject.{MovieObject}
use Rattle.movie_object.specs.Rules.{place as place_of, count_of, verdict_of, part_at, commands_of, head_at, head_of}
use Rattle.movie_object.specs.Laws.{object_in, commands_from}
use Rattle.nav_list.specs.Rules.{line_at}
use Rattle.movie_object_list.specs.Rules.{count_text, heading_text, prefix_text, line_text, object_text, text_at, block_text}

-- ---- lengths

decimal_short : (n : ℕ) → n < 65536 → length (numeral 10 n) ≤ 5
decimal_short n h = few_digits 4 10 n (omega arith) (omega arith) (omega arith)

count_short : (n : ℕ) → n < 65536 → length (count_text n) ≤ 11
unfolding count_text
count_short n h =
    omega (
      arith,
      decimal_short n h,
      length-append (numeral 10 n) (cond (eqb n 1) (bytes " cmd)") (bytes " cmds)")),
      either_way (λ (t : List ℕ). length t ≤ 6) (eqb n 1) {x = bytes " cmd)"} {y = bytes " cmds)"} (omega arith) (omega arith),
    )

pub heading_short : (n : ℕ) (o : MovieObject) → n < 65536 → o.resume_intention_flag < 65536 → o.menu_call_mask < 65536 → o.title_search_mask < 65536 → o.commands < 65536
    → length (heading_text n o) ≤ 96
unfolding heading_text
heading_short n o hn hr hm ht hc =
    let p1 : List ℕ = bytes "MovieObject[" ++ numeral 10 n in
    let p2 : List ℕ = p1 ++ bytes "] (resume=" in
    let p3 : List ℕ = p2 ++ numeral 10 o.resume_intention_flag in
    let p4 : List ℕ = p3 ++ bytes ", menu_mask=" in
    let p5 : List ℕ = p4 ++ numeral 10 o.menu_call_mask in
    let p6 : List ℕ = p5 ++ bytes ", title_mask=" in
    let p7 : List ℕ = p6 ++ numeral 10 o.title_search_mask in
    let p8 : List ℕ = p7 ++ bytes ", " in
    omega (
      arith,
      length-append (bytes "MovieObject[") (numeral 10 n),
      length-append p1 (bytes "] (resume="),
      length-append p2 (numeral 10 o.resume_intention_flag),
      length-append p3 (bytes ", menu_mask="),
      length-append p4 (numeral 10 o.menu_call_mask),
      length-append p5 (bytes ", title_mask="),
      length-append p6 (numeral 10 o.title_search_mask),
      length-append p7 (bytes ", "),
      length-append p8 (count_text o.commands),
      decimal_short n hn,
      decimal_short o.resume_intention_flag hr,
      decimal_short o.menu_call_mask hm,
      decimal_short o.title_search_mask ht,
      count_short o.commands hc,
    )

pub heading_fits : (s : List ℕ) (head n : ℕ) → ((i : ℕ) → get_or s i 0 < 256) → n < 65536 → length (heading_text n (head_at s head)) ≤ 96
unfolding head_at
heading_fits s head n b h =
    let x = b head in
    heading_short n (head_at s head) h (omega arith) (omega arith) (omega arith) (be2_below s (head + 2) b)

length_blanks : (k : ℕ) → length (blanks k) ≡ k
length_blanks zero = refl
length_blanks (suc k) = ap suc (length_blanks k)

pub prefix_short : (i : ℕ) → i < 65536 → length (prefix_text i) ≤ 16
unfolding prefix_text right_in
prefix_short i h =
    let t : List ℕ = numeral 10 i in
    let b : List ℕ = blanks (3 - length t) in
    let p : List ℕ = (10 ∷ bytes "  ") ++ (b ++ t) in
    omega (
      arith,
      decimal_short i h,
      length-append (10 ∷ bytes "  ") (b ++ t),
      length-append b t,
      length-append p (bytes ": "),
      length_blanks (3 - length t),
    )

-- one block more
pub blocks_more : (f : ℕ → List ℕ) (i : ℕ) → length (blocks f (i + 1)) ≡ length (blocks f i) + length (f i)
blocks_more f i = ap length (blocks_suc f i) ∙ length-append (blocks f i) (f i)

pub line_length : (commands : List ℕ) (i : ℕ) → length (line_text commands i) ≡ length (prefix_text i) + length (line_at commands (12 * i))
line_length commands i = length-append (prefix_text i) (line_at commands (12 * i))

pub text_length : (n : ℕ) (o : MovieObject) (commands : List ℕ) → length (object_text n o commands) ≡ length (heading_text n o) + length (blocks (line_text commands) o.commands)
unfolding object_text
text_length n o commands = length-append (heading_text n o) (blocks (line_text commands) o.commands)

-- ---- texts in a room

pub wrote_length : {l t l' : List ℕ} {at r : ℕ} → Wrote l at t l' r → length l' ≡ length l
wrote_length {l} {t} {l'} {at} {r} w = ap length w.held ∙ length-sets l at t

-- one block more
pub blocks_step : {l m l' : List ℕ} (f : ℕ → List ℕ) (i : ℕ) {at p r : ℕ} → Wrote l at (blocks f i) m p → Wrote m p (f i) l' r → Wrote l at (blocks f (i + 1)) l' r
blocks_step {l} {m} {l'} f i {at} {p} {r} a b = subst (λ (t : List ℕ). Wrote l at t l' r) (sym (blocks_suc f i)) (then a b)

-- a text that was written whole into a room of its own
pub wrote_end : {l t l' : List ℕ} {r : ℕ} → Wrote l 0 t l' r → length t ≤ length l → r ≡ length t
wrote_end {l} {t} {l'} {r} w h = (fitted w h').0 ∙ zero-add (length t)
  where
    h' : 0 + length t ≤ length l
    h' = omega arith

-- how long a text is, from where it ends
pub written_length : {l t l' : List ℕ} {r : ℕ} → Wrote l 0 t l' r → length t < 2 ^ 64 → r ≡ length t
written_length {l} {t} {l'} {r} w h = w.end ∙ ap place (zero-add (length t)) ∙ near (length t) h

-- the same test, on what the room has left
pub left_test : (at t room : ℕ) → at ≤ room → leb t (room - at) ≡ leb (at + t) room
left_test at t room h =
    by_test (leb t (room - at))
    (λ e. e ∙ sym (le-leb (at + t) room (omega (arith, leb-true t (room - at) e))))
    (λ e. e ∙ sym (lt-leb (at + t) room (omega (arith, leb-false t (room - at) e))))

-- ---- the object of a file

pub part_length : (s : List ℕ) (head : ℕ) → head + 4 + 12 * be2 s (head + 2) ≤ length s → length (part_at s head) ≡ 12 * be2 s (head + 2)
part_length s head h = length-take-le (12 * be2 s (head + 2)) (drop (head + 4) s) (omega (arith, length-drop (head + 4) s))

-- the commands that a head counts are there
pub lines_there : (s : List ℕ) (head : ℕ) {part : List ℕ} {o : MovieObject} → o ≡ head_at s head → part ≡ part_at s head → head + 4 + 12 * be2 s (head + 2) ≤ length s
    → 12 * o.commands ≤ length part
unfolding head_at
lines_there s head {part} {o} x y h = omega (arith, ap (λ (m : MovieObject). m.commands) x, ap length y, part_length s head h)

pub text_of : (s : List ℕ) (n p : ℕ) → n < count_of s → p ≡ place_of s n → text_at s p n ≡ object_text n (head_of s n) (commands_of s n)
text_of s n p h e = ap (λ (c : List ℕ). object_text n (head_at s p) c) (sym (commands_from s n p h e)) ∙ ap (λ (x : ℕ). object_text n (head_at s x) (commands_of s n)) e

-- ---- the objects of a file, one after the other, from a place that is known by an equation

module _ (s : List ℕ) (n p : ℕ) (there : n < count_of s) (here : p ≡ place_of s n) where
  pub object_here : verdict_of s ≡ Ok tt → p + 4 + 12 * be2 s (p + 2) ≤ length s
  object_here v = rw here (object_in s n v there)

  -- one object and a line end more
  pub objects_step : {l m m' l' : List ℕ} {at a b r : ℕ} → Wrote l at (blocks (block_text s) n) m a → Wrote m a (text_at s p n) m' b → Wrote m' b (10 ∷ []) l' r
      → Wrote l at (blocks (block_text s) (n + 1)) l' r
  objects_step {l} {m} {m'} {l'} {at} {a} {b} {r} x y z =
      blocks_step (block_text s) n x (then (subst (λ (t : List ℕ). Wrote m a t m' b) (text_of s n p there here) y) z)

  pub objects_more : length (blocks (block_text s) (n + 1)) ≡ length (blocks (block_text s) n) + length (text_at s p n) + 1
  objects_more =
      let t : List ℕ = object_text n (head_of s n) (commands_of s n) in
      omega (arith, blocks_more (block_text s) n, length-append t (10 ∷ []), ap length (text_of s n p there here))
