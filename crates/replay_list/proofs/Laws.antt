-- Sums of 32 bits, differences counted one by one, and registers set one by one. Assumes nothing.
use mathlib.Core.Path.{◌≡◌, refl, sym, ap, ◌∙◌, subst}
use mathlib.Core.List.{List}
use Prim.Native.Nat.{ℕ, ◌+◌, ◌*◌, ◌%◌, ◌^◌, ◌<◌}
use native.Mathlib.Nat.{add-zero, add_assoc, mod-add-mod, mod-eq_of_lt}
use native.Mathlib.Numerals.{add-one}
use lib.ListN.{length}
use Rattle.word.specs.Word.{add_low}
use Rattle.common.specs.Rules.{be2}
use Rattle.registers.specs.Rules.{Banks, banks, fresh_general, fresh_status}
use Rattle.replay_list.specs.declared.Replayed.{Replayed}
use Rattle.replay_list.specs.Rules.{replayed, apart, differing, listed_differences, compared, set_one, set_first, set_all, registers_end, bank_differences, banks_differences, compared_banks}

-- ---- sums of 32 bits

pub low_zero : (a : ℕ) → a < 2 ^ 32 → a ≡ add_low a 0
low_zero a h = rw (add-zero a) (sym (mod-eq_of_lt h))

low_low : (a b c : ℕ) → add_low (add_low a b) c ≡ add_low a (b + c)
low_low a b c = mod-add-mod (a + b) (2 ^ 32) c ∙ ap (λ (n : ℕ). n % 2 ^ 32) (add_assoc a b c)

-- a sum that was made of one before it
pub low_then : (a b c d : ℕ) {m n : ℕ} → m ≡ add_low a b → n ≡ add_low m c → b + c ≡ d → n ≡ add_low a d
low_then a b c d was next e = rw was at next ∙ low_low a b c ∙ ap (add_low a) e

-- ---- differences

module _ (f g : ℕ → ℕ) (start : ℕ) where
  pub none_counted : start < 2 ^ 32 → start ≡ add_low start (differing f g 0)
  unfolding differing
  none_counted h = low_zero start h

  -- a turn of a loop that counts them
  pub counted : (k : ℕ) {wrong x e more : ℕ} → wrong ≡ add_low start (differing f g k) → x ≡ g k → e ≡ apart (f k) x → more ≡ add_low wrong e → more ≡ add_low start (differing f g (k + 1))
  unfolding differing
  counted k was listed one sum = rw (add-one k) (low_then start (differing f g k) (apart (f k) (g k)) _ was (rw (one, listed) at sum) refl)

-- both parts of what was replayed
told : {next wrong n w : ℕ} → next ≡ n → wrong ≡ w → replayed next wrong ≡ replayed n w
told e f = cc

-- all numbers are compared
pub all_compared : (got s : List ℕ) (r : Replayed) (k : ℕ) {next wrong : ℕ} → k ≡ length got → next ≡ add_low r.next (4 * k) → wrong ≡ add_low r.wrong (listed_differences got s r.next k) → replayed next wrong ≡ compared got s r
unfolding compared
all_compared got s r k e n w = told (rw e at n) (rw e at w)

-- ---- registers

pub none_set : (s : List ℕ) (at : ℕ) (b : Banks) → b ≡ set_first s at 0 b
unfolding set_first
none_set s at b = refl

-- a turn of a loop that sets them
pub one_more : (s : List ℕ) (at k : ℕ) (b : Banks) {next : ℕ} {now after : Banks} → now ≡ set_first s at k b → next ≡ add_low at (2 + 7 * k) → after ≡ set_one s next now → after ≡ set_first s at (k + 1) b
unfolding set_first
one_more s at k b was place set = rw (add-one k) (rw (was, place) at set)

-- all of them are set
pub all_set : (s : List ℕ) (at k : ℕ) (b : Banks) {next : ℕ} {now : Banks} → k ≡ be2 s (at + 0) → now ≡ set_first s at k b → next ≡ add_low at (2 + 7 * k) → (now ≡ set_all s at b) × (next ≡ registers_end s at)
all_set s at k b e was place = let f : k ≡ be2 s at = rw (add-zero at) at e in (rw f at was, rw f at place)

-- one bank after the other
both_banks : (x y g p : List ℕ) (b : Banks) (start : ℕ) {one two : ℕ} → banks g p ≡ b → one ≡ add_low start (bank_differences x g) → two ≡ add_low one (bank_differences y p) → two ≡ add_low start (banks_differences (banks x y) b)
both_banks x y g p b start {two = two} e general status = subst (λ (m : Banks). two ≡ add_low start (banks_differences (banks x y) m)) e (low_then start (bank_differences x g) (bank_differences y p) _ general status refl)

pub banks_compared : (x y s : List ℕ) (r : Replayed) {m n g p : List ℕ} {end one two : ℕ} → (m ≡ fresh_general) × (n ≡ fresh_status)
    → (banks g p ≡ set_all s r.next (banks m n)) × (end ≡ registers_end s r.next)
    → one ≡ add_low r.wrong (bank_differences x g) → two ≡ add_low one (bank_differences y p) → replayed end two ≡ compared_banks (banks x y) s r
unfolding compared_banks
banks_compared x y s r {g = g} {p = p} (fresh, fresh') (set, end) general status = told end (both_banks x y g p _ r.wrong (rw (fresh, fresh') at set) general status)
