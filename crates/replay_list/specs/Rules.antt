-- What the replays read of a list, compare with it and set as it says; places and counts are numbers of 32 bits. Assumes nothing.
use Rattle.std.specs.Prelude.{◌≡◌, Bool, true, false, cond, List, [], ℕ, zero, suc, ◌+◌, ◌*◌, ◌%◌, ◌^◌, leb, eqb, length, get_or, take, drop}
use Rattle.word.specs.Word.{add_low}
use Rattle.common.specs.Rules.{be2, be4}
use Rattle.registers.specs.Rules.{Banks, banks, fresh_general, fresh_status, put_of}
use Rattle.replay_list.specs.declared.Replayed.{Replayed}

-- n bytes from a place on, and none where the list ends before.
abbrev pub part_of : List ℕ → ℕ → ℕ → List ℕ
part_of s at n = cond (leb (at + n) (length s)) (take n (drop at s)) []

-- The reading goes on so many bytes further; so much more differed.

abbrev pub replayed : ℕ → ℕ → Replayed
replayed next wrong = record { next = next; wrong = wrong }

abbrev pub onward_by : Replayed → ℕ → Replayed
onward_by r n = replayed (add_low r.next n) r.wrong

abbrev pub differs_by : Replayed → ℕ → Replayed
differs_by r n = replayed r.next (add_low r.wrong n)

-- Whether two lists are the same.
pub record Same (a b : List ℕ) (r : Bool) : Type 0 where
  pub yes : r ≡ true → a ≡ b
  pub no : r ≡ false → a ≡ b → ⊥

-- 1 for two numbers that differ, and else 0
abbrev pub apart : ℕ → ℕ → ℕ
apart a b = cond (eqb a b) 0 1

-- at how many of the first k places of two rows the numbers differ
unfoldable pub differing : (ℕ → ℕ) → (ℕ → ℕ) → ℕ → ℕ
differing f g zero = 0
differing f g (suc k) = differing f g k + apart (f k) (g k)

-- Numbers against those that are listed next, four bytes each.

abbrev pub listed_differences : List ℕ → List ℕ → ℕ → ℕ → ℕ
listed_differences got s next k = differing (λ (i : ℕ). get_or got i 0) (λ (i : ℕ). be4 s (add_low next (4 * i))) k

unfoldable pub compared : List ℕ → List ℕ → Replayed → Replayed
compared got s r = differs_by (onward_by r (4 * length got)) (listed_differences got s r.next (length got))

-- A register as listed: 0 for a general one, else status; its number in two bytes, its value in four. The player sets it.
unfoldable pub set_one : List ℕ → ℕ → Banks → Banks
set_one s at b =
    cond (eqb (get_or s at 0) 0)
    (banks (put_of 4096 b.general (be2 s (at + 1)) (be4 s (at + 3))) b.status)
    (banks b.general (put_of 128 b.status (be2 s (at + 1)) (be4 s (at + 3))))

-- The registers that are listed at a place: how many they are in two bytes, then each in seven. All are set, in this order.

unfoldable pub set_first : List ℕ → ℕ → ℕ → Banks → Banks
set_first s at zero b = b
set_first s at (suc k) b = set_one s (add_low at (2 + 7 * k)) (set_first s at k b)

abbrev pub set_all : List ℕ → ℕ → Banks → Banks
set_all s at b = set_first s at (be2 s at) b

abbrev pub registers_end : List ℕ → ℕ → ℕ
registers_end s at = add_low at (2 + 7 * be2 s at)

-- Both banks against fresh ones that are set as is listed next.

abbrev pub bank_differences : List ℕ → List ℕ → ℕ
bank_differences got expected = differing (λ (i : ℕ). get_or got i 0) (λ (i : ℕ). get_or expected i 0) (length got)

abbrev pub banks_differences : Banks → Banks → ℕ
banks_differences got expected = bank_differences got.general expected.general + bank_differences got.status expected.status

unfoldable pub compared_banks : Banks → List ℕ → Replayed → Replayed
compared_banks got s r =
    replayed (registers_end s r.next) (add_low r.wrong (banks_differences got (set_all s r.next (banks fresh_general fresh_status))))

-- How much differed in a list of so many bytes: one that goes on or that is cut differs too.
abbrev pub differences_of : Replayed → ℕ → ℕ
differences_of r size = add_low r.wrong (apart r.next (size % 2 ^ 32))
