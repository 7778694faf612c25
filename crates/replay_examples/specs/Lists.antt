-- Examples of what the replays read of a list, compare with it and set as it says. Assumes nothing.
use Rattle.std.specs.Prelude.{◌≡◌, refl, true, false, List, [], ◌∷◌, ◌++◌, ℕ, ◌+◌, length, get_or, set, take}
use Rattle.std.proofs.Common.{sym, ap, arith}
use Rattle.common.specs.Rules.{be2, be4}
use Rattle.registers.specs.Rules.{Banks, banks, fresh_general, fresh_status, bank_of, put_of}
use Rattle.replay_list.specs.Rules.{part_of, replayed, onward_by, differs_by, Same, differing, compared, set_one, set_first, set_all, registers_end, compared_banks}

-- what the examples compute with
opened : Unit {0}
unfolding be2 be4 bank_of put_of differing compared set_one set_first compared_banks
opened = tt

-- six bytes
abbrev six : List ℕ
six = 1 ∷ 2 ∷ 3 ∷ 4 ∷ 5 ∷ 6 ∷ []

-- A byte, so many past a place; past the end there is zero.
byte_2_past_1 : get_or six (1 + 2) 0 ≡ 4
byte_2_past_1 = refl

byte_past_the_end : get_or six (5 + 1) 0 ≡ 0
byte_past_the_end = refl

-- Two bytes and four, big-endian.
half_1_past_1 : be2 six (1 + 1) ≡ 0x0304
unfolding opened
half_1_past_1 = refl

half_cut_by_the_end : be2 six (4 + 1) ≡ 0x0600
unfolding opened
half_cut_by_the_end = refl

number_1_past_1 : be4 six (1 + 1) ≡ 0x0304_0506
unfolding opened
number_1_past_1 = refl

number_cut_by_the_end : be4 six (3 + 0) ≡ 0x0405_0600
unfolding opened
number_cut_by_the_end = refl

-- So many bytes from a place on; none where the list ends before.
part_of_2 : part_of six 1 2 ≡ 2 ∷ 3 ∷ []
part_of_2 = refl

part_cut_by_the_end : part_of six 4 3 ≡ []
part_cut_by_the_end = refl

-- The reading goes on; so much more differed.
four_onward : onward_by (replayed 8 1) 4 ≡ replayed 12 1
four_onward = refl

two_more_differ : differs_by (replayed 8 1) 2 ≡ replayed 8 3
two_more_differ = refl

-- Whether two lists are the same: as long as each other, and with the same bytes.
abbrev copy : List ℕ
copy = 1 ∷ 2 ∷ 3 ∷ 4 ∷ 5 ∷ 6 ∷ []

abbrev cut : List ℕ
cut = take 5 six

true_not_false : true ≡ false → ⊥
true_not_false e = let z : ◌≡◌ {A = ℕ} 0 1 = cc in absurd (omega arith)

same_as_its_copy : Same six copy true
same_as_its_copy = record { yes = λ e. refl; no = λ e _. true_not_false e }

six_not_cut : six ≡ cut → ⊥
six_not_cut e = let five : length six ≡ 5 = ap length e in absurd (omega arith)

not_the_same_cut : Same six cut false
not_the_same_cut = record { yes = λ e. absurd (true_not_false (sym e)); no = λ _ e. let five : length six ≡ 5 = ap length e in absurd (omega arith) }

-- Numbers against those that are listed next, four bytes each: the second differs.
second_differs : compared (1 ∷ 9 ∷ []) (0 ∷ 0 ∷ 0 ∷ 1 ∷ 0 ∷ 0 ∷ 0 ∷ 2 ∷ []) (replayed 0 3) ≡ replayed 8 4
unfolding opened
second_differs = refl

-- A register as it is listed: 0 for a general one and else status, its number in two bytes, its value in four.
abbrev listed : ℕ → ℕ → ℕ → List ℕ
listed kind i v = kind ∷ 0 ∷ i ∷ 0 ∷ 0 ∷ 0 ∷ v ∷ []

abbrev fresh : Banks
fresh = banks fresh_general fresh_status

status_set : set_one (listed 1 5 7) 0 fresh ≡ banks fresh_general (set fresh_status 5 7)
unfolding opened
status_set = refl

-- All that are listed behind their count are set, and the list goes on behind them.
abbrev both : List ℕ
both = (0 ∷ 2 ∷ listed 0 5 7) ++ listed 1 6 8

both_set : set_all both 0 fresh ≡ banks (set fresh_general 5 7) (set fresh_status 6 8)
unfolding opened
both_set = refl

end_of_both : registers_end both 0 ≡ 16
unfolding opened
end_of_both = refl

-- Banks against fresh ones that are set as is listed: here the first two general registers, of which one differs.
one_register_differs : compared_banks (banks (0 ∷ 7 ∷ []) []) (0 ∷ 1 ∷ listed 0 1 8) (replayed 0 3) ≡ replayed 9 4
unfolding opened
one_register_differs = refl
