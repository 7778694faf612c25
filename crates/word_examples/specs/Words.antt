-- Examples of the register operations (document 01, "One command", P4 to P8). Assumes nothing.
use Rattle.std.specs.Prelude.{◌≡◌, refl}
use Rattle.std.specs.Int.Bits.{bit_and, bit_or, bit_xor}
use Rattle.word.specs.Word.{add_low, sub_low, mul_low, div_or0, mod_or0, random, with_bit, without_bit, shift_left, shift_right}

-- Add, Sub and Mul keep the low 32 bits.
sum : add_low 0x7FFF_FFFF 1 ≡ 0x8000_0000
sum = refl

difference : sub_low 0 1 ≡ 4294967295
difference = refl

small_difference : sub_low 5 3 ≡ 2
small_difference = refl

product : mul_low 0x4000_0000 2 ≡ 0x8000_0000
product = refl

-- Div and Mod by zero write 0.
quotient_by_0 : div_or0 9 0 ≡ 0
quotient_by_0 = refl

remainder_by_0 : mod_or0 9 0 ≡ 0
remainder_by_0 = refl

remainder_by_4 : mod_or0 7 4 ≡ 3
remainder_by_4 = refl

-- Rnd writes 0 for 0, else 1.
random_of_5 : random 5 ≡ 1
random_of_5 = refl

random_of_0 : random 0 ≡ 0
random_of_0 = refl

-- And, Or and Xor of 1100 and 1010, bit by bit.
conjunction : bit_and 12 10 ≡ 8
conjunction = refl

disjunction : bit_or 12 10 ≡ 14
disjunction = refl

exclusion : bit_xor 12 10 ≡ 6
exclusion = refl

-- Bit set and clear use the low 5 bits.
bit_33_set : with_bit 0 33 ≡ 2
bit_33_set = refl

bit_16_cleared : without_bit 0xFFFF_FFFF 16 ≡ 0xFFFE_FFFF
bit_16_cleared = refl

bit_3_cleared : without_bit 0 3 ≡ 0
bit_3_cleared = refl

-- A shift moves towards the high bits; shifts by 32 or more write 0.
shift_of_2 : shift_left 3 2 ≡ 12
shift_of_2 = refl

shift_of_33 : shift_right 2 33 ≡ 0
shift_of_33 = refl

shift_back_of_2 : shift_right 12 2 ≡ 3
shift_back_of_2 = refl
