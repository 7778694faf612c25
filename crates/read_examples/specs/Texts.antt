-- Examples of numbers as text, and of text in lent room (document 01, the listing program). Assumes nothing.
use Rattle.std.specs.Prelude.{◌≡◌, refl, [], ◌∷◌, map, ◌-◌, ◌^◌}
use Rattle.std.proofs.lemmas.List.Edits.{sets}
use Rattle.text.specs.Rules.{bytes, glyph_of, numeral, right_in, place}

-- Digits are `0` to `9`, then `A` to `F`.
digits : map glyph_of (0 ∷ 9 ∷ 10 ∷ 15 ∷ []) ≡ bytes "09AF"
digits = refl

-- A general register is listed in decimal.
decimal_of_4095 : numeral 10 4095 ≡ bytes "4095"
unfolding numeral
decimal_of_4095 = refl

-- An immediate is listed in hex.
hex_of_16 : numeral 16 16 ≡ bytes "10"
unfolding numeral
hex_of_16 = refl

-- A command number is right-aligned in three columns, wider from 1,000.
number_0 : right_in 3 (numeral 10 0) ≡ bytes "  0"
unfolding numeral right_in
number_0 = refl

number_1000 : right_in 3 (numeral 10 1000) ≡ bytes "1000"
unfolding numeral right_in
number_1000 = refl

-- A text stands from its place on, and the bytes around it stay.
text_in_room : sets (bytes "....") 1 (bytes "r5") ≡ bytes ".r5."
text_in_room = refl

-- What would stand past the end of the room is not written.
text_cut_by_the_room : sets (bytes "....") 3 (bytes "r5") ≡ bytes "...r"
text_cut_by_the_room = refl

byte_past_the_room : sets (bytes "....") 4 (bytes "r") ≡ bytes "...."
byte_past_the_room = refl

-- Past the last place stands the last one.
last_place : place (2 ^ 64) ≡ 2 ^ 64 - 1
unfolding place
last_place = refl
