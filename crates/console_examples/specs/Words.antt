-- Examples of the words of a command line: `entry=` and its number. Assumes nothing.
use Rattle.std.specs.Prelude.{◌≡◌, refl, true, false, List, [], ◌∷◌, ℕ}
use Rattle.text.specs.Rules.{bytes}
use Rattle.console.specs.Rules.{begins_with, number_of, no_number, goes_on_at, number_in}

-- what the examples compute with
opened : Unit {0}
unfolding begins_with goes_on_at number_in
opened = tt

abbrev entry : List ℕ
entry = bytes "entry="

option : begins_with (bytes "entry=7") entry ≡ true
unfolding opened
option = refl

short_word : begins_with (bytes "en") entry ≡ false
unfolding opened
short_word = refl

another_word : begins_with (bytes "Entry=7") entry ≡ false
unfolding opened
another_word = refl

number : number_in (bytes "entry=70x") 6 ≡ number_of 70 8
unfolding opened
number = refl

largest_and_one_more : number_in (bytes "4294967295") 0 ∷ number_in (bytes "4294967296") 0 ∷ [] ≡ number_of 4294967295 10 ∷ no_number 9 ∷ []
unfolding opened
largest_and_one_more = refl

no_digits : number_in entry 6 ≡ no_number 6
unfolding opened
no_digits = refl
