-- Examples of the table of status registers' classes (document 01, module 3). Assumes nothing.
use Rattle.std.specs.Prelude.{◌≡◌, refl, [], ◌∷◌, length, take}
use Rattle.register_model.specs.Rules.{class_of, class_table}

-- A table of 128 entries.
table_length : length class_table ≡ 128
unfolding class_table
table_length = refl

-- Commands may write 0..7, 10..12 and 14 (0); read-only are 8 and 9 (1); 13 and 15 are settings (2).
first_16 : take 16 class_table ≡ 0 ∷ 0 ∷ 0 ∷ 0 ∷ 0 ∷ 0 ∷ 0 ∷ 0 ∷ 1 ∷ 1 ∷ 0 ∷ 0 ∷ 0 ∷ 2 ∷ 0 ∷ 2 ∷ []
unfolding class_of class_table
first_16 = refl
