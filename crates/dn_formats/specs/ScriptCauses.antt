-- The causes for which a text is no script: their numbers, and the names that are printed.
use Rattle.std.specs.Prelude.{ℕ, List, [], ◌∷◌, codes}

abbrev pub bad_line : ℕ
bad_line = 1

abbrev pub take_unknown : ℕ
take_unknown = 2

abbrev pub taken_twice : ℕ
taken_twice = 3

abbrev pub too_many_lines : ℕ
too_many_lines = 4

abbrev pub too_long : ℕ
too_long = 5

-- each with its name
abbrev pub script_causes : List (ℕ × List ℕ)
script_causes =
    (bad_line, codes "BadLine")
    ∷ (take_unknown, codes "TakeUnknown")
    ∷ (taken_twice, codes "TakenTwice")
    ∷ (too_many_lines, codes "TooManyLines")
    ∷ (too_long, codes "TooLong")
    ∷ []
