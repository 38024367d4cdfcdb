-- The causes for which a text is no topology: their numbers, and the names that are printed.
use Rattle.std.specs.Prelude.{ℕ, List, [], ◌∷◌, codes}

abbrev pub not_toml : ℕ
not_toml = 1

abbrev pub unknown_key : ℕ
unknown_key = 2

abbrev pub missing_key : ℕ
missing_key = 3

abbrev pub bad_name : ℕ
bad_name = 4

abbrev pub twice_named : ℕ
twice_named = 5

abbrev pub bad_end : ℕ
bad_end = 6

abbrev pub end_twice : ℕ
end_twice = 7

abbrev pub self_link : ℕ
self_link = 8

abbrev pub too_many : ℕ
too_many = 9

abbrev pub too_long : ℕ
too_long = 10

abbrev pub bad_replace : ℕ
bad_replace = 11

abbrev pub twice_marked : ℕ
twice_marked = 12

abbrev pub no_such_router : ℕ
no_such_router = 13

abbrev pub bad_table : ℕ
bad_table = 14

abbrev pub table_twice : ℕ
table_twice = 15

-- each with its name
abbrev pub topology_causes : List (ℕ × List ℕ)
topology_causes =
    (not_toml, codes "NotToml")
    ∷ (unknown_key, codes "UnknownKey")
    ∷ (missing_key, codes "MissingKey")
    ∷ (bad_name, codes "BadName")
    ∷ (twice_named, codes "TwiceNamed")
    ∷ (bad_end, codes "BadEnd")
    ∷ (end_twice, codes "EndTwice")
    ∷ (self_link, codes "SelfLink")
    ∷ (too_many, codes "TooMany")
    ∷ (too_long, codes "TooLong")
    ∷ (bad_replace, codes "BadReplace")
    ∷ (twice_marked, codes "TwiceMarked")
    ∷ (no_such_router, codes "NoSuchRouter")
    ∷ (bad_table, codes "BadTable")
    ∷ (table_twice, codes "TableTwice")
    ∷ []
