-- Lists of which no two elements are the same.
use Rattle.std.specs.Prelude.{Bool, true, List, [], ◌∷◌, ◌&&◌, not}
use Rattle.std.specs.List.{list_any}

-- whether no two of a list are the same
abbrev pub all_differ : {A : Type 0} → (A → A → Bool) → List A → Bool
all_differ same [] = true
all_differ same (x ∷ xs) = not (list_any (same x) xs) && all_differ same xs
