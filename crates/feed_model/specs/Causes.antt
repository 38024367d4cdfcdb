-- How a cause is named.
use Rattle.std.specs.Prelude.{ℕ, List, ◌==◌, codes, unwrap_or}
use Rattle.std.specs.Map.{lookup}

-- the name of a cause, by its number; `Unread` for a number that is none of the causes, so that it never shows
abbrev pub name_of_cause : List (ℕ × List ℕ) → ℕ → List ℕ
name_of_cause causes cause = unwrap_or (lookup (λ number. number == cause) causes) (codes "Unread")
