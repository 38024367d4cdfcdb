-- What a seat carries once the book was put into its slot.
use Rattle.std.proofs.Common.{◌≡◌, ℕ, List, [], ◌∷◌, ap, ◌∙◌, Some}
use Rattle.std.specs.Prelude.{Option, None}
use Rattle.atomic_table.specs.Table.{Me, rest}
use Rattle.version_lock.specs.declared.view.View.{View}

pub carries : {B : Type 0} (old new : Me (Option B) View) (book : B) → new ≡ (old.0, (0, Some book) ∷ rest old.1) → old.1 ≡ (0, None) ∷ []
    → new ≡ (old.0, (0, Some book) ∷ [])
carries {B} old new book is empty = is ∙ ap (λ (cs : List (ℕ × Option B)). (old.0, (0, Some book) ∷ rest cs)) empty
