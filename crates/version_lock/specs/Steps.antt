-- What each atomic step tells its caller. A seat is its view, and the slot where it holds one.
use Rattle.std.specs.Prelude.{ℕ, ◌≡◌, ◌≢◌, true, false, List, [], ◌∷◌, length, Option, Some, All}
use mathlib.Core.List.{IsPrefix}
use Rattle.atomic_table.specs.Table.{Me, Step}
use Rattle.dn_model.specs.declared.entry.Posted.{Posted}
use Rattle.version_lock.specs.declared.book.Basis.{Basis}
use Rattle.version_lock.specs.declared.view.Setup.{Setup}
use Rattle.version_lock.specs.declared.view.View.{View}
use Rattle.version_lock.specs.History.{HasSameOf}
use Rattle.version_lock.specs.Rule.{Remembers}

-- the view of a seat that has the turn, once it has seen this history
abbrev pub holding : List Posted → View → View
holding history v = record v { seen = history; olds = []; turn = true }

-- the view of a seat that applied its entry
abbrev pub having_seen : List Posted → View → View
having_seen history v = record v { seen = history; olds = [] }

-- the view of a seat that set the turn free
abbrev pub without_turn : View → View
without_turn v = record v { turn = false }

-- the view of a seat that looked at what a join left it
abbrev pub without_olds : View → View
without_olds v = record v { olds = [] }

-- a seat at the table, and the slots that it carries
abbrev Sat : Type 0 → Type 0
Sat B = Me (Option B) View

module _ {B : Type 0} where
  -- the turn is won: all is seen, and the book comes to the seat. Or it was taken, and nothing changes
  abbrev pub won : (B → List Posted) → (B → Basis) → Step (Option B) → Sat B → ℕ → Sat B → Type 0
  won history basis st m found m' =
      (found ≡ 0 → (book : B) × (m' ≡ (holding (history book) m.0, (0, Some book) ∷ m.1))
      × IsPrefix m.0.seen (history book) × HasSameOf m.0.used m.0.seen (history book)
      × ((s : Setup) → m.0.setup ≡ Some s → basis book ≡ s.basis))
      × (found ≢ 0 → m' ≡ m)

  -- an entry joins the history: what the book that the seat carries has is now seen
  abbrev pub applied : (B → List Posted) → Step (Option B) → Sat B → ℕ → Sat B → Type 0
  applied history st m found m' = (book : B) → m.1 ≡ (0, Some book) ∷ [] → m' ≡ (having_seen (history book) m.0, m.1)

  -- the count is the length of what is seen
  abbrev pub counted : Step (Option B) → Sat B → ℕ → Sat B → Type 0
  counted st m found m' = (m' ≡ m) × (found ≡ length m.0.seen)

  -- the turn is free, and the slot at home
  abbrev pub freed : Step (Option B) → Sat B → ℕ → Sat B → Type 0
  freed st m found m' = m' ≡ (without_turn m.0, [])

  -- a seat looks at what a split or a join left it
  abbrev pub recalled : Step (Option B) → Sat B → ℕ → Sat B → Type 0
  recalled st m found m' = (m' ≡ (without_olds m.0, m.1)) × All (Remembers m.0.seen) m.0.olds
