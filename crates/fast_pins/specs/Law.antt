-- The law of the book in which a publisher notes each list that it publishes, and what its steps tell.
use Rattle.std.specs.Prelude.{ℕ, ◌≡◌, ◌<◌, ◌==◌, true, List, [], ◌∷◌, ◌++◌, length, fold, filter, map, Option, Some, None}
use mathlib.Core.List.{IsPrefix}
use Rattle.logbook.specs.Pages.{Book, Cell, Named, Step, View, cell, may_make}
use Rattle.dn_model.specs.declared.entry.Posted.{Posted}
use Rattle.dn_model.specs.declared.topology.Topology.{Topology}
use Rattle.fast_pins.specs.declared.issue.Issue.{Issue}
use Rattle.fast_pins.specs.declared.issue.Origin.{Origin}
use Rattle.fast_pins.specs.Known.{Known}

-- ---- the last issue of a log

abbrev pub line_in : List Issue → ℕ
line_in log = fold (λ _ issue. issue.line) 0 log

abbrev pub next_in : List Issue → ℕ
next_in log = fold (λ _ issue. issue.next) 0 log

abbrev pub topology_in : List Issue → Option Topology
topology_in log = fold (λ _ issue. Some issue.topology) None log

abbrev pub list_in : List Issue → List Posted
list_in log = fold (λ _ issue. issue.list) [] log

-- the lists that were published in a line, in order
abbrev pub lists_of : ℕ → List Issue → List (List Posted)
lists_of line log = map (λ issue. issue.list) (filter (λ issue. issue.line == line) log)

-- ---- the law

-- the right to write this cell is used up
abbrev pub IsHome : List Cell → ℕ → Type 0
IsHome cells key = (cell cells key).1 ≡ true

-- the right to follow the last issue of xs is used up, and the last of ys has its network and begins with its list
pub record Follows (cells : List Cell) (xs ys : List Issue) : Type 0 where
  pub used : IsHome cells (next_in xs)
  pub same : topology_in xs ≡ topology_in ys
  pub begins : IsPrefix (list_in xs) (list_in ys)

-- Each line was begun by a right that is used up, and of two issues of a line the later one follows the earlier.
pub record IsKept (cells : List Cell) (log : List Issue) : Type 0 where
  pub some_cell : 0 < length cells
  pub first_cell : IsHome cells 0
  pub begun : (xs : List Issue) → IsPrefix xs log → 0 < length xs → IsHome cells (line_in xs)
  pub follows : (xs ys : List Issue) → IsPrefix xs ys → IsPrefix ys log → 0 < length xs → length xs < length ys
      → line_in xs ≡ line_in ys → Follows cells xs ys

-- ---- a book and what is known by it

abbrev pub head_of : Book → Named
head_of b = record { tracked = true; key = 0; book = b }

abbrev pub origin_of : Book → ℕ → Origin
origin_of b line = record { number = b.number; log_name = b.log_name; cells_name = b.cells_name; line = line }

-- what a log tells of the line of its last issue
abbrev pub known_by : Book → List Issue → Topology → Known
known_by b log topology =
    record { origin = origin_of b (line_in log); topology = topology; lists = lists_of (line_in log) log }

-- the log ends with an issue of this network and this list
pub record Ends (log : List Issue) (topology : Topology) (list : List Posted) : Type 0 where
  pub before : List Issue
  pub last : Issue
  pub log_is : log ≡ before ++ last ∷ []
  pub topology_is : last.topology ≡ topology
  pub list_is : last.list ≡ list

-- a log has issues, and its last one is of the line of the other log's
pub record IsOfLine (log other : List Issue) : Type 0 where
  pub some_issue : 0 < length log
  pub same_line : line_in log ≡ line_in other

-- ---- steps

abbrev pub issue_in : ℕ → ℕ → Issue → Issue
issue_in line next ask = record ask { line = line; next = next }

-- a right to write a new cell was made
abbrev pub Arms : Step Issue → View Issue ℕ → ℕ → View Issue ℕ → Type 0
Arms s v found w = w.1.0.right ≡ may_make

-- a line was begun, under the key of the right that was used up
abbrev pub Begins : Step Issue → View Issue ℕ → ℕ → View Issue ℕ → Type 0
Begins s v found w =
    (log : List Issue) × (w.0 ≡ log ++ issue_in v.1.0.key s.ask.next s.ask ∷ []) × (lists_of v.1.0.key log ≡ [])

-- an issue was added to the line of the last one that was seen, with none between
abbrev pub Adds : Step Issue → View Issue ℕ → ℕ → View Issue ℕ → Type 0
Adds s v found w =
    (log : List Issue) × (w.0 ≡ log ++ issue_in (line_in v.0) s.ask.next s.ask ∷ [])
    × (lists_of (line_in v.0) log ≡ lists_of (line_in v.0) v.0)

-- whoever has the right to follow the last issue of xs has seen all lists of its line, and keeps that right
abbrev pub Looks : Step Issue → View Issue ℕ → ℕ → View Issue ℕ → Type 0
Looks s v found w =
    (w.1.0 ≡ v.1.0) × ((xs : List Issue) → IsPrefix xs v.0 → 0 < length xs → v.1.0.key ≡ next_in xs
    → lists_of (line_in xs) w.0 ≡ lists_of (line_in xs) xs)
