-- How kept cycles are changed.
use Rattle.std.specs.Prelude.{ℕ, List, [], ◌∷◌, ◌++◌, ◌≡◌, ◌-◌, ◌<◌, ◌≤◌, ◌^◌, ◌⊎◌, Contains, IsFalse, length, slice_index_or, if◌then◌else◌}
use Rattle.std.specs.List.{insert}
use Rattle.base.specs.declared.change.Change.{Change}
use Rattle.base.specs.declared.ids.RouterId.{RouterId}
use Rattle.loop_check.specs.Following.{is_among}
use Rattle.loop_keeper.specs.Finding.{HasFound, is_touched}
use Rattle.loop_keeper.specs.Kept.{AreSegments, HasKept, IsOnce, Kept}
use Rattle.loop_keeper.specs.declared.found.Found.{Found}
use Rattle.loop_keeper.specs.declared.segment.Edit.{Edit}
use Rattle.loop_keeper.specs.declared.segment.Edit.TheVariants.{Without, With}

-- the cycles that don't have a router
abbrev pub cycles_without : RouterId → List (List RouterId) → List (List RouterId)
cycles_without router [] = []
cycles_without router (rs ∷ rest) = (if is_among rs router then [] else rs ∷ []) ++ cycles_without router rest

-- an edit lets a cycle stand
abbrev pub Keeps : Edit → List RouterId → Type 0
Keeps (Without router) routers = IsFalse (is_among routers router)
Keeps (With one) routers = Unit {0}

-- an edit brings a cycle
abbrev pub Brings : Edit → List RouterId → Type 0
Brings (Without router) routers = ⊥
Brings (With one) routers = one ≡ routers

-- the cycles of a segment changed by an edit
pub record IsChangedBy (edit : Edit) (old new : List (List RouterId)) : Type 0 where
  pub once : IsOnce old → IsOnce new
  pub only : (routers : List RouterId) → Contains new routers → (Contains old routers × Keeps edit routers) ⊎ Brings edit routers
  pub kept : (routers : List RouterId) → Contains old routers → Keeps edit routers → Contains new routers
  pub here : (routers : List RouterId) → Brings edit routers → Contains new routers

-- the segments from a place up to, and without, another one changed by an edit
pub record AreChangedTo (edit : Edit) (first past : ℕ) (old new : List Kept) : Type 0 where
  pub long : length new ≡ length old
  pub low : (k : ℕ) (d : Kept) → (slice_index_or new k d).low ≡ (slice_index_or old k d).low
  pub before : (k : ℕ) (d : Kept) → k < first → slice_index_or new k d ≡ slice_index_or old k d
  pub after : (k : ℕ) (d : Kept) → past ≤ k → slice_index_or new k d ≡ slice_index_or old k d
  pub here : (k : ℕ) (d : Kept) → first ≤ k → k < past → k < length old
      → IsChangedBy edit (slice_index_or old k d).cycles (slice_index_or new k d).cycles

-- a segment begins at an address, if it is one
pub record Begins (kept : List Kept) (at : ℕ) : Type 0 where
  pub place : ℕ
  pub inside : place < length kept
  pub is : (d : Kept) → (slice_index_or kept place d).low ≡ at

-- a segment put at a place, with the cycles of the one before it, or none where it is the first
pub record IsInserted (place at : ℕ) (old new : List Kept) : Type 0 where
  pub one : Kept
  pub low : one.low ≡ at
  pub first : place ≡ 0 → one.cycles ≡ []
  pub same : (d : Kept) → 0 < place → one.cycles ≡ (slice_index_or old (place - 1) d).cycles
  pub is : new ≡ insert old place one

-- segments cut at an address
pub record IsCut (at : ℕ) (old new : List Kept) : Type 0 where
  pub form : AreSegments new
  pub begins : at < 2 ^ 32 → Begins new at
  pub still : (b : ℕ) → Begins old b → Begins new b
  pub only : (routers : List RouterId) (a : ℕ) → HasKept new routers a → HasKept old routers a
  pub kept : (routers : List RouterId) (a : ℕ) → HasKept old routers a → HasKept new routers a

-- the cycles of the addresses from `low` up to, and without, `past` changed by an edit
pub record AreChangedWithin (edit : Edit) (low past : ℕ) (old new : List Kept) : Type 0 where
  pub form : AreSegments new
  pub only : (routers : List RouterId) (a : ℕ) → a < 2 ^ 32 → HasKept new routers a
      → (HasKept old routers a × (low ≤ a → a < past → Keeps edit routers)) ⊎ (Brings edit routers × (low ≤ a) × (a < past))
  pub kept : (routers : List RouterId) (a : ℕ) → a < 2 ^ 32 → HasKept old routers a
      → (low ≤ a → a < past → Keeps edit routers) → HasKept new routers a
  pub here : (routers : List RouterId) (a : ℕ) → a < 2 ^ 32 → Brings edit routers → low ≤ a → a < past
      → HasKept new routers a

-- other segments, by which each address has the same cycles
pub record AreAlike (old new : List Kept) : Type 0 where
  pub form : AreSegments new
  pub only : (routers : List RouterId) (a : ℕ) → HasKept new routers a → HasKept old routers a
  pub kept : (routers : List RouterId) (a : ℕ) → HasKept old routers a → HasKept new routers a

-- the addresses of changes taken out of the cycles that have their routers
pub record AreTakenOut (changes : List Change) (old new : List Kept) : Type 0 where
  pub form : AreSegments new
  pub only : (routers : List RouterId) (a : ℕ) → a < 2 ^ 32 → HasKept new routers a
      → HasKept old routers a × IsFalse (is_touched changes routers a)
  pub kept : (routers : List RouterId) (a : ℕ) → a < 2 ^ 32 → HasKept old routers a → IsFalse (is_touched changes routers a)
      → HasKept new routers a

-- what was found put beside what is kept
pub record ArePutIn (found : List Found) (old new : List Kept) : Type 0 where
  pub form : AreSegments new
  pub only : (routers : List RouterId) (a : ℕ) → a < 2 ^ 32 → HasKept new routers a
      → HasKept old routers a ⊎ HasFound found routers a
  pub kept : (routers : List RouterId) (a : ℕ) → a < 2 ^ 32 → HasKept old routers a → HasKept new routers a
  pub here : (routers : List RouterId) (a : ℕ) → a < 2 ^ 32 → HasFound found routers a → HasKept new routers a

-- changes taken out, and what was found put in
pub record AreEdited (changes : List Change) (found : List Found) (old new : List Kept) : Type 0 where
  pub out : List Kept
  pub taken : AreTakenOut changes old out
  pub put : ArePutIn found out new
