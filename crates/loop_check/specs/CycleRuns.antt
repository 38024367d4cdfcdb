-- Cycles that rows showed so far, by their routers, with the runs of the addresses that go round them.
use Rattle.std.specs.Prelude.{ℕ, List, Option, None, Some, ◌≡◌, ◌+◌, ◌<◌, IsFalse, IsTrue}
use Rattle.std.specs.BTreeMap.{is_at}
use Rattle.std.specs.Cmp.Lexicographic.{slice_cmp}
use Rattle.std.specs.Global.{Vec}
use Rattle.std.specs.Map.{lookup}
use Rattle.base.specs.Cycles.{goes_round}
use Rattle.base.specs.Forwarding.{does}
use Rattle.base.specs.contracts.ids.RouterIdOrd.TheImpl.{cmp-value}
use Rattle.base.specs.declared.forwarding_row.ForwardingRow.{ForwardingRow}
use Rattle.base.specs.declared.ids.RouterId.{RouterId}
use Rattle.label_view.specs.Gathered.{Gathered}
use Rattle.label_view.specs.Places.{AreGatheredTo, begin_of}

-- what stands under a cycle's routers
unfoldable pub value_under : {X : Type 0} → List (Vec RouterId × X) → List RouterId → Option X
value_under known routers = lookup (is_at (λ k. slice_cmp cmp-value.it routers k.items)) known

-- the cycle of these routers is known
pub record HasKnown {X : Type 0} (known : List (Vec RouterId × X)) (routers : List RouterId) : Type 0 where
  pub value : X
  pub is : value_under known routers ≡ Some value

-- the runs of each are of the addresses of the rows before a place that go round it
pub record AreKnownTo (rows : List ForwardingRow) (i : ℕ) (known : List (Vec RouterId × Gathered)) : Type 0 where
  pub each : (routers : List RouterId) (runs : Gathered) → value_under known routers ≡ Some runs
      → AreGatheredTo runs rows i (goes_round (does rows) routers)

-- all cycles of the addresses of the rows before a place are among these
pub record HaveAllBefore (rows : List ForwardingRow) (i : ℕ) (known : List (Vec RouterId × Gathered)) : Type 0 where
  pub all : (routers : List RouterId) (a : ℕ) → a < begin_of rows i → IsTrue (goes_round (does rows) routers a)
      → HasKnown known routers

-- the runs of a cycle are of the addresses of the rows before a place; without runs no such address goes round it
abbrev pub AreRunsTo : List ForwardingRow → ℕ → List RouterId → Option Gathered → Type 0
AreRunsTo rows i routers None = (a : ℕ) → a < begin_of rows i → IsFalse (goes_round (does rows) routers a)
AreRunsTo rows i routers (Some runs) = AreGatheredTo runs rows i (goes_round (does rows) routers)

-- the addresses of the row at a place added to the runs of the cycle of these routers
pub record IsAdded (rows : List ForwardingRow) (i : ℕ) (routers : List RouterId)
    (old new : List (Vec RouterId × Gathered)) : Type 0 where
  pub there : HasKnown new routers
  pub exact : (runs : Gathered) → value_under new routers ≡ Some runs
      → AreGatheredTo runs rows (i + 1) (goes_round (does rows) routers)
  pub other : (others : List RouterId) → (routers ≡ others → ⊥) → value_under new others ≡ value_under old others
