-- What the objects in memory mean.
use Rattle.std.specs.Prelude.{ℕ, ◌+◌, min, nat_eq, Bool, List}
use Rattle.std.specs.List.{list_any}

-- one more, up to 2^64 - 1, where a real counter stays
abbrev pub counted : ℕ → ℕ
counted count = min (count + 1) 18446744073709551615

-- whether the number stands among these
abbrev pub is_among : ℕ → List ℕ → Bool
is_among number numbers = list_any (λ other. nat_eq other number) numbers

-- the numbers of the calls that fail, from 1, the calls so far, and how many of them have failed
pub record PlanView : Type 0 where
  pub fails : List ℕ
  pub calls : ℕ
  pub faults : ℕ

-- whether the next call is one of those that fail
abbrev pub fails_next : PlanView → Bool
fails_next plan = is_among (counted plan.calls) plan.fails

-- a source in memory: the bytes left, how many a read gives at most, its place and its faults
pub record MemSourceView : Type 0 where
  pub left : List ℕ
  pub step : ℕ
  pub place : ℕ
  pub plan : PlanView

-- a sink in memory: the bytes written, how many a write takes at most, and its faults
pub record MemSinkView : Type 0 where
  pub written : List ℕ
  pub step : ℕ
  pub plan : PlanView

-- a source that never fails: the bytes left and its place
pub record SureSourceView : Type 0 where
  pub left : List ℕ
  pub place : ℕ
