-- How a run ends, before anything is written.
use Rattle.std.specs.Prelude.{ℕ, List, [], ◌≡◌, ◌⊎◌, Result, Ok, Err}
use Rattle.dn_io.specs.Calls.{Call}
use Rattle.base.specs.declared.memory.OutOfMemory.{OutOfMemory}
use Rattle.dn_run.specs.declared.ruling.Ruling.{Ruling}
use Rattle.dn_run.specs.declared.status.Verdict.{Verdict}

-- with a verdict and the text that is due, or anywhere, where memory was wanted
pub data Ending : Type 0 where
  Ruled : (verdict : Verdict) (text : List ℕ) → Ending
  Stopped : Ending

-- what is said of a verdict and its text
abbrev pub IfRuled : Ending → (Verdict → List ℕ → Type 0) → Type 0
IfRuled (Ruled verdict text) says = says verdict text
IfRuled Stopped says = Unit {0}

-- A run goes on like this; or where memory was wanted it stopped, and no further name was asked for.
abbrev pub OrStops : Ending → List Call → Type 0 → Type 0
OrStops (Ruled verdict text) calls next = next
OrStops Stopped calls next = (calls ≡ []) ⊎ next

-- how a call of the code ended
abbrev pub ending_of : Result Ruling OutOfMemory → Ending
ending_of (Ok ruling) = Ruled ruling.verdict ruling.text
ending_of (Err e) = Stopped
