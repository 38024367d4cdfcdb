-- The names that a world was asked for, in order, and what became of each.
use Rattle.std.specs.Prelude.{◌≡◌, ℕ, zero, suc, ◌==◌, not, ◌||◌, Bool, true, false, List, [], ◌∷◌, ◌++◌, Option, Some, None}
use Rattle.dn_io.specs.declared.refusals.WorldRefused.{WorldRefused}
use Rattle.dn_io.specs.declared.refusals.WorldRefused.TheVariants.{Failed, OutOfMemory}

-- Out: its source was handed out. Refused: it could not be opened. Back: its source was given back;
-- whether that had failed, and the bytes left in it, where it tells them.
pub data CallState : Type 0 where
  Out : CallState
  Refused : CallState
  Back : (failed : Bool) (left : Option (List ℕ)) → CallState

-- a name that was asked for, and its state
pub record Call : Type 0 where
  pub name : List ℕ
  pub state : CallState

-- an entry of this name and state
abbrev pub call_of : List ℕ → CallState → Call
call_of name state = record { name = name; state = state }

-- the calls after this name was handed out
abbrev pub with_out : List Call → List ℕ → List Call
with_out calls name = calls ++ call_of name Out ∷ []

-- the calls after this name was refused: want of memory leaves no entry
abbrev pub with_refusal : WorldRefused → List Call → List ℕ → List Call
with_refusal Failed calls name = calls ++ call_of name Refused ∷ []
with_refusal OutOfMemory calls name = calls

-- the calls with this state at this place, which counts from 0
abbrev pub with_state : List Call → ℕ → CallState → List Call
with_state [] place state = []
with_state (call ∷ rest) zero state = call_of call.name state ∷ rest
with_state (call ∷ rest) (suc place) state = call ∷ with_state rest place state

-- the state of a source that is given back, with its count of faults and the bytes left in it
abbrev pub back_with : ℕ → Option (List ℕ) → CallState
back_with faults left = Back (not (faults == 0)) left

-- the state at this place
abbrev pub state_at : List Call → ℕ → Option CallState
state_at [] place = None
state_at (call ∷ rest) zero = Some call.state
state_at (call ∷ rest) (suc place) = state_at rest place

-- the entry at this place is Out
abbrev pub IsOutAt : List Call → ℕ → Type 0
IsOutAt calls place = state_at calls place ≡ Some Out

-- whether a state is Refused, or Back with a count that isn't 0
abbrev pub state_failed : CallState → Bool
state_failed Out = false
state_failed Refused = true
state_failed (Back failed left) = failed

-- whether a state is Out
abbrev pub state_is_out : CallState → Bool
state_is_out Out = true
state_is_out Refused = false
state_is_out (Back failed left) = false

-- whether some entry has failed
abbrev pub some_failed : List Call → Bool
some_failed [] = false
some_failed (call ∷ rest) = state_failed call.state || some_failed rest

-- whether some entry is Out
abbrev pub some_out : List Call → Bool
some_out [] = false
some_out (call ∷ rest) = state_is_out call.state || some_out rest

-- every source was given back
abbrev pub NoneOut : List Call → Type 0
NoneOut calls = some_out calls ≡ false

-- no entry has failed
abbrev pub NoneFailed : List Call → Type 0
NoneFailed calls = some_failed calls ≡ false

-- the names, in order
abbrev pub names_of : List Call → List (List ℕ)
names_of [] = []
names_of (call ∷ rest) = call.name ∷ names_of rest

-- the bytes left in a source that came back, where they are told
abbrev pub left_in : CallState → Option (List ℕ)
left_in Out = None
left_in Refused = None
left_in (Back failed left) = left

-- the name at this place
abbrev pub name_at : List Call → ℕ → Option (List ℕ)
name_at [] place = None
name_at (call ∷ rest) zero = Some call.name
name_at (call ∷ rest) (suc place) = name_at rest place
