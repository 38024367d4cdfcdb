-- What a call of the world leaves behind where a file is read whole.
use Rattle.std.specs.Prelude.{◌≡◌, ℕ, ◌⊎◌, ◌+◌, ◌≤◌, List, [], ◌∷◌, ◌++◌, length, take, Option, None, Some, IfSome}
use Rattle.std.specs.Prelude.{IsSomeAnd, false, true}
use Rattle.dn_io.specs.Told.{with_front, NothingLeft}
use Rattle.dn_io.specs.Files.{Files, bytes_of}
use Rattle.dn_io.specs.Calls.{Call, CallState, Refused, Back, call_of, state_failed, state_is_out}

-- a topology or a script may have so many bytes; one more is read
abbrev pub text_limit : ℕ
text_limit = 16777216

-- of these bytes a front of at most so many was read, and the rest is left
abbrev pub IsReadFront : List ℕ → ℕ → Option (List ℕ) → Type 0
IsReadFront bytes most left = (front : List ℕ) × (length front ≤ most) × (Some bytes ≡ with_front front left)

-- of these bytes exactly the first so many were read, or all where they are fewer, and the rest is left
abbrev pub IsReadUpTo : List ℕ → ℕ → Option (List ℕ) → Type 0
IsReadUpTo bytes most left = Some bytes ≡ with_front (take most bytes) left

-- What is made of a file's bytes, as far as they are read: of its own bytes, where the world tells them; else of some
-- bytes, which may be those that it had just then.
abbrev pub OnBytes : Option Files → List ℕ → Option (List ℕ) → (List ℕ → Type 0) → Type 0
OnBytes None name left good = (bytes : List ℕ) × (length bytes ≤ text_limit + 1) × good bytes
OnBytes (Some files) name left good =
    IsSomeAnd (bytes_of files name) (λ bytes. IsReadUpTo bytes (text_limit + 1) left × good bytes)

-- what follows with a file's bytes, where the world tells them
abbrev pub WithBytes : Option Files → List ℕ → (Option (List ℕ) → Type 0) → Type 0
WithBytes None name next = next None
WithBytes (Some files) name next = IsSomeAnd (bytes_of files name) (λ bytes. next (Some bytes))

-- what came of the file of this name: some bytes, no more than one past the limit; where the world tells it, these
-- first bytes, to its end or one past the limit
abbrev pub ComesFrom : Option Files → List ℕ → ℕ → List ℕ → Option (List ℕ) → Type 0
ComesFrom None name limit bytes left = length bytes ≤ limit + 1
ComesFrom (Some files) name limit bytes left =
    IsSomeAnd (bytes_of files name) (λ all. (Some all ≡ with_front bytes left) × (bytes ≡ take (limit + 1) all))

-- the file of this name was opened, these bytes were read of it without a fault, and it was given back
abbrev pub WasRead : Option Files → ℕ → List Call → List ℕ → List Call → List ℕ → Type 0
WasRead files limit old name new bytes =
    (left : Option (List ℕ)) × (new ≡ old ++ call_of name (Back false left) ∷ [])
    × ComesFrom files name limit bytes left

-- read to the end, or as far as one byte past the limit
abbrev pub IsReadTo : ℕ → List ℕ → Option (List ℕ) → Type 0
IsReadTo limit bytes left = NothingLeft left ⊎ (length bytes ≡ limit + 1)

-- a source gave at most so many of its bytes
abbrev pub LeavesFront : ℕ → Option (List ℕ) → Option (List ℕ) → Type 0
LeavesFront most old new = (front : List ℕ) × (length front ≤ most) × (old ≡ with_front front new)

-- a file was not opened; or it was, a read failed within the limit, and it was given back
abbrev pub FailsAt : Files → List ℕ → ℕ → CallState → Type 0
FailsAt files name limit Refused = Unit {0}
FailsAt files name limit (Back true left) = IsSomeAnd (bytes_of files name) (λ all. IsReadFront all limit left)
FailsAt files name limit _ = ⊥

abbrev pub FailsWhereTold : Option Files → List ℕ → ℕ → CallState → Type 0
FailsWhereTold files name limit state = IfSome files (λ fs. FailsAt fs name limit state)

-- the file of this name failed
abbrev pub WasFault : Option Files → ℕ → List Call → List ℕ → List Call → Type 0
WasFault files limit old name new =
    (state : CallState) × (new ≡ old ++ call_of name state ∷ []) × (state_failed state ≡ true)
    × (state_is_out state ≡ false) × FailsWhereTold files name limit state

-- this name was asked for, and its source is not out; or nothing was
abbrev pub MayCallOne : List Call → List ℕ → List Call → Type 0
MayCallOne old name new =
    (new ≡ old) ⊎ ((state : CallState) × (new ≡ old ++ call_of name state ∷ []) × (state_is_out state ≡ false))
