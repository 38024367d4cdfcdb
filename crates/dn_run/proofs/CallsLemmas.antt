-- What the world's calls are after a name was opened and its source given back.
use Rattle.std.proofs.Common.{◌≡◌, ℕ, zero, suc, List, [], ◌∷◌, ◌++◌, Some, length, refl, ap}
use Rattle.dn_io.specs.Calls.{Call, CallState, Out, call_of, with_out, with_state, state_at, names_of}

pub state_at-with_out : (calls : List Call) (name : List ℕ) → state_at (with_out calls name) (length calls) ≡ Some Out
state_at-with_out [] name = refl
state_at-with_out (call ∷ rest) name = state_at-with_out rest name

pub with_state-with_out : (calls : List Call) (name : List ℕ) (state : CallState) → with_state (with_out calls name) (length calls) state ≡ calls ++ call_of name state ∷ []
with_state-with_out [] name state = refl
with_state-with_out (call ∷ rest) name state = ap (λ cs. call ∷ cs) (with_state-with_out rest name state)

pub names_of-with_state : (calls : List Call) (place : ℕ) (state : CallState) → names_of (with_state calls place state) ≡ names_of calls
names_of-with_state [] place state = refl
names_of-with_state (call ∷ rest) zero state = refl
names_of-with_state (call ∷ rest) (suc place) state = ap (λ ns. call.name ∷ ns) (names_of-with_state rest place state)

pub names_of-append : (xs ys : List Call) → names_of (xs ++ ys) ≡ names_of xs ++ names_of ys
names_of-append [] ys = refl
names_of-append (x ∷ xs) ys = ap (λ ns. x.name ∷ ns) (names_of-append xs ys)
