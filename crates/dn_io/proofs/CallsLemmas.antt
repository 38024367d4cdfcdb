-- Laws of lists of calls.
use Rattle.std.proofs.Common.{◌≡◌, ◌≢◌, ℕ, zero, suc, ◌<◌, ◌+◌, List, [], ◌∷◌, ◌++◌, length, get_or, set, refl, ap, sym, ◌∙◌, subst, arith, Option, Some, None, string_bytes, map, Bool, true, false, ◌||◌, Result, Ok, Err, OnOk, OnErr}
use Rattle.std.proofs.lemmas.List.{length-map, length-append}
use Rattle.dn_io.specs.Calls.{Call, CallState, Back, call_of, with_out, with_state, state_at, name_at, some_failed, state_failed, NoneFailed, IsOutAt, Out, NoneOut, back_with, names_of, some_out, state_is_out}
use Rattle.dn_io.specs.BookView.{shown_entry, shown_state}
use Rattle.dn_io.specs.declared.call_book.Entry.{Entry}
use Rattle.dn_io.specs.declared.call_book.NameState.{NameState}

-- a write to one kept state is a write to the state that it stands for
pub shown-set : (es : List Entry) (i : ℕ) (e d : Entry) → i < length es → e.name ≡ (get_or es i d).name → map shown_entry (set es i e) ≡ with_state (map shown_entry es) i (shown_state e.state)
shown-set [] i e d below same = grind arith
shown-set (x ∷ es) zero e d below same = ap (λ n. call_of (string_bytes n) (shown_state e.state) ∷ map shown_entry es) same
shown-set (x ∷ es) (suc i) e d below same = ap (λ t. shown_entry x ∷ t) (shown-set es i e d (omega (arith, below)) same)

-- what stands at a place
pub shown-state_at : (es : List Entry) (i : ℕ) (d : Entry) → i < length es → state_at (map shown_entry es) i ≡ Some (shown_state (get_or es i d).state)
shown-state_at [] i d below = grind arith
shown-state_at (x ∷ es) zero d below = refl
shown-state_at (x ∷ es) (suc i) d below = shown-state_at es i d (omega (arith, below))

pub shown-name_at : (es : List Entry) (i : ℕ) (d : Entry) → i < length es → name_at (map shown_entry es) i ≡ Some (string_bytes (get_or es i d).name)
shown-name_at [] i d below = grind arith
shown-name_at (x ∷ es) zero d below = refl
shown-name_at (x ∷ es) (suc i) d below = shown-name_at es i d (omega (arith, below))

-- a place of the calls is a place of what is kept
below_kept : (es : List Entry) (calls : List Call) (i : ℕ) → map shown_entry es ≡ calls → i < length calls → i < length es
below_kept es calls i v below =
    let Below : List Call → Type 0 = λ t. i < length t in
    let at_length : ℕ → Type 0 = λ n. i < n in
    subst at_length (length-map es shown_entry) (subst Below (sym v) below)

-- the same three, for the calls that a book shows and the entry that stands at the place
pub state-kept : (es : List Entry) (calls : List Call) (i : ℕ) (e : Entry) → map shown_entry es ≡ calls → i < length calls → e ≡ get_or es i e → state_at calls i ≡ Some (shown_state e.state)
state-kept es calls i e v below is =
    ap (λ t. state_at t i) (sym v) ∙ shown-state_at es i e (below_kept es calls i v below) ∙ ap (λ x. Some (shown_state x.state)) (sym is)

pub name-kept : (es : List Entry) (calls : List Call) (i : ℕ) (e : Entry) → map shown_entry es ≡ calls → i < length calls → e ≡ get_or es i e → name_at calls i ≡ Some (string_bytes e.name)
name-kept es calls i e v below is =
    ap (λ t. name_at t i) (sym v) ∙ shown-name_at es i e (below_kept es calls i v below) ∙ ap (λ x. Some (string_bytes x.name)) (sym is)

pub set-kept : (es : List Entry) (calls : List Call) (i : ℕ) (e : Entry) (s : NameState) → map shown_entry es ≡ calls → i < length calls → e ≡ get_or es i e → map shown_entry (set es i (record { name = e.name; state = s })) ≡ with_state calls i (shown_state s)
set-kept es calls i e s v below is =
    shown-set es i (record { name = e.name; state = s }) e (below_kept es calls i v below) (ap (λ x. x.name) is)
    ∙ ap (λ t. with_state t i (shown_state s)) v

-- what is Out is a place of the calls
pub IsOutAt-below : (calls : List Call) (i : ℕ) → IsOutAt calls i → i < length calls
IsOutAt-below [] i e = grind (arith, e)
IsOutAt-below (x ∷ calls) zero e = omega arith
IsOutAt-below (x ∷ calls) (suc i) e = let h = IsOutAt-below calls i e in omega (arith, h)

-- a name that was handed out has not failed
pub some_failed-out : (calls : List Call) (name : List ℕ) → some_failed (with_out calls name) ≡ some_failed calls
some_failed-out [] name = refl
some_failed-out (x ∷ calls) name = ap (λ b. state_failed x.state || b) (some_failed-out calls name)

or_right : (a b : Bool) → (a || b) ≡ false → b ≡ false
or_right true b h = grind (arith, h)
or_right false b h = h

or_left : (a b : Bool) → (a || b) ≡ false → a ≡ false
or_left true b h = h
or_left false b h = refl

or_assoc : (a b c : Bool) → (a || (b || c)) ≡ (a || b || c)
or_assoc true b c = refl
or_assoc false b c = refl

-- a source that came back without a fault adds none
pub NoneFailed-back : (calls : List Call) (i : ℕ) (left : Option (List ℕ)) → NoneFailed calls → NoneFailed (with_state calls i (Back false left))
NoneFailed-back [] i left h = h
NoneFailed-back (x ∷ calls) zero left h = or_right (state_failed x.state) (some_failed calls) h
NoneFailed-back (x ∷ calls) (suc i) left h =
    rw (or_left (state_failed x.state) (some_failed calls) h) (NoneFailed-back calls i left (or_right (state_failed x.state) (some_failed calls) h))

-- whether or not a name was added as handed out, none has failed
pub NoneFailed-added : {T E : Type 0} (r : Result T E) (old new : List Call) (name : List ℕ) → OnOk r (new ≡ with_out old name) → OnErr r (new ≡ old) → NoneFailed old → NoneFailed new
NoneFailed-added (Ok x) old new name added same h = ap some_failed added ∙ some_failed-out old name ∙ h
NoneFailed-added (Err x) old new name added same h = ap some_failed same ∙ h

-- a name that was just handed out stands as Out at the end
pub state_at-out : (calls : List Call) (name : List ℕ) → state_at (with_out calls name) (length calls) ≡ Some Out
state_at-out [] name = refl
state_at-out (x ∷ calls) name = state_at-out calls name

-- given back at once, it is the last entry, with its new state
pub with_state-out : (calls : List Call) (name : List ℕ) (s : CallState) → with_state (with_out calls name) (length calls) s ≡ calls ++ call_of name s ∷ []
with_state-out [] name s = refl
with_state-out (x ∷ calls) name s = ap (λ t. x ∷ t) (with_state-out calls name s)

-- an entry of the calls before stays where it is
pub state_at-append : (calls more : List Call) (i : ℕ) → i < length calls → state_at (calls ++ more) i ≡ state_at calls i
state_at-append [] more i below = grind (arith, below)
state_at-append (x ∷ calls) more zero below = refl
state_at-append (x ∷ calls) more (suc i) below = state_at-append calls more i (omega (arith, below))

-- a change of state changes that entry
pub state_at-with_state_same : (calls : List Call) (i : ℕ) (s : CallState) → i < length calls → state_at (with_state calls i s) i ≡ Some s
state_at-with_state_same [] i s below = grind (arith, below)
state_at-with_state_same (x ∷ calls) zero s below = refl
state_at-with_state_same (x ∷ calls) (suc i) s below = state_at-with_state_same calls i s (omega (arith, below))

-- and no other
pub state_at-with_state_other : (calls : List Call) (i j : ℕ) (s : CallState) → i ≢ j → state_at (with_state calls i s) j ≡ state_at calls j
state_at-with_state_other [] i j s apart = refl
state_at-with_state_other (x ∷ calls) zero zero s apart = absurd (apart refl)
state_at-with_state_other (x ∷ calls) zero (suc j) s apart = refl
state_at-with_state_other (x ∷ calls) (suc i) zero s apart = refl
state_at-with_state_other (x ∷ calls) (suc i) (suc j) s apart = state_at-with_state_other calls i j s (λ e. apart (ap suc e))

-- a change of state keeps the names
pub names_of-with_state : (calls : List Call) (i : ℕ) (s : CallState) → names_of (with_state calls i s) ≡ names_of calls
names_of-with_state [] i s = refl
names_of-with_state (x ∷ calls) zero s = refl
names_of-with_state (x ∷ calls) (suc i) s = ap (λ t. x.name ∷ t) (names_of-with_state calls i s)

-- and their number
pub length-with_state : (calls : List Call) (i : ℕ) (s : CallState) → length (with_state calls i s) ≡ length calls
length-with_state [] i s = refl
length-with_state (x ∷ calls) zero s = refl
length-with_state (x ∷ calls) (suc i) s = ap suc (length-with_state calls i s)

-- the names of two lists, one after the other
pub names_of-append : (calls more : List Call) → names_of (calls ++ more) ≡ names_of calls ++ names_of more
names_of-append [] more = refl
names_of-append (x ∷ calls) more = ap (λ t. x.name ∷ t) (names_of-append calls more)

-- whether some entry of two lists is Out
pub some_out-append : (calls more : List Call) → some_out (calls ++ more) ≡ (some_out calls || some_out more)
some_out-append [] more = refl
some_out-append (x ∷ calls) more = ap (λ b. state_is_out x.state || b) (some_out-append calls more) ∙ or_assoc (state_is_out x.state) (some_out calls) (some_out more)

-- whether some entry of two lists has failed
pub some_failed-append : (calls more : List Call) → some_failed (calls ++ more) ≡ (some_failed calls || some_failed more)
some_failed-append [] more = refl
some_failed-append (x ∷ calls) more = ap (λ b. state_failed x.state || b) (some_failed-append calls more) ∙ or_assoc (state_failed x.state) (some_failed calls) (some_failed more)

-- a name that was handed out and given back leaves none Out
pub NoneOut-given : (calls : List Call) (name : List ℕ) (faults : ℕ) (left : Option (List ℕ)) → NoneOut calls → NoneOut (with_state (with_out calls name) (length calls) (back_with faults left))
NoneOut-given calls name faults left h =
    ap some_out (with_state-out calls name (back_with faults left)) ∙ some_out-append calls (call_of name (back_with faults left) ∷ []) ∙ ap (λ b. b || false) h

-- a name that was handed out and given back is one entry more
pub length-given : (calls : List Call) (name : List ℕ) (i : ℕ) (s : CallState) → length (with_state (with_out calls name) i s) ≡ length calls + 1
length-given calls name i s = length-with_state (with_out calls name) i s ∙ length-append calls (call_of name Out ∷ [])

-- what reading a file of a world cites
pub ruleset handed = (state_at-out, NoneOut-given, some_out-append, length-given)
