-- How the steps of a run follow one another.
use Rattle.std.proofs.Common.{◌≡◌, ℕ, ◌+◌, Bool, true, false, ◌||◌, Result, Ok, Err, IsSomeAnd, List, [], ◌∷◌, ◌++◌, Option, None, Some, refl, ap, sym, ◌∙◌, inl, inr, append_assoc}
use Rattle.std.specs.Result.{IsErrAnd}
use Rattle.std.proofs.lemmas.List.{append-nil}
use Rattle.dn_io.specs.Calls.{Call, CallState, Out, Refused, Back, call_of, names_of, some_out, some_failed, state_failed, state_is_out}
use Rattle.dn_io.specs.Files.{Files, bytes_of}
use Rattle.dn_formats.specs.declared.error_line.ErrorLine.{ErrorLine}
use Rattle.dn_run.specs.Ending.{Ending, Ruled, Stopped, IfRuled, OrStops, ending_of}
use Rattle.dn_run.specs.Opened.{text_limit, FailsWhereTold, IsReadUpTo, MayCallOne, OnBytes}
use Rattle.dn_run.specs.Run.{IsLine, OnFile}
use Rattle.dn_run.specs.Stage.{Stage, is_fault, may_end_early}
use Rattle.base.specs.declared.memory.OutOfMemory.{OutOfMemory}
use Rattle.dn_run.specs.declared.ruling.Ruling.{Ruling}
use Rattle.dn_run.specs.declared.status.Verdict.{Verdict}
use Rattle.dn_run.proofs.AskedLemmas.{are-cons, are-early}

-- ---- endings

pub or-go : (ending : Ending) (calls : List Call) (next : Type 0) → next → OrStops ending calls next
or-go (Ruled v t) calls next p = p
or-go Stopped calls next p = inr p

pub or-map : (ending : Ending) (calls : List Call) (P Q : Type 0) → (P → Q) → OrStops ending calls P → OrStops ending calls Q
or-map (Ruled v t) calls P Q f p = f p
or-map Stopped calls P Q f (inl none) = inl none
or-map Stopped calls P Q f (inr p) = inr (f p)

-- the exit of a `?`
pub stops-at : (Q : OutOfMemory → Type 0) (result : Result Ruling OutOfMemory) → IsErrAnd result Q → ending_of result ≡ Stopped
stops-at Q (Ok x) is = absurd is
stops-at Q (Err e) is = refl

-- whether something failed, where a line says so
pub fails-as : (ending : Ending) (verdict : Verdict) (error : ErrorLine) (b : Bool) → b ≡ is_fault verdict → IsLine ending verdict error → IfRuled ending (λ v t. b ≡ is_fault v)
fails-as (Ruled v t) verdict error b is line = is ∙ ap is_fault (sym line.0)
fails-as Stopped verdict error b is line = tt

-- ---- files

some-and : {A : Type 0} (P Q : A → Type 0) (o : Option A) → ((a : A) → P a → Q a) → IsSomeAnd o P → IsSomeAnd o Q
some-and P Q None f is = is
some-and P Q (Some a) f is = f a is

pub on-bytes-map : (files : Option Files) (name : List ℕ) (left : Option (List ℕ)) (P Q : List ℕ → Type 0) → ((bytes : List ℕ) → P bytes → Q bytes) →
    OnBytes files name left P → OnBytes files name left Q
on-bytes-map None name left P Q f says = (says.0, says.1, f says.0 says.2)
on-bytes-map (Some fs) name left P Q f says =
    some-and (λ bytes. IsReadUpTo bytes (text_limit + 1) left × P bytes) (λ bytes. IsReadUpTo bytes (text_limit + 1) left × Q bytes) (bytes_of fs name) (λ bytes p. (p.0, f bytes p.1)) says

-- what comes of a file's bytes, whichever they are
pub on-bytes-out : (files : Option Files) (name : List ℕ) (left : Option (List ℕ)) (good : List ℕ → Type 0) (Q : Type 0) → ((bytes : List ℕ) → good bytes → Q) → OnBytes files name left good → Q
on-bytes-out None name left good Q f says = f says.0 says.2
on-bytes-out (Some fs) name left good Q f says = of-some (bytes_of fs name) says
  where
    of-some : (o : Option (List ℕ)) → IsSomeAnd o (λ bytes. IsReadUpTo bytes (text_limit + 1) left × good bytes) → Q
    of-some None is = absurd is
    of-some (Some bytes) is = f bytes is.1

-- what follows a fault of a file
pub on-fault : (files : Option Files) (name : List ℕ) (state : CallState) (fault : Type 0) (good : List ℕ → Type 0) → state_failed state ≡ true → FailsWhereTold files name text_limit state →
    fault → OnFile files name state fault good
on-fault files name Out fault good failed fails f = absurd (cc)
on-fault files name Refused fault good failed fails f = f
on-fault files name (Back false left) fault good failed fails f = absurd (cc)
on-fault files name (Back true left) fault good failed fails f = (f, fails)

-- ---- stages

-- a file was read and given back, and then the run went on
pub stage-read : (ending : Ending) (inner due : List Call → Type 0) (old mid new : List Call) (name : List ℕ) (names : List (List ℕ)) (left : Option (List ℕ)) →
    mid ≡ old ++ call_of name (Back false left) ∷ [] → ((more : List Call) → OrStops ending more (inner more) → due (call_of name (Back false left) ∷ more)) →
    Stage mid new names ending inner → Stage old new (name ∷ names) ending due
stage-read ending inner due old mid new name names left is step after = record {
  more = call_of name (Back false left) ∷ after.more;
  appended = after.appended ∙ ap (λ m. m ++ after.more) is ∙ append_assoc old (call_of name (Back false left) ∷ []) after.more;
  asked = are-cons ending name (names_of after.more) names after.asked;
  given_back = after.given_back;
  failed = after.failed;
  due_is = or-go ending _ _ (step after.more after.due_is);
}

or-false : (b : Bool) → (b || false) ≡ b
or-false true = refl
or-false false = refl

some-out-one : (name : List ℕ) (state : CallState) → state_is_out state ≡ false → some_out (call_of name state ∷ []) ≡ false
some-out-one name state e = or-false (state_is_out state) ∙ e

some-failed-one : (name : List ℕ) (state : CallState) → some_failed (call_of name state ∷ []) ≡ state_failed state
some-failed-one name state = or-false (state_failed state)

-- a file was read or failed, and the run ends with a line
pub stage-line : (ending : Ending) (verdict : Verdict) (error : ErrorLine) (due : List Call → Type 0) (old new : List Call) (name : List ℕ) (names : List (List ℕ)) (state : CallState) →
    new ≡ old ++ call_of name state ∷ [] → state_is_out state ≡ false → state_failed state ≡ is_fault verdict → may_end_early verdict ≡ true → IsLine ending verdict error →
    due (call_of name state ∷ []) → Stage old new (name ∷ names) ending due
stage-line ending verdict error due old new name names state is back failed early line step = record {
  more = call_of name state ∷ [];
  appended = is;
  asked = are-early ending verdict error (name ∷ []) (name ∷ names) early line (names, refl);
  given_back = some-out-one name state back;
  failed = fails-as ending verdict error (some_failed (call_of name state ∷ [])) (some-failed-one name state ∙ failed) line;
  due_is = or-go ending _ _ step;
}

-- a run that ends with a line and asks for no further name
pub stage-none : (ending : Ending) (verdict : Verdict) (error : ErrorLine) (due : List Call → Type 0) (calls : List Call) (names : List (List ℕ)) →
    false ≡ is_fault verdict → may_end_early verdict ≡ true → IsLine ending verdict error → due [] → Stage calls calls names ending due
stage-none ending verdict error due calls names fine early line step = record {
  more = [];
  appended = sym (append-nil calls);
  asked = are-early ending verdict error [] names early line (names, refl);
  given_back = refl;
  failed = fails-as ending verdict error false fine line;
  due_is = or-go ending _ _ step;
}

-- a run that stops for want of memory before it asks for a further name
pub stage-stops : (due : List Call → Type 0) (calls : List Call) (names : List (List ℕ)) → Stage calls calls names Stopped due
stage-stops due calls names = record {
  more = [];
  appended = sym (append-nil calls);
  asked = (names, refl);
  given_back = refl;
  failed = tt;
  due_is = inl refl;
}

-- a run that stops for want of memory after it asked for one more name, or before
pub stage-may : (due : List Call → Type 0) (old new : List Call) (name : List ℕ) (names : List (List ℕ)) → MayCallOne old name new → ((state : CallState) → due (call_of name state ∷ [])) →
    Stage old new (name ∷ names) Stopped due
stage-may due old new name names (inl same) step = record {
  more = [];
  appended = same ∙ sym (append-nil old);
  asked = (name ∷ names, refl);
  given_back = refl;
  failed = tt;
  due_is = inl refl;
}
stage-may due old new name names (inr one) step = record {
  more = call_of name one.0 ∷ [];
  appended = one.1;
  asked = (names, refl);
  given_back = some-out-one name one.0 one.2;
  failed = tt;
  due_is = inr (step one.0);
}
