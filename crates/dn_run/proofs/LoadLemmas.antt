-- What reading no more than one byte past the limit says of a whole file.
use Rattle.std.proofs.Common.{◌≡◌, ℕ, zero, suc, ◌+◌, ◌<◌, ◌≤◌, Bool, true, false, nat_lt, List, [], ◌∷◌, length, take, Option, None, Some, IsSomeAnd, Result, Ok, Err, IfOk, OnErr, refl, ap, sym, ◌∙◌, inr, arith, subst}
use Rattle.std.proofs.lemmas.Bool.{ltb-true, ltb-false, lt-ltb}
use Rattle.std.proofs.lemmas.List.{take_all, length-take-le}
use Rattle.dn_io.specs.Calls.{Call, Back}
use Rattle.dn_io.specs.Files.{Files, bytes_of}
use Rattle.dn_formats.specs.TopologyText.{topology_of, top_fault}
use Rattle.dn_formats.specs.ScriptText.{script_of}
use Rattle.dn_formats.specs.ScriptCauses as script_cause
use Rattle.dn_formats.specs.TopologyCauses.{too_long}
use Rattle.base.specs.declared.ids.RouterId.{RouterId}
use Rattle.dn_formats.specs.declared.script.Script.{Script}
use Rattle.dn_model.specs.declared.topology.Topology.{Topology}
use Rattle.dn_run.specs.Loaded.{SaysTopology, SaysScript, Loads, LoadsTopology, LoadsScript}
use Rattle.dn_io.specs.Told.{with_front}
use Rattle.dn_run.specs.Opened.{WasRead, ComesFrom, IsReadUpTo, MayCallOne, OnBytes}
use Rattle.dn_run.specs.declared.load.Loaded.{Loaded}
use Rattle.dn_run.specs.declared.load.Loaded.TheVariants.{Read, Refused, Failed}

-- what is the same of every text past a limit can be seen at one byte past it
cut-same-by : {A : Type 0} (f : List ℕ → A) (long : A) (limit : ℕ) (bytes : List ℕ) → ((b : List ℕ) → nat_lt limit (length b) ≡ true → f b ≡ long) →
    (is-past : Bool) → nat_lt limit (length bytes) ≡ is-past → f (take (limit + 1) bytes) ≡ f bytes
cut-same-by f long limit bytes past true e =
    let above : limit < length bytes = ltb-true limit (length bytes) e in
    let cut : length (take (limit + 1) bytes) ≡ limit + 1 = length-take-le (limit + 1) bytes (omega arith) in
    past (take (limit + 1) bytes) (rw cut (lt-ltb limit (limit + 1) (omega arith))) ∙ sym (past bytes e)
cut-same-by f long limit bytes past false e =
    let below : length bytes ≤ limit = ltb-false limit (length bytes) e in
    ap f (take_all (limit + 1) bytes (omega arith))

cut-same : {A : Type 0} (f : List ℕ → A) (long : A) (limit : ℕ) (bytes : List ℕ) → ((b : List ℕ) → nat_lt limit (length b) ≡ true → f b ≡ long) → f (take (limit + 1) bytes) ≡ f bytes
cut-same f long limit bytes past = cut-same-by f long limit bytes past (nat_lt limit (length bytes)) refl

length-take-most : (n : ℕ) (xs : List ℕ) → length (take n xs) ≤ n
length-take-most zero xs = omega arith
length-take-most (suc n) [] = omega arith
length-take-most (suc n) (x ∷ xs) = omega (arith, length-take-most n xs)

topology-cut : (bytes : List ℕ) → topology_of (take (16777216 + 1) bytes) ≡ topology_of bytes
topology-cut bytes = cut-same topology_of (Err (top_fault too_long)) 16777216 bytes (λ b e. rw e refl)

script-cut : (t : Topology) (routers taken : List RouterId) (bytes : List ℕ) → script_of t.routers routers taken (take (16777216 + 1) bytes) ≡ script_of t.routers routers taken bytes
script-cut t routers taken bytes = cut-same (script_of t.routers routers taken) (Err (record { line = 0; cause = script_cause.too_long })) 16777216 bytes (λ b e. rw e refl)

says-topology : (bytes : List ℕ) (x : Loaded Topology) → SaysTopology (take (16777216 + 1) bytes) x → SaysTopology bytes x
says-topology bytes (Read t) says = sym (topology-cut bytes) ∙ says
says-topology bytes (Refused line) says = (says.0, sym (topology-cut bytes) ∙ says.1, says.2)
says-topology bytes Failed says = says

says-script : (t : Topology) (routers taken : List RouterId) (part : ℕ) (bytes : List ℕ) (x : Loaded Script) → SaysScript t routers taken part (take (16777216 + 1) bytes) x → SaysScript t routers taken part bytes x
says-script t routers taken part bytes (Read s) says = sym (script-cut t routers taken bytes) ∙ says
says-script t routers taken part bytes (Refused line) says = (says.0, sym (script-cut t routers taken bytes) ∙ says.1, says.2)
says-script t routers taken part bytes Failed says = says

-- what is said of the bytes that were read is said of the file's, of which no more than one past the limit were read
good-of : (good : List ℕ → Type 0) (file : Option (List ℕ)) (bytes : List ℕ) (left : Option (List ℕ)) → ((all : List ℕ) → good (take (16777216 + 1) all) → good all) →
    IsSomeAnd file (λ all. (Some all ≡ with_front bytes left) × (bytes ≡ take (16777216 + 1) all)) → good bytes →
    IsSomeAnd file (λ all. IsReadUpTo all (16777216 + 1) left × good all)
good-of good None bytes left cut is said = absurd is
good-of good (Some all) bytes left cut is said =
    (is.0 ∙ ap (λ (b : List ℕ). with_front b left) is.1, cut all (subst good is.1 said))

good-all : (good : List ℕ → Type 0) (files : Option Files) (name bytes : List ℕ) (left : Option (List ℕ)) → ((all : List ℕ) → good (take (16777216 + 1) all) → good all) →
    ComesFrom files name 16777216 bytes left → good bytes → OnBytes files name left good
good-all good None name bytes left cut is said = (bytes, is, said)
good-all good (Some fs) name bytes left cut is said = good-of good (bytes_of fs name) bytes left cut is said

loads : {T E : Type 0} (says : List ℕ → Loaded T → Type 0) (cut : (bytes : List ℕ) (x : Loaded T) → says (take (16777216 + 1) bytes) x → says bytes x)
    (never : (bytes : List ℕ) → says bytes Failed → ⊥)
    (result : Result (Loaded T) E) (files : Option Files) (old new : List Call) (name bytes : List ℕ) →
    WasRead files 16777216 old name new bytes → IfOk result (says bytes) → IfOk result (Loads says files old name new)
loads says cut never (Err e) files old new name bytes read said = tt
loads says cut never (Ok (Read x)) files old new name bytes read said = (read.0, read.1, good-all (λ bs. says bs (Read x)) files name bytes read.0 (λ all. cut all (Read x)) read.2 said)
loads says cut never (Ok (Refused line)) files old new name bytes read said = (read.0, read.1, good-all (λ bs. says bs (Refused line)) files name bytes read.0 (λ all. cut all (Refused line)) read.2 said)
loads says cut never (Ok Failed) files old new name bytes read said = absurd (never bytes said)

pub loads-topology : {E : Type 0} (result : Result (Loaded Topology) E) (files : Option Files) (old new : List Call) (name bytes : List ℕ) →
    WasRead files 16777216 old name new bytes → IfOk result (SaysTopology bytes) → IfOk result (LoadsTopology files old name new)
loads-topology = loads SaysTopology says-topology (λ bytes said. said)

pub loads-script : {E : Type 0} (t : Topology) (routers taken : List RouterId) (part : ℕ) (result : Result (Loaded Script) E) (files : Option Files) (old new : List Call) (name bytes : List ℕ) →
    WasRead files 16777216 old name new bytes → IfOk result (SaysScript t routers taken part bytes) → IfOk result (LoadsScript t routers taken part files old name new)
loads-script t routers taken part = loads (SaysScript t routers taken part) (says-script t routers taken part) (λ bytes said. said)

-- a file that was read was asked for and given back, whatever comes after
pub called-read : {X E : Type 0} (result : Result X E) (files : Option Files) (old new : List Call) (name bytes : List ℕ) → WasRead files 16777216 old name new bytes → OnErr result (MayCallOne old name new)
called-read (Ok x) files old new name bytes read = tt
called-read (Err e) files old new name bytes read = inr (Back false read.0, read.1, refl)
