-- A history goes on, and the version with it.
use Rattle.std.proofs.Common.{◌≡◌, ◌<◌, ◌∷◌, ◌++◌, [], List, length, sym, ◌∙◌, subst}
use Rattle.std.proofs.lemmas.List.Elements.{All-nil, All-push}
use Rattle.dn_model.specs.Entry.{IsEntryOf}
use Rattle.net_engine.specs.Version.{Kept, KeptStandsFor}
use Rattle.dn_model.specs.declared.entry.Entry.{Entry}
use Rattle.dn_model.specs.declared.topology.Topology.{Topology}
use Rattle.engine_trials.specs.Past.{IsCourse}

-- the version before any update
pub course-begun : (t s : Topology) (version : Kept) → s ≡ t → 0 < length t.routers → version.topology ≡ s → KeptStandsFor version [] → IsCourse s [] version
course-begun t s version same some of stands =
    let P : Topology → Type 0 = λ r. 0 < length r.routers in
    record { some = subst P (sym same) some; topology = of; own = All-nil (IsEntryOf s); stands = stands }

-- the version after one update more
pub course-more : (t : Topology) (h new : List Entry) (e : Entry) (old version : Kept) → IsCourse t h old → IsEntryOf t e → new ≡ h ++ e ∷ [] → version.topology ≡ old.topology →
    ((es : List Entry) → KeptStandsFor old es → KeptStandsFor version (es ++ e ∷ [])) → IsCourse t new version
course-more t h new e old version is own longer same on =
    let P : List Entry → Type 0 = λ es. IsCourse t es version in
    subst P (sym longer) (record { some = is.some; topology = same ∙ is.topology; own = All-push (IsEntryOf t) h e is.own own; stands = on h is.stands })

-- the same history and version, as they are named elsewhere
pub course-same : (t s : Topology) (h g : List Entry) (old version : Kept) → IsCourse t h old → s ≡ t → g ≡ h → version ≡ old → IsCourse s g version
course-same t s h g old version is topology entries same =
    let P : Topology → Type 0 = λ r. IsCourse r g version in
    let Q : List Entry → Type 0 = λ es. IsCourse t es version in
    let R : Kept → Type 0 = λ v. IsCourse t h v in
    subst P (sym topology) (subst Q (sym entries) (subst R (sym same) is))

-- an update of the network is one of the version's network
pub entry-of : (t : Topology) (h : List Entry) (version : Kept) (e : Entry) → IsCourse t h version → IsEntryOf t e → IsEntryOf version.topology e
entry-of t h version e is own = let P : Topology → Type 0 = λ s. IsEntryOf s e in subst P (sym is.topology) own
