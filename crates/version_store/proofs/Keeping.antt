-- What stands after a history goes on with it.
use Rattle.std.proofs.Common.{◌≡◌, ℕ, ◌+◌, ◌-◌, ◌<◌, ◌≤◌, ◌^◌, ◌∙◌, ◌∷◌, ◌++◌, ◌&&◌, false, List, [], length, get_or, take, refl, ap, sym, subst, arith}
use Rattle.std.specs.Prelude.{nat_lt}
use Rattle.std.specs.List.{list_all}
use Rattle.std.proofs.lemmas.Bool.{and_right, both_ways}
use Rattle.std.proofs.lemmas.List.{length-append, take_at, take_more}
use Rattle.dn_model.specs.Answer.{IsAnswer, IsAnswerTo, links_of}
use Rattle.base.specs.Cycles.{AreCycles, go_round, goes_round}
use Rattle.base.specs.Delta.{IsDelta}
use Rattle.dn_model.specs.LastDelta.{IsDeltaOf, less_last}
use Rattle.dn_model.specs.Entry.{entries}
use Rattle.dn_model.specs.Standing.{StandsFor}
use Rattle.base.specs.Forwarding.{does}
use Rattle.dn_model.specs.Query.{Question}
use Rattle.base.specs.Reach.{is_router}
use Rattle.dn_model.specs.Table.{does_after}
use Rattle.base.specs.Lists.{all_differ}
use Rattle.net_engine.specs.Version.{Kept, KeptStandsFor, forwarding_of}
use Rattle.base.specs.Walk.{at_address}
use Rattle.dn_model.specs.Next.{next}
use Rattle.dn_model.specs.declared.answer.Answer.TheVariants as answers
use Rattle.base.specs.declared.cycle.Cycle.{Cycle}
use Rattle.base.specs.declared.change.Change.{Change}
use Rattle.base.specs.declared.forwarding_row.ForwardingRow.{ForwardingRow}
use Rattle.dn_model.specs.declared.entry.Entry.{Entry}
use Rattle.dn_model.specs.declared.entry.Posted.{Posted}
use Rattle.base.specs.declared.ids.RouterId.{RouterId}
use Rattle.dn_model.specs.declared.query.Ask.{Ask}
use Rattle.dn_model.specs.declared.query.Ask.TheVariants.{Loops}
use Rattle.base.specs.declared.target.Target.{Target}
use Rattle.dn_model.specs.declared.topology.Topology.{Topology}
use Rattle.loop_keeper.specs.Kept.{AreKept, IsLoopFree}
use Rattle.loop_keeper.specs.Kept.{Kept as KeptCycle}
use Rattle.loop_keeper.proofs.Advancing.{delta-alike, kept-alike}
use Rattle.row_answers.proofs.SameAnswers.{without-none}
use Rattle.version_store.specs.Kept.{IsPictureOf, IsVersionOf, StandsWith}
use Rattle.version_store.specs.Prefixes.{most_rows}
use Rattle.version_store.specs.declared.picture.Picture.{Picture}
use Rattle.version_store.proofs.GoingOn.{delta-more, entries-more, version-more}
use Rattle.version_store.proofs.Rows.{rows_few, rows_same}

-- ---- before any update

-- no router goes on to another
round-none : (t : Topology) (a : ℕ) (first : RouterId) (rs : List RouterId) → go_round (at_address (does_after t []) a) first rs ≡ false
round-none t a first [] = refl
round-none t a first (r ∷ []) = refl
round-none t a first (r ∷ s ∷ rest) = refl

goes-none : (t : Topology) (rs : List RouterId) (a : ℕ) → goes_round (does_after t []) rs a ≡ false
goes-none t [] a = refl
goes-none t (r ∷ rest) a = and_right (list_all (λ s. nat_lt r.0 s.0) rest && all_differ is_router (r ∷ rest)) _ (round-none t a r (r ∷ rest))

pub none-goes : (t : Topology) → IsLoopFree (does_after t [])
none-goes t = λ rs a b goes. both_ways (goes_round (does_after t []) rs a) (goes-none t rs a) goes

-- ---- through an update

last-gone : (h : List Entry) (e : Entry) → less_last (h ++ e ∷ []) ≡ h
last-gone h e =
    let long : length (h ++ e ∷ []) - 1 ≡ length h = omega (arith, length-append h (e ∷ [])) in
    ap (λ (n : ℕ). take n (h ++ e ∷ [])) long ∙ take_at h (e ∷ []) (length h) refl

-- the rows of a version show what the routers do after its history
rows-show : (t : Topology) (h : List Entry) (version : Kept) → IsVersionOf t h version → (r : RouterId) (a : ℕ) → a < 2 ^ 32 → does (forwarding_of version) r a ≡ does_after t h r a
rows-show t h version is r a b = is.stands.rows.exact r a b ∙ ap (λ (s : Topology). does_after s h r a) is.topology

-- loops are kept through an update to a version
pub loops-more : (t : Topology) (h : List Entry) (e : Entry) (version : Kept) (changes : List Change) (old new : List KeptCycle) →
    AreKept (does_after t h) old → IsVersionOf t (h ++ e ∷ []) version → IsDeltaOf t (h ++ e ∷ []) changes →
    ((before : RouterId → ℕ → Target) → AreKept before old → IsDelta before (does (forwarding_of version)) changes → AreKept (does (forwarding_of version)) new) →
    AreKept (does_after t (h ++ e ∷ [])) new
loops-more t h e version changes old new kept is delta on =
    let after : RouterId → ℕ → Target = does_after t (h ++ e ∷ []) in
    let shown : RouterId → ℕ → Target = does (forwarding_of version) in
    let P : List Entry → Type 0 = λ es. IsDelta (does_after t es) after changes in
    let told : IsDelta (does_after t h) shown changes = delta-alike (does_after t h) after shown changes (λ r a b. sym (rows-show t (h ++ e ∷ []) version is r a b)) (subst P (last-gone h e) delta) in
    kept-alike shown after new (rows-show t (h ++ e ∷ []) version is) (on (does_after t h) kept told)

-- what stands goes on by an entry
pub standing-more : (t : Topology) (h : List Entry) (e : Entry) (old new : Kept) (was loops : List KeptCycle) (changes : List Change) → StandsWith t h old was → new.topology ≡ old.topology →
    ((es : List Entry) → KeptStandsFor old es → KeptStandsFor new (es ++ e ∷ [])) →
    ((es : List Entry) → KeptStandsFor old es → IsDeltaOf old.topology (es ++ e ∷ []) changes) →
    ((before : RouterId → ℕ → Target) → AreKept before was → IsDelta before (does (forwarding_of new)) changes → AreKept (does (forwarding_of new)) loops) →
    StandsWith t (h ++ e ∷ []) new loops
standing-more t h e old new was loops changes is same stands delta on =
    let version : IsVersionOf t (h ++ e ∷ []) new = version-more t h e old new is.stands same stands in
    record {
      stands = version;
      kept = loops-more t h e new changes was loops is.kept version (delta-more t h e old changes is.stands delta) on;
    }

-- what stands goes on by the entry at a place of the history
pub standing-read : (t : Topology) (h : List Posted) (i : ℕ) (p : Posted) (old new : Kept) (was loops : List KeptCycle) → i < length h → p ≡ get_or h i p → StandsWith t (entries (take i h)) old was →
    ((s : Topology) (es : List Entry) → StandsWith s es old was → StandsWith s (es ++ p.entry ∷ []) new loops) → StandsWith t (entries (take (i + 1) h)) new loops
standing-read t h i p old new was loops inside is stands on =
    let front = take i h in
    let longer : entries (take (i + 1) h) ≡ entries (take i h) ++ p.entry ∷ [] =
    ap (λ (g : List Posted). entries g) (take_more h i p inside) ∙ entries-more front (get_or h i p) ∙ ap (λ (q : Posted). entries front ++ q.entry ∷ []) (sym is) in
    subst (λ (es : List Entry). StandsWith t es new loops) (sym longer) (on t (entries front) stands)

-- ---- the answer

-- the rows of a version after a history stand for it
pub rows-stand : (t : Topology) (h : List Entry) (version : Kept) → IsVersionOf t h version → StandsFor t (forwarding_of version) h
rows-stand t h version is =
    let P : Topology → Type 0 = λ s. StandsFor s (forwarding_of version) h in
    subst P is.topology is.stands.rows

-- the picture of what stands after a history
pub picture-made : (t : Topology) (h : List Entry) (version : Kept) (loops : List KeptCycle) (picture : Picture) → StandsWith t h version loops → picture.rows.routers ≡ length version.topology.routers →
    picture.rows.rows ≡ forwarding_of version → picture.loops ≡ loops → IsPictureOf t h picture
picture-made t h version loops picture is routers rows same = record {
  routers = routers ∙ ap (λ (s : Topology). length s.routers) is.stands.topology;
  stands = subst (λ (rs : List ForwardingRow). StandsFor t rs h) (sym rows) (rows-stand t h version is.stands);
  same = λ other stands. ap (λ (rs : List ForwardingRow). length rs) rows ∙ rows_same version other h is.stands.stands stands;
  few = subst (λ (rs : List ForwardingRow). length rs ≤ most_rows h) (sym rows) (rows_few version h is.stands.stands);
  loops = subst (λ (ls : List KeptCycle). AreKept (does_after t h) ls) (sym same) is.kept;
}

-- kept loops tell the loops after a history
pub loops-told : (t : Topology) (h : List Entry) (picture : Picture) (q : Question) (cycles : List Cycle) → q.ask ≡ Loops → q.without ≡ [] → IsPictureOf t h picture →
    ((f : RouterId → ℕ → Target) → AreKept f picture.loops → AreCycles f cycles) → IsAnswer t h q (answers.Loops cycles)
loops-told t h picture q cycles ask none is told =
    let plain : AreCycles (next t h []) cycles = told (next t h []) (kept-alike (does_after t h) (next t h []) picture.loops (λ r a b. without-none (does_after t h r a)) is.loops) in
    let P : List (List ℕ) → Type 0 = λ names. IsAnswerTo t h (links_of t names) Loops (answers.Loops cycles) in
    let Q : Ask → Type 0 = λ x. IsAnswerTo t h (links_of t q.without) x (answers.Loops cycles) in
    subst Q (sym ask) (subst P (sym none) plain)
