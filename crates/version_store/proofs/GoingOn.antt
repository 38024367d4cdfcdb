-- A version goes on with a history.
use Rattle.std.proofs.Common.{◌≡◌, ℕ, ◌<◌, ◌≤◌, ◌+◌, ◌∷◌, ◌++◌, [], List, Option, Some, length, get_or, drop, min, take, ap, sym, ◌∙◌, subst, arith}
use Rattle.std.proofs.Math.Seq.{take-append-add}
use Rattle.std.proofs.lemmas.List.{length-append, length-take, map-append, take-append-drop}
use Rattle.std.proofs.lemmas.List.Elements.{All-get_or, All-push}
use Rattle.dn_model.specs.LastDelta.{IsDeltaOf}
use Rattle.dn_model.specs.Entry.{entries}
use Rattle.net_engine.specs.Version.{Kept, KeptStandsFor}
use Rattle.base.specs.declared.change.Change.{Change}
use Rattle.dn_model.specs.declared.entry.Entry.{Entry}
use Rattle.dn_model.specs.declared.entry.Posted.{Posted}
use Rattle.dn_model.specs.declared.topology.Topology.{Topology}
use Rattle.loop_keeper.specs.Kept.{Kept as KeptCycle}
use Rattle.version_store.specs.Kept.{AreOf, IsKeptOf, IsTaken, IsVersionOf, StandsWith}

-- the entries of a history with one more
pub entries-more : (h : List Posted) (p : Posted) → entries (h ++ p ∷ []) ≡ entries h ++ p.entry ∷ []
entries-more h p = map-append (λ (q : Posted). q.entry) h (p ∷ [])

-- a version goes on by an entry
pub version-more : (t : Topology) (es : List Entry) (e : Entry) (old new : Kept) → IsVersionOf t es old → new.topology ≡ old.topology →
    ((h : List Entry) → KeptStandsFor old h → KeptStandsFor new (h ++ e ∷ [])) → IsVersionOf t (es ++ e ∷ []) new
version-more t es e old new is same on = record { topology = same ∙ is.topology; stands = on es is.stands }

pub delta-more : (t : Topology) (es : List Entry) (e : Entry) (old : Kept) (changes : List Change) → IsVersionOf t es old →
    ((h : List Entry) → KeptStandsFor old h → IsDeltaOf old.topology (h ++ e ∷ []) changes) → IsDeltaOf t (es ++ e ∷ []) changes
delta-more t es e old changes is on =
    let P : Topology → Type 0 = λ s. IsDeltaOf s (es ++ e ∷ []) changes in
    subst P is.topology (on es is.stands)

-- an entry of the network is one of the version's network
pub entry-of : (t : Topology) (es : List Entry) (old : Kept) (e : Entry) → IsVersionOf t es old → IsTaken t e → IsTaken old.topology e
entry-of t es old e is own = let P : Topology → Type 0 = λ s. IsTaken s e in subst P (sym is.topology) own

-- the entry at a place of a history of the network is one of the version's network
pub entry-read : (t : Topology) (es : List Entry) (h : List Posted) (i : ℕ) (p : Posted) (old : Kept) → IsVersionOf t es old → AreOf t h → i < length h → p ≡ get_or h i p → IsTaken old.topology p.entry
entry-read t es h i p old is own inside at =
    let P : Posted → Type 0 = λ q. IsTaken t q.entry in
    entry-of t es old p.entry is (subst P (sym at) (All-get_or P h i p inside own))

-- what a store keeps goes on by an entry
pub kept-more : (t : Topology) (limit : ℕ) (h : List Posted) (p : Posted) (old : Option Kept) (version : Kept) (was loops : List KeptCycle) (before changes : List Change) → IsKeptOf t limit h old was before → length h < limit → IsTaken t p.entry →
    StandsWith t (entries h ++ p.entry ∷ []) version loops → IsDeltaOf t (entries h ++ p.entry ∷ []) changes → IsKeptOf t limit (h ++ p ∷ []) (Some version) loops changes
kept-more t limit h p old version was loops before changes kept room own stands delta = record {
  few = omega (arith, length-append h (p ∷ []));
  own = All-push (λ (q : Posted). IsTaken t q.entry) h p kept.own own;
  stands = subst (λ (es : List Entry). StandsWith t es version loops) (sym (entries-more h p)) stands;
  delta = subst (λ (es : List Entry). IsDeltaOf t es changes) (sym (entries-more h p)) delta;
}

-- the first entries of a history, with those of a page that follow them
pub page-read : (h made run new : List Posted) → made ≡ take (length made) h → take (length run) (drop (length made) h) ≡ run → new ≡ made ++ run → (length new ≤ length h) × (new ≡ take (length new) h)
page-read h made run new front page longer =
    let rest : List Posted = drop (length made) h in
    let whole : made ++ rest ≡ h = ap (λ (f : List Posted). f ++ rest) front ∙ take-append-drop (length made) h in
    let size : length run ≡ min (length run) (length rest) = sym (ap length page) ∙ length-take (length run) rest in
    let few : length run ≤ length rest = omega (arith, size) in
    let long : length new ≡ length made + length run = ap length longer ∙ length-append made run in
    let all : length made + length rest ≡ length h = sym (length-append made rest) ∙ ap length whole in
    let taken : take (length made + length run) h ≡ made ++ run =
    ap (take (length made + length run)) (sym whole) ∙ take-append-add made rest (length run) ∙ ap (λ (f : List Posted). made ++ f) page in
    (omega (arith, few, long, all), longer ∙ sym taken ∙ ap (λ (n : ℕ). take n h) (sym long))
