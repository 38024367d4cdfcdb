-- The links of a topology: their ends are at its routers, at two of them.
use Rattle.std.proofs.Common.{◌≡◌, ℕ, zero, suc, ◌*◌, ◌<◌, ◌≤◌, ◌==◌, not, true, ◌&&◌, Option, Some, List, [], ◌∷◌, length, sym, subst, arith}
use Rattle.std.specs.List.{list_all}
use Rattle.std.specs.Prelude.{slice_get, IsSomeAnd}
use Rattle.std.proofs.lemmas.Bool.{and_parts}
use Rattle.std.proofs.lemmas.Bool.Decides.{nat_tests}
use Rattle.std.proofs.lemmas.Nat.{mul-le}
use Rattle.std.proofs.lemmas.Option.{none-some, same_Some}
use borrow.Author.Tests.{ltb-true}
use Rattle.dn_model.specs.Answer.{IsAnswerOf, IsUsesAnswer}
use Rattle.dn_model.specs.Lookup.{link_of}
use Rattle.base.specs.Name.{is_name_text}
use Rattle.base.specs.Reach.{goes_over}
use Rattle.base.specs.Runs.{AreRuns}
use Rattle.dn_model.specs.Topology.{is_end_of, is_link_of}
use Rattle.dn_model.specs.declared.answer.Answer.TheVariants as answers
use Rattle.base.specs.declared.ids.LinkId.{LinkId}
use Rattle.base.specs.declared.ids.RouterId.{RouterId}
use Rattle.dn_model.specs.declared.query.Ask.TheVariants.{Uses}
use Rattle.base.specs.declared.run.Run.{Run}
use Rattle.base.specs.declared.target.Target.{Target}
use Rattle.dn_model.specs.declared.topology.TopoEnd.{TopoEnd}
use Rattle.dn_model.specs.declared.topology.TopoLink.{TopoLink}
use Rattle.dn_model.specs.declared.topology.Topology.{Topology}

end-within : (routers : ℕ) (e : TopoEnd) → is_end_of routers e ≡ true → e.router.0 < routers
end-within routers e sound = ltb-true _ _ (and_parts _ _ (and_parts _ _ sound).0).0

each-sound : (routers i : ℕ) (links : List TopoLink) (link : TopoLink) → slice_get links i ≡ Some link → list_all (is_link_of routers) links ≡ true → is_link_of routers link ≡ true
each-sound routers i [] link is sound = absurd (none-some link is)
each-sound routers zero (x ∷ links) link is sound = subst (λ (y : TopoLink). is_link_of routers y ≡ true) (same_Some x link is) (and_parts _ _ sound).0
each-sound routers (suc i) (x ∷ links) link is sound = each-sound routers i links link is (and_parts _ _ sound).1

all-sound : (t : Topology) → list_all (is_link_of (length t.routers)) t.links ≡ true
all-sound t = (and_parts _ _ (and_parts _ _ (and_parts _ _ (and_parts _ _ t.sound).0).0).0).1

ends-of : (t : Topology) (i : ℕ) (link : TopoLink) → slice_get t.links i ≡ Some link → (is_name_text link.name && is_end_of (length t.routers) link.first && is_end_of (length t.routers) link.second) ≡ true
ends-of t i link is = (and_parts _ _ (each-sound (length t.routers) i t.links link is (all-sound t))).0

-- both ends of a link are at routers of the topology
pub first-within : (t : Topology) (i n : ℕ) (link : TopoLink) → slice_get t.links i ≡ Some link → n ≡ length t.routers → link.first.router.0 < n
first-within t i n link is wide = let l : link.first.router.0 < length t.routers = end-within (length t.routers) link.first (and_parts _ _ (and_parts _ _ (ends-of t i link is)).0).1 in omega arith

pub second-within : (t : Topology) (i n : ℕ) (link : TopoLink) → slice_get t.links i ≡ Some link → n ≡ length t.routers → link.second.router.0 < n
second-within t i n link is wide = let l : link.second.router.0 < length t.routers = end-within (length t.routers) link.second (and_parts _ _ (ends-of t i link is)).1 in omega arith

-- they are two routers
pub two-routers : (t : Topology) (i n : ℕ) (link : TopoLink) → slice_get t.links i ≡ Some link → n ≡ length t.routers → 2 ≤ n
two-routers t i n link is wide =
    let differ : not (link.first.router.0 == link.second.router.0) ≡ true = (and_parts _ _ (each-sound (length t.routers) i t.links link is (all-sound t))).1 in
    let first : link.first.router.0 < n = first-within t i n link is wide in
    let second : link.second.router.0 < n = second-within t i n link is wide in
    grind (arith, nat_tests)

-- so two looks at each row are at most one at each router in each row
pub two-each : (t : Topology) (i n rows : ℕ) (link : TopoLink) → slice_get t.links i ≡ Some link → n ≡ length t.routers → 2 * rows ≤ rows * n
two-each t i n rows link is wide =
    let most : rows * 2 ≤ rows * n = mul-le rows 2 rows n (omega arith) (two-routers t i n link is wide) in
    omega arith

-- runs at both ends of a named link answer what goes over it
pub uses-is : (t : Topology) (shows : RouterId → ℕ → Target) (name : List ℕ) (l : LinkId) (link : TopoLink) (first second : List Run) → link_of t name ≡ Some l → slice_get t.links l.0 ≡ Some link →
    AreRuns first (goes_over shows link.first.router l) → AreRuns second (goes_over shows link.second.router l) → IsAnswerOf t shows (Uses name) (answers.Uses first second)
uses-is t shows name l link first second named at one other =
    let P : Option LinkId → Type 0 = λ o. IsSomeAnd o (λ k. IsSomeAnd (slice_get t.links k.0) (λ x. IsUsesAnswer shows k x (answers.Uses first second))) in
    let Q : Option TopoLink → Type 0 = λ o. IsSomeAnd o (λ x. IsUsesAnswer shows l x (answers.Uses first second)) in
    subst P (sym named) (subst Q (sym at) (one, other))
