-- A query has one answer over a history.
use Rattle.std.proofs.Common.{◌≡◌, ℕ, ◌∙◌, Bool, Option, None, Some, List, length, ap, sym}
use Rattle.std.specs.Prelude.{slice_get, IsSomeAnd}
use Rattle.base.specs.Reach.{misses, reaches}
use Rattle.base.specs.declared.ids.LinkId.{LinkId}
use Rattle.base.specs.declared.ids.RouterId.{RouterId}
use Rattle.base.specs.declared.target.Target.{Target}
use Rattle.base.proofs.AnswersOnce.{cycles-once, holes-once}
use Rattle.base.proofs.DeltaOnce.{delta-once}
use Rattle.base.proofs.RunsOnce.{runs-once}
use Rattle.dn_model.specs.Answer.{IsAnswer, IsAnswerOf, IsAnswerTo, IsDeltaAnswer, IsHolesAnswer, IsLoopsAnswer, IsRunsAnswer, IsUsesAnswer, links_of}
use Rattle.dn_model.specs.LastDelta.{less_last}
use Rattle.dn_model.specs.Lookup.{link_of, router_of}
use Rattle.dn_model.specs.Next.{next}
use Rattle.dn_model.specs.Query.{Question}
use Rattle.dn_model.specs.Table.{does_after}
use Rattle.dn_model.specs.declared.answer.Answer.{Answer}
use Rattle.dn_model.specs.declared.answer.Answer.TheVariants as answers
use Rattle.dn_model.specs.declared.entry.Entry.{Entry}
use Rattle.dn_model.specs.declared.query.Ask.{Ask}
use Rattle.dn_model.specs.declared.query.Ask.TheVariants.{Path, Reach, Uses, Loops, Blackholes, Waypoint, Delta}
use Rattle.dn_model.specs.declared.topology.TopoLink.{TopoLink}
use Rattle.dn_model.specs.declared.topology.Topology.{Topology}

-- what is so of the value that there is
at-some : {A : Type 0} (o : Option A) (P Q : A → Type 0) {X : Type 0} → IsSomeAnd o P → IsSomeAnd o Q → ((x : A) → P x → Q x → X) → X
at-some None P Q p q f = absurd p
at-some (Some x) P Q p q f = f x p q

runs-one : (test : ℕ → Bool) (x y : Answer) → IsRunsAnswer test x → IsRunsAnswer test y → x ≡ y
runs-one test (answers.Path hops end) y h k = absurd h
runs-one test (answers.Runs runs) (answers.Path hops2 end2) h k = absurd k
runs-one test (answers.Runs runs) (answers.Runs runs2) h k = ap answers.Runs (runs-once runs runs2 test h k)
runs-one test (answers.Runs runs) (answers.Uses first2 second2) h k = absurd k
runs-one test (answers.Runs runs) (answers.Loops cycles2) h k = absurd k
runs-one test (answers.Runs runs) (answers.Holes holes2) h k = absurd k
runs-one test (answers.Runs runs) (answers.Delta changes2) h k = absurd k
runs-one test (answers.Uses first second) y h k = absurd h
runs-one test (answers.Loops cycles) y h k = absurd h
runs-one test (answers.Holes holes) y h k = absurd h
runs-one test (answers.Delta changes) y h k = absurd h

uses-one : (does : RouterId → ℕ → Target) (l : LinkId) (link : TopoLink) (x y : Answer) → IsUsesAnswer does l link x → IsUsesAnswer does l link y → x ≡ y
uses-one does l link (answers.Path hops end) y h k = absurd h
uses-one does l link (answers.Runs runs) y h k = absurd h
uses-one does l link (answers.Uses first second) (answers.Path hops2 end2) h k = absurd k
uses-one does l link (answers.Uses first second) (answers.Runs runs2) h k = absurd k
uses-one does l link (answers.Uses first second) (answers.Uses first2 second2) h k = ap (λ rs. answers.Uses rs second) (runs-once first first2 _ h.0 k.0) ∙ ap (answers.Uses first2) (runs-once second second2 _ h.1 k.1)
uses-one does l link (answers.Uses first second) (answers.Loops cycles2) h k = absurd k
uses-one does l link (answers.Uses first second) (answers.Holes holes2) h k = absurd k
uses-one does l link (answers.Uses first second) (answers.Delta changes2) h k = absurd k
uses-one does l link (answers.Loops cycles) y h k = absurd h
uses-one does l link (answers.Holes holes) y h k = absurd h
uses-one does l link (answers.Delta changes) y h k = absurd h

loops-one : (does : RouterId → ℕ → Target) (x y : Answer) → IsLoopsAnswer does x → IsLoopsAnswer does y → x ≡ y
loops-one does (answers.Path hops end) y h k = absurd h
loops-one does (answers.Runs runs) y h k = absurd h
loops-one does (answers.Uses first second) y h k = absurd h
loops-one does (answers.Loops cycles) (answers.Path hops2 end2) h k = absurd k
loops-one does (answers.Loops cycles) (answers.Runs runs2) h k = absurd k
loops-one does (answers.Loops cycles) (answers.Uses first2 second2) h k = absurd k
loops-one does (answers.Loops cycles) (answers.Loops cycles2) h k = ap answers.Loops (cycles-once does cycles cycles2 h k)
loops-one does (answers.Loops cycles) (answers.Holes holes2) h k = absurd k
loops-one does (answers.Loops cycles) (answers.Delta changes2) h k = absurd k
loops-one does (answers.Holes holes) y h k = absurd h
loops-one does (answers.Delta changes) y h k = absurd h

holes-one : (n : ℕ) (does : RouterId → ℕ → Target) (r : RouterId) (x y : Answer) → IsHolesAnswer n does r x → IsHolesAnswer n does r y → x ≡ y
holes-one n does r (answers.Path hops end) y h k = absurd h
holes-one n does r (answers.Runs runs) y h k = absurd h
holes-one n does r (answers.Uses first second) y h k = absurd h
holes-one n does r (answers.Loops cycles) y h k = absurd h
holes-one n does r (answers.Holes holes) (answers.Path hops2 end2) h k = absurd k
holes-one n does r (answers.Holes holes) (answers.Runs runs2) h k = absurd k
holes-one n does r (answers.Holes holes) (answers.Uses first2 second2) h k = absurd k
holes-one n does r (answers.Holes holes) (answers.Loops cycles2) h k = absurd k
holes-one n does r (answers.Holes holes) (answers.Holes holes2) h k = ap answers.Holes (holes-once n does r holes holes2 h k)
holes-one n does r (answers.Holes holes) (answers.Delta changes2) h k = absurd k
holes-one n does r (answers.Delta changes) y h k = absurd h

delta-one : (t : Topology) (history : List Entry) (x y : Answer) → IsDeltaAnswer t history x → IsDeltaAnswer t history y → x ≡ y
delta-one t history (answers.Path hops end) y h k = absurd h
delta-one t history (answers.Runs runs) y h k = absurd h
delta-one t history (answers.Uses first second) y h k = absurd h
delta-one t history (answers.Loops cycles) y h k = absurd h
delta-one t history (answers.Holes holes) y h k = absurd h
delta-one t history (answers.Delta changes) (answers.Path hops2 end2) h k = absurd k
delta-one t history (answers.Delta changes) (answers.Runs runs2) h k = absurd k
delta-one t history (answers.Delta changes) (answers.Uses first2 second2) h k = absurd k
delta-one t history (answers.Delta changes) (answers.Loops cycles2) h k = absurd k
delta-one t history (answers.Delta changes) (answers.Holes holes2) h k = absurd k
delta-one t history (answers.Delta changes) (answers.Delta changes2) h k = ap answers.Delta (delta-once (does_after t (less_last history)) (does_after t history) changes changes2 h k)

one-of : (t : Topology) (does : RouterId → ℕ → Target) (ask : Ask) (x y : Answer) → IsAnswerOf t does ask x → IsAnswerOf t does ask y → x ≡ y
one-of t does (Path n a) x y h k = at-some (router_of t n) _ _ h k (λ r p q. p ∙ sym q)
one-of t does (Reach n m) x y h k =
    at-some (router_of t n) _ _ h k (λ r p q. at-some (router_of t m) _ _ p q (λ s u v. runs-one (reaches (length t.routers) does r s) x y u v))
one-of t does (Uses n) x y h k =
    at-some (link_of t n) _ _ h k (λ l p q. at-some (slice_get t.links l.0) _ _ p q (λ link u v. uses-one does l link x y u v))
one-of t does Loops x y h k = loops-one does x y h k
one-of t does (Blackholes n) x y h k = at-some (router_of t n) _ _ h k (λ r p q. holes-one (length t.routers) does r x y p q)
one-of t does (Waypoint n m w) x y h k =
    at-some (router_of t n) _ _ h k (λ r p q. at-some (router_of t m) _ _ p q (λ s u v. at-some (router_of t w) _ _ u v (λ z d e.
    runs-one (misses (length t.routers) does r s z) x y d e)))
one-of t does Delta x y h k = absurd h

one-to : (t : Topology) (history : List Entry) (down : List LinkId) (ask : Ask) (x y : Answer) → IsAnswerTo t history down ask x → IsAnswerTo t history down ask y → x ≡ y
one-to t history down (Path n a) x y h k = one-of t (next t history down) (Path n a) x y h k
one-to t history down (Reach n m) x y h k = one-of t (next t history down) (Reach n m) x y h k
one-to t history down (Uses n) x y h k = one-of t (next t history down) (Uses n) x y h k
one-to t history down Loops x y h k = one-of t (next t history down) Loops x y h k
one-to t history down (Blackholes n) x y h k = one-of t (next t history down) (Blackholes n) x y h k
one-to t history down (Waypoint n m w) x y h k = one-of t (next t history down) (Waypoint n m w) x y h k
one-to t history down Delta x y h k = delta-one t history x y h k

pub one-answer : (t : Topology) (history : List Entry) (q : Question) (x y : Answer) → IsAnswer t history q x → IsAnswer t history q y → x ≡ y
one-answer t history q x y h k = one-to t history (links_of t q.without) q.ask x y h k
