-- What routers do decides the answers: where two functions agree at each address, their answers are the same.
use Rattle.std.proofs.Common.{◌≡◌, ℕ, ◌<◌, ◌^◌, Bool, ◌&&◌, ◌∙◌, Option, None, Some, List, length, ap, subst}
use Rattle.std.specs.List.{list_any}
use Rattle.std.specs.Prelude.{slice_get, IsSomeAnd}
use Rattle.dn_model.specs.Answer.{IsAnswerOf, IsAnswerTo, IsHolesAnswer, IsLoopsAnswer, IsRunsAnswer, IsUsesAnswer, path_answer}
use Rattle.base.specs.Cycles.{AreCycles, IsCycle, goes_round}
use Rattle.base.specs.Delta.{IsDelta, TellsChange, change_at}
use Rattle.base.specs.Holes.{AreHoles, IsHole, ends_by, falls}
use Rattle.dn_model.specs.Lookup.{link_of, router_of}
use Rattle.base.specs.Reach.{comes_before, goes_over, is_over, is_router, misses, reaches}
use Rattle.base.specs.Runs.{AreRuns}
use Rattle.base.specs.Walk.{at_address, walk, walk_end, walk_last}
use Rattle.dn_model.specs.Next.{next}
use Rattle.dn_model.specs.declared.answer.Answer.{Answer}
use Rattle.dn_model.specs.declared.answer.Answer.TheVariants as answers
use Rattle.base.specs.declared.change.Change.{Change}
use Rattle.base.specs.declared.cycle.Cycle.{Cycle}
use Rattle.base.specs.declared.hole.Hole.{Hole}
use Rattle.dn_model.specs.declared.entry.Entry.{Entry}
use Rattle.base.specs.declared.ids.LinkId.{LinkId}
use Rattle.base.specs.declared.ids.RouterId.{RouterId}
use Rattle.dn_model.specs.declared.query.Ask.{Ask}
use Rattle.dn_model.specs.declared.query.Ask.TheVariants.{Path, Reach, Uses, Loops, Blackholes, Waypoint, Delta}
use Rattle.base.specs.declared.run.Run.{Run}
use Rattle.base.specs.declared.target.Target.{Target}
use Rattle.dn_model.specs.declared.topology.TopoLink.{TopoLink}
use Rattle.dn_model.specs.declared.topology.Topology.{Topology}
use Rattle.base.proofs.Walks.{walk-same, walk_end-same}
use Rattle.base.proofs.WalkLast.{walk_last-same}
use Rattle.dn_model.proofs.Passes.{is_cycle-same}

-- two functions do the same with each address
abbrev pub Agree : (RouterId → ℕ → Target) → (RouterId → ℕ → Target) → Type 0
Agree f g = (r : RouterId) (a : ℕ) → a < 2 ^ 32 → f r a ≡ g r a

-- ---- runs

runs-same : (runs : List Run) (test other : ℕ → Bool) → ((a : ℕ) → a < 2 ^ 32 → test a ≡ other a) → AreRuns runs test → AreRuns runs other
runs-same runs test other h are = record { apart = are.apart; exact = λ a within. are.exact a within ∙ h a within }

reaches-same : (n : ℕ) (f g : RouterId → ℕ → Target) (first to : RouterId) → Agree f g → (a : ℕ) → a < 2 ^ 32 → reaches n f first to a ≡ reaches n g first to a
reaches-same n f g first to h a within = ap (λ rs. list_any (is_router to) rs) (walk-same (at_address f a) (at_address g a) (λ r. h r a within) n first)

misses-same : (n : ℕ) (f g : RouterId → ℕ → Target) (first to through : RouterId) → Agree f g → (a : ℕ) → a < 2 ^ 32 → misses n f first to through a ≡ misses n g first to through a
misses-same n f g first to through h a within = ap (λ rs. comes_before to through rs) (walk-same (at_address f a) (at_address g a) (λ r. h r a within) n first)

over-same : (f g : RouterId → ℕ → Target) (r : RouterId) (l : LinkId) → Agree f g → (a : ℕ) → a < 2 ^ 32 → goes_over f r l a ≡ goes_over g r l a
over-same f g r l h a within = ap (is_over l) (h r a within)

falls-same : (n : ℕ) (f g : RouterId → ℕ → Target) (first last : RouterId) (cause : Target) → Agree f g → (a : ℕ) → a < 2 ^ 32 → falls n f first last cause a ≡ falls n g first last cause a
falls-same n f g first last cause h a within =
    ap (λ r. is_router last r && ends_by cause (walk_end (at_address f a) n first)) (walk_last-same (at_address f a) (at_address g a) (λ r. h r a within) n first)
    ∙ ap (λ e. is_router last (walk_last (at_address g a) n first) && ends_by cause e) (walk_end-same (at_address f a) (at_address g a) (λ r. h r a within) n first)

rounds-same : (f g : RouterId → ℕ → Target) (routers : List RouterId) → Agree f g → (a : ℕ) → a < 2 ^ 32 → goes_round f routers a ≡ goes_round g routers a
rounds-same f g routers h a within = is_cycle-same (at_address f a) (at_address g a) (λ r. h r a within) routers

-- ---- answers

holes-same : (n : ℕ) (f g : RouterId → ℕ → Target) (first : RouterId) (holes : List Hole) → Agree f g → AreHoles n f first holes → AreHoles n g first holes
holes-same n f g first holes h are = record {
  order = are.order;
  each = λ x among.
      let hole : IsHole n f first x = are.each x among in
      record { cause = hole.cause; runs = runs-same x.runs _ _ (falls-same n f g first x.router x.cause h) hole.runs; some = hole.some };
  all = λ last cause a within is. are.all last cause a within (falls-same n f g first last cause h a within ∙ is);
}

cycles-same : (f g : RouterId → ℕ → Target) (cycles : List Cycle) → Agree f g → AreCycles f cycles → AreCycles g cycles
cycles-same f g cycles h are = record {
  order = are.order;
  each = λ c among.
      let is : IsCycle f c = are.each c among in
      record { runs = is.runs; are = runs-same is.runs _ _ (rounds-same f g c.routers h) is.are; least = is.least; addresses = is.addresses };
  all = λ routers a within is. are.all routers a within (rounds-same f g routers h a within ∙ is);
}

path-same : (n : ℕ) (f g : RouterId → ℕ → Target) (r : RouterId) (a : ℕ) → ((s : RouterId) → f s a ≡ g s a) → path_answer n f r a ≡ path_answer n g r a
path-same n f g r a h =
    ap (λ hops. answers.Path hops (walk_end (at_address f a) n r)) (walk-same (at_address f a) (at_address g a) h n r)
    ∙ ap (λ e. answers.Path (walk (at_address g a) n r) e) (walk_end-same (at_address f a) (at_address g a) h n r)

runs_answer-same : (test other : ℕ → Bool) (answer : Answer) → ((a : ℕ) → a < 2 ^ 32 → test a ≡ other a) → IsRunsAnswer test answer → IsRunsAnswer other answer
runs_answer-same test other (answers.Path hops end) h is = is
runs_answer-same test other (answers.Runs runs) h is = runs-same runs test other h is
runs_answer-same test other (answers.Uses first second) h is = is
runs_answer-same test other (answers.Loops cycles) h is = is
runs_answer-same test other (answers.Holes holes) h is = is
runs_answer-same test other (answers.Delta changes) h is = is

uses_answer-same : (f g : RouterId → ℕ → Target) (l : LinkId) (link : TopoLink) (answer : Answer) → Agree f g → IsUsesAnswer f l link answer → IsUsesAnswer g l link answer
uses_answer-same f g l link (answers.Path hops end) h is = is
uses_answer-same f g l link (answers.Runs runs) h is = is
uses_answer-same f g l link (answers.Uses first second) h is =
    (runs-same first _ _ (over-same f g link.first.router l h) is.0, runs-same second _ _ (over-same f g link.second.router l h) is.1)
uses_answer-same f g l link (answers.Loops cycles) h is = is
uses_answer-same f g l link (answers.Holes holes) h is = is
uses_answer-same f g l link (answers.Delta changes) h is = is

loops_answer-same : (f g : RouterId → ℕ → Target) (answer : Answer) → Agree f g → IsLoopsAnswer f answer → IsLoopsAnswer g answer
loops_answer-same f g (answers.Path hops end) h is = is
loops_answer-same f g (answers.Runs runs) h is = is
loops_answer-same f g (answers.Uses first second) h is = is
loops_answer-same f g (answers.Loops cycles) h is = cycles-same f g cycles h is
loops_answer-same f g (answers.Holes holes) h is = is
loops_answer-same f g (answers.Delta changes) h is = is

holes_answer-same : (n : ℕ) (f g : RouterId → ℕ → Target) (r : RouterId) (answer : Answer) → Agree f g → IsHolesAnswer n f r answer → IsHolesAnswer n g r answer
holes_answer-same n f g r (answers.Path hops end) h is = is
holes_answer-same n f g r (answers.Runs runs) h is = is
holes_answer-same n f g r (answers.Uses first second) h is = is
holes_answer-same n f g r (answers.Loops cycles) h is = is
holes_answer-same n f g r (answers.Holes holes) h is = holes-same n f g r holes h is
holes_answer-same n f g r (answers.Delta changes) h is = is

some-same : {A : Type 0} (o : Option A) (P Q : A → Type 0) → ((x : A) → P x → Q x) → IsSomeAnd o P → IsSomeAnd o Q
some-same None P Q h is = is
some-same (Some x) P Q h is = h x is

reach-same : (t : Topology) (f g : RouterId → ℕ → Target) (n m : List ℕ) (answer : Answer) → Agree f g → IsAnswerOf t f (Reach n m) answer → IsAnswerOf t g (Reach n m) answer
reach-same t f g n m answer h is =
    some-same (router_of t n) _ _ (λ r. some-same (router_of t m) _ _ (λ s. runs_answer-same _ _ answer (reaches-same (length t.routers) f g r s h))) is

uses-same : (t : Topology) (f g : RouterId → ℕ → Target) (n : List ℕ) (answer : Answer) → Agree f g → IsAnswerOf t f (Uses n) answer → IsAnswerOf t g (Uses n) answer
uses-same t f g n answer h is =
    some-same (link_of t n) _ _ (λ l. some-same (slice_get t.links l.0) _ _ (λ link. uses_answer-same f g l link answer h)) is

blackholes-same : (t : Topology) (f g : RouterId → ℕ → Target) (n : List ℕ) (answer : Answer) → Agree f g → IsAnswerOf t f (Blackholes n) answer → IsAnswerOf t g (Blackholes n) answer
blackholes-same t f g n answer h is = some-same (router_of t n) _ _ (λ r. holes_answer-same (length t.routers) f g r answer h) is

waypoint-same : (t : Topology) (f g : RouterId → ℕ → Target) (n m w : List ℕ) (answer : Answer) → Agree f g → IsAnswerOf t f (Waypoint n m w) answer → IsAnswerOf t g (Waypoint n m w) answer
waypoint-same t f g n m w answer h is =
    some-same (router_of t n) _ _ (λ r. some-same (router_of t m) _ _ (λ s. some-same (router_of t w) _ _ (λ v. runs_answer-same _ _ answer (misses-same (length t.routers) f g r s v h)))) is

-- two functions do the same with what is asked about: the address of a path, else all addresses
abbrev pub AgreeOn : (RouterId → ℕ → Target) → (RouterId → ℕ → Target) → Ask → Type 0
AgreeOn f g (Path n a) = (r : RouterId) → f r a ≡ g r a
AgreeOn f g (Reach n m) = Agree f g
AgreeOn f g (Uses n) = Agree f g
AgreeOn f g Loops = Agree f g
AgreeOn f g (Blackholes n) = Agree f g
AgreeOn f g (Waypoint n m w) = Agree f g
AgreeOn f g Delta = Agree f g

pub answer-same : (t : Topology) (f g : RouterId → ℕ → Target) (ask : Ask) (answer : Answer) → AgreeOn f g ask → IsAnswerOf t f ask answer → IsAnswerOf t g ask answer
answer-same t f g (Path n a) answer h is = some-same (router_of t n) _ _ (λ r e. e ∙ path-same (length t.routers) f g r a h) is
answer-same t f g (Reach n m) answer h is = reach-same t f g n m answer h is
answer-same t f g (Uses n) answer h is = uses-same t f g n answer h is
answer-same t f g Loops answer h is = loops_answer-same f g answer h is
answer-same t f g (Blackholes n) answer h is = blackholes-same t f g n answer h is
answer-same t f g (Waypoint n m w) answer h is = waypoint-same t f g n m w answer h is
answer-same t f g Delta answer h is = absurd is

agree-on : (f g : RouterId → ℕ → Target) (ask : Ask) → ((r : RouterId) (a : ℕ) → f r a ≡ g r a) → AgreeOn f g ask
agree-on f g (Path n a) h = λ r. h r a
agree-on f g (Reach n m) h = λ r a l. h r a
agree-on f g (Uses n) h = λ r a l. h r a
agree-on f g Loops h = λ r a l. h r a
agree-on f g (Blackholes n) h = λ r a l. h r a
agree-on f g (Waypoint n m w) h = λ r a l. h r a
agree-on f g Delta h = λ r a l. h r a

-- what a network answers is the answer over a history after which its routers do the same
pub answer-over : (t : Topology) (f : RouterId → ℕ → Target) (history : List Entry) (down : List LinkId) (ask : Ask) (answer : Answer) → ((r : RouterId) (a : ℕ) → f r a ≡ next t history down r a) → IsAnswerOf t f ask answer → IsAnswerTo t history down ask answer
answer-over t f history down ask answer h is = by ask (answer-same t f (next t history down) ask answer (agree-on f (next t history down) ask h) is)
  where
    by : (ask : Ask) → IsAnswerOf t (next t history down) ask answer → IsAnswerTo t history down ask answer
    by (Path n a) is = is
    by (Reach n m) is = is
    by (Uses n) is = is
    by Loops is = is
    by (Blackholes n) is = is
    by (Waypoint n m w) is = is
    by Delta is = absurd is

-- and so of the changes between two moments
pub delta-over : (before after f g : RouterId → ℕ → Target) (changes : List Change) → ((r : RouterId) (a : ℕ) → before r a ≡ f r a) → ((r : RouterId) (a : ℕ) → after r a ≡ g r a) → IsDelta before after changes → IsDelta f g changes
delta-over before after f g changes h k is = record {
  form = is.form;
  exact = λ r a l.
      let P : Target → Type 0 = λ x. TellsChange x (g r a) (change_at changes r a) in
      let Q : Target → Type 0 = λ x. TellsChange (before r a) x (change_at changes r a) in
      subst P (h r a) (subst Q (k r a) (is.exact r a l));
}
