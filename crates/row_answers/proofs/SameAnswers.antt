-- What routers do decides the answers: where two functions agree at each address, their answers are the same.
use Rattle.std.proofs.Common.{◌≡◌, ℕ, zero, suc, ◌<◌, ◌^◌, Bool, false, ◌&&◌, ◌∙◌, Option, None, Some, List, [], ◌∷◌, length, refl, ap, sym, subst}
use Rattle.std.specs.List.{list_any, list_all}
use Rattle.std.specs.Prelude.{slice_get, IsSomeAnd, IfOk, nat_lt}
use Rattle.std.specs.declared.result.Result.{Result}
use Rattle.std.specs.declared.result.Result.TheVariants.{Ok, Err}
use Rattle.dn_model.specs.Answer.{IsAnswer, IsAnswerOf, IsAnswerTo, IsDeltaAnswer, IsHolesAnswer, IsLoopsAnswer, IsRunsAnswer, IsUsesAnswer, links_of, path_answer}
use Rattle.base.specs.Cycles.{AreCycles, IsCycle, go_round, goes_round, goes_to, is_cycle}
use Rattle.dn_model.specs.Standing.{StandsFor}
use Rattle.base.specs.Forwarding.{does}
use Rattle.base.specs.Holes.{AreHoles, IsHole, ends_by, falls}
use Rattle.dn_model.specs.Lookup.{link_of, router_of}
use Rattle.dn_model.specs.Query.{Question}
use Rattle.base.specs.Reach.{comes_before, goes_over, is_over, is_router, misses, reaches}
use Rattle.base.specs.Runs.{AreRuns}
use Rattle.dn_model.specs.Table.{does_after}
use Rattle.base.specs.Lists.{all_differ}
use Rattle.base.specs.Walk.{at_address, on_far, walk, walk_end, walk_last, with_down}
use Rattle.dn_model.specs.Next.{next}
use Rattle.base.specs.Links.{without}
use Rattle.dn_model.specs.declared.answer.Answer.{Answer}
use Rattle.dn_model.specs.declared.answer.Answer.TheVariants as answers
use Rattle.base.specs.declared.cycle.Cycle.{Cycle}
use Rattle.base.specs.declared.hole.Hole.{Hole}
use Rattle.base.specs.declared.change.Change.{Change}
use Rattle.dn_model.specs.declared.entry.Entry.{Entry}
use Rattle.base.specs.declared.forwarding_row.ForwardingRow.{ForwardingRow}
use Rattle.base.specs.declared.ids.LinkId.{LinkId}
use Rattle.base.specs.declared.ids.RouterId.{RouterId}
use Rattle.base.specs.declared.memory.OutOfMemory.{OutOfMemory}
use Rattle.dn_model.specs.declared.query.Ask.{Ask}
use Rattle.dn_model.specs.declared.query.Ask.TheVariants.{Path, Reach, Uses, Loops, Blackholes, Waypoint, Delta}
use Rattle.base.specs.declared.run.Run.{Run}
use Rattle.base.specs.declared.target.Target.{Target}
use Rattle.base.specs.declared.target.Target.TheVariants as targets
use Rattle.dn_model.specs.declared.topology.TopoLink.{TopoLink}
use Rattle.dn_model.specs.declared.topology.Topology.{Topology}
use Rattle.base.proofs.Walks.{on_far-same, walk-same, walk_end-same}
use Rattle.row_answers.specs.Shown.{AreToldIf, IsShown}

-- ---- walks

-- two functions do the same with each address
abbrev pub Agree : (RouterId → ℕ → Target) → (RouterId → ℕ → Target) → Type 0
Agree f g = (r : RouterId) (a : ℕ) → a < 2 ^ 32 → f r a ≡ g r a

walk_last-same : (f g : RouterId → Target) → ((r : RouterId) → f r ≡ g r) → (n : ℕ) (r : RouterId) → walk_last f n r ≡ walk_last g n r
walk_last-same f g h zero r = refl
walk_last-same f g h (suc n) r = ap (λ t. on_far t r (λ s. walk_last f n s)) (h r) ∙ on_far-same (g r) r _ _ (λ s. walk_last-same f g h n s)

round-same : (f g : RouterId → Target) → ((r : RouterId) → f r ≡ g r) → (first : RouterId) (routers : List RouterId) → go_round f first routers ≡ go_round g first routers
round-same f g h first [] = refl
round-same f g h first (r ∷ []) = ap (λ t. on_far t false (is_router first)) (h r)
round-same f g h first (r ∷ s ∷ rest) =
    ap (λ t. on_far t false (is_router s) && go_round f first (s ∷ rest)) (h r)
    ∙ ap (λ b. goes_to g r s && b) (round-same f g h first (s ∷ rest))

cycle-same : (f g : RouterId → Target) → ((r : RouterId) → f r ≡ g r) → (routers : List RouterId) → is_cycle f routers ≡ is_cycle g routers
cycle-same f g h [] = refl
cycle-same f g h (r ∷ rest) = ap (λ b. list_all (λ s. nat_lt r.0 s.0) rest && all_differ is_router (r ∷ rest) && b) (round-same f g h r (r ∷ rest))

-- ---- runs

runs-same : (runs : List Run) (test other : ℕ → Bool) → ((a : ℕ) → a < 2 ^ 32 → test a ≡ other a) → AreRuns runs test → AreRuns runs other
runs-same runs test other h are = record { apart = are.apart; exact = λ a within. are.exact a within ∙ h a within }

reaches-same : (n : ℕ) (f g : RouterId → ℕ → Target) (first to : RouterId) → Agree f g → (a : ℕ) → a < 2 ^ 32 → reaches n f first to a ≡ reaches n g first to a
reaches-same n f g first to h a within = ap (λ rs. list_any (is_router to) rs) (walk-same (at_address f a) (at_address g a) (λ r. h r a within) n first)

misses-same : (n : ℕ) (f g : RouterId → ℕ → Target) (first to through : RouterId) → Agree f g → (a : ℕ) → a < 2 ^ 32 → misses n f first to through a ≡ misses n g first to through a
misses-same n f g first to through h a within = ap (λ rs. comes_before to through rs) (walk-same (at_address f a) (at_address g a) (λ r. h r a within) n first)

over-same : (f g : RouterId → ℕ → Target) (r : RouterId) (l : LinkId) → Agree f g → (a : ℕ) → a < 2 ^ 32 → goes_over f r l a ≡ goes_over g r l a
over-same f g r l h a within = ap (is_over l) (h r a within)

falls-same : (n : ℕ) (f g : RouterId → ℕ → Target) (first last : RouterId) (cause : Target) → Agree f g → (a : ℕ) → a < 2 ^ 32 → falls n f first last cause a ≡ falls n g first last cause a
falls-same n f g first last cause h a within =
    ap (λ r. is_router last r && ends_by cause (walk_end (at_address f a) n first)) (walk_last-same (at_address f a) (at_address g a) (λ r. h r a within) n first)
    ∙ ap (λ e. is_router last (walk_last (at_address g a) n first) && ends_by cause e) (walk_end-same (at_address f a) (at_address g a) (λ r. h r a within) n first)

rounds-same : (f g : RouterId → ℕ → Target) (routers : List RouterId) → Agree f g → (a : ℕ) → a < 2 ^ 32 → goes_round f routers a ≡ goes_round g routers a
rounds-same f g routers h a within = cycle-same (at_address f a) (at_address g a) (λ r. h r a within) routers

-- ---- answers

holes-same : (n : ℕ) (f g : RouterId → ℕ → Target) (first : RouterId) (holes : List Hole) → Agree f g → AreHoles n f first holes → AreHoles n g first holes
holes-same n f g first holes h are = record {
  order = are.order;
  each = λ x among.
      let hole : IsHole n f first x = are.each x among in
      record { cause = hole.cause; runs = runs-same x.runs _ _ (falls-same n f g first x.router x.cause h) hole.runs; some = hole.some };
  all = λ last cause a within is. are.all last cause a within (falls-same n f g first last cause h a within ∙ is);
}

cycles-same : (f g : RouterId → ℕ → Target) (cycles : List Cycle) → Agree f g → AreCycles f cycles → AreCycles g cycles
cycles-same f g cycles h are = record {
  order = are.order;
  each = λ c among.
      let is : IsCycle f c = are.each c among in
      record { runs = is.runs; are = runs-same is.runs _ _ (rounds-same f g c.routers h) is.are; least = is.least; addresses = is.addresses };
  all = λ routers a within is. are.all routers a within (rounds-same f g routers h a within ∙ is);
}

path-same : (n : ℕ) (f g : RouterId → ℕ → Target) (r : RouterId) (a : ℕ) → Agree f g → a < 2 ^ 32 → path_answer n f r a ≡ path_answer n g r a
path-same n f g r a h within =
    ap (λ hops. answers.Path hops (walk_end (at_address f a) n r)) (walk-same (at_address f a) (at_address g a) (λ s. h s a within) n r)
    ∙ ap (λ e. answers.Path (walk (at_address g a) n r) e) (walk_end-same (at_address f a) (at_address g a) (λ s. h s a within) n r)

runs_answer-same : (test other : ℕ → Bool) (answer : Answer) → ((a : ℕ) → a < 2 ^ 32 → test a ≡ other a) → IsRunsAnswer test answer → IsRunsAnswer other answer
runs_answer-same test other (answers.Path hops end) h is = is
runs_answer-same test other (answers.Runs runs) h is = runs-same runs test other h is
runs_answer-same test other (answers.Uses first second) h is = is
runs_answer-same test other (answers.Loops cycles) h is = is
runs_answer-same test other (answers.Holes holes) h is = is
runs_answer-same test other (answers.Delta changes) h is = is

uses_answer-same : (f g : RouterId → ℕ → Target) (l : LinkId) (link : TopoLink) (answer : Answer) → Agree f g → IsUsesAnswer f l link answer → IsUsesAnswer g l link answer
uses_answer-same f g l link (answers.Path hops end) h is = is
uses_answer-same f g l link (answers.Runs runs) h is = is
uses_answer-same f g l link (answers.Uses first second) h is =
    (runs-same first _ _ (over-same f g link.first.router l h) is.0, runs-same second _ _ (over-same f g link.second.router l h) is.1)
uses_answer-same f g l link (answers.Loops cycles) h is = is
uses_answer-same f g l link (answers.Holes holes) h is = is
uses_answer-same f g l link (answers.Delta changes) h is = is

loops_answer-same : (f g : RouterId → ℕ → Target) (answer : Answer) → Agree f g → IsLoopsAnswer f answer → IsLoopsAnswer g answer
loops_answer-same f g (answers.Path hops end) h is = is
loops_answer-same f g (answers.Runs runs) h is = is
loops_answer-same f g (answers.Uses first second) h is = is
loops_answer-same f g (answers.Loops cycles) h is = cycles-same f g cycles h is
loops_answer-same f g (answers.Holes holes) h is = is
loops_answer-same f g (answers.Delta changes) h is = is

holes_answer-same : (n : ℕ) (f g : RouterId → ℕ → Target) (r : RouterId) (answer : Answer) → Agree f g → IsHolesAnswer n f r answer → IsHolesAnswer n g r answer
holes_answer-same n f g r (answers.Path hops end) h is = is
holes_answer-same n f g r (answers.Runs runs) h is = is
holes_answer-same n f g r (answers.Uses first second) h is = is
holes_answer-same n f g r (answers.Loops cycles) h is = is
holes_answer-same n f g r (answers.Holes holes) h is = holes-same n f g r holes h is
holes_answer-same n f g r (answers.Delta changes) h is = is

some-same : {A : Type 0} (o : Option A) (P Q : A → Type 0) → ((x : A) → P x → Q x) → IsSomeAnd o P → IsSomeAnd o Q
some-same None P Q h is = is
some-same (Some x) P Q h is = h x is

reach-same : (t : Topology) (f g : RouterId → ℕ → Target) (n m : List ℕ) (answer : Answer) → Agree f g → IsAnswerOf t f (Reach n m) answer → IsAnswerOf t g (Reach n m) answer
reach-same t f g n m answer h is =
    some-same (router_of t n) _ _ (λ r. some-same (router_of t m) _ _ (λ s. runs_answer-same _ _ answer (reaches-same (length t.routers) f g r s h))) is

uses-same : (t : Topology) (f g : RouterId → ℕ → Target) (n : List ℕ) (answer : Answer) → Agree f g → IsAnswerOf t f (Uses n) answer → IsAnswerOf t g (Uses n) answer
uses-same t f g n answer h is =
    some-same (link_of t n) _ _ (λ l. some-same (slice_get t.links l.0) _ _ (λ link. uses_answer-same f g l link answer h)) is

blackholes-same : (t : Topology) (f g : RouterId → ℕ → Target) (n : List ℕ) (answer : Answer) → Agree f g → IsAnswerOf t f (Blackholes n) answer → IsAnswerOf t g (Blackholes n) answer
blackholes-same t f g n answer h is = some-same (router_of t n) _ _ (λ r. holes_answer-same (length t.routers) f g r answer h) is

waypoint-same : (t : Topology) (f g : RouterId → ℕ → Target) (n m w : List ℕ) (answer : Answer) → Agree f g → IsAnswerOf t f (Waypoint n m w) answer → IsAnswerOf t g (Waypoint n m w) answer
waypoint-same t f g n m w answer h is =
    some-same (router_of t n) _ _ (λ r. some-same (router_of t m) _ _ (λ s. some-same (router_of t w) _ _ (λ v. runs_answer-same _ _ answer (misses-same (length t.routers) f g r s v h)))) is

-- ---- over a history

pub without-none : (t : Target) → t ≡ without [] t
without-none targets.NoRoute = refl
without-none (targets.Dropped kind) = refl
without-none targets.Local = refl
without-none (targets.Exit i) = refl
without-none (targets.OnLink i) = refl
without-none (targets.To s l) = refl
without-none (targets.LinkDown l) = refl

-- a view that stands for a history shows what the routers do after it
agrees : (t : Topology) (rows : List ForwardingRow) (history : List Entry) → StandsFor t rows history → Agree (does rows) (next t history [])
agrees t rows history stands = λ r a within. stands.exact r a within ∙ without-none (does_after t history r a)

-- and so with links that are down
agrees-down : (t : Topology) (rows : List ForwardingRow) (history : List Entry) (down : List LinkId) (shows : RouterId → ℕ → Target) → StandsFor t rows history → ((r : RouterId) (a : ℕ) → shows r a ≡ with_down down (does rows) r a) → Agree shows (next t history down)
agrees-down t rows history down shows stands is = λ r a within. is r a ∙ ap (without down) (stands.exact r a within)

-- what is shown is the answer over the history
shown-is : (t : Topology) (shows : RouterId → ℕ → Target) (history : List Entry) (down : List LinkId) (changes : List Change) (ask : Ask) (answer : Answer) → Agree shows (next t history down) → AreToldIf t history changes ask → IsShown t shows changes ask answer → IsAnswerTo t history down ask answer
shown-is t shows history down changes (Path n a) answer h delta is =
    some-same (router_of t n) _ _ (λ r e. e ∙ path-same (length t.routers) shows (next t history down) r a h is.0) is.1
shown-is t shows history down changes (Reach n m) answer h delta is = reach-same t shows (next t history down) n m answer h is
shown-is t shows history down changes (Uses n) answer h delta is = uses-same t shows (next t history down) n answer h is
shown-is t shows history down changes Loops answer h delta is = loops_answer-same shows (next t history down) answer h is
shown-is t shows history down changes (Blackholes n) answer h delta is = blackholes-same t shows (next t history down) n answer h is
shown-is t shows history down changes (Waypoint n m w) answer h delta is = waypoint-same t shows (next t history down) n m w answer h is
shown-is t shows history down changes Delta answer h delta is = subst (λ (x : Answer). IsDeltaAnswer t history x) (sym is) delta

-- what a view shows is the answer over the history that it stands for: without a link that is down, and with some
answers-plain : (t : Topology) (rows : List ForwardingRow) (history : List Entry) (changes : List Change) (q : Question) (answer : Answer) → q.without ≡ [] → StandsFor t rows history → AreToldIf t history changes q.ask → IsShown t (does rows) changes q.ask answer → IsAnswer t history q answer
answers-plain t rows history changes q answer none stands delta is =
    let P : List (List ℕ) → Type 0 = λ names. IsAnswerTo t history (links_of t names) q.ask answer in
    subst P (sym none) (shown-is t (does rows) history [] changes q.ask answer (agrees t rows history stands) delta is)

answers-down : (t : Topology) (rows : List ForwardingRow) (history : List Entry) (changes : List Change) (q : Question) (answer : Answer) (down : List LinkId) (shows : RouterId → ℕ → Target) → down ≡ links_of t q.without → ((r : RouterId) (a : ℕ) → shows r a ≡ with_down down (does rows) r a) → StandsFor t rows history → AreToldIf t history changes q.ask → IsShown t shows changes q.ask answer → IsAnswer t history q answer
answers-down t rows history changes q answer down shows are same stands delta is =
    let P : List LinkId → Type 0 = λ links. IsAnswerTo t history links q.ask answer in
    subst P are (shown-is t shows history down changes q.ask answer (agrees-down t rows history down shows stands same) delta is)

-- an answer over whatever history the rows stand for
abbrev pub IsAnswerBy : Topology → List ForwardingRow → List Change → Question → Answer → Type 0
IsAnswerBy t rows changes q answer = (history : List Entry) → StandsFor t rows history → AreToldIf t history changes q.ask → IsAnswer t history q answer

pub answered-plain : (t : Topology) (rows : List ForwardingRow) (changes : List Change) (q : Question) (result : Result Answer OutOfMemory) → q.without ≡ [] → IfOk result (IsShown t (does rows) changes q.ask) → IfOk result (IsAnswerBy t rows changes q)
answered-plain t rows changes q (Ok answer) none is = λ history stands delta. answers-plain t rows history changes q answer none stands delta is
answered-plain t rows changes q (Err error) none is = is

pub answered-down : (t : Topology) (rows : List ForwardingRow) (changes : List Change) (q : Question) (result : Result Answer OutOfMemory) (down : List LinkId) (shows : RouterId → ℕ → Target) → down ≡ links_of t q.without → ((r : RouterId) (a : ℕ) → shows r a ≡ with_down down (does rows) r a) → IfOk result (IsShown t shows changes q.ask) → IfOk result (IsAnswerBy t rows changes q)
answered-down t rows changes q (Ok answer) down shows are same is = λ history stands delta. answers-down t rows history changes q answer down shows are same stands delta is
answered-down t rows changes q (Err error) down shows are same is = is
