-- The definitions of black holes and of cycles determine the lists that are told.
use Rattle.std.proofs.Common.{◌≡◌, ◌≢◌, ℕ, zero, suc, ◌+◌, ◌<◌, ◌^◌, ◌∙◌, Bool, true, List, [], ◌∷◌, refl, ap, sym, subst, arith}
use Rattle.std.specs.List.{Contains}
use Rattle.std.proofs.lemmas.Bool.{false≢true}
use Rattle.base.specs.Cycles.{goes_round, BeginAt, IsCycle, HasCycle, AreCycles}
use Rattle.base.specs.Holes.{cause_rank, is_cause, falls, IsHole, HasHole, AreHoles}
use Rattle.base.specs.Runs.{AreRuns, addresses_in}
use Rattle.base.specs.declared.cycle.Cycle.{Cycle}
use Rattle.base.specs.declared.hole.Hole.{Hole}
use Rattle.base.specs.declared.ids.RouterId.{RouterId}
use Rattle.base.specs.declared.run.Run.{Run}
use Rattle.base.specs.declared.target.DropKind.TheVariants.{Blackhole, Unreachable, Prohibit}
use Rattle.base.specs.declared.target.Target.{Target}
use Rattle.base.specs.declared.target.Target.TheVariants.{NoRoute, Dropped, Local, Exit, OnLink, To, LinkDown}
use Rattle.base.proofs.CyclesFrom.{ordered-cycles, begin-goes, least-goes, least, first}
use Rattle.base.proofs.DeltaParts.{same-router}
use Rattle.base.proofs.HolesFrom.{ordered-holes, place, rank}
use Rattle.base.proofs.Ordered.{ordered-once}
use Rattle.base.proofs.RunsOnce.{runs-once}

-- ---- black holes

-- the cause of a rank
cause_of : ℕ → Target
cause_of zero = Local
cause_of (suc zero) = NoRoute
cause_of (suc (suc zero)) = Dropped Blackhole
cause_of (suc (suc (suc zero))) = Dropped Unreachable
cause_of (suc (suc (suc (suc zero)))) = Dropped Prohibit
cause_of (suc (suc (suc (suc (suc n))))) = LinkDown (record { 0 = n })

cause-of_rank : (x : Target) → is_cause x ≡ true → cause_of (cause_rank x) ≡ x
unfolding cause_of
cause-of_rank NoRoute h = refl
cause-of_rank (Dropped Blackhole) h = refl
cause-of_rank (Dropped Unreachable) h = refl
cause-of_rank (Dropped Prohibit) h = refl
cause-of_rank (LinkDown l) h = let e : 5 + l.0 ≡ suc (suc (suc (suc (suc l.0)))) = omega arith in ap cause_of e
cause-of_rank Local h = absurd (false≢true h)
cause-of_rank (Exit i) h = absurd (false≢true h)
cause-of_rank (OnLink i) h = absurd (false≢true h)
cause-of_rank (To s l) h = absurd (false≢true h)

same-cause : (x y : Target) → is_cause x ≡ true → is_cause y ≡ true → cause_rank x ≡ cause_rank y → x ≡ y
same-cause x y h k e = sym (cause-of_rank x h) ∙ ap cause_of e ∙ cause-of_rank y k

same-hole : (n : ℕ) (does : RouterId → ℕ → Target) (first : RouterId) (x y : Hole) → IsHole n does first x → IsHole n does first y → x.router.0 ≡ y.router.0 → cause_rank x.cause ≡ cause_rank y.cause → x ≡ y
same-hole n does first x y h k e f =
    let router : x.router ≡ y.router = same-router x.router y.router e in
    let cause : x.cause ≡ y.cause = same-cause x.cause y.cause h.cause k.cause f in
    let P : RouterId → Type 0 = λ r. AreRuns x.runs (falls n does first r x.cause) in
    let Q : Target → Type 0 = λ c. AreRuns x.runs (falls n does first y.router c) in
    let runs : x.runs ≡ y.runs = runs-once x.runs y.runs (falls n does first y.router y.cause) (subst Q cause (subst P router h.runs)) k.runs in
    let by_router : RouterId → Hole = λ r. record { router = r; cause = x.cause; runs = x.runs } in
    let by_cause : Target → Hole = λ c. record { router = y.router; cause = c; runs = x.runs } in
    let by_runs : List Run → Hole = λ rs. record { router = y.router; cause = y.cause; runs = rs } in
    ap by_router router ∙ ap by_cause cause ∙ ap by_runs runs

-- an address of runs that are some
some-address : (runs : List Run) (test : ℕ → Bool) → AreRuns runs test → runs ≢ [] → (a : ℕ) × (a < 2 ^ 32) × (test a ≡ true)
some-address [] test h s = absurd (s refl)
some-address (i ∷ is) test h s = let g = begin-goes (i ∷ is) test i.lo h refl in (i.lo, g.0, g.1)

holes-among : (n : ℕ) (does : RouterId → ℕ → Target) (first : RouterId) (xs ys : List Hole) → AreHoles n does first xs → AreHoles n does first ys → (z : Hole) → Contains xs z → Contains ys z
holes-among n does first xs ys h k z i =
    let is : IsHole n does first z = h.each z i in
    let a : (a : ℕ) × (a < 2 ^ 32) × (falls n does first z.router z.cause a ≡ true) = some-address z.runs (falls n does first z.router z.cause) is.runs is.some in
    let has : HasHole ys z.router z.cause = k.all z.router z.cause a.0 a.1 a.2 in
    let P : Hole → Type 0 = λ x. Contains ys x in
    subst P (same-hole n does first has.hole z (k.each has.hole has.among) is has.router has.same) has.among

pub holes-once : (n : ℕ) (does : RouterId → ℕ → Target) (first : RouterId) (xs ys : List Hole) → AreHoles n does first xs → AreHoles n does first ys → xs ≡ ys
holes-once n does first xs ys h k =
    ordered-once place rank xs ys (ordered-holes xs h.order) (ordered-holes ys k.order) (holes-among n does first xs ys h k) (holes-among n does first ys xs k h)

-- ---- cycles

begin-same : (runs : List Run) (a b : ℕ) → BeginAt runs a → BeginAt runs b → a ≡ b
begin-same [] a b h k = absurd h
begin-same (i ∷ is) a b h k = sym h ∙ k

same-cycle : (does : RouterId → ℕ → Target) (x y : Cycle) → IsCycle does x → IsCycle does y → x.routers ≡ y.routers → x ≡ y
same-cycle does x y h k e =
    let P : List RouterId → Type 0 = λ rs. AreRuns h.runs (goes_round does rs) in
    let runs : h.runs ≡ k.runs = runs-once h.runs k.runs (goes_round does y.routers) (subst P e h.are) k.are in
    let Q : List Run → Type 0 = λ rs. BeginAt rs x.least in
    let low : x.least ≡ y.least = begin-same k.runs x.least y.least (subst Q runs h.least) k.least in
    let many : x.addresses ≡ y.addresses = h.addresses ∙ ap (λ (rs : List Run). addresses_in rs) runs ∙ sym k.addresses in
    let by_routers : List RouterId → Cycle = λ rs. record { routers = rs; least = x.least; addresses = x.addresses } in
    let by_least : ℕ → Cycle = λ a. record { routers = y.routers; least = a; addresses = x.addresses } in
    let by_addresses : ℕ → Cycle = λ m. record { routers = y.routers; least = y.least; addresses = m } in
    ap by_routers e ∙ ap by_least low ∙ ap by_addresses many

cycles-among : (does : RouterId → ℕ → Target) (xs ys : List Cycle) → AreCycles does xs → AreCycles does ys → (z : Cycle) → Contains xs z → Contains ys z
cycles-among does xs ys h k z i =
    let is : IsCycle does z = h.each z i in
    let goes : (z.least < 2 ^ 32) × (goes_round does z.routers z.least ≡ true) = least-goes does z is in
    let has : HasCycle ys z.routers = k.all z.routers z.least goes.0 goes.1 in
    let P : Cycle → Type 0 = λ x. Contains ys x in
    subst P (same-cycle does has.cycle z (k.each has.cycle has.among) is has.is) has.among

pub cycles-once : (does : RouterId → ℕ → Target) (xs ys : List Cycle) → AreCycles does xs → AreCycles does ys → xs ≡ ys
cycles-once does xs ys h k =
    ordered-once least first xs ys (ordered-cycles xs h.order) (ordered-cycles ys k.order) (cycles-among does xs ys h k) (cycles-among does ys xs k h)
