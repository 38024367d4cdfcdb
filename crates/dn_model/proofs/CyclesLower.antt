-- The cycles of a network, put together from the last addresses down.
use Rattle.std.proofs.Common.{◌≡◌, ℕ, ◌-◌, ◌<◌, ◌≤◌, ◌∙◌, true, false, List, [], ◌∷◌, refl, ap, sym, ⊎_elim, arith}
use Rattle.std.proofs.lemmas.Bool.{cases_lt, and_parts, false≢true}
use Rattle.base.specs.Cycles.{goes_to, go_round, goes_round, first_router, HasCycle}
use Rattle.base.specs.CyclesFrom.{TellsCycles, AreCyclesFrom}
use Rattle.base.specs.Reach.{is_router}
use Rattle.base.specs.RunsFrom.{DoAlike}
use Rattle.base.specs.Walk.{at_address, on_far}
use Rattle.base.specs.declared.cycle.Cycle.{Cycle}
use Rattle.base.specs.declared.ids.RouterId.{RouterId}
use Rattle.dn_model.specs.declared.plain_test.Test.TheVariants.{GoesRound}
use Rattle.base.specs.declared.target.Target.{Target}
use Rattle.base.proofs.CycleFrom.{cycle-parts}
use Rattle.base.specs.declared.target.Target.TheVariants.{NoRoute}
use Rattle.dn_model.proofs.Passes.{passes-alike}

goes-somewhere : (f : RouterId → Target) (s r : RouterId) (rest : List RouterId) → go_round f s (r ∷ rest) ≡ true → (x : RouterId) × (goes_to f r x ≡ true)
goes-somewhere f s r [] h = (s, h)
goes-somewhere f s r (y ∷ ys) h = (y, (and_parts (goes_to f r y) (go_round f s (y ∷ ys)) h).0)

-- the first router of a cycle is one of the network
first-within : (n : ℕ) (does : RouterId → ℕ → Target) (routers : List RouterId) (a : ℕ) → ((r : RouterId) (b : ℕ) → n ≤ r.0 → does r b ≡ NoRoute) → goes_round does routers a ≡ true → first_router routers < n
first-within n does [] a h g = absurd (false≢true g)
first-within n does (r ∷ rest) a h g = ⊎_elim
    (λ (l : r.0 < n). l)
    (λ (out : n ≤ r.0).
    let on : (x : RouterId) × (goes_to (at_address does a) r x ≡ true) = goes-somewhere (at_address does a) r r rest (cycle-parts (at_address does a) r rest g).2 in
    absurd (false≢true (ap (λ (u : Target). on_far u false (is_router on.0)) (sym (h r a out)) ∙ on.1)))
    (cases_lt r.0 n)

pub cycles-lower : (n : ℕ) (does : RouterId → ℕ → Target) (low past : ℕ) (old new : List Cycle)
    → ((r : RouterId) (b : ℕ) → n ≤ r.0 → does r b ≡ NoRoute) → low < past → DoAlike does low past
    → AreCyclesFrom does past old
    → TellsCycles does 0 n (past - 1) old new
    → AreCyclesFrom does low new
cycles-lower n does low past old new out l alike h told = record {
  form = told.form;
  all = λ rs a from below g. ⊎_elim
      (λ (here : a < past).
      let last : goes_round does rs (past - 1) ≡ true = sym (passes-alike n does (GoesRound rs) low past _ alike refl a from here) ∙ g in
      told.told rs (omega arith) (first-within n does rs (past - 1) out last) last)
      (λ (later : past ≤ a).
      let has : HasCycle old rs = h.all rs a later below g in
      record { cycle = has.cycle; among = told.kept has.cycle has.among; is = has.is })
      (cases_lt a past);
}
