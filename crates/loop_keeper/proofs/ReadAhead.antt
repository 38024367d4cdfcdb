-- Rows that were read ahead, and changes whose next router goes on to nobody there.
use Rattle.std.proofs.Common.{◌≡◌, ℕ, suc, ◌+◌, ◌<◌, ◌≤◌, ◌∙◌, true, List, [], ◌∷◌, length, get_or, refl, sym, subst, arith}
use Rattle.base.specs.Cycles.{goes_to}
use Rattle.base.specs.Forwarding.{AreForwarding, does}
use Rattle.base.specs.Walk.{at_address}
use Rattle.base.specs.declared.change.Change.{Change}
use Rattle.base.specs.declared.forwarding_row.ForwardingRow.{ForwardingRow}
use Rattle.base.specs.declared.ids.LinkId.{LinkId}
use Rattle.base.specs.declared.ids.RouterId.{RouterId}
use Rattle.base.specs.declared.run.Run.{Run}
use Rattle.base.specs.declared.target.Target.TheVariants.{NoRoute, To}
use Rattle.label_view.specs.Places.{IsInRow, begin_of}
use Rattle.label_view.proofs.InRow.{target-is}
use Rattle.loop_check.specs.Following.{is_among}
use Rattle.loop_check.proofs.Rounds.{goes-there, in-none, step}
use Rattle.loop_keeper.specs.Ahead.{EndsOn, HasAll, IsAhead}
use Rattle.loop_keeper.specs.Finding.{FindsMore, TellsAfter}
use Rattle.loop_keeper.specs.declared.ahead.Ahead.{Ahead}
use Rattle.loop_keeper.specs.declared.found.Found.{Found}
use Rattle.loop_keeper.proofs.Meeting.{touched-one}

abbrev no_run : Run
no_run = record { lo = 0; hi = 0 }

-- ---- what was read

-- in the row that has all of a run the router does what was read
pub ends-there : (n : ℕ) (rows : List ForwardingRow) (ahead : Ahead) (at : ℕ) (run : Run) → IsAhead n rows ahead → HasAll ahead at run → ((s : RouterId) (l : LinkId) → get_or ahead.targets at NoRoute ≡ To s l → ⊥) → EndsOn (does rows) ahead.router run
ends-there n rows ahead at run h has none = λ a lo hi s l to.
    let some : at < ahead.count = has.inside in
    let form : AreForwarding n rows = h.form (omega arith) in
    let within : ahead.from + ahead.count ≤ length rows = h.inside (omega arith) in
    let place : ahead.from + at < length rows = omega arith in
    let its : ((get_or ahead.runs at no_run).lo ≡ begin_of rows (ahead.from + at)) × ((get_or ahead.runs at no_run).hi + 1 ≡ begin_of rows (ahead.from + at + 1)) = h.runs at no_run some in
    let begin : (get_or ahead.runs at no_run).lo ≡ begin_of rows (ahead.from + at) = its.0 in
    let P : ℕ → Type 0 = λ k. (get_or ahead.runs at no_run).hi + 1 ≡ begin_of rows k in
    let next : ahead.from + at + 1 ≡ suc (ahead.from + at) = omega arith in
    let end : (get_or ahead.runs at no_run).hi + 1 ≡ begin_of rows (suc (ahead.from + at)) = subst P next its.1 in
    let low : (get_or ahead.runs at no_run).lo ≤ run.lo = has.from no_run in
    let high : run.hi ≤ (get_or ahead.runs at no_run).hi = has.to no_run in
    let inside : IsInRow rows (ahead.from + at) a = record { from = omega arith; to = omega arith } in
    none s l (sym (target-is n rows (ahead.from + at) a ahead.router (get_or ahead.targets at NoRoute) form place (λ d. h.targets at d NoRoute some) inside) ∙ to)

-- ---- changes

-- a router is in no cycle where the one that it goes on to goes on to nobody
pub finds-ended : (rows : List ForwardingRow) (c : Change) (far : RouterId) (k : LinkId) (found : List Found) → TellsAfter (does rows) c → c.after ≡ To far k → EndsOn (does rows) far c.run → FindsMore (does rows) (c ∷ []) found found
finds-ended rows c far k found tells to ends = record {
  sound = λ h. h;
  inside = λ h. h;
  kept = λ rs a h. h;
  found = λ rs a b goes t.
      let is = touched-one c rs a t in
      let told : does rows c.router a ≡ c.after = tells a is.1 is.2 in
      let on : goes_to (at_address (does rows) a) c.router far ≡ true = goes-there (at_address (does rows) a) c.router far far k (told ∙ to) refl in
      let next : is_among rs far ≡ true = step (at_address (does rows) a) rs c.router far goes is.0 on in
      absurd (in-none (at_address (does rows) a) far (λ s l e. ends a is.1 is.2 s l e) rs goes next);
}
