-- The black holes of a network, put together from the last addresses down.
use Rattle.std.proofs.Common.{ℕ, ◌-◌, ◌<◌, ◌≤◌, ◌∙◌, List, refl, sym, ⊎_elim}
use Rattle.std.proofs.lemmas.Bool.{cases_lt}
use Rattle.base.specs.Holes.{HasHole}
use Rattle.base.specs.HolesFrom.{TellsHole, AreHolesFrom}
use Rattle.base.specs.RunsFrom.{DoAlike}
use Rattle.base.specs.declared.hole.Hole.{Hole}
use Rattle.base.specs.declared.target.Target.{Target}
use Rattle.base.specs.declared.ids.RouterId.{RouterId}
use Rattle.dn_model.specs.declared.plain_test.Test.TheVariants.{Falls}
use Rattle.dn_model.proofs.Passes.{passes-alike}

pub holes-lower : (n : ℕ) (does : RouterId → ℕ → Target) (first : RouterId) (low past : ℕ) (old new : List Hole)
    → low < past → DoAlike does low past
    → AreHolesFrom n does first past old
    → TellsHole n does first (past - 1) old new
    → AreHolesFrom n does first low new
holes-lower n does first low past old new l alike h told = record {
  form = told.form;
  all = λ r c a from below f. ⊎_elim
      (λ (here : a < past). told.told r c (sym (passes-alike n does (Falls first r c) low past _ alike refl a from here) ∙ f))
      (λ (later : past ≤ a).
      let has : HasHole old r c = h.all r c a later below f in
      record { hole = has.hole; among = told.kept has.hole has.among; router = has.router; same = has.same })
      (cases_lt a past);
}
