use Rattle.std.proofs.Common.{◌≡◌, ℕ, ◌<◌, ◌≤◌, ◌∙◌, true, false, List, length, get_or, refl, sym, subst}
use Rattle.std.proofs.lemmas.List.{get_or_default}
use Rattle.blackhole.specs.Falls.{is_before, is_same}
use Rattle.blackhole.specs.Gathering.{AreFalls}
use Rattle.blackhole.specs.declared.fall.Fall.{Fall}
use Rattle.blackhole.proofs.Row.{begun, grown}
use Rattle.blackhole.proofs.falls.add_fall.Goals as goal

pub returns-then-is_there : goal.returns-then-is_there
returns-then-is_there g c =
    let P : List Fall → Type 0 = λ falls. c.place_of-place.result < length falls in
    let Q : List Fall → Type 0 = λ falls. (d : Fall) → is_same (get_or falls c.place_of-place.result d).router (get_or falls c.place_of-place.result d).cause c.args.router c.args.cause ≡ true in
    let inside : c.place_of-place.result < length c.args.falls.now.items = subst P c.as_slice-2.ensures.value (c.is_there.ensures.inside c.if-is_there.true) in
    let same = subst Q c.as_slice-2.ensures.value (c.is_there.ensures.same c.if-is_there.true) in
    let at : (d : Fall) → c.index_mut.result.now ≡ get_or c.args.falls.now.items c.place_of-place.result d = λ d. c.index_mut.ensures.value ∙ get_or_default c.args.falls.now.items c.place_of-place.result c.index_mut.result.now d inside in
    λ test so_far is. grown (g.V.LabelView.width c.args.view.now) (g.V.LabelView.rows c.args.view.now) c.args.rows.from c.args.rows.past c.args.falls.now.items c.place_of-place.result
    (record { router = c.index_mut.result.now.router; cause = c.index_mut.result.now.cause; runs = c.push_rows.new.self })
    c.index_mut.result.now c.args.router c.args.cause test c.requires.form c.requires.some c.requires.inside inside at refl refl same c.requires.cause c.in_ok-push_rows.ensures so_far is

pub returns : goal.returns
returns g c =
    let P : List Fall → Type 0 = λ falls. c.place_of-place.result ≤ length falls in
    let B : List Fall → Type 0 = λ falls. (k : ℕ) (d : Fall) → k < c.place_of-place.result → is_before (get_or falls k d).router (get_or falls k d).cause c.args.router c.args.cause ≡ true in
    let A : List Fall → Type 0 = λ falls. (d : Fall) → c.place_of-place.result < length falls → is_before (get_or falls c.place_of-place.result d).router (get_or falls c.place_of-place.result d).cause c.args.router c.args.cause ≡ false in
    let Q : List Fall → Type 0 = λ falls. c.place_of-place.result < length falls → (d : Fall) → is_same (get_or falls c.place_of-place.result d).router (get_or falls c.place_of-place.result d).cause c.args.router c.args.cause ≡ false in
    let inside = subst P c.as_slice.ensures.value c.place_of-place.ensures.inside in
    let before = subst B c.as_slice.ensures.value c.place_of-place.ensures.before in
    let after = subst A c.as_slice.ensures.value c.place_of-place.ensures.at in
    let other = subst Q c.as_slice-2.ensures.value (c.is_there.ensures.other c.if-is_there.false) in
    λ test so_far is.
    let N : List Fall → Type 0 = λ falls. AreFalls falls (g.V.LabelView.rows c.args.view.now) c.args.rows.past test in
    subst N (sym c.in_ok-insert.ensures.items) (begun (g.V.LabelView.width c.args.view.now) (g.V.LabelView.rows c.args.view.now) c.args.rows.from c.args.rows.past c.args.falls.now.items c.place_of-place.result
    (record { router = c.args.router; cause = c.args.cause; runs = c.push_rows-2.new.self })
    c.new-runs.result c.args.router c.args.cause test c.requires.form c.requires.some c.requires.inside inside refl refl c.requires.cause before after other c.new-runs.ensures.runs c.new-runs.ensures.past c.in_ok-push_rows-2.ensures so_far is)
