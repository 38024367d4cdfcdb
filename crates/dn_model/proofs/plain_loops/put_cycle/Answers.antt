use Rattle.std.proofs.Common.{ℕ, ◌≡◌, ◌<◌, ◌≤◌, false, List, IsTrue, length, slice_index_or, sym, subst}
use Rattle.base.specs.CyclesFrom.{is_before, IsPutAmong}
use Rattle.base.specs.declared.cycle.Cycle.{Cycle}
use Rattle.base.proofs.CyclesFrom.{put-among}
use Rattle.dn_model.proofs.plain_loops.put_cycle.Goals as goal

pub returns : goal.returns
returns c =
    let P : List Cycle → Type 0 = λ cs. IsPutAmong c.args.cycle c.args.cycles.now.items cs in
    let L : List Cycle → Type 0 = λ cs. c.place_of-place.result ≤ length cs in
    let B : List Cycle → Type 0 = λ cs. (k : ℕ) (d : Cycle) → k < c.place_of-place.result → IsTrue (is_before (slice_index_or cs k d) c.args.cycle) in
    let A : List Cycle → Type 0 = λ cs. (d : Cycle) → c.place_of-place.result < length cs → is_before (slice_index_or cs c.place_of-place.result d) c.args.cycle ≡ false in
    subst P (sym c.in_ok-insert.ensures.items)
    (put-among c.args.cycle c.args.cycles.now.items c.place_of-place.result c.requires.order c.requires.other
    (subst L c.as_slice.ensures.value c.place_of-place.ensures.within)
    (subst B c.as_slice.ensures.value c.place_of-place.ensures.before)
    (subst A c.as_slice.ensures.value c.place_of-place.ensures.after))
