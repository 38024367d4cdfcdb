use Rattle.std.proofs.Common.{◌≡◌, ◌+◌, ◌<◌, ◌≤◌, ℕ, subst, ⊎_elim, slice_index_or, arith}
use Rattle.std.specs.Prelude.{Contains}
use Rattle.std.proofs.lemmas.Bool.{cases_lt}
use Rattle.version_pages.specs.Search.{EndsBelow}
use Rattle.loop_keeper.proofs.Segments.{low_of}
use Rattle.loop_keeper.proofs.Taking.{out-unmet}
use Rattle.loop_keeper.proofs.editing.is_met.Goals as goal

pub loop-place-preserved : goal.loop-place-preserved
loop-place-preserved c = λ k d rs f b l m. ⊎_elim
    (λ (x : k < c.loop-place.place). c.loop-place.invariant k d rs f x l m)
    (λ (x : c.loop-place.place ≤ k).
    let same : k ≡ c.loop-place.place = omega arith in
    let L : ℕ → Type 0 = λ n. Contains (slice_index_or c.args.segments.now n d).cycles rs in
    c.has_router_at.ensures c.if-has_router_at.false d rs (omega arith) (subst L same m))
    (cases_lt k c.loop-place.place)

pub returns : goal.returns
returns c = λ f form.
    let E : ℕ → Type 0 = λ v. EndsBelow low_of c.args.segments.now (v + 1) c.count_below-begun.result in
    let F : ℕ → Type 0 = λ v. EndsBelow low_of c.args.segments.now (v + 1) c.count_from-end.result in
    let end : c.count_from-end.result ≤ c.loop-place.place = omega arith in
    out-unmet c.args.change.now c.args.segments.now c.count_below-begun.result c.count_from-end.result (subst E c.from.ensures c.count_below-begun.ensures) (subst F c.from-2.ensures c.count_from-end.ensures)
    (λ k d rs a b l m. c.loop-place.invariant k d rs (omega (arith, c.saturating_sub-first.ensures)) (omega arith) l m) form
