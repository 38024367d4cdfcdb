use Rattle.std.proofs.Common.{◌≡◌, ◌<◌, ◌≤◌, ◌∙◌, ⊎_elim, ℕ, List, length, slice_index_or, sym, subst, arith}
use Rattle.std.specs.List.{insert}
use Rattle.std.proofs.lemmas.Bool.{cases_eq}
use Rattle.base.specs.Cycles.{first_router}
use Rattle.base.specs.declared.ids.RouterId.{RouterId}
use Rattle.loop_check.specs.FirstOrder.{IsPutByFirst}
use Rattle.loop_check.proofs.ByFirst.{put-new, put-there}
use Rattle.loop_check.proofs.first_order.put_cycle.Goals as goal

pub returns-then-has_first : goal.returns-then-has_first
returns-then-has_first c =
    let L : List (List RouterId) → Type 0 = λ cs. c.place_of-place.result < length cs in
    let S : List (List RouterId) → Type 0 = λ cs. (d : List RouterId) → first_router (slice_index_or cs c.place_of-place.result d) ≡ c.first_number-first.result in
    let there : c.place_of-place.result < length c.args.cycles.now.items = subst L c.as_slice-2.ensures.value (c.has_first.ensures.yes c.if-has_first.true) in
    let same : first_router (slice_index_or c.args.cycles.now.items c.place_of-place.result c.args.path.now) ≡ c.first_number-first.result = subst S c.as_slice-2.ensures.value (c.has_first.ensures.same c.if-has_first.true) c.args.path.now in
    put-there c.args.path.now c.args.cycles.now.items c.place_of-place.result c.args.path.now c.requires there (same ∙ c.first_number-first.ensures)

pub returns : goal.returns
returns c =
    let path : c.in_ok-to_vec.field-0.items ≡ c.args.path.now = c.in_ok-to_vec.ensures.items_if_clones_equal (λ x y h. h) in
    let routers : c.from_vec.result ≡ c.args.path.now = c.from_vec.ensures ∙ path in
    let P : List RouterId → Type 0 = λ rs. IsPutByFirst c.args.path.now c.args.cycles.now.items (insert c.args.cycles.now.items c.place_of-place.result rs) in
    let Q : List (List RouterId) → Type 0 = λ cs. IsPutByFirst c.args.path.now c.args.cycles.now.items cs in
    let W : List (List RouterId) → Type 0 = λ cs. c.place_of-place.result ≤ length cs in
    let B : List (List RouterId) → Type 0 = λ cs. (k : ℕ) (d : List RouterId) → k < c.place_of-place.result → first_router (slice_index_or cs k d) < c.first_number-first.result in
    let A : List (List RouterId) → Type 0 = λ cs. (d : List RouterId) → c.place_of-place.result < length cs → c.first_number-first.result ≤ first_router (slice_index_or cs c.place_of-place.result d) in
    let O : List (List RouterId) → Type 0 = λ cs. (d : List RouterId) → c.place_of-place.result < length cs → first_router (slice_index_or cs c.place_of-place.result d) ≡ c.first_number-first.result → ⊥ in
    let first : c.first_number-first.result ≡ first_router c.args.path.now = c.first_number-first.ensures in
    let within : c.place_of-place.result ≤ length c.args.cycles.now.items = subst W c.as_slice.ensures.value c.place_of-place.ensures.within in
    let before = subst B c.as_slice.ensures.value c.place_of-place.ensures.before in
    let after = subst A c.as_slice.ensures.value c.place_of-place.ensures.after in
    let other = subst O c.as_slice-2.ensures.value (c.has_first.ensures.other c.if-has_first.false) in
    subst Q (sym c.in_ok-insert.ensures.items)
    (subst P (sym routers)
    (put-new c.args.path.now c.args.cycles.now.items c.place_of-place.result c.requires within
    (λ k d l. let b : first_router (slice_index_or c.args.cycles.now.items k d) < c.first_number-first.result = before k d l in omega arith)
    (λ d l.
    let a : c.first_number-first.result ≤ first_router (slice_index_or c.args.cycles.now.items c.place_of-place.result d) = after d l in
    ⊎_elim
    (λ (e : first_router (slice_index_or c.args.cycles.now.items c.place_of-place.result d) ≡ c.first_number-first.result). absurd (other d l e))
    (λ (n : first_router (slice_index_or c.args.cycles.now.items c.place_of-place.result d) ≡ c.first_number-first.result → ⊥). let z : first_router c.args.path.now < first_router (slice_index_or c.args.cycles.now.items c.place_of-place.result d) = omega arith in z)
    (cases_eq (first_router (slice_index_or c.args.cycles.now.items c.place_of-place.result d)) c.first_number-first.result))))
