use Rattle.std.proofs.Common.{◌≡◌, ◌<◌, ◌≤◌, ℕ, slice_index_or, ap, ⊎_elim, arith}
use Rattle.std.proofs.lemmas.Bool.{cases_lt}
use Rattle.loop_keeper.proofs.following.place_of_first.Goals as goal

pub loop-k-init : goal.loop-k-init
loop-k-init c = record { inside = c.requires; least = λ j d l. absurd (omega arith) }

pub loop-k-preserved : goal.loop-k-preserved
loop-k-preserved c = record {
  inside = c.earlier_of-place.ensures.within;
  least = λ j d l. ⊎_elim
      (λ (m : j < c.loop-k.k).
      let x : (slice_index_or c.args.path.now c.earlier_of-place.result d).0 ≤ (slice_index_or c.args.path.now c.loop-k.place d).0 = c.earlier_of-place.ensures.x d in
      let y : (slice_index_or c.args.path.now c.loop-k.place d).0 ≤ (slice_index_or c.args.path.now j d).0 = c.loop-k.invariant.least j d m in
      omega arith)
      (λ (m : c.loop-k.k ≤ j).
      let e : j ≡ c.loop-k.k = omega arith in
      let x : (slice_index_or c.args.path.now c.earlier_of-place.result d).0 ≤ (slice_index_or c.args.path.now c.loop-k.k d).0 = c.earlier_of-place.ensures.y d in
      let y : (slice_index_or c.args.path.now j d).0 ≡ (slice_index_or c.args.path.now c.loop-k.k d).0 = ap (λ (n : ℕ). (slice_index_or c.args.path.now n d).0) e in
      omega arith)
      (cases_lt j c.loop-k.k);
}
