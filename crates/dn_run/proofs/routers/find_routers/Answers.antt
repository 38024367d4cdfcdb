use Rattle.std.proofs.Common.{◌≡◌, ◌<◌, ◌==◌, ◌++◌, ◌∷◌, [], arith, length, false, subst, sym, All, true}
use Rattle.std.specs.List.{list_any}
use Rattle.std.proofs.lemmas.List.{length-append}
use Rattle.std.proofs.lemmas.List.Elements.{All-push}
use Rattle.dn_formats.proofs.TopologySound.{all_differ-push}
use Rattle.base.specs.Lists.{all_differ}
use Rattle.dn_run.specs.Jobs.{same_router}
use Rattle.dn_run.proofs.RoutersLemmas.{so_far_kept, fewer_left}
use Rattle.dn_run.proofs.routers.find_routers.Goals as goal

pub loop-rest-preserved : goal.loop-rest-preserved
loop-rest-preserved c =
    let fresh : list_any (λ q. q.0 == c.in_ok-router.router.0) c.loop-rest.routers.items ≡ false = rw c.as_slice.ensures.value at c.in_ok-router.ensures.fresh in
    let pushed : c.push.new.self.items ≡ c.loop-rest.routers.items ++ c.in_ok-router.router ∷ [] = c.in_ok-push.ensures.items in
    record {
      so_far = so_far_kept c.args.topology.now c.args.feeds.now c.loop-rest.rest.now c.loop-rest.routers.items _ c.feed-item.result c.in_ok-router.router (omega arith) c.feed-item.is
          c.loop-rest.invariant.so_far c.in_ok-router.ensures.found fresh pushed;
      within = subst (All (λ r. r.0 < length c.args.topology.now.routers)) (sym pushed) (All-push (λ r. r.0 < length c.args.topology.now.routers) c.loop-rest.routers.items c.in_ok-router.router c.loop-rest.invariant.within c.in_ok-router.ensures.within);
      apart = subst (λ rs. all_differ same_router rs ≡ true) (sym pushed) (all_differ-push same_router c.loop-rest.routers.items c.in_ok-router.router c.loop-rest.invariant.apart fresh);
      len = let more = fewer_left c.loop-rest.rest.now (omega arith) in let long = length-append c.loop-rest.routers.items (c.in_ok-router.router ∷ []) in
          rw pushed (omega (arith, more, long, c.loop-rest.invariant.len));
    }
