use Rattle.std.proofs.Common.{◌≡◌, ◌+◌, ◌<◌, map, length, All, true}
use Rattle.base.specs.Lists.{all_differ}
use Rattle.dn_run.specs.Jobs.{same_router}
use Rattle.dn_run.specs.PartsRead.{feed_texts}
use Rattle.dn_run.proofs.RoutersLemmas.{RoutersSoFar}
use Rattle.dn_run.proofs.routers.find_routers.Given as goal

-- the routers so far, and what is left
abbrev pub invariant-loop-rest : goal.invariant-loop-rest
invariant-loop-rest l = record {
  so_far : RoutersSoFar l.topology (map feed_texts l.feeds) (map feed_texts l.rest) l.routers.items;
  within : All (λ r. r.0 < length l.topology.routers) l.routers.items;
  apart : all_differ same_router l.routers.items ≡ true;
  len : length l.routers.items + length l.rest ≡ length l.feeds;
}

abbrev pub decreases-loop-rest : goal.decreases-loop-rest
decreases-loop-rest l = length l.rest
