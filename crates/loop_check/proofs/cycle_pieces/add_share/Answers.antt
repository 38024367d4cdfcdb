use Rattle.std.proofs.Common.{◌≡◌, List, refl, subst}
use Rattle.std.specs.Map.{set_value}
use Rattle.base.specs.declared.ids.RouterId.{RouterId}
use Rattle.loop_check.proofs.UnderRouters.{at, found-under, missed-under}
use Rattle.loop_check.proofs.ShareParts.{added-there}
use Rattle.loop_check.proofs.cycle_pieces.add_share.Goals as goal

pub returns-in-Some : goal.returns-in-Some
returns-in-Some c =
    let found = found-under c.args.known.now.entries c.args.cycle.now.routers c.as_slice.result.now c.get_mut.result c.in-Some.so_far c.as_slice.ensures.value c.in-Some.is c.get_mut.ensures.value in
    let Written : List RouterId → Type 0 = λ rs. (c.get_mut.follows.lender c.both.result).entries ≡ set_value (at rs) c.args.known.now.entries c.both.result in
    added-there c.args.cycle.now c.args.known.now.entries (c.get_mut.follows.lender c.both.result).entries c.args.cycle.now.routers c.in-Some.so_far.now c.both.result refl found
    (subst Written c.as_slice.ensures.value (c.get_mut.follows.holds c.both.result).0)
    (record { count = c.both.ensures.count; later = c.both.ensures.later; first = c.both.ensures.first })

pub add_first-requires-clause-unknown : goal.add_first-requires-clause-unknown
add_first-requires-clause-unknown c =
    rw c.get_mut.follows.holds-at-none (missed-under c.args.known.now.entries c.args.cycle.now.routers c.as_slice.result.now c.get_mut.result c.as_slice.ensures.value c.in-None.is c.get_mut.ensures.value)
