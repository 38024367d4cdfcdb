use Rattle.std.proofs.Common.{◌∙◌, arith, length}
use Rattle.std.proofs.lemmas.List.Elements.{All-push}
use Rattle.feed_model.specs.Payload.{IsSayable}
use Rattle.rt_netlink.specs.Read.{said_from}
use Rattle.rt_netlink.proofs.SaidLemmas.{item_told}
use Rattle.rt_netlink.proofs.read.read_payload.Goals as goal

pub loop-what-preserved : goal.loop-what-preserved
loop-what-preserved c =
    let all = length c.args.bytes.now in
    let tells = c.in-Says.ensures all c.loop-what.invariant.within in
    record {
      within = omega (arith, tells.1, c.loop-what.invariant.within);
      told = rw c.in_ok-push-in-Says.ensures.ok (item_told c.loop-what.items _ (said_from c.args.tables.now all c.in-Says.rest.now) (said_from c.args.tables.now all c.loop-what.left.now) tells.0 ∙ c.loop-what.invariant.told);
      sayable = rw c.in_ok-push-in-Says.ensures.ok (All-push (λ item. IsSayable item.what) c.loop-what.items _ c.loop-what.invariant.sayable tells.2);
    }
