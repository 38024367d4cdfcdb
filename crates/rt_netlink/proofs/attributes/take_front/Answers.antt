use Rattle.rt_netlink.proofs.AttributesLemmas.{kept-bad_length, kept-none, kept-more}
use Rattle.rt_netlink.proofs.attributes.take_front.Goals as goal

pub returns-in_err-front : goal.returns-in_err-front
returns-in_err-front c =
    rw c.from_residual.ensures (kept-bad_length c.args.is_set c.args.kept.now c.args.bytes.now c.requires c.in_err-front.ensures)

pub returns-then-not-keep : goal.returns-then-not-keep
returns-then-not-keep c =
    kept-none c.args.is_set c.args.kept.now c.in_ok-front.front.kind c.in_ok-front.front.payload.now c.args.bytes.now c.requires
    c.in_ok-front.ensures.0 c.if-not-keep.ensures.sized

pub returns : goal.returns
returns c = (
  kept-more c.args.is_set c.args.kept.now c.keep.new.kept c.in_ok-front.front.kind c.in_ok-front.front.payload.now c.args.bytes.now c.in_ok-front.front.rest.now c.requires
      c.in_ok-front.ensures.0 c.in_ok-front.ensures.1 c.keep.ensures.kept c.if-not-keep.ensures.sized,
  c.in_ok-front.ensures.2,
)
