use Rattle.std.proofs.Common.{None, Some, ap}
use Rattle.std.proofs.lemmas.Result.{err_from_is_err_and}
use Rattle.rt_netlink.proofs.RuledLemmas.{ruled_by_header, ruled_by_route}
use Rattle.feed_model.specs.declared.payload.ItemKind.TheVariants.{Route}
use Rattle.rt_netlink.specs.Ruled.{answered}
use Rattle.rt_netlink.proofs.message.read_message.Goals as goal

pub returns-in_err-header-clause-rules : goal.returns-in_err-header-clause-rules
returns-in_err-header-clause-rules c =
    let p = err_from_is_err_and c.from_residual.result c.from_residual.ensures.1 in
    rw (p.1, p.2) (ruled_by_header c.args.tables.now c.args.bytes.now (answered c.in_err-header.field-0.0) c.in_err-header.ensures)

pub returns-in_err-raw-clause-rules : goal.returns-in_err-raw-clause-rules
returns-in_err-raw-clause-rules c =
    let p = err_from_is_err_and c.from_residual-in_err-raw.result c.from_residual-in_err-raw.ensures.1 in
    rw (p.1, p.2) (ruled_by_route c.args.tables.now c.args.bytes.now (Some (answered c.in_err-raw.field-0.0)) c.in_ok-header.ensures.0 c.in_err-raw.ensures.rules)

pub returns-clause-rules : goal.returns-clause-rules
returns-clause-rules c =
    (ruled_by_route c.args.tables.now c.args.bytes.now None c.in_ok-header.ensures.0 c.in_ok-raw.ensures.rules.0, ap Route c.in_ok-raw.ensures.rules.1)
