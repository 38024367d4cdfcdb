-- What is said from a message on is that message, and then what is said after it.
use Rattle.std.proofs.Common.{◌≤◌, ◌-◌, arith, length, sym}
use Rattle.rt_netlink.proofs.SaidLemmas.{said-end, said-refused, said_there, message_told, rest_shorter}
use Rattle.rt_netlink.proofs.read.next_message.Goals as goal

pub returns-then-left-lt4 : goal.returns-then-left-lt4
returns-then-left-lt4 c = λ all within. said-end c.args.tables.now (all - length c.args.left.now) c.args.left.now (omega (arith, c.if-left-lt4.true))

pub after_message-requires-clause-there : goal.after_message-requires-clause-there
after_message-requires-clause-there c = (said_there c.args.tables.now c.args.left.now c.in-Ok.what (sym c.in-Ok.ensures.said)).there

pub returns-in-Ok : goal.returns-in-Ok
returns-in-Ok c = λ all within.
    let here : 4 ≤ length c.args.left.now = omega (arith, c.if-left-lt4.false) in
    let whole = said_there c.args.tables.now c.args.left.now c.in-Ok.what (sym c.in-Ok.ensures.said) in (
      message_told c.args.tables.now all c.args.left.now c.after_message.result.now c.in-Ok.what here within whole.long c.after_message.ensures (sym c.in-Ok.ensures.said),
      rest_shorter c.args.left.now c.after_message.result.now here whole.long c.after_message.ensures,
      c.in-Ok.ensures.sayable,
    )

pub returns-in-Err : goal.returns-in-Err
returns-in-Err c = λ all within.
    let here : 4 ≤ length c.args.left.now = omega (arith, c.if-left-lt4.false) in
    said-refused c.args.tables.now (all - length c.args.left.now) c.args.left.now c.in-Err.cause here (sym c.in-Err.ensures.said)
