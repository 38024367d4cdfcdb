use Rattle.std.proofs.Common.{codes, decimal, length, map, sum}
use Rattle.dn_run.proofs.RingLemmas.{seven_pieces}
use Rattle.dn_run.proofs.summary.summary_text.Goals as goal

pub returns : goal.returns
returns c =
    rw (
      c.in_ok-push_bytes-4.ensures,
      c.in_ok-push_addresses.ensures,
      c.in_ok-push_bytes-3.ensures,
      c.in_ok-push_decimal-2.ensures,
      c.in_ok-push_bytes-2.ensures,
      c.in_ok-push_decimal.ensures,
      c.in_ok-push_bytes.ensures,
      c.new-out.ensures.items,
      c.from.ensures,
    )
    (seven_pieces (codes "updates ") (decimal c.args.n) (codes "\ncycles ") (decimal (length c.args.cycles.now)) (codes "\naddresses ")
    (decimal (sum (map (λ cycle. cycle.addresses) c.args.cycles.now))) (codes "\n"))
