use Rattle.std.proofs.Common.{◌+◌, ◌∙◌, ap, arith}
use Rattle.edge_labels.proofs.BitsLemmas.{longer}
use Rattle.edge_labels.proofs.bits.reach.Goals as goal

pub loop-i-preserved : goal.loop-i-preserved
loop-i-preserved c =
    let is = longer c.loop-i.chunks c.push.new.self c.empty.result c.empty.ensures c.in_ok-push.ensures in
    record {
      bits = λ a. is.0 a ∙ c.loop-i.invariant.bits a;
      count = is.1 ∙ ap (λ n. n + 1) c.loop-i.invariant.count;
      few = omega (arith, is.1, c.loop-i.invariant.count);
    }
