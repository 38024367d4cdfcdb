use Rattle.std.proofs.Common.{◌+◌, ◌∙◌, get_or, ap, arith}
use Rattle.edge_labels.specs.Bits.{chunk_bit, empty_chunk, holds}
use Rattle.edge_labels.proofs.BitsLemmas.{combined-all, combined-more, pushed-length}
use Rattle.edge_labels.proofs.bits.combine.Goals as goal

pub loop-i-preserved : goal.loop-i-preserved
loop-i-preserved c = record {
  count = pushed-length c.loop-i.chunks c.push.new.self c.combine-chunk.result c.in_ok-push.ensures ∙ ap (λ n. n + 1) c.loop-i.invariant.count;
  bits = combined-more c.args.operation c.args.first.now c.args.second.now c.loop-i.chunks c.push.new.self c.loop-i.i c.combine-chunk.result c.loop-i.invariant.count c.in_ok-push.ensures
      (λ k. c.combine-chunk.ensures k ∙ ap (λ x. holds c.args.operation (chunk_bit x k) (chunk_bit c.chunk_at-in-loop-i.result k)) c.chunk_at.ensures ∙ ap (λ x. holds c.args.operation (chunk_bit (get_or c.args.first.now c.loop-i.i empty_chunk) k) (chunk_bit x k)) c.chunk_at-in-loop-i.ensures)
      c.loop-i.invariant.bits;
}

pub returns-clause-bits : goal.returns-clause-bits
returns-clause-bits c = combined-all c.args.operation c.args.first.now c.args.second.now c.loop-i.chunks c.loop-i.i c.loop-i.invariant.count (omega arith) (omega arith) c.loop-i.invariant.bits
