use Rattle.std.proofs.Common.{◌≡◌, ◌+◌, ◌*◌, ◌∙◌, length, sym, ap, arith}
use Rattle.edge_labels.specs.Bits.{chunk_bit, count_below, has_bit}
use Rattle.edge_labels.proofs.CountLemmas.{none-below}
use Rattle.edge_labels.proofs.MemberLemmas.{count-all, count-more}
use Rattle.edge_labels.proofs.bits.count.Goals as goal

pub loop-i-init : goal.loop-i-init
loop-i-init c = record { counted = sym (none-below (has_bit c.args.chunks.now)); few = omega arith }

pub loop-i-preserved : goal.loop-i-preserved
loop-i-preserved c =
    let before : c.loop-i.count ≡ count_below (has_bit c.args.chunks.now) (512 * c.loop-i.i) = c.loop-i.invariant.counted in
    record {
      counted = ap (λ n. n + c.count-count.result) before
          ∙ ap (λ n. count_below (has_bit c.args.chunks.now) (512 * c.loop-i.i) + n) (c.count-count.ensures.value ∙ ap (λ x. count_below (chunk_bit x) 512) c.chunk_at.ensures)
          ∙ sym (count-more c.args.chunks.now c.loop-i.i);
      few = omega (arith, c.loop-i.invariant.few, c.count-count.ensures.few);
    }

pub returns : goal.returns
returns c =
    let all : c.loop-i.i ≡ length c.args.chunks.now = omega arith in
    c.loop-i.invariant.counted ∙ ap (λ n. count_below (has_bit c.args.chunks.now) (512 * n)) all ∙ count-all c.args.chunks.now
