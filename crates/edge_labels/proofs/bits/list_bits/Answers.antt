use Rattle.std.proofs.Common.{◌≡◌, ◌*◌, ◌++◌, ◌∙◌, length, sym, ap, arith}
use Rattle.edge_labels.specs.Atoms.{numbers}
use Rattle.edge_labels.specs.Bits.{numbers_from}
use Rattle.edge_labels.proofs.MemberLemmas.{below-all, below-more, below-none, members_below}
use Rattle.edge_labels.proofs.bits.list_bits.Goals as goal

pub loop-i-init : goal.loop-i-init
loop-i-init c = ap numbers c.new-atoms.ensures.items ∙ sym (below-none c.args.chunks.now)

pub loop-i-preserved : goal.loop-i-preserved
loop-i-preserved c =
    c.in_ok-push_chunk.ensures
    ∙ ap (λ xs. xs ++ numbers_from c.chunk_at.result (c.loop-i.i * 512) 512) c.loop-i.invariant
    ∙ ap (λ x. members_below c.args.chunks.now c.loop-i.i ++ numbers_from x (c.loop-i.i * 512) 512) c.chunk_at.ensures
    ∙ sym (below-more c.args.chunks.now c.loop-i.i)

pub returns : goal.returns
returns c =
    let all : c.loop-i.i ≡ length c.args.chunks.now = omega arith in
    c.loop-i.invariant ∙ ap (λ n. members_below c.args.chunks.now n) all ∙ below-all c.args.chunks.now
