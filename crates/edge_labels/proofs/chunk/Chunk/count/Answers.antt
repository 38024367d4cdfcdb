use Rattle.std.proofs.Common.{◌*◌, ◌+◌, ◌<◌, ◌≤◌, ◌≡◌, ◌^◌, ◌∙◌, get_or, sym, ap, arith}
use Rattle.std.specs.Int.RustNames.{count_ones}
use Rattle.edge_labels.specs.Bits.{chunk_bit, count_below}
use Rattle.edge_labels.proofs.CountLemmas.{words-more, none-below, word-ones}
use Rattle.edge_labels.proofs.chunk.Chunk.count.Goals as goal

pub loop-word-init : goal.loop-word-init
loop-word-init c = record { counted = sym (none-below (chunk_bit c.args.self.now)); few = omega arith }

pub loop-word-preserved : goal.loop-word-preserved
unfolding chunk_bit
loop-word-preserved c =
    let word = get_or c.args.self.now.words c.loop-word.word-index 0 in
    let fits : get_or c.args.self.now.words c.loop-word.word-index 0 < 2 ^ 64 = omega arith in
    let most : count_ones (get_or c.args.self.now.words c.loop-word.word-index 0) ≤ 64 = word-ones (get_or c.args.self.now.words c.loop-word.word-index 0) fits in
    let few : c.loop-word.count ≤ 64 * c.loop-word.word-index = c.loop-word.invariant.few in
    record {
      counted = ap (λ n. n + count_ones word) c.loop-word.invariant.counted ∙ sym (words-more c.args.self.now.words c.loop-word.word-index fits);
      few = omega arith;
    }

pub returns-clause-value : goal.returns-clause-value
returns-clause-value c =
    let all : 64 * c.loop-word.word-index ≡ 512 = omega arith in
    c.loop-word.invariant.counted ∙ ap (λ n. count_below (chunk_bit c.args.self.now) n) all
