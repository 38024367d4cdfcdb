use Rattle.std.proofs.Common.{◌*◌, ◌<◌, length, ap, sym, subst, ◌∙◌, arith, length-set}
use Rattle.target_rows.specs.ChunkRows.{meant_at}
use Rattle.target_rows.specs.Codes.{edge_at}
use Rattle.target_rows.proofs.ReadLemmas.{chunk-lane, each-inside, put-more}
use Rattle.target_rows.proofs.reading.read_each.Goals as goal

pub bounds-edges-code : goal.bounds-edges-code
bounds-edges-code c =
    let inside : c.chunks.k * c.args.stride < length c.args.run.now = each-inside c.chunks.k c.min-count.result c.div_ceil.result (length c.args.run.now) c.args.stride c.requires.apart c.chunks-test.true (omega arith) c.div_ceil.ensures in
    subst (λ x. x < length c.args.edges.now) (sym (chunk-lane c.args.run.now (c.chunks.k * c.args.stride) c.args.lane inside)) (c.requires.known c.chunks.k inside)

pub chunks-preserved : goal.chunks-preserved
chunks-preserved c =
    let inside : c.chunks.k * c.args.stride < length c.args.run.now = each-inside c.chunks.k c.min-count.result c.div_ceil.result (length c.args.run.now) c.args.stride c.requires.apart c.chunks-test.true (omega arith) c.div_ceil.ensures in
    record {
      few = omega arith;
      room = length-set c.chunks.out _ _ ∙ c.chunks.invariant.room;
      targets = put-more c.chunks.out c.chunks.k _ (λ k. meant_at c.args.edges.now c.args.run.now (k * c.args.stride) c.args.lane) (omega (arith, c.chunks.invariant.room)) c.chunks.invariant.targets
          (ap (λ x. (edge_at c.args.edges.now x).target) (chunk-lane c.args.run.now (c.chunks.k * c.args.stride) c.args.lane inside));
    }
