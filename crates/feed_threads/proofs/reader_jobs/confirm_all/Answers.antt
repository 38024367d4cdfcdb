use denote.Param.Send.{sendable}
use Rattle.std.proofs.Crossing.{crosses}
use Rattle.std.proofs.Common.{rules, ◌≡◌, ◌+◌, ◌++◌, ◌∙◌, ◌∷◌, [], All, arith, subst, sym, take, take_all}
use Rattle.std.proofs.lemmas.Grind.{common_steps}
use Rattle.std.proofs.lemmas.List.Elements.{All-append, All-cons, All-nil}
use mathlib.Core.List.{IsPrefix}
use Rattle.version_store.proofs.Crossing.{Snapshot-send, Snapshot-sync}
use Rattle.fast_pins.specs.Known.{Known, published}
use Rattle.feed_threads.specs.declared.reader_job.Read.{Read}
use Rattle.feed_threads.proofs.reader_jobs.confirm_all.Goals as goal

pub confirm-requires-send-S : goal.confirm-requires-send-S
confirm-requires-send-S g c κs = search (Snapshot-send, sendable, crosses) depth 40

pub confirm-requires-sync-S : goal.confirm-requires-sync-S
confirm-requires-sync-S g c κs = search (Snapshot-sync, sendable, crosses) depth 40

pub loop-read-preserved : goal.loop-read-preserved
loop-read-preserved g c =
    let P : Read _ → Type 0 = λ r. IsPrefix (published r.reader) (published c.args.publisher.now) in
    let more : take (c.loop-read.read-index + 1) c.args.reads.now ≡ take c.loop-read.read-index c.args.reads.now ++ c.read-item.result ∷ [] = first_of (search rules, grind (arith, common_steps)) in
    let same : c.confirm.new.self ≡ c.args.publisher.now = c.confirm.ensures.same ∙ c.loop-read.invariant.same in
    record {
      same = same;
      begins = subst (All P) (sym more)
          (All-append P (take c.loop-read.read-index c.args.reads.now) (c.read-item.result ∷ []) c.loop-read.invariant.begins
          (All-cons P c.read-item.result [] (subst (λ (k : Known). IsPrefix (published c.read-item.result.reader) (published k)) same c.confirm.ensures.begins) (All-nil P)));
    }

pub returns-clause-begins : goal.returns-clause-begins
returns-clause-begins g c =
    subst (All (λ r. IsPrefix (published r.reader) (published c.args.publisher.now))) (take_all c.loop-read.read-index c.args.reads.now c.loop-read-test.false) c.loop-read.invariant.begins
