use denote.Param.Send.{sendable}
use Rattle.std.proofs.Crossing.{crosses}
use Rattle.std.proofs.Common.{◌≡◌, ◌+◌, ◌∙◌, ◌∷◌, [], All, ap, arith, length, subst, sym}
use Rattle.std.proofs.lemmas.List.{length-append}
use Rattle.std.proofs.lemmas.List.Elements.{All-append, All-cons, All-nil}
use Rattle.version_store.proofs.Crossing.{Snapshot-send, Snapshot-sync}
use Rattle.fast_pins.specs.Known.{Known}
use Rattle.feed_threads.proofs.shown_readers.with_readers.Goals as goal

pub reader-requires-send-S : goal.reader-requires-send-S
reader-requires-send-S g c κs = search (Snapshot-send, sendable, crosses) depth 40

pub reader-requires-sync-S : goal.reader-requires-sync-S
reader-requires-sync-S g c κs = search (Snapshot-sync, sendable, crosses) depth 40

pub close-requires-send-S : goal.close-requires-send-S
close-requires-send-S g c κs within = search (Snapshot-send, sendable, crosses) depth 40

pub close-requires-sync-S : goal.close-requires-sync-S
close-requires-sync-S g c κs within = search (Snapshot-sync, sendable, crosses) depth 40

pub loop-made-preserved : goal.loop-made-preserved
loop-made-preserved g c =
    let P : Known → Type 0 = λ r. r ≡ c.args.publisher in
    let len : length c.push_reserved.new.self.items ≡ length c.loop-made.readers.items + 1 = ap length c.push_reserved.ensures.items ∙ length-append c.loop-made.readers.items (c.in-Ok.reader ∷ []) in
    let count = c.loop-made.invariant.count in
    record {
      same = c.reader.ensures.same ∙ c.loop-made.invariant.same;
      readers = subst (All P) (sym c.push_reserved.ensures.items)
          (All-append P c.loop-made.readers.items (c.in-Ok.reader ∷ []) c.loop-made.invariant.readers
          (All-cons P c.in-Ok.reader [] (c.in-Ok.ensures.known ∙ c.loop-made.invariant.same) (All-nil P)));
      count = omega (arith, len, count);
      room = c.push_reserved.ensures.capacity ∙ c.loop-made.invariant.room;
    }
