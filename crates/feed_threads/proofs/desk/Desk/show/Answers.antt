use denote.Param.Send.{sendable}
use Rattle.std.proofs.Crossing.{crosses}
use Rattle.version_store.proofs.Crossing.{Snapshot-send, Snapshot-sync}
use Rattle.std.proofs.Common.{refl, subst}
use Rattle.feed_threads.specs.Shown.{IsShown}
use Rattle.feed_threads.proofs.ShownLemmas.{shown-of-later, shows-published}
use Rattle.feed_threads.proofs.desk.Desk.show.Goals as goal

pub publish-requires-send-S : goal.publish-requires-send-S
publish-requires-send-S g c κs within = search (Snapshot-send, sendable, crosses) depth 40

pub publish-requires-sync-S : goal.publish-requires-sync-S
publish-requires-sync-S g c κs within = search (Snapshot-sync, sendable, crosses) depth 40

pub returns-clause-shows : goal.returns-clause-shows
returns-clause-shows g c =
    shows-published c.publish.result _ _ _ c.in-Some.publisher c.publish.new.self _ _ c.in-Some.is refl c.in_ok-snapshot.ensures.seen.history
    (shown-of-later _ _ _ _ c.look.ensures.looks.saw.seen (subst (IsShown _ c.args.seat.now.seen) c.in-Some.is c.requires.shown)) c.publish.ensures.ok c.publish.ensures.err
