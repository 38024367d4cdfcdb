use Rattle.std.proofs.Common.{◌≡◌, ◌≤◌, take, length}
use Rattle.version_store.specs.Events.{pins, posts}
use Rattle.version_store.specs.Kept.{more}
use Rattle.version_store.proofs.store.Store.play.Given as goal

-- the store and the snapshots are those of the events so far
abbrev pub invariant-loop-event : goal.invariant-loop-event
invariant-loop-event l = record {
  now : l.self ≡ more l.fn.self (posts l.seat (take l.event-index l.events));
  few : length l.self.history ≤ l.self.basis.limit;
  pinned : l.snapshots.items ≡ pins l.fn.self l.seat (take l.event-index l.events);
}
