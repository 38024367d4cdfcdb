use denote.Param.Send.{sendable}
use Rattle.std.proofs.Crossing.{crosses}
use Rattle.version_store.proofs.Crossing.{Store-send, Snapshot-send, Snapshot-sync}
use Rattle.std.proofs.Common.{◌≡◌, ◌∙◌, List, [], All, ap, fold, length, subst, sym}
use mathlib.Core.List.{IsPrefix}
use Rattle.dn_model.specs.declared.entry.Posted.{Posted}
use Rattle.fast_pins.specs.Known.{Known, published}
use Rattle.version_lock.proofs.Histories.{prefix_self}
use Rattle.version_lock.specs.Callers.{Lock}
use Rattle.feed_threads.specs.Beside.{ShowsTo}
use Rattle.feed_threads.specs.Shown.{IsShownOf}
use Rattle.feed_threads.proofs.SeatLemmas.{looks_kept, looks_none}
use Rattle.feed_threads.proofs.ShownLemmas.{if-ok-all}
use Rattle.feed_threads.proofs.shown_readers.show_readers.Goals as goal

pub pin-requires-send-B : goal.pin-requires-send-B
pin-requires-send-B g c κs within = search (Store-send, sendable, crosses) depth 40

pub new-requires-send-S : goal.new-requires-send-S
new-requires-send-S g c κs within = search (Snapshot-send, sendable, crosses) depth 40

pub new-requires-sync-S : goal.new-requires-sync-S
new-requires-sync-S g c κs within = search (Snapshot-sync, sendable, crosses) depth 40

pub returns-clause-shown : goal.returns-clause-shown
returns-clause-shown g c =
    let all : published c.in_ok-publisher.publisher ≡ c.pin.new.seat.seen = ap (λ ls. fold (λ _ l. l) [] ls) c.in_ok-publisher.ensures.lists ∙ c.in_ok-pinned.ensures.shown in
    if-ok-all c.with_readers.result (λ f. f.publisher ≡ c.in_ok-publisher.publisher) (λ f. All (λ r. r ≡ c.in_ok-publisher.publisher) f.readers.items) (λ f. length f.readers.items ≡ c.args.count)
    (ShowsTo c.args.site.now c.pin.new.seat c.args.count)
    (λ f e rs n. record {
      begins = subst (IsShownOf c.args.site.now.setup.basis.topology c.pin.new.seat.seen) (sym e)
          (record {
            topology = c.in_ok-publisher.ensures.topology ∙ c.in_ok-pinned.ensures.topology ∙ ap (λ (l : Lock). l.setup.basis.topology) c.site.view_is;
            begins = subst (λ (l : List Posted). IsPrefix l c.pin.new.seat.seen) (sym all) (prefix_self c.pin.new.seat.seen);
          });
      all = ap published e ∙ all;
      readers = subst (λ (k : Known). All (λ r. r ≡ k) f.readers.items) (sym e) rs;
      many = n;
    })
    c.with_readers.ensures.publisher c.with_readers.ensures.readers c.with_readers.ensures.count

pub returns-clause-looks : goal.returns-clause-looks
returns-clause-looks g c = looks_kept _ _ c.pin.ensures.same c.pin.ensures.seen c.number-number.ensures.used c.pin.ensures.own

pub returns-in_err-room-clause-looks : goal.returns-in_err-room-clause-looks
returns-in_err-room-clause-looks g c = looks_none c.args.seat.now

pub returns-in_err-pinned-clause-looks : goal.returns-in_err-pinned-clause-looks
returns-in_err-pinned-clause-looks g c = looks_kept _ _ c.pin.ensures.same c.pin.ensures.seen c.number-number.ensures.used c.pin.ensures.own

pub returns-in_err-publisher-clause-looks : goal.returns-in_err-publisher-clause-looks
returns-in_err-publisher-clause-looks g c = looks_kept _ _ c.pin.ensures.same c.pin.ensures.seen c.number-number.ensures.used c.pin.ensures.own
