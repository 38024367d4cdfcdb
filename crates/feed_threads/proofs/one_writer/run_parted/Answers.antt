use denote.Param.Send.{sendable}
use Rattle.std.proofs.Common.{◌≡◌, ◌∙◌, All, ap, sym, subst}
use Rattle.std.proofs.Crossing.{crosses}
use mathlib.Core.List.{IsPrefix}
use Rattle.version_store.proofs.Crossing.{Snapshot-send, Snapshot-sync}
use Rattle.fast_pins.specs.Known.{published}
use Rattle.dn_model.specs.declared.topology.Topology.{Topology}
use Rattle.version_lock.specs.Callers.{Lock}
use Rattle.feed_threads.specs.Readers.{AllRead, MayRead}
use Rattle.feed_threads.specs.Shown.{ShowsOn}
use Rattle.feed_threads.proofs.BesideLemmas.{read-origins, reads-came}
use Rattle.feed_threads.proofs.ShownLemmas.{shown-begins, shown-same, shown-stays}
use Rattle.feed_threads.proofs.one_writer.run_parted.Goals as goal

pub unreachable-requires : goal.unreachable-requires
unreachable-requires g c =
    let may = c.requires.parted in
    shown-stays _ _ may.known _ c.in_default.is (subst (λ x. ShowsOn c.args.site.now.setup.basis.topology c.run_both-reads.result.1.0.seen x c.run_both-reads.result.1.1) may.shown_is c.run_both-reads.ensures.writer.wrote.shows)

pub confirm_all-requires-clause-own : goal.confirm_all-requires-clause-own
confirm_all-requires-clause-own g c κs within =
    let may = c.requires.parted in
    let shows = subst (λ x. ShowsOn c.args.site.now.setup.basis.topology c.run_both-reads.result.1.0.seen x c.run_both-reads.result.1.1) may.shown_is c.run_both-reads.ensures.writer.wrote.shows in
    subst (All (λ r. r.reader.origin ≡ c.in-Some.publisher.origin)) (sym c.as_slice.ensures.value)
    (subst (λ o. All (λ r. r.reader.origin ≡ o) c.run_both-reads.result.0.items) (sym (shown-same _ _ may.known c.in-Some.publisher _ c.in-Some.is shows))
    (read-origins _ may.known _ _ _ may.readers c.run_both-reads.ensures.read))

pub close-requires-send-S : goal.close-requires-send-S
close-requires-send-S g c κs within = search (Snapshot-send, sendable, crosses) depth 40

pub close-requires-sync-S : goal.close-requires-sync-S
close-requires-sync-S g c κs within = search (Snapshot-sync, sendable, crosses) depth 40

pub returns-clause-ran : goal.returns-clause-ran
returns-clause-ran g c =
    let may = c.requires.parted in
    let shows = subst (λ x. ShowsOn c.args.site.now.setup.basis.topology c.run_both-reads.result.1.0.seen x c.run_both-reads.result.1.1) may.shown_is c.run_both-reads.ensures.writer.wrote.shows in
    let same : c.site.inside.topology.now ≡ c.args.site.now.setup.basis.topology = c.site.invariant ∙ ap (λ (l : Lock). l.setup.basis.topology) c.site.view_is in
    let read : AllRead c.args.site.now.setup.basis.topology c.args.parted.reading.readers.items c.args.parted.reading.jobs.items c.run_both-reads.result.0.items =
    subst (λ (t : Topology). AllRead t c.args.parted.reading.readers.items c.args.parted.reading.jobs.items c.run_both-reads.result.0.items) same c.run_both-reads.ensures.read in
    record {
      ran = c.run_both-reads.ensures.writer.wrote.ran;
      reads = reads-came _ may.known _ (published c.in-Some.publisher) _ _ _ c.run_both-reads.result.0.items _ may.all
          (shown-begins _ _ may.known c.in-Some.publisher _ c.in-Some.is shows)
          may.readers (subst (All (λ r. IsPrefix (published r.reader) (published c.in-Some.publisher))) c.as_slice.ensures.value c.confirm_all.ensures.begins) read c.dones_of.ensures.dones;
    }

pub run_both-reads-requires-clause-reading : goal.run_both-reads-requires-clause-reading
run_both-reads-requires-clause-reading g c κs within =
    let same : c.site.inside.topology.now ≡ c.args.site.now.setup.basis.topology = c.site.invariant ∙ ap (λ (l : Lock). l.setup.basis.topology) c.site.view_is in
    subst (λ (t : Topology). MayRead t c.args.parted.reading) (sym same) c.requires.parted.reads
