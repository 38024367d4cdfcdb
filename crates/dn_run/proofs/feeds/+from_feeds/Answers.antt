use Rattle.std.specs.Arc.{arc_value}
use Rattle.std.proofs.Common.{ℕ, ◌+◌, ◌∷◌, [], List, arith, length, map, refl, ap, sym, subst}
use Rattle.std.proofs.lemmas.List.{length-append}
use Rattle.base.specs.declared.ids.RouterId.{RouterId}
use Rattle.std.specs.String.{string_bytes}
use Rattle.dn_run.specs.Ending.{ending_of}
use Rattle.dn_run.specs.Feeds.{Opens}
use Rattle.dn_run.specs.Jobs.{scripts_of}
use Rattle.dn_run.specs.PartsRead.{feed_texts}
use Rattle.dn_run.specs.Work.{HaveRoom, IsReady}
use Rattle.dn_run.proofs.FeedsLemmas.{few-pushed, last-same, open-pushed, out-still, opens-given, opens-refused, opens-none, opens-stops, place-kept, places-of}
use Rattle.dn_run.proofs.feeds.+from_feeds.Goals as goal

pub run_readers-requires-clause-ready : goal.run_readers-requires-clause-ready
run_readers-requires-clause-ready g t c κs within =
    subst (λ (rs : List RouterId). IsReady g.W.Src.Source.faults c.args.opening.work rs) c.in_default.ensures.1 c.requires.ready

pub run_readers-requires-clause-room : goal.run_readers-requires-clause-room
run_readers-requires-clause-room g t c κs within =
    let none = ap length c.in_default.ensures.0 in
    subst (λ (n : ℕ). HaveRoom n c.args.opening.rooms) (omega (arith, none)) c.requires.room

pub from_feeds-ruling-requires-clause-ready : goal.from_feeds-ruling-requires-clause-ready
from_feeds-ruling-requires-clause-ready g t c κs within = record {
  are_open =
      open-pushed (arc_value c.args.opening.work.topology.now) g.W.Src.Source.faults c.args.opening.work.readers.items c.push_reserved.new.self.items c.new-reader.result (c.len.result + 1) c.in-Ok.source c.in-Some.router c.args.opening.routers.now c.in-Some.others.now
      c.requires.ready.are_open c.in-Some.ensures.1 c.push_reserved.ensures.items c.new-reader.ensures.start (omega arith) c.in-Ok.ensures.fresh;
  few_jobs =
      few-pushed (scripts_of c.args.opening.work.scripts.items) c.args.opening.work.readers.items c.push_reserved.new.self.items c.new-reader.result c.in-Some.router c.args.opening.routers.now c.in-Some.others.now
      c.requires.ready.few_jobs c.in-Some.ensures.1 c.push_reserved.ensures.items (rw c.new-reader.ensures.start refl);
  fit_scripts = c.requires.ready.fit_scripts;
}

pub from_feeds-ruling-requires-clause-room : goal.from_feeds-ruling-requires-clause-room
from_feeds-ruling-requires-clause-room g t c κs within =
    let more = ap length c.push_reserved.ensures.items in
    let one = length-append c.args.opening.work.readers.items (c.new-reader.result ∷ []) in
    let fewer = ap length c.in-Some.ensures.0 in
    subst (λ (n : ℕ). HaveRoom n c.args.opening.rooms) (omega (arith, more, one, fewer)) c.requires.room

pub give_back-requires : goal.give_back-requires
give_back-requires g t c =
    let at = place-kept g.W.Src.Source.place c.push_reserved.new.self.items c.args.opening.work.readers.items c.from_feeds-ruling.result.1.items c.pop.new.self.items c.new-reader.result c.in-Some-pop.source c.in-Ok.source
    (c.len.result + 1) c.in-Some.router _ c.from_feeds-ruling.ensures.same c.in-Some-pop.ensures.items c.push_reserved.ensures.items c.new-reader.ensures.start c.in-Ok.ensures.place in
    out-still _ _ _ c.from_feeds-ruling.ensures.opens.more c.as_str.result.now _ c.in-Ok.ensures.handed_out c.from_feeds-ruling.ensures.opens.appended at

pub returns-in-Ok-clause-same : goal.returns-in-Ok-clause-same
returns-in-Ok-clause-same g t c =
    (last-same g.W.Src.Source.place c.push_reserved.new.self.items c.args.opening.work.readers.items c.from_feeds-ruling.result.1.items c.pop.new.self.items c.new-reader.result c.in-Some-pop.source
    c.from_feeds-ruling.ensures.same c.in-Some-pop.ensures.items c.push_reserved.ensures.items).front

pub returns-in-Ok-clause-opens : goal.returns-in-Ok-clause-opens
returns-in-Ok-clause-opens g t c =
    opens-given (ending_of c.from_feeds-ruling.result.0) (arc_value c.args.opening.work.topology.now) g.W.Src.Source.faults g.W.Src.Source.left g.W.Src.Source.place _ _
    c.args.opening.routers.now c.in-Some.others.now c.in-Some.router (scripts_of c.args.opening.work.scripts.items) c.args.opening.work.readers.items c.push_reserved.new.self.items c.from_feeds-ruling.result.1.items c.pop.new.self.items
    c.new-reader.result c.in-Ok.source c.in-Some-pop.source (c.len.result + 1) c.in-Some.feed.now.part
    (record { router = c.in-Some.feed.now.router; file = string_bytes c.in-Some.feed.now.file }) (map feed_texts c.args.opening.feeds.now) (map feed_texts c.in-Some.later.now) _ _ _ _ c.as_str.result.now
    (ap (map feed_texts) c.in-Some.ensures.0) c.in-Some.ensures.1 c.push_reserved.ensures.items c.new-reader.ensures.start c.in-Some-pop.ensures.items
    c.from_feeds-ruling.ensures.same c.as_str.ensures.value c.in-Ok.ensures.same_files c.in-Ok.ensures.handed_out c.in-Ok.ensures.place c.give_back.ensures.back
    c.in-Ok.ensures.has_bytes c.in-Ok.ensures.left c.from_feeds-ruling.ensures.opens

pub returns-in_default-clause-opens : goal.returns-in_default-clause-opens
returns-in_default-clause-opens g t c =
    subst (λ fs. Opens (arc_value c.args.opening.work.topology.now) g.W.Src.Source.faults g.W.Src.Source.left (g.W.World.files c.args.world.now) c.args.opening.routers.now (scripts_of c.args.opening.work.scripts.items) c.args.opening.work.readers.items c.run_readers.result.1.items (map feed_texts fs) (g.W.World.calls c.args.world.now) (g.W.World.calls c.args.world.now) (ending_of c.run_readers.result.0)) (sym c.in_default.ensures.0)
    (subst (λ rs. Opens (arc_value c.args.opening.work.topology.now) g.W.Src.Source.faults g.W.Src.Source.left (g.W.World.files c.args.world.now) rs (scripts_of c.args.opening.work.scripts.items) c.args.opening.work.readers.items c.run_readers.result.1.items [] (g.W.World.calls c.args.world.now) (g.W.World.calls c.args.world.now) (ending_of c.run_readers.result.0)) (sym c.in_default.ensures.1)
    (opens-none c.run_readers.result.0 (arc_value c.args.opening.work.topology.now) g.W.Src.Source.faults g.W.Src.Source.left (g.W.World.files c.args.world.now) (scripts_of c.args.opening.work.scripts.items)
    c.args.opening.work.readers.items c.run_readers.result.1.items (g.W.World.calls c.args.world.now) c.run_readers.ensures.ran c.run_readers.ensures.faults))

pub returns-in-Err-Failed-clause-same : goal.returns-in-Err-Failed-clause-same
returns-in-Err-Failed-clause-same g t c = places-of g.W.Src.Source.place c.args.opening.work.readers.items c.into_sources.result.items c.into_sources.ensures

pub returns-in-Err-Failed-clause-opens : goal.returns-in-Err-Failed-clause-opens
returns-in-Err-Failed-clause-opens g t c =
    subst (λ fs. Opens (arc_value c.args.opening.work.topology.now) g.W.Src.Source.faults g.W.Src.Source.left (g.W.World.files c.args.world.now) c.args.opening.routers.now (scripts_of c.args.opening.work.scripts.items) c.args.opening.work.readers.items c.into_sources.result.items (map feed_texts fs) (g.W.World.calls c.args.world.now) (g.W.World.calls c.source_of.new.self) (ending_of c.refusal-ruling.result)) (sym c.in-Some.ensures.0)
    (subst (λ rs. Opens (arc_value c.args.opening.work.topology.now) g.W.Src.Source.faults g.W.Src.Source.left (g.W.World.files c.args.world.now) rs (scripts_of c.args.opening.work.scripts.items) c.args.opening.work.readers.items c.into_sources.result.items (map feed_texts (c.in-Some.feed.now ∷ c.in-Some.later.now)) (g.W.World.calls c.args.world.now) (g.W.World.calls c.source_of.new.self) (ending_of c.refusal-ruling.result)) (sym c.in-Some.ensures.1)
    (subst (λ ss. Opens (arc_value c.args.opening.work.topology.now) g.W.Src.Source.faults g.W.Src.Source.left (g.W.World.files c.args.world.now) (c.in-Some.router ∷ c.in-Some.others.now) (scripts_of c.args.opening.work.scripts.items) c.args.opening.work.readers.items ss (map feed_texts (c.in-Some.feed.now ∷ c.in-Some.later.now)) (g.W.World.calls c.args.world.now) (g.W.World.calls c.source_of.new.self) (ending_of c.refusal-ruling.result)) (sym c.into_sources.ensures)
    (opens-refused (ending_of c.refusal-ruling.result) (arc_value c.args.opening.work.topology.now) g.W.Src.Source.faults g.W.Src.Source.left (g.W.World.files c.args.world.now) c.in-Some.router c.in-Some.others.now
    (scripts_of c.args.opening.work.scripts.items) c.args.opening.work.readers.items c.in-Some.feed.now.part (record { router = c.in-Some.feed.now.router; file = string_bytes c.in-Some.feed.now.file }) (map feed_texts c.in-Some.later.now) _ _
    c.requires.ready.are_open.fresh (rw (c.in-Err-Failed.field-0-is, c.as_str.ensures.value) at c.in-Err-Failed.ensures.refused) c.refusal-ruling.ensures)))

pub returns-clause-same : goal.returns-clause-same
returns-clause-same g t c = places-of g.W.Src.Source.place c.args.opening.work.readers.items c.into_sources-in-Err-OutOfMemory.result.items c.into_sources-in-Err-OutOfMemory.ensures

pub returns-clause-opens : goal.returns-clause-opens
returns-clause-opens g t c = rw (rw c.in-Err-OutOfMemory.field-0-is at c.in-Err-OutOfMemory.ensures.refused) (opens-stops _ _ _ _ _ _ _ _ _ _)
