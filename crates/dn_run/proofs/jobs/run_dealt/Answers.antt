use Rattle.std.proofs.Common.{◌≤◌, ◌∙◌, ◌++◌, List, All, length, map, ap, sym, subst, arith}
use Rattle.std.specs.Arc.{arc_value}
use Rattle.std.proofs.lemmas.List.{length-map}
use Rattle.std.proofs.lemmas.List.Sorted.{length_permutation}
use Rattle.dn_formats.specs.declared.script.Script.{Script}
use Rattle.feed_threads.specs.AllJobs.{AreNumberedApart}
use Rattle.feed_threads.specs.Jobs.{AreApart, IsFresh as IsUnread, Task}
use Rattle.dn_run.specs.Deal.{readers_of}
use Rattle.dn_run.specs.Jobs.{scripts_of}
use Rattle.dn_run.specs.Ran.{ListRan, RanAs, reader_tag}
use Rattle.dn_run.proofs.DealtLemmas.{dealt-tags, if-ok, moved-tags, ran-of, tags-count}
use Rattle.dn_run.proofs.PremiseLemmas.{all-apart, all-few, all-few-jobs, few-left, few-tasks, readers-count, tasks-apart, tasks-fresh, tasks-numbered}
use Rattle.dn_run.proofs.jobs.run_dealt.Goals as goal

pub deal-requires-clause-few : goal.deal-requires-clause-few
deal-requires-clause-few g c κs within =
    let few = few-left (scripts_of c.args.work.scripts.items) c.args.work.readers.items (all-few-jobs g.S.Source.faults c.args.work c.requires.ready) in
    let same = length-map c.args.work.scripts.items (λ (script : Script). script.lines) in
    omega (arith, few, same)

pub run_list-requires-clause-few : goal.run_list-requires-clause-few
run_list-requires-clause-few g c κs within =
    subst (λ (list : List (Task g.row.S.Denot)). length list ≤ 64) (sym c.in-Ok.ensures.jobs) (few-tasks (scripts_of c.args.work.scripts.items) c.args.work.readers.items (all-few-jobs g.S.Source.faults c.args.work c.requires.ready))

pub run_list-requires-clause-fresh : goal.run_list-requires-clause-fresh
run_list-requires-clause-fresh g c κs within =
    subst (λ (list : List (Task g.row.S.Denot)). All (λ (task : Task g.row.S.Denot). All (IsUnread (arc_value c.args.work.topology.now) g.S.Source.faults) task.feeds) list) (sym c.in-Ok.ensures.jobs)
    (tasks-fresh (arc_value c.args.work.topology.now) g.S.Source.faults (scripts_of c.args.work.scripts.items) c.args.work.readers.items c.requires.ready.are_open.fresh)

pub run_list-requires-clause-apart : goal.run_list-requires-clause-apart
run_list-requires-clause-apart g c κs within =
    subst (λ (list : List (Task g.row.S.Denot)). All (λ (task : Task g.row.S.Denot). AreApart task.feeds) list) (sym c.in-Ok.ensures.jobs) (tasks-apart (scripts_of c.args.work.scripts.items) c.args.work.readers.items (all-apart g.S.Source.faults c.args.work c.requires.ready))

pub run_list-requires-clause-numbers : goal.run_list-requires-clause-numbers
run_list-requires-clause-numbers g c κs within =
    subst (λ (list : List (Task g.row.S.Denot)). AreNumberedApart list) (sym c.in-Ok.ensures.jobs) (tasks-numbered (scripts_of c.args.work.scripts.items) c.args.work.readers.items c.requires.ready.are_open.numbered)

pub run_list-requires-clause-backs : goal.run_list-requires-clause-backs
run_list-requires-clause-backs g c κs within =
    let same = ap (λ (list : List (Task g.row.S.Denot)). length (readers_of list)) c.in-Ok.ensures.jobs in
    let count = readers-count (scripts_of c.args.work.scripts.items) c.args.work.readers.items in
    omega (arith, same, count, c.requires.room.0)

pub run_list-requires-clause-jobs : goal.run_list-requires-clause-jobs
run_list-requires-clause-jobs g c κs within =
    let same = ap (λ (list : List (Task g.row.S.Denot)). length list) c.in-Ok.ensures.jobs in
    let few = few-tasks (scripts_of c.args.work.scripts.items) c.args.work.readers.items (all-few-jobs g.S.Source.faults c.args.work c.requires.ready) in
    omega (arith, same, few, c.requires.room.1)

pub give_back-requires-clause-room : goal.give_back-requires-clause-room
give_back-requires-clause-room g c κs within =
    let count = length_permutation c.args.work.readers.items (readers_of c.in-Err.undealt.jobs.items ++ (c.in-Err.undealt.some.items ++ c.in-Err.undealt.others.items)) c.in-Err.ensures.back in
    omega (arith, count, c.requires.room.0)

pub returns-in-Ok-clause-ran : goal.returns-in-Ok-clause-ran
returns-in-Ok-clause-ran g c =
    if-ok c.run_list.result.0 (λ made. ListRan (arc_value c.args.work.topology.now) g.S.Source.left g.S.Source.faults g.S.Source.place c.in-Ok.list c.run_list.result.1.items made.0 made.1.items)
    (λ made. RanAs (arc_value c.args.work.topology.now) g.S.Source.left g.S.Source.faults c.args.work.readers.items c.run_list.result.1.items made.0 (scripts_of c.args.work.scripts.items) made.1.items)
    (λ made is. ran-of (arc_value c.args.work.topology.now) g.S.Source.left g.S.Source.faults g.S.Source.place (scripts_of c.args.work.scripts.items) c.args.work.readers.items c.run_list.result.1.items made.0 made.1.items
    c.requires.ready.are_open.numbered c.requires.ready.fit_scripts (all-few g.S.Source.faults c.args.work c.requires.ready)
    (few-tasks (scripts_of c.args.work.scripts.items) c.args.work.readers.items (all-few-jobs g.S.Source.faults c.args.work c.requires.ready)) c.requires.ready.are_open.fresh
    (subst (λ (list : List (Task g.row.S.Denot)). ListRan (arc_value c.args.work.topology.now) g.S.Source.left g.S.Source.faults g.S.Source.place list c.run_list.result.1.items made.0 made.1.items) c.in-Ok.ensures.jobs is))
    c.run_list.ensures.ran

pub returns-in-Ok-clause-tags : goal.returns-in-Ok-clause-tags
returns-in-Ok-clause-tags g c =
    dealt-tags g.S.Source.place (scripts_of c.args.work.scripts.items) c.args.work.readers.items c.run_list.result.1.items
    (c.run_list.ensures.tags ∙ ap (λ (list : List (Task g.row.S.Denot)). map (reader_tag g.S.Source.place) (readers_of list)) c.in-Ok.ensures.jobs)

pub returns-in-Ok-clause-count : goal.returns-in-Ok-clause-count
returns-in-Ok-clause-count g c =
    tags-count g.S.Source.place c.args.work.readers.items c.run_list.result.1.items (dealt-tags g.S.Source.place (scripts_of c.args.work.scripts.items) c.args.work.readers.items c.run_list.result.1.items
    (c.run_list.ensures.tags ∙ ap (λ (list : List (Task g.row.S.Denot)). map (reader_tag g.S.Source.place) (readers_of list)) c.in-Ok.ensures.jobs))

pub returns-in-Err-clause-tags : goal.returns-in-Err-clause-tags
returns-in-Err-clause-tags g c =
    moved-tags g.S.Source.place c.args.work.readers.items (readers_of c.in-Err.undealt.jobs.items ++ (c.in-Err.undealt.some.items ++ c.in-Err.undealt.others.items))
    c.give_back.result.items c.in-Err.ensures.back c.give_back.ensures

pub returns-in-Err-clause-count : goal.returns-in-Err-clause-count
returns-in-Err-clause-count g c =
    tags-count g.S.Source.place c.args.work.readers.items c.give_back.result.items (moved-tags g.S.Source.place c.args.work.readers.items (readers_of c.in-Err.undealt.jobs.items ++ (c.in-Err.undealt.some.items ++ c.in-Err.undealt.others.items))
    c.give_back.result.items c.in-Err.ensures.back c.give_back.ensures)
