use Rattle.std.proofs.Common.{◌∙◌, arith}
use Rattle.std.proofs.lemmas.List.{length-map}
use Rattle.std.proofs.lemmas.Result.{err_from_is_err_and}
use Rattle.dn_formats.specs.declared.script.Script.{Script}
use Rattle.dn_run.specs.Jobs.{scripts_of}
use Rattle.dn_run.proofs.DealSteps.{all-dealt, dealt-count, half-dealt, tasks-are}
use Rattle.dn_run.proofs.deal.deal.Goals as goal

pub deal_owns-requires-clause-few : goal.deal_owns-requires-clause-few
deal_owns-requires-clause-few g c κs within =
    let count = dealt-count (scripts_of c.args.scripts.items) c.args.readers.items c.in_ok-dealt.dealt.left.items c.in_ok-dealt.dealt.jobs.items c.in_ok-dealt.ensures.jobs c.in_ok-dealt.ensures.left in
    let all = length-map c.args.scripts.items (λ (script : Script). script.lines) in
    omega (arith, count, all, c.requires)

pub deal_owns-requires-clause-room : goal.deal_owns-requires-clause-room
deal_owns-requires-clause-room g c κs within =
    let count = dealt-count (scripts_of c.args.scripts.items) c.args.readers.items c.in_ok-dealt.dealt.left.items c.in_ok-dealt.dealt.jobs.items c.in_ok-dealt.ensures.jobs c.in_ok-dealt.ensures.left in
    let all = length-map c.args.scripts.items (λ (script : Script). script.lines) in
    let room = c.in_ok-dealt.ensures.room in
    let first = c.in-Ok.ensures.capacity in
    omega (arith, count, all, c.requires, room, first)

pub returns-in-Ok-new-clause-jobs : goal.returns-in-Ok-new-clause-jobs
returns-in-Ok-new-clause-jobs g c =
    c.in-Ok-new.ensures.jobs
    ∙ tasks-are (scripts_of c.args.scripts.items) c.args.readers.items c.in_ok-dealt.dealt.left.items c.in_ok-dealt.dealt.jobs.items c.in_ok-jobs.jobs.items c.in_ok-dealt.ensures.jobs c.in_ok-dealt.ensures.left
    c.in_ok-jobs.ensures.jobs

pub returns-in_err-dealt-clause-back : goal.returns-in_err-dealt-clause-back
returns-in_err-dealt-clause-back g c =
    let p = err_from_is_err_and c.from_residual.result c.from_residual.ensures.1 in rw (p.1, p.2) c.in_err-dealt.ensures.back

pub returns-in_err-jobs-clause-back : goal.returns-in_err-jobs-clause-back
returns-in_err-jobs-clause-back g c =
    let p = err_from_is_err_and c.from_residual-in_err-jobs.result c.from_residual-in_err-jobs.ensures.1 in
    rw (p.1, p.2)
    (half-dealt (scripts_of c.args.scripts.items) c.args.readers.items c.in_ok-dealt.dealt.left.items _ c.in_ok-dealt.dealt.jobs.items c.in_ok-dealt.ensures.jobs c.in_ok-dealt.ensures.left c.in_err-jobs.ensures.back)

pub returns-in-Err-clause-back : goal.returns-in-Err-clause-back
returns-in-Err-clause-back g c =
    let given = c.in-Err.ensures.back ∙ c.in_ok-jobs.ensures.jobs in
    let whole = all-dealt (scripts_of c.args.scripts.items) c.args.readers.items c.in-Err.jobs.items
    (tasks-are (scripts_of c.args.scripts.items) c.args.readers.items c.in_ok-dealt.dealt.left.items c.in_ok-dealt.dealt.jobs.items c.in-Err.jobs.items c.in_ok-dealt.ensures.jobs c.in_ok-dealt.ensures.left given) in
    rw (c.new-in-Err.ensures.items, c.new-in-Err-2.ensures.items) whole
