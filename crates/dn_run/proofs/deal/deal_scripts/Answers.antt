use Rattle.std.proofs.Common.{rules, ◌≡◌, List, ◌∷◌, ◌+◌, ◌++◌, length, ap, sym, ◌∙◌, arith, subst, refl}
use Rattle.std.proofs.lemmas.List.Sorted.{IsPermutation-refl, IsPermutation-trans}
use Rattle.std.proofs.lemmas.Result.{err_from_is_err_and}
use Rattle.dn_formats.specs.declared.script.Script.{Script}
use Rattle.dn_run.specs.Deal.{left_over, script_tasks}
use Rattle.dn_run.specs.Jobs.{scripts_of}
use Rattle.dn_run.proofs.DealSteps.{one-more, script-moves, script-step}
use Rattle.dn_run.proofs.deal.deal_scripts.Goals as goal

pub loop-script-init : goal.loop-script-init
loop-script-init g c =
    let it : c.into_iter-script-iterator.result.rest.items ≡ c.args.scripts.items = search rules in
    let e = ap length c.requires.none in
    let n = ap length it in
    let few = c.requires.few in
    let room = c.requires.room in
    record {
      jobs = rw (it, c.requires.none) refl;
      left = rw it refl;
      moves = rw c.requires.none (IsPermutation-refl c.args.dealt.left.items);
      few = omega (arith, e, n, few);
      room = omega (arith, e, n, room);
      same = refl;
    }

pub loop-script-preserved : goal.loop-script-preserved
loop-script-preserved g c =
    let split : c.loop-script.script-iterator.rest.items ≡ c.in-Some.script ∷ c.next.new.self.rest.items = search rules in
    record {
      jobs = script-step c.loop-script.dealt.jobs.items c.in_ok-dealt.dealt.jobs.items (script_tasks 1 (scripts_of c.args.scripts.items) c.args.dealt.left.items)
          c.in-Some.script.lines (scripts_of c.next.new.self.rest.items) c.loop-script.dealt.left.items c.in_ok-dealt.dealt.left.items
          c.in_ok-dealt.ensures.jobs c.in_ok-dealt.ensures.left
          (subst (λ (rest : List Script). c.loop-script.dealt.jobs.items ++ script_tasks (length c.loop-script.dealt.jobs.items + 1) (scripts_of rest) c.loop-script.dealt.left.items
          ≡ script_tasks 1 (scripts_of c.args.scripts.items) c.args.dealt.left.items) split c.loop-script.invariant.jobs);
      left = ap (left_over (scripts_of c.next.new.self.rest.items)) c.in_ok-dealt.ensures.left
          ∙ ap (λ (rest : List Script). left_over (scripts_of rest) c.loop-script.dealt.left.items) (sym split) ∙ c.loop-script.invariant.left;
      moves = script-moves c.args.dealt.left.items c.loop-script.dealt.left.items c.in_ok-dealt.dealt.left.items c.loop-script.dealt.jobs.items c.in_ok-dealt.dealt.jobs.items
          c.in-Some.script.lines c.in_ok-dealt.ensures.jobs c.in_ok-dealt.ensures.left c.loop-script.invariant.moves;
      few = (let e = one-more c.loop-script.dealt.jobs.items c.in_ok-dealt.dealt.jobs.items _ c.in_ok-dealt.ensures.jobs in let n = ap length split in let m = c.loop-script.invariant.few in omega (arith, e, n, m));
      room = (let e = one-more c.loop-script.dealt.jobs.items c.in_ok-dealt.dealt.jobs.items _ c.in_ok-dealt.ensures.jobs in let n = ap length split in let m = c.loop-script.invariant.room in let k = c.in_ok-dealt.ensures.room in omega (arith, e, n, m, k));
      same = c.in_ok-dealt.ensures.room ∙ c.loop-script.invariant.same;
    }

pub returns-in_err-dealt-clause-back : goal.returns-in_err-dealt-clause-back
returns-in_err-dealt-clause-back g c =
    let p = err_from_is_err_and c.from_residual.result c.from_residual.ensures.1 in
    rw (p.1, p.2) (IsPermutation-trans _ _ _ c.loop-script.invariant.moves c.in_err-dealt.ensures.back)
