use Rattle.std.proofs.Common.{◌≡◌, ◌∷◌, ◌++◌, [], List, length, ap, sym, ◌∙◌, arith}
use Rattle.std.proofs.lemmas.Result.{IfErr-weaker, IfOk-weaker}
use Rattle.route_feed.specs.FeedReader.{Reader}
use Rattle.dn_run.proofs.DealSteps.{first-out, ok-both, one-more, own-back, own-given, own-moves, own-step}
use Rattle.dn_run.proofs.deal.deal_own.Goals as goal

pub returns-clause-jobs : goal.returns-clause-jobs
returns-clause-jobs g c =
    let out = first-out c.args.dealt.left.items c.remove.new.self.items c.remove.result c.requires.some c.remove.ensures.value c.remove.ensures.by_index.2 in
    let mine : c.push_reserved.new.self.items ≡ c.remove.result ∷ [] = c.push_reserved.ensures.items ∙ ap (λ (m : List (Reader g.row.S.Denot)). m ++ c.remove.result ∷ []) c.in-Ok.ensures.items in
    ok-both c.add_job.result _ _ _
    (λ d js left. own-step c.args.dealt.jobs.items d.jobs.items c.args.dealt.left.items d.left.items c.remove.result (out ∙ ap (λ ls. c.remove.result ∷ ls) (sym left))
    (own-given c.args.dealt.jobs.items d.jobs.items c.push_reserved.new.self.items c.remove.result mine js))
    c.add_job.ensures.jobs c.add_job.ensures.left

pub returns-clause-readers : goal.returns-clause-readers
returns-clause-readers g c =
    let out = first-out c.args.dealt.left.items c.remove.new.self.items c.remove.result c.requires.some c.remove.ensures.value c.remove.ensures.by_index.2 in
    let mine : c.push_reserved.new.self.items ≡ c.remove.result ∷ [] = c.push_reserved.ensures.items ∙ ap (λ (m : List (Reader g.row.S.Denot)). m ++ c.remove.result ∷ []) c.in-Ok.ensures.items in
    ok-both c.add_job.result _ _ _
    (λ d js left. own-moves c.args.dealt.jobs.items d.jobs.items c.args.dealt.left.items d.left.items c.remove.result (out ∙ ap (λ ls. c.remove.result ∷ ls) (sym left))
    (own-given c.args.dealt.jobs.items d.jobs.items c.push_reserved.new.self.items c.remove.result mine js))
    c.add_job.ensures.jobs c.add_job.ensures.left

pub returns-clause-back : goal.returns-clause-back
returns-clause-back g c =
    let out = first-out c.args.dealt.left.items c.remove.new.self.items c.remove.result c.requires.some c.remove.ensures.value c.remove.ensures.by_index.2 in
    let mine : c.push_reserved.new.self.items ≡ c.remove.result ∷ [] = c.push_reserved.ensures.items ∙ ap (λ (m : List (Reader g.row.S.Denot)). m ++ c.remove.result ∷ []) c.in-Ok.ensures.items in
    IfErr-weaker c.add_job.result _ _
    (λ u b. own-back c.args.dealt.jobs.items u.jobs.items u.some.items u.others.items c.push_reserved.new.self.items c.args.dealt.left.items c.remove.result c.remove.new.self.items out mine b.0 b.1 b.2)
    c.add_job.ensures.back

pub returns-clause-more : goal.returns-clause-more
returns-clause-more g c = IfOk-weaker c.add_job.result _ _ (λ d js. one-more c.args.dealt.jobs.items d.jobs.items _ js) c.add_job.ensures.jobs

pub returns-clause-fewer : goal.returns-clause-fewer
returns-clause-fewer g c =
    let out = first-out c.args.dealt.left.items c.remove.new.self.items c.remove.result c.requires.some c.remove.ensures.value c.remove.ensures.by_index.2 in
    let before = ap length out in
    IfOk-weaker c.add_job.result _ _ (λ d left. let after = ap length left in omega (arith, before, after)) c.add_job.ensures.left
