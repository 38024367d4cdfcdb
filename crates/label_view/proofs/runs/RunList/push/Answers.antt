use Rattle.std.proofs.Common.{◌≡◌, ap, arith}
use Rattle.label_view.specs.Gathered.{Gathered}
use Rattle.label_view.proofs.Gathering.{gathered-first, gathered-more}
use Rattle.label_view.proofs.runs.RunList.push.Goals as goal

pub invariant_of-self-then-self : goal.invariant_of-self-then-self
invariant_of-self-then-self c =
    let past : c.self.inside.past ≡ c.args.self.now.past = ap (λ (x : Gathered). x.past) c.self.view_is in
    rw c.in_ok-push.ensures.ok (gathered-more c.self.inside.closed c.run_of.result c.self.inside.low c.self.inside.past c.args.low c.args.past c.self.invariant (omega arith) c.run_of.ensures.lo c.run_of.ensures.hi (omega arith) c.requires.some c.requires.bound)

pub invariant_of-self-2 : goal.invariant_of-self-2
invariant_of-self-2 c =
    let past : c.self.inside.past ≡ c.args.self.now.past = ap (λ (x : Gathered). x.past) c.self.view_is in
    gathered-first c.self.inside.closed c.self.inside.low c.self.inside.past c.args.low c.args.past c.self.invariant (omega arith) (omega arith) c.requires.some c.requires.bound
