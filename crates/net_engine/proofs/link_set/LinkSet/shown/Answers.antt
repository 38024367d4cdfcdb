use Rattle.std.proofs.Common.{rules, ◌≡◌, ◌∙◌, false, sym}
use Rattle.net_engine.proofs.Flags.{target-none}
use Rattle.net_engine.proofs.link_set.LinkSet.shown.Goals as goal

pub returns-then-not-self : goal.returns-then-not-self
returns-then-not-self c =
    let off : c.self.inside.some ≡ false = search rules in
    target-none c.args.self.now c.args.target (sym c.self.view_is ∙ c.self.invariant off)
