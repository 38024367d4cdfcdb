use Rattle.std.proofs.Common.{rules, ◌≡◌, ◌∙◌, false, get_or, sym}
use Rattle.net_engine.proofs.Flags.{down-flag}
use Rattle.net_engine.proofs.link_set.is_set.Goals as goal

pub returns-in-Some : goal.returns-in-Some
returns-in-Some c =
    let is : c.in-Some.flag.now ≡ get_or c.args.flags.now c.args.link.0 false = search rules in
    is ∙ sym (down-flag c.args.flags.now c.args.link)

pub returns-in-None : goal.returns-in-None
returns-in-None c =
    let is : false ≡ get_or c.args.flags.now c.args.link.0 false = search rules in
    is ∙ sym (down-flag c.args.flags.now c.args.link)
