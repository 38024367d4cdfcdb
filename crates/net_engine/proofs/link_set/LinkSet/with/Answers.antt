use Rattle.std.proofs.Common.{rules, ◌≡◌, ◌∙◌, ap, sym}
use Rattle.std.specs.Arc.{arc_value}
use Rattle.std.specs.List.{list_any}
use Rattle.net_engine.proofs.Flags.{link-made, none-set}
use Rattle.net_engine.proofs.link_set.LinkSet.with.Goals as goal

pub invariant_of-result : goal.invariant_of-result
invariant_of-result c = λ off.
    let made : (arc_value c.in_ok-flags-2.flags).items ≡ c.put_flag.new.flags.items = search rules in
    let seen : c.is_any-some.result ≡ list_any (λ flag. flag) c.put_flag.new.flags.items = search rules in
    none-set 0 (arc_value c.in_ok-flags-2.flags).items (ap (list_any (λ flag. flag)) made ∙ sym seen ∙ off)

pub returns : goal.returns
returns c =
    let made : (arc_value c.in_ok-flags-2.flags).items ≡ c.put_flag.new.flags.items = search rules in
    let was : c.in_ok-flags.flags.items ≡ (arc_value c.self.inside.flags).items = search rules in
    link-made (arc_value c.self.inside.flags).items c.in_ok-flags.flags.items c.put_flag.new.flags.items (arc_value c.in_ok-flags-2.flags).items c.args.self.now c.args.link c.args.down c.self.view_is was c.in_ok-put_flag.ensures made
