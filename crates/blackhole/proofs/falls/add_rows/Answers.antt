use Rattle.std.proofs.Common.{◌∙◌, Option, ap, sym}
use Rattle.std.proofs.lemmas.Result.{on_ok_weaker}
use Rattle.base.specs.declared.ids.RouterId.{RouterId}
use Rattle.base.specs.declared.target.Target.{Target}
use Rattle.blackhole.specs.Falls.{is_fall}
use Rattle.blackhole.proofs.Adding.{none-added}
use Rattle.blackhole.proofs.falls.add_rows.Goals as goal

pub returns-in-None : goal.returns-in-None
returns-in-None g c = λ test so_far is. none-added _ _ c.args.rows.from c.args.rows.past c.args.falls.now.items c.args.end test c.requires.form c.requires.some c.requires.inside c.in-None.is so_far is

pub returns-in-Some : goal.returns-in-Some
returns-in-Some g c = on_ok_weaker c.add_fall.result (λ adds test so_far is. adds test so_far (λ r t a b. sym (ap (λ (o : Option (RouterId × Target)). is_fall o r t) c.in-Some.is) ∙ is r t a b)) c.add_fall.ensures
