use Rattle.std.proofs.Common.{refl, sym, subst, ◌<◌}
use Rattle.net_engine.specs.Seen.{net_in}
use Rattle.net_engine.proofs.Standing.{high-at-place, length-paired, low-at-place}
use Rattle.net_engine.proofs.net.Net.place_of.Goals as goal

pub returns-clause-from : goal.returns-clause-from
returns-clause-from c = λ d. low-at-place (net_in c.args.self.now) c.args.self.now.routers c.args.self.now.atoms c.args.self.now.labels c.args.self.now.tables c.place_of.result c.args.a d refl c.place_of.ensures.inside c.place_of.ensures.from

pub returns-clause-to : goal.returns-clause-to
returns-clause-to c = λ d. high-at-place (net_in c.args.self.now) c.args.self.now.routers c.args.self.now.atoms c.args.self.now.labels c.args.self.now.tables c.place_of.result c.args.a d refl c.place_of.ensures.inside c.place_of.ensures.to

pub returns-clause-inside : goal.returns-clause-inside
returns-clause-inside c = subst (λ n. c.place_of.result < n) (sym (length-paired c.args.self.now.labels c.args.self.now.tables c.args.self.now.atoms)) c.place_of.ensures.inside
