use Rattle.std.proofs.Common.{refl}
use Rattle.net_engine.specs.Seen.{net_in}
use Rattle.net_engine.proofs.Standing.{low-is_place, past-is_place, place-below}
use Rattle.net_engine.proofs.net.Net.bounds.Goals as goal

pub returns-clause-low : goal.returns-clause-low
returns-clause-low c = λ d. low-is_place (net_in c.args.self.now) c.args.self.now.routers c.args.self.now.atoms c.args.self.now.labels c.args.self.now.tables c.args.i c.bounds.result.0 d refl (place-below (net_in c.args.self.now) c.args.self.now.routers c.args.self.now.atoms c.args.self.now.labels c.args.self.now.tables c.args.i refl c.requires) c.bounds.ensures.low

pub returns-clause-past : goal.returns-clause-past
returns-clause-past c = λ d. past-is_place (net_in c.args.self.now) c.args.self.now.routers c.args.self.now.atoms c.args.self.now.labels c.args.self.now.tables c.args.i c.bounds.result.1 d refl (place-below (net_in c.args.self.now) c.args.self.now.routers c.args.self.now.atoms c.args.self.now.labels c.args.self.now.tables c.args.i refl c.requires) c.bounds.ensures.past

pub bounds-requires : goal.bounds-requires
bounds-requires c = place-below (net_in c.args.self.now) c.args.self.now.routers c.args.self.now.atoms c.args.self.now.labels c.args.self.now.tables c.args.i refl c.requires
