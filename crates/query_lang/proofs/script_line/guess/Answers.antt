use Rattle.std.proofs.Common.{List, All, subst, sym}
use Rattle.query_lang.specs.NameIndex.{IsNamed}
use Rattle.query_lang.specs.declared.name_guess.Named.{Named}
use Rattle.query_lang.proofs.NamesFound.{All-copied}
use Rattle.query_lang.proofs.script_line.guess.Goals as goal

pub returns : goal.returns
returns c =
    All-copied (IsNamed c.args.feeds.now.topology.now.routers c.args.feeds.now.fed.now) c.deref.result.now c.place_of-place.result c.get.result c.copied.result
    c.copied.ensures c.get.ensures.lookup.0 c.get.ensures.lookup.1
    (subst (λ (xs : List Named). All (IsNamed c.args.feeds.now.topology.now.routers c.args.feeds.now.fed.now) xs) (sym c.deref.ensures.value) c.args.feeds.now.named)
