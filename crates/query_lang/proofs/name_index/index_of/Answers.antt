use Rattle.dn_formats.specs.ScriptText.{is_named}
use Rattle.query_lang.specs.NameIndex.{router_in}
use Rattle.query_lang.proofs.NamesFound.{found-first, found-more, found-all}
use Rattle.query_lang.proofs.name_index.index_of.Goals as goal

pub loop-last-init : goal.loop-last-init
loop-last-init c = λ name.
    found-first (is_named c.args.topology.now.routers name) c.args.fed.now c.new-index.result.entries name
    c.new-index.ensures.empty

pub loop-last-preserved : goal.loop-last-preserved
loop-last-preserved c = λ name.
    found-more (is_named c.args.topology.now.routers name) c.loop-last.rest.now c.in-Some.front.now c.in-Some.last.now
    (router_in c.loop-last.index.entries name) (router_in c.add.new.index.entries name) _ c.in-Some.ensures.cases.0
    (c.in_ok-add.ensures name) (c.loop-last.invariant name)

pub returns : goal.returns
returns c = λ name.
    found-all (is_named c.args.topology.now.routers name) c.loop-last.rest.now (router_in c.loop-last.index.entries name) _
    c.in_default.ensures.cases (c.loop-last.invariant name)
