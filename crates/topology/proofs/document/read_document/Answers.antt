use Rattle.std.proofs.Common.{IfOk, Result, Ok, Err, sym}
use Rattle.std.proofs.lemmas.Result.{MatchResult-weaker}
use Rattle.toml.specs.View.{table_view}
use Rattle.dn_formats.specs.declared.topology_fault.TopoRefused.{TopoRefused}
use Rattle.dn_model.specs.declared.topology.Topology.{Topology}
use Rattle.dn_model.specs.Tables.{parts}
use Rattle.topology.specs.Sections.{sections}
use Rattle.topology.proofs.Whole.{document_refused, document_said}
use Rattle.topology.proofs.document.read_document.Goals as goal

both_ok : (r : Result Topology TopoRefused) (P Q R : Topology → Type 0) → IfOk r P → IfOk r Q → ((t : Topology) → P t → Q t → R t) → IfOk r R
both_ok (Ok t) P Q R p q f = f t p q
both_ok (Err e) P Q R p q f = p

pub returns-in-None-clause-ok : goal.returns-in-None-clause-ok
returns-in-None-clause-ok c =
    both_ok c.read_lists.result _ _ _ c.read_lists.ensures.faultless c.read_lists.ensures.said
    (λ t none said. document_said (table_view c.args.table.now) (sections c.sections_of.result) (parts t) (sym c.in-None.ensures) c.sections_of.ensures none said)

pub returns-in-None-clause-refused : goal.returns-in-None-clause-refused
returns-in-None-clause-refused c =
    MatchResult-weaker c.read_lists.result c.read_lists.ensures.refused (λ t p. p)
    (λ refused h. document_refused (table_view c.args.table.now) (sections c.sections_of.result) refused (sym c.in-None.ensures) c.sections_of.ensures h)
