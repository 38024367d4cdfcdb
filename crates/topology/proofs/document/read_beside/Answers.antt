use Rattle.std.proofs.Common.{◌≡◌, true, fold, sym, ap, ◌∙◌, subst, List}
use Rattle.std.proofs.lemmas.Result.{err_from_is_err_and}
use Rattle.dn_model.specs.declared.topology.RouterTable.{RouterTable}
use Rattle.dn_model.specs.Topology.{is_sound_topology}
use Rattle.dn_formats.specs.TopologyText.{marked}
use Rattle.topology.specs.Reading.{SayLinks, SayEdges, SayMarks}
use Rattle.topology.specs.Sections.{sections}
use Rattle.topology.proofs.Whole.{SayAll, lists_sound, lists_refused-links, lists_refused-edges, lists_refused-marks}
use Rattle.topology.proofs.document.read_beside.Goals as goal

pub invariant_of-result : goal.invariant_of-result
invariant_of-result c =
    let lists = sections c.args.lists.now in
    let links : SayLinks c.args.routers.names c.args.routers.tables (sections c.args.lists.now).links c.in_ok-links.links =
    rw (← c.as_slice.ensures.value, ← c.as_slice-2.ensures.value) c.in_ok-links.ensures.ok in
    let edges : SayEdges c.args.routers.names c.args.routers.tables c.in_ok-links.links (sections c.args.lists.now).edges c.in_ok-edges.edges =
    rw (← c.as_slice-3.ensures.value, ← c.as_slice-4.ensures.value, ← c.as_slice-5.ensures.value) c.in_ok-edges.ensures.ok in
    let marks : SayMarks c.args.routers.names (sections c.args.lists.now).marks c.in_ok-marks.marks = rw (← c.as_slice-6.ensures.value) c.in_ok-marks.ensures.ok in
    let all : SayAll (sections c.args.lists.now) c.args.routers c.in_ok-links.links c.in_ok-edges.edges c.in_ok-marks.marks =
    record { routers = c.requires; links_said = links; edges_said = edges; marks_said = marks } in
    let tables : c.marked_tables.result ≡ fold marked c.args.routers.tables c.in_ok-marks.marks = c.marked_tables.ensures ∙ ap (fold marked c.args.routers.tables) c.as_slice-7.ensures.value in
    let P : List RouterTable → Type 0 = λ ts. is_sound_topology (record { routers = c.args.routers.names; tables = ts; links = c.in_ok-links.links; edges = c.in_ok-edges.edges }) ≡ true in
    record { sound = subst P (sym tables) (lists_sound lists c.args.routers c.in_ok-links.links c.in_ok-edges.edges c.in_ok-marks.marks all) }

pub returns-in_err-links-clause-refused : goal.returns-in_err-links-clause-refused
returns-in_err-links-clause-refused c =
    let p = err_from_is_err_and c.from_residual.result c.from_residual.ensures.1 in
    rw (p.1, p.2)
    (lists_refused-links (sections c.args.lists.now) c.args.routers c.in_err-links.field-0.0 c.requires
    (rw (← c.as_slice.ensures.value, ← c.as_slice-2.ensures.value) c.in_err-links.ensures.refused))

pub returns-in_err-edges-clause-refused : goal.returns-in_err-edges-clause-refused
returns-in_err-edges-clause-refused c =
    let p = err_from_is_err_and c.from_residual-in_err-edges.result c.from_residual-in_err-edges.ensures.1 in
    let links : SayLinks c.args.routers.names c.args.routers.tables (sections c.args.lists.now).links c.in_ok-links.links =
    rw (← c.as_slice.ensures.value, ← c.as_slice-2.ensures.value) c.in_ok-links.ensures.ok in
    rw (p.1, p.2)
    (lists_refused-edges (sections c.args.lists.now) c.args.routers c.in_ok-links.links c.in_err-edges.field-0.0 c.requires links
    (rw (← c.as_slice-3.ensures.value, ← c.as_slice-4.ensures.value, ← c.as_slice-5.ensures.value) c.in_err-edges.ensures.refused))

pub returns-in_err-marks-clause-refused : goal.returns-in_err-marks-clause-refused
returns-in_err-marks-clause-refused c =
    let p = err_from_is_err_and c.from_residual-in_err-marks.result c.from_residual-in_err-marks.ensures.1 in
    let links : SayLinks c.args.routers.names c.args.routers.tables (sections c.args.lists.now).links c.in_ok-links.links =
    rw (← c.as_slice.ensures.value, ← c.as_slice-2.ensures.value) c.in_ok-links.ensures.ok in
    let edges : SayEdges c.args.routers.names c.args.routers.tables c.in_ok-links.links (sections c.args.lists.now).edges c.in_ok-edges.edges =
    rw (← c.as_slice-3.ensures.value, ← c.as_slice-4.ensures.value, ← c.as_slice-5.ensures.value) c.in_ok-edges.ensures.ok in
    rw (p.1, p.2)
    (lists_refused-marks (sections c.args.lists.now) c.args.routers c.in_ok-links.links c.in_ok-edges.edges c.in_err-marks.field-0.0 c.requires links edges
    (rw (← c.as_slice-6.ensures.value) c.in_err-marks.ensures.refused))
