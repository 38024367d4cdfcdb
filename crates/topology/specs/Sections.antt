-- The lists of entries of a document, as its definition speaks of them.
use Rattle.std.specs.Prelude.{map}
use Rattle.toml.specs.View.{view}
use Rattle.dn_formats.specs.TopologyText.{Sections}
use Rattle.topology.specs.declared.sections.Sections.{Sections as Lists}

abbrev pub sections : Lists → Sections
sections lists = record {
  routers = map view lists.routers.now;
  vrfs = map view lists.vrfs.now;
  links = map view lists.links.now;
  edges = map view lists.edges.now;
  marks = map view lists.marks.now;
}
