use Rattle.std.proofs.Common.{◌∙◌, List, ap, length, sym}
use Rattle.atom_map.specs.Spans.{Span}
use Rattle.atom_map.proofs.Bounded.{length-spans}
use Rattle.atom_map.proofs.bounds.Bounds.count.Goals as goal

pub returns-clause-value : goal.returns-clause-value
returns-clause-value c = c.len.ensures ∙ sym (length-spans c.self.inside.lows) ∙ ap (λ (ss : List Span). length ss) c.self.view_is
