use Rattle.std.proofs.Common.{◌+◌, ◌≤◌, List, ◌∙◌, ap, length, subst, sym}
use Rattle.atom_map.specs.Spans.{Span}
use Rattle.atom_map.proofs.Bounded.{length-spans, place-inside}
use Rattle.atom_map.proofs.bounds.Bounds.runs.Goals as goal

pub runs_at-requires-clause-place : goal.runs_at-requires-clause-place
runs_at-requires-clause-place c = place-inside c.self.inside.lows c.args.self.now c.args.i c.self.view_is c.requires.place

pub returns-clause-inside : goal.returns-clause-inside
returns-clause-inside c = subst (λ n. c.args.i + c.runs_at.result ≤ n) (sym (length-spans c.self.inside.lows) ∙ ap (λ (ss : List Span). length ss) c.self.view_is) c.runs_at.ensures.inside
