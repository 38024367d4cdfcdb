use Rattle.std.proofs.Common.{◌∙◌, sym}
use Rattle.atom_map.specs.Spans.{span_low, span_past}
use Rattle.atom_map.proofs.Bounded.{bound-seen, low-of, place-inside}
use Rattle.atom_map.proofs.bounds.Bounds.bounds.Goals as goal

pub low_at-requires : goal.low_at-requires
low_at-requires c = place-inside c.self.inside.lows c.args.self.now c.args.i c.self.view_is c.requires

pub past_at-requires-clause-inside : goal.past_at-requires-clause-inside
past_at-requires-clause-inside c = place-inside c.self.inside.lows c.args.self.now c.args.i c.self.view_is c.requires

pub returns-in-Some-clause-low : goal.returns-in-Some-clause-low
returns-in-Some-clause-low c = λ d. bound-seen span_low c.self.inside.lows c.args.self.now c.args.i c.in-Some.bounds.0 d c.self.view_is (c.in-Some.ensures.low d)

pub returns-in-Some-clause-past : goal.returns-in-Some-clause-past
returns-in-Some-clause-past c = λ d. bound-seen span_past c.self.inside.lows c.args.self.now c.args.i c.in-Some.bounds.1 d c.self.view_is (c.in-Some.ensures.past d)

pub returns-in-None-clause-low : goal.returns-in-None-clause-low
returns-in-None-clause-low c = λ d. bound-seen span_low c.self.inside.lows c.args.self.now c.args.i c.from.result d c.self.view_is (c.from.ensures ∙ c.low_at.ensures 0 ∙ sym (low-of c.self.inside.lows c.args.i d 0 (place-inside c.self.inside.lows c.args.self.now c.args.i c.self.view_is c.requires)))

pub returns-in-None-clause-past : goal.returns-in-None-clause-past
returns-in-None-clause-past c = λ d. bound-seen span_past c.self.inside.lows c.args.self.now c.args.i c.past_at.result d c.self.view_is (c.past_at.ensures d)
