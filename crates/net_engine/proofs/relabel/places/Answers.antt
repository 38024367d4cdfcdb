use Rattle.std.proofs.Common.{◌+◌, ◌<◌, ◌≤◌, ◌^◌, length, arith, refl}
use Rattle.atom_map.specs.Spans.{span_low, span_past}
use Rattle.base.proofs.Covers.{few-rows}
use Rattle.net_engine.proofs.Relabelling.{atom-begins, atoms-end}
use Rattle.net_engine.proofs.relabel.places.Goals as goal

pub overflow_add-result : goal.overflow_add-result
overflow_add-result c =
    let inside : c.places_from-first.result.1 < length c.args.atoms.now = c.places_from-first.ensures.last.inside in
    let few : 0 + length c.args.atoms.now ≤ 2 ^ 32 = few-rows span_low span_past 0 c.args.atoms.now c.requires.form.cover in
    omega arith

pub returns-clause-first : goal.returns-clause-first
returns-clause-first c = atom-begins c.args.atoms.now c.places_from-first.result.0 c.args.run.lo c.requires.form c.places_from-first.ensures.first.inside c.places_from-first.ensures.first.from c.places_from-first.ensures.first.to c.requires.first

pub returns-clause-past : goal.returns-clause-past
returns-clause-past c = atoms-end c.args.atoms.now c.places_from-first.result.1 c.args.run.hi (c.args.run.hi + 1) c.requires.form c.places_from-first.ensures.last.inside c.places_from-first.ensures.last.from c.places_from-first.ensures.last.to refl (omega arith) c.requires.last
