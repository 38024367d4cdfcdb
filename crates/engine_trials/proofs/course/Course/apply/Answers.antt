use Rattle.std.proofs.Common.{◌≡◌, ◌++◌, ◌∷◌, [], sym, subst, rules}
use Rattle.std.specs.Arc.{arc_value}
use Rattle.dn_model.specs.Entry.{IsEntryOf}
use Rattle.dn_model.specs.declared.topology.Topology.{Topology}
use Rattle.engine_trials.specs.Past.{IsCourse, Past}
use Rattle.engine_trials.proofs.Going.{course-more}
use Rattle.engine_trials.proofs.course.Course.apply.Goals as goal

pub invariant_of-result : goal.invariant_of-result
invariant_of-result c =
    let was = arc_value c.self.inside.topology in
    let entry = c.args.entry.now in
    let before = c.self.inside.entries.items in
    let after = c.push.new.self.items in
    let old = c.self.inside.version in
    let version = c.in_ok-version.version in
    let same : arc_value c.in_ok-topology.topology ≡ was = c.in_ok-topology.ensures in
    let own : IsEntryOf was entry = subst (λ (p : Past). IsEntryOf p.topology entry) (sym c.self.view_is) c.requires.entry in
    let longer : after ≡ before ++ entry ∷ [] = search rules in
    subst (λ (t : Topology). IsCourse t after version) (sym same)
    (course-more was before after entry old version c.self.invariant own longer c.in_ok-version.ensures.topology c.in_ok-version.ensures.stands)
