-- What the version keeps was advanced.
use Rattle.std.proofs.Common.{◌≡◌, ◌+◌, ◌++◌, ◌∷◌, ◌∙◌, [], length, ap, subst, sym}
use Rattle.std.specs.Option.{IfSome}
use Rattle.base.specs.Cidr.{Cidr}
use Rattle.dn_model.specs.LastDelta.{IsDeltaOf}
use Rattle.dn_model.specs.Entry.{IsEntryOf}
use Rattle.net_engine.specs.Version.{Kept, KeptStandsFor}
use Rattle.net_engine.specs.Looks.{IsWithinSteps, atoms_added, atoms_met, prefix_of_entry}
use Rattle.net_engine.specs.Seen.{IsSound, kept_in}
use Rattle.net_engine.specs.declared.state.State.{State}
use Rattle.net_engine.proofs.version.Version.advance.Goals as goal

pub advance-requires-clause-sound : goal.advance-requires-clause-sound
advance-requires-clause-sound g c = subst (λ (s : State). IsSound s) (sym c.deref_mut.ensures.value) c.self.invariant

pub advance-requires-clause-entry : goal.advance-requires-clause-entry
advance-requires-clause-entry g c = subst (λ (v : Kept). IsEntryOf v.topology c.args.entry.now) (sym (ap kept_in c.deref_mut.ensures.value ∙ c.self.view_is)) c.requires.entry

pub returns-clause-topology : goal.returns-clause-topology
returns-clause-topology g c = c.in_ok-delta.ensures.made.topology ∙ ap (λ (v : Kept). v.topology) (ap kept_in c.deref_mut.ensures.value ∙ c.self.view_is)

pub returns-clause-stands : goal.returns-clause-stands
returns-clause-stands g c = λ history of.
    c.in_ok-delta.ensures.made.stands history (subst (λ (v : Kept). KeptStandsFor v history) (sym (ap kept_in c.deref_mut.ensures.value ∙ c.self.view_is)) of)

pub returns-clause-delta : goal.returns-clause-delta
returns-clause-delta g c = λ history of.
    subst (λ (v : Kept). IsDeltaOf v.topology (history ++ c.args.entry.now ∷ []) c.in_ok-delta.delta) (ap kept_in c.deref_mut.ensures.value ∙ c.self.view_is)
    (c.in_ok-delta.ensures.made.delta history (subst (λ (v : Kept). KeptStandsFor v history) (sym (ap kept_in c.deref_mut.ensures.value ∙ c.self.view_is)) of))

pub returns-clause-added : goal.returns-clause-added
returns-clause-added g c = c.in_ok-delta.ensures.made.added ∙ ap (λ (v : Kept). length v.atoms + atoms_added v.atoms c.args.entry.now) (ap kept_in c.deref_mut.ensures.value ∙ c.self.view_is)

pub returns-clause-met : goal.returns-clause-met
returns-clause-met g c = subst (λ (v : Kept). IfSome (prefix_of_entry c.args.entry.now) (λ (p : Cidr). atoms_met (kept_in c.advance.new.self).atoms p ≡ atoms_met v.atoms p)) (ap kept_in c.deref_mut.ensures.value ∙ c.self.view_is) c.in_ok-delta.ensures.made.met

pub returns-clause-cost : goal.returns-clause-cost
returns-clause-cost g c = subst (λ (v : Kept). IsWithinSteps v.atoms c.args.entry.now c.args.steps.now c.advance.new.steps) (ap kept_in c.deref_mut.ensures.value ∙ c.self.view_is) c.advance.ensures.cost

pub returns-in_err-delta-clause-cost : goal.returns-in_err-delta-clause-cost
returns-in_err-delta-clause-cost g c = subst (λ (v : Kept). IsWithinSteps v.atoms c.args.entry.now c.args.steps.now c.advance.new.steps) (ap kept_in c.deref_mut.ensures.value ∙ c.self.view_is) c.advance.ensures.cost
