-- The copy is the same version.
use Rattle.std.proofs.Common.{◌++◌, ◌∷◌, [], List, IfOk, subst}
use Rattle.dn_model.specs.LastDelta.{IsDeltaOf}
use Rattle.net_engine.specs.Version.{Kept, KeptStandsFor}
use Rattle.dn_model.specs.declared.entry.Entry.{Entry}
use Rattle.net_engine.proofs.version.Version.apply.Goals as goal

pub returns-clause-stands : goal.returns-clause-stands
returns-clause-stands g c =
    subst
    (λ (v : Kept). IfOk c.advance.result (λ made. (history : List Entry) → KeptStandsFor v history → KeptStandsFor made.0 (history ++ c.args.entry.now ∷ [])))
    c.in_ok-copy.ensures
    c.advance.ensures.stands

pub returns-clause-delta : goal.returns-clause-delta
returns-clause-delta g c =
    subst
    (λ (v : Kept). IfOk c.advance.result (λ made. (history : List Entry) → KeptStandsFor v history → IsDeltaOf v.topology (history ++ c.args.entry.now ∷ []) made.1))
    c.in_ok-copy.ensures
    c.advance.ensures.delta
