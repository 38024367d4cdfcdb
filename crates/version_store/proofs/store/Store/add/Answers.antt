use Rattle.std.proofs.Common.{◌≡◌, ◌∙◌, ◌<◌, ◌++◌, ◌∷◌, [], List, Some, length, ap, sym, subst, rules}
use Rattle.std.proofs.lemmas.Result.{err_from_is_err_and}
use Rattle.std.specs.Arc.{arc_value}
use Rattle.base.specs.declared.change.Change.{Change}
use Rattle.dn_model.specs.declared.entry.Posted.{Posted}
use Rattle.net_engine.specs.Version.{Kept}
use Rattle.version_store.specs.Kept.{IsKeptOf, IsTaken, Ledger}
use Rattle.version_store.proofs.GoingOn.{kept-more}
use Rattle.version_store.proofs.store.Store.add.Goals as goal

pub invariant_of-self-2 : goal.invariant_of-self-2
invariant_of-self-2 c =
    let s = c.self.inside in
    let posted : Posted = record { seat = c.args.seat; entry = c.args.entry.now } in
    let kept : Kept → List Posted → List Change → Type 0 = λ version h cs. IsKeptOf (arc_value s.topology) s.limit h (Some version) c.next_version.new.loops cs in
    subst (λ (version : Kept). kept version c.post_with.new.history (arc_value c.post_with.new.changes)) (sym c.take_back.ensures)
    (subst (λ (h : List Posted). kept c.in_ok-version.version h (arc_value c.post_with.new.changes)) (sym c.in_ok-spare.ensures.entries)
    (subst (λ (cs : List Change). kept c.in_ok-version.version (s.history ++ posted ∷ []) cs) (sym c.in_ok-spare.ensures.changes)
    (kept-more (arc_value s.topology) s.limit s.history posted s.version c.in_ok-version.version s.loops c.next_version.new.loops (arc_value s.changes) c.in_ok-version.changes c.self.invariant
    (subst (λ (l : Ledger). length l.history < l.basis.limit) (sym c.self.view_is) c.requires.room)
    (subst (λ (l : Ledger). IsTaken l.basis.topology c.args.entry.now) (sym c.self.view_is) c.requires.entry)
    c.in_ok-version.ensures.stands c.in_ok-version.ensures.changes)))

pub returns-in_err-spare-clause-ok : goal.returns-in_err-spare-clause-ok
returns-in_err-spare-clause-ok c =
    let p = err_from_is_err_and c.from_residual-in_err-spare.result c.from_residual-in_err-spare.ensures.1 in rw (p.1) tt

pub returns-in_err-spare-clause-number : goal.returns-in_err-spare-clause-number
returns-in_err-spare-clause-number c =
    let p = err_from_is_err_and c.from_residual-in_err-spare.result c.from_residual-in_err-spare.ensures.1 in rw (p.1) tt

pub returns-in_err-spare-clause-err : goal.returns-in_err-spare-clause-err
returns-in_err-spare-clause-err c =
    let p = err_from_is_err_and c.from_residual-in_err-spare.result c.from_residual-in_err-spare.ensures.1 in
    let same : c.post_with.new.history ≡ c.self.inside.history = search rules in
    rw (p.1) (same ∙ ap (λ (l : Ledger). l.history) c.self.view_is)
