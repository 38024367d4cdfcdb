-- Tables after one more update.
use Rattle.std.proofs.Common.{◌≡◌, ◌≢◌, ℕ, Some, None, List, [], ◌∷◌, ◌++◌, fold, refl, ap, ◌∙◌}
use Rattle.std.proofs.lemmas.Bool.{eq-eqb, ne_eqb}
use Rattle.std.proofs.lemmas.List.{append-nil}
use Rattle.std.proofs.lemmas.List.Sums.{fold-append}
use Rattle.std.proofs.lemmas.List.Elements.{filter_map-append}
use Rattle.dn_model.specs.Entry.{op_on}
use Rattle.dn_model.specs.Tables.{device_of, replaces_prefix}
use Rattle.base.specs.declared.ids.RouterId.{RouterId}
use Rattle.dn_model.specs.declared.entry.Entry.{Entry}
use Rattle.dn_model.specs.declared.entry.Entry.TheVariants.{Route}
use Rattle.dn_model.specs.declared.entry.Op.{Op}
use Rattle.dn_model.specs.declared.topology.Topology.{Topology}
use Rattle.dn_model.specs.Table.{after_op, ops_on, table}

-- an entry of the router, and one of a router that is neither this one nor its device
pub op-own : (t : Topology) (r q : RouterId) (n : ℕ) (op : Op) → q.0 ≡ r.0 → op_on t r (Route q n op) ≡ Some op
op-own t r q n op h = rw (eq-eqb q.0 r.0 h) refl

pub op-other : (t : Topology) (r q : RouterId) (n : ℕ) (op : Op) → q.0 ≢ r.0 → q.0 ≢ (device_of t r).0 → op_on t r (Route q n op) ≡ None
op-other t r q n op h k = rw (ne_eqb q.0 r.0 h) (rw (ne_eqb q.0 (device_of t r).0 k) refl)

one-op : (t : Topology) (r : RouterId) (e : Entry) (op : Op) → op_on t r e ≡ Some op → ops_on t r (e ∷ []) ≡ op ∷ []
one-op t r e op h = rw h refl

no-op : (t : Topology) (r : RouterId) (e : Entry) → op_on t r e ≡ None → ops_on t r (e ∷ []) ≡ []
no-op t r e h = rw h refl

-- one more entry that is an update to the router, or is none to it
pub table-push_own : (t : Topology) (history : List Entry) (e : Entry) (r : RouterId) (op : Op) → op_on t r e ≡ Some op → table t (history ++ e ∷ []) r ≡ after_op (replaces_prefix t r) (table t history r) op
table-push_own t history e r op h =
    ap (fold (after_op (replaces_prefix t r)) []) (filter_map-append (op_on t r) history (e ∷ []) ∙ ap (λ ops. ops_on t r history ++ ops) (one-op t r e op h))
    ∙ fold-append (after_op (replaces_prefix t r)) [] (ops_on t r history) (op ∷ [])

pub table-push_other : (t : Topology) (history : List Entry) (e : Entry) (r : RouterId) → op_on t r e ≡ None → table t (history ++ e ∷ []) r ≡ table t history r
table-push_other t history e r h =
    ap (fold (after_op (replaces_prefix t r)) []) (filter_map-append (op_on t r) history (e ∷ []) ∙ ap (λ ops. ops_on t r history ++ ops) (no-op t r e h) ∙ append-nil _)
