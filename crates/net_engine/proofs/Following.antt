-- An update that is followed is one of one router's routes, and neither of objects nor of links.
use Rattle.std.proofs.Common.{◌≡◌, ◌≢◌, ◌∙◌, ◌==◌, ℕ, Bool, true, false, cond, None, Some, List, [], ◌∷◌, ◌++◌, fold, refl, ap, sym, subst, ⊎_elim}
use Rattle.std.proofs.lemmas.Bool.{cases_eq, ne_eqb}
use Rattle.std.proofs.lemmas.List.Sums.{fold-append}
use Rattle.std.proofs.lemmas.List.Elements.{filter_map-append}
use Rattle.base.specs.Links.{is_down, without}
use Rattle.base.specs.declared.ids.LinkId.{LinkId}
use Rattle.base.specs.declared.ids.RouterId.{RouterId}
use Rattle.base.specs.declared.target.Target.{Target}
use Rattle.base.specs.declared.target.Target.TheVariants.{NoRoute, Dropped, Local, Exit, OnLink, To, LinkDown}
use Rattle.dn_model.specs.Downs.{after_link, downs}
use Rattle.dn_model.specs.Entry.{ends_of_set, object_op, op_on, op_sets_end}
use Rattle.dn_model.specs.Table.{Object, after_object, after_op, objects, ops_on, prefix_of_op}
use Rattle.dn_model.specs.Tables.{device_of, replaces_prefix}
use Rattle.dn_model.specs.declared.entry.Entry.{Entry}
use Rattle.dn_model.specs.declared.entry.Entry.TheVariants as entries
use Rattle.dn_model.specs.declared.entry.Op.{Op}
use Rattle.dn_model.specs.declared.entry.Op.TheVariants as ops
use Rattle.dn_model.specs.declared.entry.Route.{Route}
use Rattle.dn_model.specs.declared.topology.Topology.{Topology}
use Rattle.dn_model.proofs.Tables.{op-own}
use Rattle.net_engine.specs.Looks.{atoms_added, atoms_put, prefix_of_entry, prefix_touched}
use Rattle.net_engine.specs.Updates.{IsUpdateOf, after_update, puts_end}
use Rattle.net_engine.specs.Version.{Atom}
use Rattle.net_engine.specs.declared.update.Update.{Update}

-- ---- one entry

-- an update of one router's routes, by this op
pub record Follows (t : Topology) (e : Entry) (u : Update) : Type 0 where
  pub op : Op
  pub feed : ℕ
  pub entry : e ≡ entries.Route u.router feed op
  pub makes : (routes : List Route) → after_op (replaces_prefix t u.router) routes op ≡ after_update u routes
  pub no_object : object_op op ≡ None
  pub keeps : (objects : List Object) → after_object objects op ≡ objects
  pub ends : (a : ℕ) → op_sets_end a op ≡ puts_end a u.table.op
  pub adds : (atoms : List Atom) → atoms_added atoms (entries.Route u.router feed op) ≡ atoms_put atoms u.table.op
  pub prefix : prefix_touched op ≡ Some (prefix_of_op u.table.op)

pub follows : (t : Topology) (r : RouterId) (n : ℕ) (op : Op) (u : Update) → IsUpdateOf t r op u → Follows t (entries.Route r n op) u
follows t r n (ops.Set p m target) u is = subst (λ v. Follows t (entries.Route r n (ops.Set p m target)) v) (sym is) (record {
  op = ops.Set p m target;
  feed = n;
  entry = refl;
  makes = λ routes. refl;
  no_object = refl;
  keeps = λ objects. refl;
  ends = λ a. refl;
  adds = λ atoms. refl;
  prefix = refl;
})
follows t r n (ops.SetBy p m id) u is = absurd is
follows t r n (ops.Clear p m) u is = subst (λ v. Follows t (entries.Route r n (ops.Clear p m)) v) (sym is) (record {
  op = ops.Clear p m;
  feed = n;
  entry = refl;
  makes = λ routes. refl;
  no_object = refl;
  keeps = λ objects. refl;
  ends = λ a. refl;
  adds = λ atoms. refl;
  prefix = refl;
})
follows t r n (ops.Object id target) u is = absurd is
follows t r n (ops.NoObject id) u is = absurd is

module _ (t : Topology) (e : Entry) (u : Update) (f : Follows t e u) where
  -- to its own router it is that update, and to all others it is none
  pub op-to_own : (r : RouterId) → u.router.0 ≡ r.0 → op_on t r e ≡ Some f.op
  op-to_own r same = ap (op_on t r) f.entry ∙ op-own t r u.router f.feed f.op same

  pub op-to_other : (r : RouterId) → u.router.0 ≢ r.0 → op_on t r e ≡ None
  op-to_other r other =
      ap (op_on t r) f.entry
      ∙ ap (λ b. cond b (Some f.op) (cond (u.router.0 == (device_of t r).0) (object_op f.op) None)) (ne_eqb u.router.0 r.0 other)
      ∙ by (u.router.0 == (device_of t r).0)
    where
      by : (b : Bool) → cond b (object_op f.op) None ≡ None
      by true = f.no_object
      by false = refl

  pub ends-of_entry : (a : ℕ) → ends_of_set a e ≡ puts_end a u.table.op
  ends-of_entry a = ap (ends_of_set a) f.entry ∙ f.ends a

  pub adds-of_entry : (atoms : List Atom) → atoms_added atoms e ≡ atoms_put atoms u.table.op
  adds-of_entry atoms = ap (atoms_added atoms) f.entry ∙ f.adds atoms

  pub prefix-of_entry : prefix_of_entry e ≡ Some (prefix_of_op u.table.op)
  prefix-of_entry = ap prefix_of_entry f.entry ∙ f.prefix

  -- the links that are down stay so
  pub downs-after : (history : List Entry) → downs (history ++ e ∷ []) ≡ downs history
  downs-after history = fold-append after_link [] history (e ∷ []) ∙ ap (after_link (downs history)) f.entry

  -- and so do all objects
  pub objects-after : (history : List Entry) (r : RouterId) → objects t (history ++ e ∷ []) r ≡ objects t history r
  objects-after history r =
      let all : ops_on t (device_of t r) (history ++ e ∷ []) ≡ ops_on t (device_of t r) history ++ ops_on t (device_of t r) (e ∷ []) = filter_map-append (op_on t (device_of t r)) history (e ∷ []) in
      ap (fold after_object []) all
      ∙ fold-append after_object [] (ops_on t (device_of t r) history) (ops_on t (device_of t r) (e ∷ []))
      ∙ ⊎_elim
      (λ (own : u.router.0 ≡ (device_of t r).0).
      let one : ops_on t (device_of t r) (e ∷ []) ≡ f.op ∷ [] = rw (op-to_own (device_of t r) own) refl in
      ap (fold after_object (objects t history r)) one ∙ f.keeps (objects t history r))
      (λ (other : u.router.0 ≢ (device_of t r).0).
      let none : ops_on t (device_of t r) (e ∷ []) ≡ [] = rw (op-to_other (device_of t r) other) refl in
      ap (fold after_object (objects t history r)) none)
      (cases_eq u.router.0 (device_of t r).0)

-- ---- links that are down

-- the same links being down makes the same of a target
pub without-same : (down others : List LinkId) (target : Target) → ((l : LinkId) → is_down down l ≡ is_down others l) → without down target ≡ without others target
without-same down others NoRoute same = refl
without-same down others (Dropped kind) same = refl
without-same down others Local same = refl
without-same down others (Exit i) same = refl
without-same down others (OnLink i) same = refl
without-same down others (To s l) same = ap (λ b. cond b (LinkDown l) (To s l)) (same l)
without-same down others (LinkDown l) same = refl

-- none changes nothing
pub without-none : (target : Target) → without [] target ≡ target
without-none NoRoute = refl
without-none (Dropped kind) = refl
without-none Local = refl
without-none (Exit i) = refl
without-none (OnLink i) = refl
without-none (To s l) = refl
without-none (LinkDown l) = refl

-- what goes on to a router does so while all links are up
pub without-to : (down : List LinkId) (target : Target) (s : RouterId) (l : LinkId) → without down target ≡ To s l → target ≡ To s l
without-to down NoRoute s l h = cc
without-to down (Dropped kind) s l h = cc
without-to down Local s l h = cc
without-to down (Exit i) s l h = cc
without-to down (OnLink i) s l h = cc
without-to down (LinkDown k) s l h = cc
without-to down (To r k) s l h = by (is_down down k) h
  where
    by : (b : Bool) → cond b (LinkDown k) (To r k) ≡ To s l → To r k ≡ To s l
    by true e = cc
    by false e = e
