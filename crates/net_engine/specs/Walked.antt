-- What the steps of an update make of atoms and of a version, said address by address.
use Rattle.std.specs.Prelude.{ℕ, Bool, true, false, List, [], ◌∷◌, IfSome, length, slice_set, IsPermutation, ◌++◌, ◌≡◌, ◌+◌, ◌<◌, ◌≤◌, ◌^◌, ◌&&◌, ◌||◌, ◌==◌}
use Rattle.base.specs.Cidr.{Cidr, size}
use Rattle.base.specs.Delta.{AreChanges, TellsChange, change_at}
use Rattle.dn_model.specs.Entry.{is_bound_of}
use Rattle.dn_model.specs.LastDelta.{IsDeltaOf}
use Rattle.dn_model.specs.Table.{prefix_of_op}
use Rattle.base.specs.Rows.{is_within}
use Rattle.net_engine.specs.Version.{Atom, Kept, KeptStandsFor, begins_at, rules_at, shown_at, target_at}
use Rattle.base.specs.declared.change.Change.{Change}
use Rattle.dn_model.specs.declared.entry.Entry.{Entry}
use Rattle.dn_model.specs.declared.entry.Route.{Route}
use Rattle.dn_model.specs.declared.table_op.TableOp.{TableOp}
use Rattle.base.specs.declared.ids.LinkId.{LinkId}
use Rattle.base.specs.declared.ids.RouterId.{RouterId}
use Rattle.base.specs.declared.target.Target.{Target}
use Rattle.net_engine.specs.Looks.{atoms_added, atoms_between, atoms_met, atoms_put, more_at_ends, prefix_of_entry}
use Rattle.net_engine.specs.LinkSet.{IsLinkPut}
use Rattle.net_engine.specs.Updates.{after_update, its_routes, puts_end}
use Rattle.net_engine.specs.declared.update.Update.{Update}
use Rattle.net_engine.specs.Whole.{IsWhole}

-- The atoms were cut at the ends of a prefix: they begin there too, and each router has the rules that it had at each
-- address, and does what it did. As many atoms as before have addresses of the prefix, since its ends cut the others off.
pub record IsParted (old new : List Atom) (p : Cidr) : Type 0 where
  pub begins : (a : ℕ) → a < 2 ^ 32 → begins_at new a ≡ (begins_at old a || is_bound_of p a)
  pub rules : (r : RouterId) (a : ℕ) → a < 2 ^ 32 → rules_at new r a ≡ rules_at old r a
  pub targets : (r : RouterId) (a : ℕ) → a < 2 ^ 32 → target_at new r a ≡ target_at old r a
  pub more : length new ≡ length old + more_at_ends old p
  pub met : atoms_met new p ≡ atoms_met old p

-- whether an address of a router is one from `lo` up to, and without, `hi` of this router
abbrev pub is_part : RouterId → ℕ → ℕ → RouterId → ℕ → Bool
is_part r lo hi q a = (q.0 == r.0) && is_within lo hi a

-- The addresses from `lo` up to, and without, `past` came to something else: where that is something else than before, it is
-- told of them, and what was told elsewhere still is.
pub record IsTold (was now : List Change) (r : RouterId) (lo past : ℕ) (before after : Target) : Type 0 where
  pub form : AreChanges now
  pub here : (a : ℕ) → lo ≤ a → a < past → TellsChange before after (change_at now r a)
  pub other : (q : RouterId) (a : ℕ) → is_part r lo past q a ≡ false → change_at now q a ≡ change_at was q a

-- What routers do was changed: it is told where one does something else than before. Atoms begin where they began.
pub record IsRetold (old new : List Atom) (changes : List Change) : Type 0 where
  pub begins : (a : ℕ) → begins_at new a ≡ begins_at old a
  pub form : AreChanges changes
  pub tells : (q : RouterId) (a : ℕ) → a < 2 ^ 32 → TellsChange (target_at old q a) (target_at new q a) (change_at changes q a)
  pub long : length new ≡ length old
  pub met : (low high : ℕ) → atoms_between new low high ≡ atoms_between old low high

-- the router's list is what the update makes of it, in some order, and the others are as before
pub record UpdatesAt (u : Update) (old new : List (List Route)) : Type 0 where
  pub inside : u.router.0 < length old
  pub made : List Route
  pub as_updated : IsPermutation made (after_update u (its_routes u old))
  pub placed : new ≡ slice_set old u.router.0 made

-- atoms begin at both ends of a prefix
pub record BeginsAtEnds (atoms : List Atom) (p : Cidr) : Type 0 where
  pub first : begins_at atoms p.base ≡ true
  pub past : p.base + size p < 2 ^ 32 → begins_at atoms (p.base + size p) ≡ true

-- An update was made: atoms begin at the ends of a prefix that it puts too, and it is told where a router does something else
-- than before. As many atoms as before have addresses of its prefix.
pub record AreUpdated (old new : List Atom) (op : TableOp) (changes : List Change) : Type 0 where
  pub begins : (a : ℕ) → a < 2 ^ 32 → begins_at new a ≡ (begins_at old a || puts_end a op)
  pub form : AreChanges changes
  pub tells : (q : RouterId) (a : ℕ) → a < 2 ^ 32 → TellsChange (target_at old q a) (target_at new q a) (change_at changes q a)
  pub added : length new ≡ length old + atoms_put old op
  pub met : atoms_met new (prefix_of_op op) ≡ atoms_met old (prefix_of_op op)

-- it is told where what is shown of a router differs
pub record AreTold (old new : Kept) (changes : List Change) : Type 0 where
  pub form : AreChanges changes
  pub tells : (q : RouterId) (a : ℕ) → a < 2 ^ 32
      → TellsChange (shown_at old q a) (shown_at new q a) (change_at changes q a)

-- An update of one router was made: its routes are what the update makes of them, atoms begin at the ends of a prefix
-- that it puts too, the same links are down, and it is told where something else is shown than before.
pub record IsUpdated (old new : Kept) (u : Update) (changes : List Change) : Type 0 where
  pub whole : IsWhole new
  pub topology : new.topology ≡ old.topology
  pub routes : UpdatesAt u old.routes new.routes
  pub down : new.down ≡ old.down
  pub begins : (a : ℕ) → a < 2 ^ 32 → begins_at new.atoms a ≡ (begins_at old.atoms a || puts_end a u.table.op)
  pub told : AreTold old new changes
  pub added : length new.atoms ≡ length old.atoms + atoms_put old.atoms u.table.op
  pub met : atoms_met new.atoms (prefix_of_op u.table.op) ≡ atoms_met old.atoms (prefix_of_op u.table.op)

-- what is kept, with other links down
abbrev pub with_links : Kept → List LinkId → Kept
with_links kept links = record {
  topology = kept.topology;
  atoms = kept.atoms;
  routes = kept.routes;
  objects = kept.objects;
  down = links;
}

-- a link went down or came up: nothing else changes, and it is told where something else is shown than before
pub record IsLinkTurned (old new : Kept) (l : LinkId) (down : Bool) (changes : List Change) : Type 0 where
  pub same : new ≡ with_links old new.down
  pub links : IsLinkPut old.down new.down l down
  pub told : AreTold old new changes

-- An entry was made: what is kept stands for each history that it stood for with the entry, and it is told what the entry
-- changes. Atoms are added as the entry says, and its prefix, if it has one, meets as many of them as before.
pub record IsAdvanced (old new : Kept) (e : Entry) (changes : List Change) : Type 0 where
  pub topology : new.topology ≡ old.topology
  pub stands : (history : List Entry) → KeptStandsFor old history → KeptStandsFor new (history ++ e ∷ [])
  pub delta : (history : List Entry) → KeptStandsFor old history → IsDeltaOf old.topology (history ++ e ∷ []) changes
  pub added : length new.atoms ≡ length old.atoms + atoms_added old.atoms e
  pub met : IfSome (prefix_of_entry e) (λ p. atoms_met new.atoms p ≡ atoms_met old.atoms p)
