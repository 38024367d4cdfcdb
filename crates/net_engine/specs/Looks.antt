-- How many atoms an update meets, and how many it adds.
use Rattle.std.specs.Prelude.{ℕ, List, Bool, Option, None, Some, IfSome, ◌+◌, ◌≤◌, ◌^◌, ◌&&◌, ◌||◌, nat_le, nat_lt, count_by, length, if◌then◌else◌}
use Rattle.base.specs.Cidr.{Cidr, size}
use Rattle.base.specs.Rows.{is_within}
use Rattle.net_engine.specs.Version.{Atom, begins_at, first_of, past_of}
use Rattle.atom_map.specs.Spans.{Span}
use Rattle.dn_model.specs.Entry.{prefix_set}
use Rattle.dn_model.specs.declared.entry.Entry.{Entry}
use Rattle.dn_model.specs.declared.entry.Entry.TheVariants.{Route, Link}
use Rattle.dn_model.specs.declared.entry.Op.{Op}
use Rattle.dn_model.specs.declared.entry.Op.TheVariants.{Set, SetBy, Clear, Object, NoObject}
use Rattle.dn_model.specs.declared.table_op.TableOp.{TableOp}
use Rattle.dn_model.specs.declared.table_op.TableOp.TheVariants as table_ops

-- whether an atom has one of the addresses from `lo` up to, and without, `past`
abbrev pub has_some : ℕ → ℕ → Atom → Bool
has_some lo past x = nat_lt lo (past_of x) && nat_lt (first_of x) past

-- how many atoms have one of these addresses
abbrev pub atoms_between : List Atom → ℕ → ℕ → ℕ
atoms_between atoms lo past = count_by (has_some lo past) atoms

-- how many atoms have an address of a prefix
abbrev pub atoms_met : List Atom → Cidr → ℕ
atoms_met atoms p = atoms_between atoms p.base (p.base + size p)

-- how many atoms more there are once one begins at an address: none where one does, nor past all addresses
abbrev pub more_at : List Atom → ℕ → ℕ
more_at atoms a = if begins_at atoms a || nat_le (2 ^ 32) a then 0 else 1

-- how many atoms more there are once atoms begin at both ends of a prefix
abbrev pub more_at_ends : List Atom → Cidr → ℕ
more_at_ends atoms p = more_at atoms p.base + more_at atoms (p.base + size p)

-- how many atoms an update of one router's routes adds
abbrev pub atoms_put : List Atom → TableOp → ℕ
atoms_put atoms (table_ops.Put p m w) = more_at_ends atoms p
atoms_put atoms (table_ops.Clear p m) = 0

abbrev pub more_at_some : List Atom → Option Cidr → ℕ
more_at_some atoms None = 0
more_at_some atoms (Some p) = more_at_ends atoms p

-- how many atoms an entry adds: one for each end of the prefix of the route that it sets at which none begins yet
abbrev pub atoms_added : List Atom → Entry → ℕ
atoms_added atoms (Route r n op) = more_at_some atoms (prefix_set op)
atoms_added atoms (Link j l down) = 0

-- the prefix at which an update sets or clears routes
abbrev pub prefix_touched : Op → Option Cidr
prefix_touched (Set p m t) = Some p
prefix_touched (SetBy p m id) = Some p
prefix_touched (Clear p m) = Some p
prefix_touched (Object id t) = None
prefix_touched (NoObject id) = None

-- and at which an entry does
abbrev pub prefix_of_entry : Entry → Option Cidr
prefix_of_entry (Route r n op) = prefix_touched op
prefix_of_entry (Link j l down) = None

-- How many steps an entry takes at most. An update that sets or clears routes takes two, and one for each atom that has an
-- address of its prefix; a link one for each atom.
abbrev pub IsWithinSteps : List Atom → Entry → ℕ → ℕ → Type 0
IsWithinSteps atoms (Route r n op) old new = IfSome (prefix_touched op) (λ p. new ≤ old + 2 + atoms_met atoms p)
IsWithinSteps atoms (Link j l down) old new = new ≤ old + length atoms

-- how many atoms begin at one of the addresses from `lo` up to, and without, `past`
abbrev pub atoms_begun : List Span → ℕ → ℕ → ℕ
atoms_begun rows lo past = count_by (λ r. is_within lo past r.low) rows
