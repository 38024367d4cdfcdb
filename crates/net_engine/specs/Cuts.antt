-- What a cut makes of the atoms of a network and of what stands beside them, whatever routes these stand beside.
use Rattle.std.specs.Prelude.{ℕ, Bool, true, false, List, ◌≡◌}
use Rattle.atom_map.specs.Spans.{Span}
use Rattle.base.specs.Cidr.{Cidr, IsCidr}
use Rattle.dn_model.specs.declared.entry.Route.{Route}
use Rattle.target_rows.specs.Labels.{Labels}
use Rattle.net_engine.specs.Net.{cut_atoms}
use Rattle.net_engine.specs.Paired.{AreLabelled, ArePaired, atoms_with}
use Rattle.net_engine.specs.Walked.{IsParted}

-- the atom that has an address is cut in two there, if it doesn't begin there
pub record IsCutThere (old new : List Span) (x y : Labels) (at : ℕ) : Type 0 where
  pub labelled : AreLabelled new y
  pub paired : (routers : ℕ) (tables : List (List Route)) → ArePaired routers old x tables → ArePaired routers new y tables
  pub atoms : (routers : ℕ) (tables : List (List Route)) → ArePaired routers old x tables
      → atoms_with new y tables ≡ cut_atoms (atoms_with old x tables) at

-- atoms are cut at the ends of a prefix
pub record AreEndsCut (old new : List Span) (x y : Labels) (p : Cidr) : Type 0 where
  pub sound : IsCidr p
  pub paired : (routers : ℕ) (tables : List (List Route)) → ArePaired routers old x tables → ArePaired routers new y tables
  pub parted : (routers : ℕ) (tables : List (List Route)) → ArePaired routers old x tables
      → IsParted (atoms_with old x tables) (atoms_with new y tables) p

-- they are where a prefix is new, and else all is as before
abbrev pub AreEndsCutIf : Bool → List Span → List Span → Labels → Labels → Cidr → Type 0
AreEndsCutIf true old new x y p = AreEndsCut old new x y p
AreEndsCutIf false old new x y p = (new ≡ old) × (y ≡ x)
