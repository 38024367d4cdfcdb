-- What each router does with the addresses of each row while all links are up.
use Rattle.std.specs.Prelude.{ℕ, List, ◌≡◌}
use Rattle.atom_map.specs.Spans.{Span}
use Rattle.base.specs.Forwarding.{AreForwarding}
use Rattle.target_rows.specs.Labels.{Labels}
use Rattle.net_engine.specs.Paired.{AreLabelled, rows_with}

-- the atoms stand beside what so many routers do, and their rows cover all addresses once
pub record AreKeptRows (routers : ℕ) (atoms : List Span) (labels : Labels) : Type 0 where
  pub labelled : AreLabelled atoms labels
  pub same : labels.routers ≡ routers
  pub form : AreForwarding routers (rows_with atoms labels.rows)
