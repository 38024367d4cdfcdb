use Rattle.std.proofs.Common.{◌≡◌, ◌≤◌, ◌∙◌, length, subst, arith}
use Rattle.std.specs.Arc.{arc_value}
use Rattle.dn_model.specs.Entry.{entries}
use Rattle.net_engine.specs.Version.{Kept, KeptStandsFor, forwarding_of}
use Rattle.version_store.specs.Kept.{Past}
use Rattle.version_store.specs.Prefixes.{most_rows}
use Rattle.version_store.proofs.snapshot.Snapshot.atoms.Goals as goal

pub returns-clause-rows : goal.returns-clause-rows
returns-clause-rows c =
    let P : Past → Type 0 = λ p. (version : Kept) → KeptStandsFor version (entries p.history) → c.atoms.result ≡ length (forwarding_of version) in
    subst P c.self.view_is (λ version stands. c.atoms.ensures ∙ c.self.invariant.shows.same version stands)

pub returns-clause-few : goal.returns-clause-few
returns-clause-few c =
    let few : length c.self.inside.picture.rows.rows ≤ most_rows (entries (arc_value c.self.inside.history).value) = c.self.invariant.shows.few in
    let is : c.atoms.result ≡ length c.self.inside.picture.rows.rows = c.atoms.ensures in
    let P : Past → Type 0 = λ p. c.atoms.result ≤ most_rows (entries p.history) in
    subst P c.self.view_is (omega arith)
