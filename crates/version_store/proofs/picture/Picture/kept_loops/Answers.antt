use Rattle.version_store.proofs.Keeping.{loops-told}
use Rattle.version_store.proofs.picture.Picture.kept_loops.Goals as goal

pub returns : goal.returns
returns c = λ t h q ask none stands. loops-told t h c.args.self.now q c.in_ok-cycles.cycles ask none stands c.in_ok-cycles.ensures
