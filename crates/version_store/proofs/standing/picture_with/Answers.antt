use Rattle.version_store.proofs.Keeping.{picture-made}
use Rattle.version_store.proofs.standing.picture_with.Goals as goal

pub returns : goal.returns
returns c = λ t h is. picture-made t h c.args.version.now c.args.loops.now (record { rows = c.in_ok-rows.rows; loops = c.in_ok-loops.loops }) is c.in_ok-rows.ensures.routers c.in_ok-rows.ensures.rows c.in_ok-loops.ensures
