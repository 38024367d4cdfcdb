use Rattle.std.proofs.Common.{◌≡◌, ◌++◌, take, drop, arith}
use Rattle.std.proofs.lemmas.Grind.{common_steps}
use Rattle.loop_keeper.proofs.Turning.{turned-at}
use Rattle.loop_keeper.proofs.following.turned.Goals as goal

pub returns : goal.returns
returns c =
    let e : c.from_vec.result ≡ drop c.place_of_first-place.result c.args.path.now ++ take c.place_of_first-place.result c.args.path.now = grind (arith, common_steps) in
    turned-at c.args.path.now c.from_vec.result c.place_of_first-place.result (record { 0 = 0 }) c.place_of_first-place.ensures.within e c.place_of_first-place.ensures.least
