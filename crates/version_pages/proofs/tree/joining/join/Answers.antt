use Rattle.std.proofs.Common.{◌^◌, ◌≤◌, length, arith}
use Rattle.version_pages.proofs.Deep.{below-power}
use Rattle.version_pages.proofs.tree.joining.join.Goals as goal

pub overflow_add-low : goal.overflow_add-low
overflow_add-low g c =
    let deep : 2 ^ c.args.first.now.height ≤ length c.args.first.now.items = c.height-low.ensures.deep.many in
    let low : 2 ^ c.height-low.result ≤ length c.args.first.now.items = rw c.height-low.ensures.value deep in
    omega (arith, below-power c.height-low.result, low, c.requires.few)

pub overflow_add-high : goal.overflow_add-high
overflow_add-high g c =
    let deep : 2 ^ c.args.second.now.height ≤ length c.args.second.now.items = c.height-high.ensures.deep.many in
    let low : 2 ^ c.height-high.result ≤ length c.args.second.now.items = rw c.height-high.ensures.value deep in
    omega (arith, below-power c.height-high.result, low, c.requires.few)
