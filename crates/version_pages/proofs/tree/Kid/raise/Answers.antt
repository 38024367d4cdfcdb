use Rattle.std.proofs.Common.{◌≡◌, ◌^◌, ◌≤◌, ap, length, arith}
use Rattle.version_pages.specs.Shape.{items_of}
use Rattle.version_pages.proofs.Deep.{below-power}
use Rattle.version_pages.proofs.tree.Kid.raise.Goals as goal

pub overflow_add-height : goal.overflow_add-height
overflow_add-height g c =
    let deep : 2 ^ c.deref.result.now.height ≤ length c.deref.result.now.items = c.height-height.ensures.deep.many in
    let low : 2 ^ c.height-height.result ≤ length c.deref.result.now.items = rw c.height-height.ensures.value deep in
    let same : length c.deref.result.now.items ≡ length c.self.inside.tree.value.items = ap (λ s. length (items_of s)) c.deref.ensures in
    omega (arith, below-power c.height-height.result, c.self.invariant, c.self.ranges)
