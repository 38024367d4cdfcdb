use Rattle.std.proofs.Common.{◌+◌, ◌<◌, ap, length, arith}
use Rattle.version_pages.specs.Shape.{Shape, items_of}
use Rattle.version_pages.proofs.Ending.{front-few, joined-more}
use Rattle.version_pages.proofs.tree.removal.note_ends.Goals as goal

pub overflow_add-end : goal.overflow_add-end
overflow_add-end g c =
    let child : c.kids.n < length c.args.kids.now.items = omega (arith, c.kids-test.true, c.len.ensures) in
    omega (arith, c.kids.invariant.1.1.0, joined-more c.args.kids.now.items c.kids.n c.index.result.now child, ap (λ (s : Shape _). length (items_of s)) c.index.ensures, c.len-end.ensures.value, front-few c.args.kids.now.items (c.kids.n + 1), c.requires.few)
