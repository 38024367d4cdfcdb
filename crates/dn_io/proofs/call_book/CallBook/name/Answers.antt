use Rattle.std.proofs.Common.{arith}
use Rattle.dn_io.proofs.CallsLemmas.{name-kept}
use Rattle.dn_io.proofs.call_book.CallBook.name.Goals as goal

pub returns : goal.returns
returns c = grind (arith, c.as_str.ensures.value, name-kept c.self.inside.entries.items c.args.self.now c.args.place c.index.result.now c.self.view_is c.requires c.index.ensures)
