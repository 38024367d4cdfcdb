use Rattle.dn_io.proofs.CallsLemmas.{state-kept}
use Rattle.dn_io.proofs.call_book.CallBook.state.Goals as goal

pub returns : goal.returns
returns c = state-kept c.self.inside.entries.items c.args.self.now c.args.place c.index.result.now c.self.view_is c.requires c.index.ensures
