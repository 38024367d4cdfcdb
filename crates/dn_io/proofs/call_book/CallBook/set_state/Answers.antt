use Rattle.dn_io.proofs.CallsLemmas.{set-kept}
use Rattle.dn_io.proofs.call_book.CallBook.set_state.Goals as goal

pub returns : goal.returns
returns c = set-kept c.self.inside.entries.items c.args.self.now c.args.place c.index_mut.result.now c.args.state c.self.view_is c.requires c.index_mut.ensures.value
