use Rattle.target_rows.proofs.EdgeOrder.{forgotten}
use Rattle.target_rows.proofs.code_book.put_in.Goals as goal

pub returns-in-Err-clause-same_index : goal.returns-in-Err-clause-same_index
returns-in-Err-clause-same_index c = forgotten c.args.index.now.entries c.note.new.index.entries c.forget.new.index.entries c.args.edge c.args.code c.requires c.in_ok-note.ensures.ok c.forget.ensures
