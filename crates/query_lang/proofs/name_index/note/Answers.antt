use Rattle.std.proofs.lemmas.Map.Text.{hash_map_updates_str}
use Rattle.query_lang.specs.NameIndex.{router_in}
use Rattle.query_lang.proofs.name_index.note.Goals as goal

pub returns : goal.returns
unfolding router_in
returns c = hash_map_updates_str c.args.name.now c.args.index.now c.insert.new.self _ c.in_ok-_before.ensures.updates
