use Rattle.dn_formats.specs.TopologyText.{is_mark_key}
use Rattle.topology.proofs.Values.{has_key_besides-entries}
use Rattle.topology.proofs.value.has_unknown_mark_key.Goals as goal

pub returns : goal.returns
returns c = rw (has_key_besides-entries is_mark_key c.args.table.now.entries) c.some_key_is_no_mark_key.ensures
