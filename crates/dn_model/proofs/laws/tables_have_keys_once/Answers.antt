use Rattle.dn_model.proofs.Keys.{table-keys}
use Rattle.dn_model.proofs.laws.tables_have_keys_once.Goals as goal

pub returns : goal.returns
returns c = table-keys
