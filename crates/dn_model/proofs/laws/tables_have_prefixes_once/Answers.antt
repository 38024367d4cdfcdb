use Rattle.dn_model.proofs.PrefixOnce.{prefix-once}
use Rattle.dn_model.proofs.laws.tables_have_prefixes_once.Goals as goal

pub returns : goal.returns
returns c = prefix-once
