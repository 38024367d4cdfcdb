use Rattle.query_lang.proofs.Names.{names_added}
use Rattle.query_lang.proofs.query_text.push_names.Goals as goal

pub returns : goal.returns
returns c = names_added _ _ _ _ _ _ c.as_bytes.ensures.value c.in_ok-push_bytes.ensures c.in_ok-push_comma_names.ensures
