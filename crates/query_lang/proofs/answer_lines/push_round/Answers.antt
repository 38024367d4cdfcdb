use Rattle.query_lang.proofs.QueryTexts.{round-added}
use Rattle.query_lang.proofs.answer_lines.push_round.Goals as goal

pub returns : goal.returns
returns c = round-added _ _ _ _ c.args.cycle.now.least c.args.cycle.now.addresses c.in_ok-push_bytes.ensures c.in_ok-push_address.ensures c.in_ok-push_labelled.ensures
