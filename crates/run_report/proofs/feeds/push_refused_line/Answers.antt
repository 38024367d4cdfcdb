use Rattle.run_report.proofs.Refused.{refused_added}
use Rattle.run_report.proofs.feeds.push_refused_line.Goals as goal

pub returns : goal.returns
returns c = refused_added _ _ _ _ _ _ _ _ _ c.args.frame c.from.ensures c.from-2.ensures c.in_ok-push_labelled.ensures c.in_ok-push_labelled-2.ensures c.in_ok-push_labelled-3.ensures c.in_ok-push_bytes.ensures c.in_ok-push_frame_cause.ensures c.in_ok-push_bytes-2.ensures
