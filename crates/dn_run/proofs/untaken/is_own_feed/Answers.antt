use Rattle.std.specs.Prelude.{not}
use Rattle.std.proofs.Common.{ap, ◌∙◌}
use Rattle.dn_run.proofs.UntakenLemmas.{scripts-any}
use Rattle.dn_run.proofs.untaken.is_own_feed.Goals as goal

pub returns : goal.returns
returns c = ap not (c.is_taken.ensures ∙ scripts-any c.args.router c.args.scripts.now)
