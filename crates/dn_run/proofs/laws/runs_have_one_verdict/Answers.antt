use Rattle.dn_run.proofs.VerdictLemmas.{runs-alike, lines-same}
use Rattle.dn_run.proofs.laws.runs_have_one_verdict.Goals as goal

pub returns-clause-alike : goal.returns-clause-alike
returns-clause-alike c = runs-alike

pub returns-clause-line : goal.returns-clause-line
returns-clause-line c = λ words files calls v w x y p q early fine. lines-same v w x y (runs-alike words files calls v w x y p q) early fine
