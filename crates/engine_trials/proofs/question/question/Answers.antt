use Rattle.engine_trials.proofs.Questions.{is-question}
use Rattle.engine_trials.proofs.question.question.Goals as goal

pub new-requires : goal.new-requires
new-requires c = is-question c.args.without c.args.ask c.requires.few c.requires.form
