use Rattle.dn_run.specs.Exit.{exit_of}
use Rattle.dn_run.proofs.WrittenLemmas.{answers, asks, headline}
use Rattle.dn_run.proofs.program.run.Goals as goal

pub returns-in-Ok-clause-headline : goal.returns-in-Ok-clause-headline
returns-in-Ok-clause-headline g c =
    headline _ (g.W.World.files c.args.world.now) (g.W.World.calls c.rule.new.world) c.rule.ensures.more c.rule.result c.in-Ok.ruling (exit_of c.finish.result)
    (g.K.Sink.written c.args.sink.now) (g.K.Sink.written c.finish.new.sink) c.in-Ok.is c.rule.ensures.appended c.rule.ensures.due_is c.finish.ensures.done

pub returns-in-Ok-clause-names : goal.returns-in-Ok-clause-names
returns-in-Ok-clause-names g c =
    asks (g.W.World.calls c.rule.new.world) c.rule.ensures.more _ c.rule.result c.in-Ok.ruling (exit_of c.finish.result)
    (g.K.Sink.written c.args.sink.now) (g.K.Sink.written c.finish.new.sink) c.in-Ok.is c.rule.ensures.appended c.rule.ensures.asked c.finish.ensures.done

pub returns-in-Ok-clause-files : goal.returns-in-Ok-clause-files
returns-in-Ok-clause-files g c =
    answers (g.W.World.calls c.rule.new.world) c.rule.ensures.more c.rule.result c.in-Ok.ruling (exit_of c.finish.result)
    (g.K.Sink.written c.args.sink.now) (g.K.Sink.written c.finish.new.sink) c.in-Ok.is c.rule.ensures.appended c.rule.ensures.given_back c.rule.ensures.failed c.finish.ensures.done
