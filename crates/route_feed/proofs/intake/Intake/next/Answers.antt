use Rattle.route_feed.proofs.intake.Intake.next.Goals as goal

pub returns : goal.returns
returns g c = rw (← c.self.view_is) c.next.ensures.answer
