use Rattle.base.specs.Forwarding.{does}
use Rattle.loop_keeper.proofs.Along.{inside-none, round-none}
use Rattle.loop_keeper.proofs.changed.find_all.Goals as goal

pub returns-then-are_of_one_router-clause-sound : goal.returns-then-are_of_one_router-clause-sound
returns-then-are_of_one_router-clause-sound g c = λ tell. (c.in_ok-find_in_turn.ensures.found tell).sound (round-none (does (g.V.LabelView.rows c.args.view.now)) c.new.result.items c.new.ensures.items)

pub returns-then-are_of_one_router-clause-inside : goal.returns-then-are_of_one_router-clause-inside
returns-then-are_of_one_router-clause-inside g c = c.in_ok-find_in_turn.ensures.inside (inside-none c.new.result.items c.new.ensures.items)

pub returns-clause-sound : goal.returns-clause-sound
returns-clause-sound g c = λ tell. (c.in_ok-find_together.ensures.found tell).sound (round-none (does (g.V.LabelView.rows c.args.view.now)) c.new.result.items c.new.ensures.items)

pub returns-clause-inside : goal.returns-clause-inside
returns-clause-inside g c = c.in_ok-find_together.ensures.inside (inside-none c.new.result.items c.new.ensures.items)
