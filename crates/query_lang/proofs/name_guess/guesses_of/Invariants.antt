use Rattle.std.proofs.Common.{All}
use Rattle.query_lang.specs.NameIndex.{IsNamed}
use Rattle.query_lang.proofs.name_guess.guesses_of.Given as goal

abbrev pub invariant-loop-router : goal.invariant-loop-router
invariant-loop-router l = All (IsNamed l.topology.routers l.fed) l.guesses.named.items
