use Rattle.std.proofs.Common.{◌≡◌}
use Rattle.dn_io.specs.Told.{with_front}
use Rattle.feed_trials.proofs.io_tests.read_all.Given as goal

-- what was read, in front of what is left, is what was left when the call began
abbrev pub invariant-loop : goal.invariant-loop
invariant-loop g l =
    (with_front l.all.items (g.S.Source.left l.source) ≡ g.S.Source.left l.initial.source)
    × (g.S.Source.place l.source ≡ g.S.Source.place l.initial.source)
