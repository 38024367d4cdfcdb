use Rattle.std.proofs.Common.{◌≡◌, [], fold, drop}
use Rattle.dn_model.specs.Downs.{after_link}
use Rattle.dn_model.proofs.plain.plain_downs.Given as goal

-- the links so far, and the entries that are left, make those of the whole history
abbrev pub invariant-loop-entry : goal.invariant-loop-entry
invariant-loop-entry l = fold after_link l.down.items (drop l.entry-index l.entries) ≡ fold after_link [] l.entries
