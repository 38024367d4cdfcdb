use Rattle.std.proofs.Common.{◌≡◌, [], fold, drop}
use Rattle.dn_model.specs.Table.{after_object, ops_on}
use Rattle.dn_model.specs.Tables.{device_of}
use Rattle.dn_model.proofs.plain.plain_objects.Given as goal

-- the objects so far, and the updates that are left, make those of the whole history
abbrev pub invariant-loop-entry : goal.invariant-loop-entry
invariant-loop-entry l = fold after_object l.objects.items (ops_on l.t l.device (drop l.entry-index l.entries)) ≡ fold after_object [] (ops_on l.t (device_of l.t l.fn.router) l.entries)
