use Rattle.std.proofs.Common.{◌≡◌, ◌==◌, drop, unwrap_or}
use Rattle.std.specs.Map.{lookup}
use Rattle.base.specs.declared.target.Target.TheVariants.{NoRoute}
use Rattle.dn_model.proofs.plain.target_of_object.Given as goal

-- none of the objects so far has the id
abbrev pub invariant-loop-object : goal.invariant-loop-object
invariant-loop-object l = unwrap_or (lookup (λ i. i == l.id) (drop l.object-index l.objects)) NoRoute ≡ unwrap_or (lookup (λ i. i == l.id) l.objects) NoRoute
