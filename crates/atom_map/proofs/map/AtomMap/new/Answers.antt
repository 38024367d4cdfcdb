use Rattle.std.proofs.Common.{◌≡◌, [], ◌∷◌, arith}
use Rattle.std.proofs.lemmas.Grind.{common_steps}
use Rattle.atom_map.specs.Index.{one_atom}
use Rattle.atom_map.proofs.Begun.{one-made}
use Rattle.atom_map.proofs.map.AtomMap.new.Goals as goal

pub invariant_of-result : goal.invariant_of-result
invariant_of-result c =
    let rows : c.push.new.self ≡ one_atom = grind (arith, common_steps) in
    let lows : c.push-2.new.self ≡ 0 ∷ [] = grind (arith, common_steps) in
    one-made _ _ rows lows
