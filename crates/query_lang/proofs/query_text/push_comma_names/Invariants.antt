use Rattle.std.proofs.Common.{◌≡◌, ◌++◌, drop, codes}
use Rattle.std.specs.List.{flat_map}
use Rattle.query_lang.proofs.query_text.push_comma_names.Given as goal

abbrev pub invariant-loop-name : goal.invariant-loop-name
invariant-loop-name l = l.out.items ++ flat_map (λ n. codes "," ++ n) (drop l.name-index l.names) ≡ l.initial.out.items ++ flat_map (λ n. codes "," ++ n) l.names
