use Rattle.std.proofs.Common.{◌≡◌, ◌+◌, ◌*◌, ◌^◌, ◌≤◌, drop, map, sum}
use Rattle.dn_run.proofs.summary.addresses.Given as goal

-- what was added up and what is left are all, and no 128 bits overflow
abbrev pub invariant-loop-cycle : goal.invariant-loop-cycle
invariant-loop-cycle l = record {
  whole : l.addresses + sum (map (λ c. c.addresses) (drop l.cycle-index l.cycles)) ≡ sum (map (λ c. c.addresses) l.cycles);
  within : l.addresses ≤ l.cycle-index * 2 ^ 64;
}
