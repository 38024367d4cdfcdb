use Rattle.std.proofs.Common.{◌≡◌, ℕ, ◌<◌, ◌≤◌, ◌-◌, true, false, length, get_or}
use Rattle.blackhole.specs.Falls.{is_before}
use Rattle.blackhole.specs.declared.fall.Fall.{Fall}
use Rattle.blackhole.proofs.falls.place_of.Given as goal

-- all before the lower place come before, and what is at the upper one doesn't
abbrev pub invariant-search : goal.invariant-search
invariant-search l = record {
  some : l.low ≤ l.high;
  inside : l.high ≤ length l.falls;
  before : (k : ℕ) (d : Fall) → k < l.low → is_before (get_or l.falls k d).router (get_or l.falls k d).cause l.router l.cause ≡ true;
  at : (d : Fall) → l.high < length l.falls → is_before (get_or l.falls l.high d).router (get_or l.falls l.high d).cause l.router l.cause ≡ false;
}

abbrev pub decreases-search : goal.decreases-search
decreases-search l = l.high - l.low
