use Rattle.std.proofs.Common.{◌≡◌, ℕ, ◌+◌, ◌-◌, ◌/◌, ◌∙◌, false, get_or, subst, sym, arith}
use Rattle.blackhole.specs.Falls.{is_before}
use Rattle.blackhole.proofs.Search.{before-up-to}
use Rattle.blackhole.proofs.falls.place_of.Goals as goal

pub search-preserved-then-comes_before : goal.search-preserved-then-comes_before
search-preserved-then-comes_before c = record {
  some = omega arith;
  inside = c.search.invariant.inside;
  before = before-up-to c.args.falls.now (c.search.low + (c.search.high - c.search.low) / 2) c.index-falls-middle.result c.args.router c.args.cause c.requires (omega arith) c.index-falls-middle.is (sym c.comes_before.ensures ∙ c.if-comes_before.true);
  at = c.search.invariant.at;
}

pub returns-clause-at : goal.returns-clause-at
returns-clause-at c = λ d b.
    let e : c.search.high ≡ c.search.low = omega arith in
    let P : ℕ → Type 0 = λ k. is_before (get_or c.args.falls.now k d).router (get_or c.args.falls.now k d).cause c.args.router c.args.cause ≡ false in
    subst P e (c.search.invariant.at d (omega arith))
