-- How many targets are looked at.
use Rattle.std.proofs.Common.{ℕ, ◌≡◌, ◌+◌, ◌*◌, ◌<◌, ◌≤◌, List, [], ◌∷◌, length, subst, arith}
use Rattle.std.proofs.lemmas.Nat.{mul-le}
use Rattle.base.specs.Forwarding.{AreForwarding}
use Rattle.base.specs.declared.forwarding_row.ForwardingRow.{ForwardingRow}
use Rattle.dn_model.specs.declared.query.Ask.{Ask}
use Rattle.dn_model.specs.declared.query.Ask.TheVariants.{Path, Reach, Uses, Loops, Blackholes, Waypoint, Delta}
use Rattle.row_answers.specs.Looks.{most_looks}

-- rows that cover all addresses are some
pub some_rows : (n : ℕ) (rows : List ForwardingRow) → AreForwarding n rows → 0 < length rows
some_rows n [] form = absurd (omega (arith, form.cover))
some_rows n (row ∷ rows) form = omega arith

-- at no more than at each router in each row
pub looks_all : (ask : Ask) (rows routers : ℕ) → 0 < rows → most_looks ask rows routers ≤ rows * routers
looks_all (Path n a) rows routers some = let one : 1 * routers ≤ rows * routers = mul-le 1 routers rows routers some (omega arith) in omega arith
looks_all (Reach n m) rows routers some = omega arith
looks_all (Uses n) rows routers some = omega arith
looks_all Loops rows routers some = omega arith
looks_all (Blackholes n) rows routers some = omega arith
looks_all (Waypoint n m w) rows routers some = omega arith
looks_all Delta rows routers some = omega arith

-- at more where there are more rows
pub looks_more : (ask : Ask) (rows more routers : ℕ) → rows ≤ more → most_looks ask rows routers ≤ most_looks ask more routers
looks_more (Path n a) rows more routers few = omega arith
looks_more (Reach n m) rows more routers few = mul-le rows routers more routers few (omega arith)
looks_more (Uses n) rows more routers few = mul-le rows routers more routers few (omega arith)
looks_more Loops rows more routers few = mul-le rows routers more routers few (omega arith)
looks_more (Blackholes n) rows more routers few = mul-le rows routers more routers few (omega arith)
looks_more (Waypoint n m w) rows more routers few = mul-le rows routers more routers few (omega arith)
looks_more Delta rows more routers few = omega arith

-- looks at a view that has as many rows and routers
pub looks_within : (ask : Ask) (first now rows routers more width : ℕ) → now ≤ first + most_looks ask rows routers → rows ≡ more → routers ≡ width → 0 < more → now ≤ first + more * width
looks_within ask first now rows routers more width cost as_many as_wide some =
    let P : ℕ → Type 0 = λ k. now ≤ first + most_looks ask k routers in
    let Q : ℕ → Type 0 = λ k. now ≤ first + most_looks ask more k in
    let same : now ≤ first + most_looks ask more width = subst Q as_wide (subst P as_many cost) in
    let all : most_looks ask more width ≤ more * width = looks_all ask more width some in
    omega arith
