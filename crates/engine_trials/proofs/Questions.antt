-- Which links and which question make a query.
use Rattle.std.proofs.Common.{◌≡◌, ◌≤◌, ◌+◌, ℕ, List, ◌++◌, length, arith}
use Rattle.std.proofs.lemmas.List.{length-append, length-map}
use Rattle.dn_model.specs.Query.{IsQuestion, IsAskedWithout, names_asked, link_names, LinkName}
use Rattle.dn_model.specs.declared.query.Ask.{Ask}
use Rattle.dn_model.specs.declared.query.Ask.TheVariants.{Path, Reach, Uses, Loops, Blackholes, Waypoint, Delta}

few-asked : (ask : Ask) → length (names_asked ask) ≤ 3
few-asked (Path r a) = omega arith
few-asked (Reach r s) = omega arith
few-asked (Uses l) = omega arith
few-asked Loops = omega arith
few-asked (Blackholes r) = omega arith
few-asked (Waypoint r s w) = omega arith
few-asked Delta = omega arith

-- two links at most, and what may be asked without them
pub is-question : (links : List (List ℕ)) (ask : Ask) → length links ≤ 2 → IsAskedWithout links ask → IsQuestion (record { without = links; ask = ask })
is-question links ask h asked =
    let few : length (names_asked ask) ≤ 3 = few-asked ask in
    let all : length (link_names links ++ names_asked ask) ≡ length (link_names links) + length (names_asked ask) = length-append (link_names links) (names_asked ask) in
    let same : length (link_names links) ≡ length links = length-map links (λ n. LinkName n) in
    record { few = omega arith; without = asked }
