-- How long a name is.
use Rattle.std.proofs.Common.{◌≤◌, ℕ, List, length, arith, IsTrue}
use Rattle.std.proofs.lemmas.Bool.Decides.{nat_tests}
use Rattle.base.specs.Name.{is_name_text}

pub name_short : (text : List ℕ) → IsTrue (is_name_text text) → length text ≤ 32
name_short text named = grind (arith, nat_tests)
