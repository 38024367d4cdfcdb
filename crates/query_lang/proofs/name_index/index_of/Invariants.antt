use Rattle.std.proofs.Common.{◌≡◌, ℕ, List, find, length}
use Rattle.std.specs.Option.{option_or}
use Rattle.dn_formats.specs.ScriptText.{is_named}
use Rattle.query_lang.specs.NameIndex.{router_in}
use Rattle.query_lang.proofs.name_index.index_of.Given as goal

-- the first of the rest that has a name, or else the one that stands under it, is the first of all
abbrev pub invariant-loop-last : goal.invariant-loop-last
invariant-loop-last l =
    (name : List ℕ) → option_or (find (is_named l.topology.routers name) l.rest) (router_in l.index.entries name)
    ≡ find (is_named l.topology.routers name) l.fed

abbrev pub decreases-loop-last : goal.decreases-loop-last
decreases-loop-last l = length l.rest
