-- Which links are down after a history.
use Rattle.std.specs.Prelude.{true, false, List, [], ◌∷◌, ◌++◌, filter, fold, not, ◌==◌}
use Rattle.dn_model.specs.declared.entry.Entry.{Entry}
use Rattle.dn_model.specs.declared.entry.Entry.TheVariants.{Route, Link}
use Rattle.base.specs.declared.ids.LinkId.{LinkId}

-- the links but for one
abbrev pub other_links : LinkId → List LinkId → List LinkId
other_links l down = filter (λ d. not (d.0 == l.0)) down

-- a link that goes down is down, one that comes up is not
abbrev pub after_link : List LinkId → Entry → List LinkId
after_link down (Route r n op) = down
after_link down (Link j l true) = other_links l down ++ l ∷ []
after_link down (Link j l false) = other_links l down

-- the links that are down after a history: those whose last entry says so
abbrev pub downs : List Entry → List LinkId
downs history = fold after_link [] history
