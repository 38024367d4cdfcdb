-- How a text names an interface: a router's name, a colon, and the interface's number.
use Rattle.std.specs.Prelude.{ℕ, List, take, drop, ◌==◌, ◌+◌, position, Option, None, Some, option_and_then}
use Rattle.dn_model.specs.declared.topology.TopoEnd.{TopoEnd}
use Rattle.dn_formats.specs.Decimal.{number_within}
use Rattle.base.specs.Name.{same_text}

-- the end of this router, by its place, and this interface
abbrev pub end_at : Option ℕ → Option ℕ → Option TopoEnd
end_at (Some place) (Some index) = Some (record { router = record { 0 = place }; index = index })
end_at (Some place) None = None
end_at None index = None

-- the place of the first name that is this text
abbrev pub place_of : List (List ℕ) → List ℕ → Option ℕ
place_of names text = position (λ name. same_text name text) names

-- the end that a text is: what stands before its first colon is one of the routers' names, what stands after it
-- an index
abbrev pub read_end : List (List ℕ) → List ℕ → Option TopoEnd
read_end routers text =
    option_and_then
    (λ colon. end_at (place_of routers (take colon text)) (number_within 1 2147483647 (drop (colon + 1) text)))
    (position (λ byte. byte == 58) text)
