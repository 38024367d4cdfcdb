-- The routers that a query names are the topology's, where it has no unknown name.
use Rattle.std.proofs.Common.{◌≡◌, ℕ, None, List, [], ◌∷◌}
use Rattle.std.specs.Prelude.{IsSome}
use Rattle.dn_model.specs.Lookup.{router_of}
use Rattle.dn_model.specs.Query.{Question, RouterName, unknown_of}
use Rattle.dn_model.specs.declared.query.Ask.TheVariants.{Reach, Blackholes}
use Rattle.dn_model.specs.declared.topology.Topology.{Topology}
use Rattle.base.proofs.Elements.{contains-here, contains-there}
use Rattle.dn_model.proofs.Known.{router-known}

pub reach-from : (t : Topology) (q : Question) (from to : List ℕ) → unknown_of t q ≡ None → q.ask ≡ Reach from to → IsSome (router_of t from)
reach-from t q from to known asked = router-known t q (Reach from to) from known asked (contains-here (RouterName from) (RouterName to ∷ []))

pub reach-to : (t : Topology) (q : Question) (from to : List ℕ) → unknown_of t q ≡ None → q.ask ≡ Reach from to → IsSome (router_of t to)
reach-to t q from to known asked = router-known t q (Reach from to) to known asked (contains-there (RouterName from) (RouterName to) (RouterName to ∷ []) (contains-here (RouterName to) []))

pub holes-from : (t : Topology) (q : Question) (from : List ℕ) → unknown_of t q ≡ None → q.ask ≡ Blackholes from → IsSome (router_of t from)
holes-from t q from known asked = router-known t q (Blackholes from) from known asked (contains-here (RouterName from) [])
