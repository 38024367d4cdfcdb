-- An update that a feed gives is an entry that a store takes.
use Rattle.std.proofs.Common.{ℕ}
use Rattle.base.specs.declared.ids.RouterId.{RouterId}
use Rattle.dn_model.specs.declared.entry.Entry.TheVariants.{Route}
use Rattle.dn_model.specs.declared.entry.Op.{Op}
use Rattle.dn_model.specs.declared.entry.Op.TheVariants.{Set, SetBy, Clear, Object, NoObject}
use Rattle.dn_model.specs.declared.topology.Topology.{Topology}
use Rattle.route_feed.specs.FeedReader.{IsFeedUpdate}
use Rattle.version_store.specs.Kept.{IsTaken}

taken-by : (t : Topology) (r : RouterId) (n : ℕ) (op : Op) → IsFeedUpdate t (r, op) → IsTaken t (Route r n op)
taken-by t r n (Set p m target) is = ((is.0, is.1), tt)
taken-by t r n (SetBy p m id) is = absurd is.1
taken-by t r n (Clear p m) is = ((is.0, tt), tt)
taken-by t r n (Object id target) is = absurd is.1
taken-by t r n (NoObject id) is = absurd is.1

pub op_taken : (t : Topology) (n : ℕ) (u : RouterId × Op) → IsFeedUpdate t u → IsTaken t (Route u.0 n u.1)
op_taken t n u is = taken-by t u.0 n u.1 is
