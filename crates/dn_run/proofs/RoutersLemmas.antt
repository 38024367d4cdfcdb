-- The routers of feeds, one after another.
use Rattle.std.proofs.Common.{◌≡◌, ℕ, ◌<◌, ◌+◌, ◌-◌, ◌==◌, arith, length, take, drop, get_or, false, Ok, Err, List, [], ◌∷◌, ◌++◌, Some, map, refl, ap, sym, ◌∙◌, subst, append_assoc}
use Rattle.std.specs.List.{list_any}
use Rattle.std.proofs.lemmas.List.{append-nil, take_all}
use Rattle.dn_formats.specs.Words.{FeedWords}
use Rattle.base.specs.declared.ids.RouterId.{RouterId}
use Rattle.dn_model.specs.declared.topology.Topology.{Topology}
use Rattle.dn_formats.specs.declared.error_line.ErrorLine.{ErrorLine}
use Rattle.dn_run.specs.PartsRead.{feed_texts}
use Rattle.dn_run.specs.declared.parts.FeedPart.{FeedPart}
use Rattle.dn_run.specs.Run.{device_named, router_faults, routers_faults, routers_said, routers_of}

-- these routers were found so far, and what the feeds that are left say makes the whole
pub record RoutersSoFar (t : Topology) (all rest : List (ℕ × FeedWords)) (found : List RouterId) : Type 0 where
  pub faults : routers_faults t [] all ≡ routers_faults t found rest
  pub said : routers_said t all ≡ found ++ routers_said t rest

pub routers_start : (t : Topology) (all : List (ℕ × FeedWords)) → RoutersSoFar t all all []
routers_start t all = record { faults = refl; said = refl }

pub routers_step : (t : Topology) (all rest : List (ℕ × FeedWords)) (found : List RouterId) (feed : ℕ × FeedWords) (r : RouterId) →
    RoutersSoFar t all (feed ∷ rest) found → device_named t feed.1.router ≡ Some r → list_any (λ q. q.0 == r.0) found ≡ false →
    RoutersSoFar t all rest (found ++ r ∷ [])
routers_step t all rest found feed r so is fresh = record {
  faults = so.faults ∙ rw (is, fresh) refl;
  said = so.said ∙ rw is (sym (append_assoc found (r ∷ []) (routers_said t rest)));
}

pub routers_stop : (t : Topology) (all rest : List (ℕ × FeedWords)) (found : List RouterId) (feed : ℕ × FeedWords) (line : ErrorLine) →
    RoutersSoFar t all (feed ∷ rest) found → router_faults found feed.0 (device_named t feed.1.router) ≡ line ∷ [] → routers_of t all ≡ Err line
routers_stop t all rest found feed line so is = rw (so.faults, is) refl

pub routers_end : (t : Topology) (all : List (ℕ × FeedWords)) (found : List RouterId) → RoutersSoFar t all [] found → routers_of t all ≡ Ok found
routers_end t all found so = rw (so.faults, so.said, append-nil found) refl

-- ---- the feed at the front, and the feeds behind it

behind : (feed : FeedPart) (rest : List FeedPart) → take (length (feed ∷ rest) - 1) (drop 1 (feed ∷ rest)) ≡ rest
behind feed rest =
    let one : length (feed ∷ rest) - 1 ≡ length rest = omega arith in
    ap (λ n. take n rest) one ∙ take_all (length rest) rest (omega arith)

pub so_far_kept : (t : Topology) (all rest : List FeedPart) (found new : List RouterId) (feed : FeedPart) (r : RouterId) → 0 < length rest → feed ≡ get_or rest 0 feed →
    RoutersSoFar t (map feed_texts all) (map feed_texts rest) found → device_named t feed.router ≡ Some r → list_any (λ q. q.0 == r.0) found ≡ false → new ≡ found ++ r ∷ [] →
    RoutersSoFar t (map feed_texts all) (map feed_texts (take (length rest - 1) (drop 1 rest))) new
so_far_kept t all [] found new feed r some front so is fresh pushed = absurd (omega (arith, some))
so_far_kept t all (x ∷ rest) found new feed r some front so is fresh pushed =
    let found_is : device_named t x.router ≡ Some r = subst (λ (y : FeedPart). device_named t y.router ≡ Some r) front is in
    let next = routers_step t (map feed_texts all) (map feed_texts rest) found (feed_texts x) r so found_is fresh in
    subst (λ fs. RoutersSoFar t (map feed_texts all) (map feed_texts fs) new) (sym (behind x rest)) (subst (λ rs. RoutersSoFar t (map feed_texts all) (map feed_texts rest) rs) (sym pushed) next)

pub fewer_left : (rest : List FeedPart) → 0 < length rest → length (take (length rest - 1) (drop 1 rest)) + 1 ≡ length rest
fewer_left [] some = absurd (omega (arith, some))
fewer_left (x ∷ rest) some = ap (λ (fs : List FeedPart). length fs + 1) (behind x rest) ∙ omega arith

-- where a feed has a fault it is the first of all
pub stopped : (t : Topology) (all rest : List FeedPart) (found : List RouterId) (feed : FeedPart) (line : ErrorLine) → 0 < length rest → feed ≡ get_or rest 0 feed →
    RoutersSoFar t (map feed_texts all) (map feed_texts rest) found → router_faults found feed.part (device_named t feed.router) ≡ line ∷ [] → routers_of t (map feed_texts all) ≡ Err line
stopped t all [] found feed line some front so is = absurd (omega (arith, some))
stopped t all (x ∷ rest) found feed line some front so is =
    routers_stop t (map feed_texts all) (map feed_texts rest) found (feed_texts x) line so (subst (λ (y : FeedPart). router_faults found y.part (device_named t y.router) ≡ line ∷ []) front is)
