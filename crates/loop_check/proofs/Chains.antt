-- Following a row from a router on, past routers that stand after it.
use Rattle.std.proofs.Common.{◌≡◌, ℕ, ◌+◌, ◌<◌, ◌≤◌, ◌∙◌, true, false, ◌&&◌, nat_lt, List, [], ◌∷◌, ◌++◌, length, refl, ap, sym, subst, ⊎_elim, arith}
use Rattle.std.specs.List.{list_all}
use Rattle.std.proofs.lemmas.Bool.{cases_lt, lt-ltb, and_from, and_parts, false≢true}
use Rattle.std.proofs.lemmas.List.{get_or_past}
use Rattle.base.specs.Cycles.{goes_to, go_round, is_cycle}
use Rattle.base.specs.Reach.{is_router}
use Rattle.base.specs.Lists.{all_differ}
use Rattle.base.specs.Walk.{on_far}
use Rattle.base.specs.declared.ids.LinkId.{LinkId}
use Rattle.base.specs.declared.ids.RouterId.{RouterId}
use Rattle.base.specs.declared.target.Target.{Target}
use Rattle.base.specs.declared.target.Target.TheVariants.{NoRoute, To}
use Rattle.loop_check.specs.Following.{Follows, IsInNone, hops, is_among}
use Rattle.loop_check.proofs.Rounds.{differs, few-routers, goes-there, in-none, linked, linked-push, no-longer, rotated, split-round, step, among-head}

-- routers from a first one on, each of which goes on to the next, and all of which but the first stand after it
pub record IsChain (f : RouterId → Target) (first last : RouterId) (routers : List RouterId) : Type 0 where
  pub rest : List RouterId
  pub is : routers ≡ first ∷ rest
  pub after : list_all (λ s. nat_lt first.0 s.0) rest ≡ true
  pub link : linked f (first ∷ rest) ≡ true
  pub round : (s : RouterId) → goes_to f last s ≡ true → go_round f s (first ∷ rest) ≡ true
  pub follows : Follows f first last

pub chain-start : (f : RouterId → Target) (first : RouterId) (routers : List RouterId) → routers ≡ first ∷ [] → IsChain f first first routers
chain-start f first routers is = record {
  rest = [];
  is = is;
  after = refl;
  link = refl;
  round = λ s g. g;
  follows = λ rs c m. m;
}

all-push : (n : ℕ) (rs : List RouterId) (x : RouterId) → list_all (λ s. nat_lt n s.0) rs ≡ true → n < x.0 → list_all (λ s. nat_lt n s.0) (rs ++ x ∷ []) ≡ true
all-push n [] x h l = and_from (nat_lt n x.0) true (lt-ltb n x.0 l) refl
all-push n (r ∷ rs) x h l =
    let m : (nat_lt n r.0 ≡ true) × (list_all (λ s. nat_lt n s.0) rs ≡ true) = and_parts (nat_lt n r.0) (list_all (λ s. nat_lt n s.0) rs) h in
    and_from (nat_lt n r.0) (list_all (λ s. nat_lt n s.0) (rs ++ x ∷ [])) m.0 (all-push n rs x m.1 l)

pub chain-next : (f : RouterId → Target) (first last far : RouterId) (l : LinkId) (routers new : List RouterId) → IsChain f first last routers → f last ≡ To far l → first.0 < far.0 → new ≡ routers ++ far ∷ [] → IsChain f first far new
chain-next f first last far l routers new h to later is =
    let there : goes_to f last far ≡ true = goes-there f last far far l to refl in
    let come : go_round f far (first ∷ h.rest) ≡ true = h.round far there in
    record {
      rest = h.rest ++ far ∷ [];
      is = is ∙ ap (λ (rs : List RouterId). rs ++ far ∷ []) h.is;
      after = all-push first.0 h.rest far h.after later;
      link = linked-push f far first h.rest ∙ come;
      round = λ s g. split-round f s first far h.rest [] ∙ and_from (go_round f far (first ∷ h.rest)) (goes_to f far s) come g;
      follows = λ rs c m. step f rs last far c (h.follows rs c m) there;
    }

-- it comes back to the first
pub chain-back : (f : RouterId → Target) (first last far : RouterId) (l : LinkId) (routers : List RouterId) → IsChain f first last routers → f last ≡ To far l → far.0 ≡ first.0 → (is_cycle f routers ≡ true) × (is_among routers first ≡ true)
chain-back f first last far l routers h to back =
    let P : List RouterId → Type 0 = λ rs. (is_cycle f rs ≡ true) × (is_among rs first ≡ true) in
    let round : go_round f first (first ∷ h.rest) ≡ true = h.round first (goes-there f last first far l to back) in
    subst P (sym h.is) (
      and_from (list_all (λ s. nat_lt first.0 s.0) h.rest && all_differ is_router (first ∷ h.rest)) (go_round f first (first ∷ h.rest))
          (and_from (list_all (λ s. nat_lt first.0 s.0) h.rest) (all_differ is_router (first ∷ h.rest)) h.after (differs f first first h.rest h.after round)) round,
      among-head first first h.rest refl,
    )

-- it comes to an earlier one
pub chain-earlier : (f : RouterId → Target) (first last far : RouterId) (l : LinkId) (routers : List RouterId) → IsChain f first last routers → f last ≡ To far l → Follows f first far
chain-earlier f first last far l routers h to = λ rs c m. step f rs last far c (h.follows rs c m) (goes-there f last far far l to refl)

-- it ends
pub chain-ends : (f : RouterId → Target) (first last : RouterId) (routers : List RouterId) → IsChain f first last routers → ((s : RouterId) (l : LinkId) → f last ≡ To s l → ⊥) → IsInNone f first
chain-ends f first last routers h none = λ rs c m. in-none f last none rs c (h.follows rs c m)

-- of these targets only those of routers that there are go on
pub goes-below : (targets : List Target) (r x : RouterId) → goes_to (hops targets) r x ≡ true → r.0 < length targets
goes-below targets r x g = ⊎_elim
    (λ (l : r.0 < length targets). l)
    (λ (out : length targets ≤ r.0).
    let none : hops targets r ≡ NoRoute = get_or_past targets r.0 NoRoute out in
    absurd (false≢true (ap (λ (t : Target). on_far t false (is_router x)) (sym none) ∙ g)))
    (cases_lt r.0 (length targets))

-- it has passed more routers than there are
pub chain-long : (targets : List Target) (first last : RouterId) (routers : List RouterId) → IsChain (hops targets) first last routers → length routers ≡ length targets + 1 → IsInNone (hops targets) first
chain-long targets first last routers h long = λ rs c m.
    let f : RouterId → Target = hops targets in
    let turn : (rest : List RouterId) × (go_round (hops targets) first (first ∷ rest) ≡ true) × (length rest + 1 ≡ length rs) = rotated (hops targets) rs first c m in
    let few : length rs ≤ length targets = few-routers (hops targets) (length targets) rs (goes-below targets) c in
    let some : length h.rest ≤ length turn.0 = no-longer (hops targets) first first h.rest turn.0 h.after h.link turn.1 in
    let n : length routers ≡ length (first ∷ h.rest) = ap (λ (v : List RouterId). length v) h.is in
    let k : length turn.0 + 1 ≡ length rs = turn.2 in
    omega arith
