-- Shares of cycles, with those of one more range.
use Rattle.std.proofs.Common.{◌≡◌, ℕ, zero, suc, ◌+◌, ◌<◌, ◌≤◌, ◌^◌, ◌∙◌, ⊎_elim, true, false, Option, Some, None, List, [], ◌∷◌, ◌++◌, append-nil, length, map, get_or, refl, ap, sym, subst, arith}
use Rattle.std.specs.BTreeMap.{insert_entry}
use Rattle.std.specs.Global.{Vec}
use Rattle.std.specs.List.{Contains}
use Rattle.std.specs.List.Sorted.{IsPermutation, IsStrictlySortedBy}
use Rattle.std.specs.Map.{keys_of, set_value}
use Rattle.std.specs.Option.{unwrap_or}
use Rattle.std.proofs.lemmas.Bool.{and_parts, cases_Bool, cases_lt}
use Rattle.std.proofs.lemmas.List.{get_or_default}
use Rattle.std.proofs.lemmas.List.Elements.{Contains-get_or}
use Rattle.base.specs.Cycles.{AreCycles, AreInOrder, BeginAt, HasCycle, IsCycle, goes_round}
use Rattle.base.specs.Rows.{is_within}
use Rattle.base.specs.Runs.{AreApart, addresses_in}
use Rattle.base.specs.declared.cycle.Cycle.{Cycle}
use Rattle.base.specs.declared.ids.RouterId.{RouterId}
use Rattle.base.specs.declared.run.Run.{Run}
use Rattle.base.specs.declared.target.Target.{Target}
use Rattle.base.proofs.CyclesFrom.{few}
use Rattle.base.proofs.Elements.{contains-cases, contains-here, contains-none, contains-there}
use Rattle.loop_check.specs.CycleOrder.{AreOfOtherRouters}
use Rattle.loop_check.specs.CycleRuns.{HasKnown, value_under}
use Rattle.loop_check.proofs.UnderRouters.{AreOnce, at, cases-routers, entry-of, insert-under, insert-under_other, once-first, once-from_sorted, once-rest, order_keys, set-under, set-under_other, under-entry, under-none}
use Rattle.loop_check.proofs.Sorting.{sorted-all}
use Rattle.loop_check.specs.CyclesByRange.{AreCyclePieces, AreCyclesWithin, IsCycleWithin, IsShare}
use Rattle.loop_check.specs.Bounds.{only_within}
use Rattle.loop_check.specs.Shares.{AreAllUnsorted, AreBoth, AreShares, IsShareAdded, cycle_from, no_share, share_of}
use Rattle.loop_check.specs.declared.share.Share.{Share}
use Rattle.loop_check.proofs.CycleShares.{share-both, share-here, share-none, some-addresses}
use Rattle.loop_check.proofs.Joining.{all-within, only-in}

abbrev pub Shares : Type 0
Shares = List (Vec RouterId × Share)

-- ---- one cycle

pub added-there : (c : Cycle) (old new : Shares) (rs : List RouterId) (was now : Share) → c.routers ≡ rs → value_under old rs ≡ Some was → new ≡ set_value (at rs) old now → AreBoth was (share_of c) now → IsShareAdded c old new
added-there c old new rs was now is h e both =
    let U : List RouterId → Type 0 = λ v. value_under old v ≡ Some was in
    let S : List RouterId → Type 0 = λ v. new ≡ set_value (at v) old now in
    let here : value_under old c.routers ≡ Some was = subst U (sym is) h in
    let set : new ≡ set_value (at c.routers) old now = subst S (sym is) e in
    let B : Option Share → Type 0 = λ o. AreBoth (unwrap_or o no_share) (share_of c) now in
    record {
      now = now;
      there = set-under old new c.routers was now here set;
      both = subst B (sym here) both;
      other = λ others n. set-under_other old new c.routers others now set n;
    }

pub added-new : (c : Cycle) (old new : Shares) (key : Vec RouterId) (now : Share) → value_under old c.routers ≡ None → key.items ≡ c.routers → new ≡ insert_entry order_keys old key now → now ≡ share_of c → IsShareAdded c old new
added-new c old new key now h is e same =
    let B : Option Share → Type 0 = λ o. AreBoth (unwrap_or o no_share) (share_of c) now in
    record {
      now = now;
      there = insert-under old new c.routers key now h is e;
      both = subst B (sym h) (record {
        count = λ l. (let z : c.addresses ≡ 0 + c.addresses = omega arith in ap (λ (s : Share). s.addresses) same ∙ z);
        later = λ l. absurd (omega arith);
        first = λ z. ap (λ (s : Share). s.least) same;
      });
      other = λ others n. insert-under_other old new c.routers others key now is e n;
    }

-- ---- one range

some-value : {X : Type 0} (x y : X) → Some x ≡ Some y → x ≡ y
some-value x y e = ap (λ o. unwrap_or o x) e

none-some : (x : Share) → None ≡ Some x → ⊥
none-some x h = cc

-- the shares of the cycles that are left are of the addresses before the range, and those of the others of those up to
-- its end
pub record AreSharesTo (low past : ℕ) (does : RouterId → ℕ → Target) (piece : List Cycle) (i : ℕ) (known : Shares) : Type 0 where
  pub ready : (j : ℕ) (d : Cycle) (rs : List RouterId) (share : Share) → i ≤ j → j < length piece → (get_or piece j d).routers ≡ rs → value_under known rs ≡ Some share → IsShare (only_within 0 low (goes_round does rs)) share
  pub done : (rs : List RouterId) (share : Share) → ((j : ℕ) (d : Cycle) → i ≤ j → j < length piece → (get_or piece j d).routers ≡ rs → ⊥) → value_under known rs ≡ Some share → IsShare (only_within 0 past (goes_round does rs)) share
  pub some : (rs : List RouterId) (share : Share) → value_under known rs ≡ Some share → 0 < share.addresses
  pub before : (rs : List RouterId) (a : ℕ) → a < low → a < 2 ^ 32 → goes_round does rs a ≡ true → HasKnown known rs
  pub told : (j : ℕ) (d : Cycle) → j < i → j < length piece → HasKnown known (get_or piece j d).routers

pub to-start : (low past : ℕ) (does : RouterId → ℕ → Target) (piece : List Cycle) (known : Shares) → low ≤ past → AreCyclesWithin low past does piece → AreShares low does known → AreSharesTo low past does piece 0 known
to-start low past does piece known l within h = record {
  ready = λ j d rs share from inside is u. h.each rs share u;
  done = λ rs share none u.
      let no_cycle : (c : Cycle) → Contains piece c → c.routers ≡ rs → ⊥ = λ c m e.
      let inside : m.0 < length piece = m.1 in
      none m.0 c (omega arith) inside (ap (λ (x : Cycle). x.routers) m.2 ∙ e) in
      share-both 0 low past (goes_round does rs) share no_share share (omega arith) l (h.each rs share u)
      (share-none low past does piece rs no_share refl within no_cycle) (λ b. omega arith) (λ b. refl) (λ z. absurd (let s : 0 < share.addresses = h.some rs share u in omega arith));
  some = h.some;
  before = h.all;
  told = λ j d b inside. absurd (omega arith);
}

-- of a cycle that isn't known no address so far goes round
none-before : (low : ℕ) (does : RouterId → ℕ → Target) (known : Shares) (rs : List RouterId) → ((a : ℕ) → a < low → a < 2 ^ 32 → goes_round does rs a ≡ true → HasKnown known rs) → value_under known rs ≡ None → IsShare (only_within 0 low (goes_round does rs)) no_share
none-before low does known rs before e = record {
  runs = [];
  are = record {
    apart = tt;
    exact = λ a b. ⊎_elim
        (λ (y : only_within 0 low (goes_round does rs) a ≡ true).
        let in-bounds = only-in 0 low a (goes_round does rs) y in
        let parts = and_parts (is_within 0 low a) (goes_round does rs a) y in
        let has : HasKnown known rs = before a in-bounds.1 b parts.1 in
        absurd (none-some has.value (sym e ∙ has.is)))
        (λ (z : only_within 0 low (goes_round does rs) a ≡ false). sym z)
        (cases_Bool (only_within 0 low (goes_round does rs) a));
  };
  least = λ some. absurd (some refl);
  addresses = refl;
}

share-before : (low past : ℕ) (does : RouterId → ℕ → Target) (piece : List Cycle) (i : ℕ) (x : Cycle) (known : Shares) → i < length piece → x ≡ get_or piece i x → AreSharesTo low past does piece i known → IsShare (only_within 0 low (goes_round does x.routers)) (unwrap_or (value_under known x.routers) no_share)
share-before low past does piece i x known l is h = at-option (value_under known x.routers) refl
  where
    at-option : (o : Option Share) → value_under known x.routers ≡ o → IsShare (only_within 0 low (goes_round does x.routers)) (unwrap_or o no_share)
    at-option None e = none-before low does known x.routers (h.before x.routers) e
    at-option (Some was) e = h.ready i x x.routers was (omega arith) l (ap (λ (y : Cycle). y.routers) (sym is)) e

cycle-some : (low past : ℕ) (does : RouterId → ℕ → Target) (c : Cycle) → IsCycleWithin low past does c → 0 < c.addresses
cycle-some low past does c h = from h.runs h.are.apart h.least h.addresses
  where
    from : (runs : List Run) → AreApart runs → BeginAt runs c.least → c.addresses ≡ addresses_in runs → 0 < c.addresses
    from [] apart b e = absurd b
    from (r ∷ rs) apart b e = let s : 0 < addresses_in (r ∷ rs) = some-addresses r rs apart in omega arith

share-now : (low past : ℕ) (does : RouterId → ℕ → Target) (piece : List Cycle) (x : Cycle) (was now : Share) → low ≤ past → AreCyclesWithin low past does piece → Contains piece x → IsShare (only_within 0 low (goes_round does x.routers)) was → AreBoth was (share_of x) now → IsShare (only_within 0 past (goes_round does x.routers)) now × (0 < now.addresses)
share-now low past does piece x was now l within m h both =
    let here : IsShare (only_within low past (goes_round does x.routers)) (share_of x) = share-here low past does piece x x.routers within m refl in
    let more : 0 < x.addresses = cycle-some low past does x (within.each x m) in
    let fw : addresses_in h.runs ≤ 2 ^ 32 = few h.runs h.are.apart in
    let fh : addresses_in here.runs ≤ 2 ^ 32 = few here.runs here.are.apart in
    let aw : was.addresses ≡ addresses_in h.runs = h.addresses in
    let ah : x.addresses ≡ addresses_in here.runs = here.addresses in
    let sum : now.addresses ≡ was.addresses + x.addresses = both.count (omega arith) in
    (share-both 0 low past (goes_round does x.routers) was (share_of x) now (omega arith) l h here both.count both.later both.first, omega arith)

pub to-next : (low past : ℕ) (does : RouterId → ℕ → Target) (piece : List Cycle) (i : ℕ) (x : Cycle) (known more : Shares) → low ≤ past → AreCyclesWithin low past does piece → i < length piece → x ≡ get_or piece i x → AreSharesTo low past does piece i known → IsShareAdded x known more → AreSharesTo low past does piece (i + 1) more
to-next low past does piece i x known more l within b is h added =
    let C : Cycle → Type 0 = λ y. Contains piece y in
    let among : Contains piece x = subst C (sym is) (Contains-get_or piece i x b) in
    let now = share-now low past does piece x (unwrap_or (value_under known x.routers) no_share) added.now l within among (share-before low past does piece i x known b is h) added.both in
    let at-i : (d : Cycle) → x.routers ≡ (get_or piece i d).routers = λ d. ap (λ (y : Cycle). y.routers) (is ∙ get_or_default piece i x d b) in
    let keep : (rs : List RouterId) → HasKnown known rs → HasKnown more rs = λ rs k. ⊎_elim
    (λ (same : x.routers ≡ rs). let P : List RouterId → Type 0 = λ v. HasKnown more v in subst P same (record { value = added.now; is = added.there }))
    (λ (n : x.routers ≡ rs → ⊥). record { value = k.value; is = added.other rs n ∙ k.is })
    (cases-routers x.routers rs) in
    let is-now : (rs : List RouterId) (share : Share) → x.routers ≡ rs → value_under more rs ≡ Some share → added.now ≡ share = λ rs share same u.
    let U : List RouterId → Type 0 = λ v. value_under more v ≡ Some share in
    some-value added.now share (sym added.there ∙ subst U (sym same) u) in
    record {
      ready = λ j d rs share from inside e u.
          let other : x.routers ≡ rs → ⊥ = λ same. within.differ i j d (omega arith) inside (sym (at-i d) ∙ same ∙ sym e) in
          h.ready j d rs share (omega arith) inside e (sym (added.other rs other) ∙ u);
      done = λ rs share none u. ⊎_elim
          (λ (same : x.routers ≡ rs).
          let P : Share → Type 0 = λ s. IsShare (only_within 0 past (goes_round does rs)) s in
          let Q : List RouterId → Type 0 = λ v. IsShare (only_within 0 past (goes_round does v)) added.now in
          subst P (is-now rs share same u) (subst Q same now.0))
          (λ (n : x.routers ≡ rs → ⊥). h.done rs share
          (λ j d from inside e. ⊎_elim
          (λ (later : i < j). none j d (omega arith) inside e)
          (λ (here : j ≤ i).
          let same : j ≡ i = omega arith in
          let R : ℕ → Type 0 = λ k. (get_or piece k d).routers ≡ rs in
          n (at-i d ∙ subst R same e))
          (cases_lt i j))
          (sym (added.other rs n) ∙ u))
          (cases-routers x.routers rs);
      some = λ rs share u. ⊎_elim
          (λ (same : x.routers ≡ rs). let P : Share → Type 0 = λ s. 0 < s.addresses in subst P (is-now rs share same u) now.1)
          (λ (n : x.routers ≡ rs → ⊥). h.some rs share (sym (added.other rs n) ∙ u))
          (cases-routers x.routers rs);
      before = λ rs a c d g. keep rs (h.before rs a c d g);
      told = λ j d c inside. ⊎_elim
          (λ (earlier : j < i). keep (get_or piece j d).routers (h.told j d earlier inside))
          (λ (here : i ≤ j).
          let same : i ≡ j = omega arith in
          let P : List RouterId → Type 0 = λ v. HasKnown more v in
          let R : ℕ → Type 0 = λ k. HasKnown more (get_or piece k d).routers in
          subst R same (subst P (at-i d) (record { value = added.now; is = added.there })))
          (cases_lt j i);
    }

pub to-end : (low past : ℕ) (does : RouterId → ℕ → Target) (piece : List Cycle) (i : ℕ) (known : Shares) → length piece ≤ i → AreCyclesWithin low past does piece → AreSharesTo low past does piece i known → AreShares past does known
to-end low past does piece i known l within h = record {
  each = λ rs share u. h.done rs share (λ j d from inside e. let z : ⊥ = omega arith in z) u;
  some = h.some;
  all = λ rs a b c g. ⊎_elim
      (λ (first : a < low). h.before rs a first c g)
      (λ (from : low ≤ a).
      let has : HasCycle piece rs = within.all rs a from b c g in
      let m : Contains piece has.cycle = has.among in
      let inside : m.0 < length piece = m.1 in
      let P : List RouterId → Type 0 = λ v. HasKnown known v in
      subst P (ap (λ (y : Cycle). y.routers) m.2 ∙ has.is) (h.told m.0 has.cycle (omega arith) inside))
      (cases_lt a low);
}

-- ---- all ranges

pub shares-none : (does : RouterId → ℕ → Target) (past : ℕ) (known : Shares) → past ≡ 0 → known ≡ [] → AreShares past does known
shares-none does past known e is =
    let P : Shares → Type 0 = λ ks. AreShares past does ks in
    subst P (sym is) (record {
      each = λ rs share u. absurd (under-none rs share u);
      some = λ rs share u. absurd (under-none rs share u);
      all = λ rs a b c g. absurd (omega arith);
    })

pub shares-next : (does : RouterId → ℕ → Target) (pieces : List (List Cycle)) (k : ℕ) (piece d : List Cycle) (known more : Shares) (h : AreCyclePieces does pieces) → k < length pieces → piece ≡ get_or pieces k d
    → ((does : RouterId → ℕ → Target) (low past : ℕ) → low ≤ past → AreCyclesWithin low past does piece → AreShares low does known → AreShares past does more) → AreShares (h.at k) does known → AreShares (h.at (k + 1)) does more
shares-next does pieces k piece d known more h l is add so_far =
    let R : List Cycle → Type 0 = λ cs. AreCyclesWithin (h.at k) (h.at (k + 1)) does cs in
    add does (h.at k) (h.at (k + 1)) (h.bounds.rise k) (subst R (sym is) (h.cycles.each k d l)) so_far

pub shares-all : (does : RouterId → ℕ → Target) (pieces : List (List Cycle)) (k : ℕ) (known : Shares) (h : AreCyclePieces does pieces) → k ≡ length pieces → AreShares (h.at k) does known → AreShares (2 ^ 32) does known
shares-all does pieces k known h e so_far = let P : ℕ → Type 0 = λ n. AreShares n does known in subst P (ap h.at e ∙ h.end) so_far

-- ---- the cycles that are known

record HasFrom (known : Shares) (c : Cycle) : Type 0 where
  one : Vec RouterId × Share
  among : Contains known one
  is : cycle_from one ≡ c

from-map : (known : Shares) (c : Cycle) → Contains (map cycle_from known) c → HasFrom known c
from-map [] c m = absurd (contains-none c m)
from-map (e ∷ es) c m = ⊎_elim
    (λ (same : cycle_from e ≡ c). record { one = e; among = contains-here e es; is = same })
    (λ (n : Contains (map cycle_from es) c). let k : HasFrom es c = from-map es c n in record { one = k.one; among = contains-there e k.one es k.among; is = k.is })
    (contains-cases (cycle_from e) c (map cycle_from es) m)

in-map : (known : Shares) (e : Vec RouterId × Share) → Contains known e → Contains (map cycle_from known) (cycle_from e)
in-map [] e m = absurd (contains-none e m)
in-map (x ∷ es) e m = ⊎_elim
    (λ (same : x ≡ e). let P : Vec RouterId × Share → Type 0 = λ v. Contains (map cycle_from (x ∷ es)) (cycle_from v) in subst P same (contains-here (cycle_from x) (map cycle_from es)))
    (λ (n : Contains es e). contains-there (cycle_from x) (cycle_from e) (map cycle_from es) (in-map es e n))
    (contains-cases x e es m)

differ-map : (known : Shares) → AreOnce known → AreOfOtherRouters (map cycle_from known)
differ-map [] once i j d l b = absurd (omega arith)
differ-map (x ∷ es) once zero zero d l b = absurd (omega arith)
differ-map (x ∷ es) once zero (suc j) d l b = λ same.
    let k : HasFrom es (get_or (map cycle_from es) j d) = from-map es (get_or (map cycle_from es) j d) (Contains-get_or (map cycle_from es) j d (omega arith)) in
    once-first x k.one es once k.among (same ∙ sym (ap (λ (c : Cycle). c.routers) k.is))
differ-map (x ∷ es) once (suc i) zero d l b = absurd (omega arith)
differ-map (x ∷ es) once (suc i) (suc j) d l b = differ-map es (once-rest x es once) i j d (omega arith) (omega arith)

whole-cycle : (does : RouterId → ℕ → Target) (c : Cycle) → IsShare (only_within 0 (2 ^ 32) (goes_round does c.routers)) (share_of c) → 0 < c.addresses → IsCycle does c
whole-cycle does c h more = record {
  runs = h.runs;
  are = all-within (2 ^ 32) (goes_round does c.routers) h.runs refl h.are;
  least = h.least (λ none.
      let e : c.addresses ≡ 0 = h.addresses ∙ ap (λ (rs : List Run). addresses_in rs) none in
      let z : ⊥ = omega arith in
      z);
  addresses = h.addresses;
}

pub none-left : (cycles : List Cycle) (left known : Shares) → length left ≡ 0 → cycles ++ map cycle_from left ≡ map cycle_from known → cycles ≡ map cycle_from known
none-left cycles [] known n e = sym (append-nil cycles) ∙ e
none-left cycles (x ∷ left) known n e = absurd (omega arith)

pub known-cycles : (does : RouterId → ℕ → Target) (known : Shares) (cycles : List Cycle) → IsStrictlySortedBy order_keys (keys_of known) → AreShares (2 ^ 32) does known → cycles ≡ map cycle_from known → AreAllUnsorted does cycles
known-cycles does known cycles sorted h e =
    let once : AreOnce known = once-from_sorted known sorted in
    let A : List Cycle → Type 0 = λ cs. AreAllUnsorted does cs in
    subst A (sym e) (record {
      form = record {
        each = λ c m.
            let k : HasFrom known c = from-map known c m in
            let u : value_under known k.one.0.items ≡ Some k.one.1 = under-entry known k.one once k.among in
            let P : Cycle → Type 0 = λ y. IsCycle does y in
            subst P k.is (whole-cycle does (cycle_from k.one) (h.each k.one.0.items k.one.1 u) (h.some k.one.0.items k.one.1 u));
        differ = differ-map known once;
      };
      all = λ rs a b g.
          let has : HasKnown known rs = h.all rs a b b g in
          let k = entry-of known rs has.value has.is in
          record { cycle = cycle_from k.one; among = in-map known k.one k.among; is = k.is };
    })

pub sorted-cycles : (does : RouterId → ℕ → Target) (old new : List Cycle) → AreAllUnsorted does old → IsPermutation old new → AreInOrder new → AreCycles does new
sorted-cycles does old new h moved order = sorted-all does old new h.form moved order h.all
