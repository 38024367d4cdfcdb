-- A walk over the slots behind that of a prefix leaves the runs of the prefix's own addresses.
use Rattle.std.proofs.Common.{◌≡◌, ℕ, ◌+◌, ◌<◌, ◌≤◌, ◌^◌, ◌∙◌, ◌&&◌, ◌||◌, zero, suc, not, Bool, true, false, List, [], ◌∷◌, filter, map, length, take, drop, refl, ap, sym, subst, add-one, ⊎_elim, arith, eqb, leb, ltb}
use Rattle.std.specs.List.{AllByRecursion, Contains, list_any}
use Rattle.std.proofs.lemmas.Bool.{and_from, and_left, and_parts, and_right, cases_Bool, cases_lt, eq-eqb, false_from_ne_true, le-ltb, lt-leb, lt-ltb, ltb-true, ne_eqb, or_left, or_right}
use Rattle.std.proofs.lemmas.List.{take-append-drop}
use Rattle.std.proofs.lemmas.List.Elements.{Contains-append_right}
use Rattle.std.proofs.lemmas.List.Folds.{list_any-append}
use Rattle.base.specs.Cidr.{Cidr, IsCidr, covers, size}
use Rattle.dn_model.specs.Entry.{is_bound_of}
use Rattle.base.specs.Runs.{holds}
use Rattle.base.specs.RunsFrom.{AreRunsFrom}
use Rattle.dn_model.specs.declared.entry.Route.{Route}
use Rattle.base.specs.declared.run.Run.{Run}
use Rattle.base.proofs.Elements.{contains-cases, contains-filter, contains-here, contains-none}
use Rattle.base.proofs.Elements.{map-contains}
use Rattle.base.proofs.RunsFrom.{none-below}
use Rattle.route_table.specs.Along.{along, past_of}
use Rattle.route_table.specs.Ascending.{AscendsFrom, IsFound}
use Rattle.route_table.specs.Own.{AreOwnRuns, IsPassed, is_longer_at, is_own}
use Rattle.route_table.specs.Slots.{AreSlots, IsSlot, PrefixRoutes, key_of, routes_at, routes_of, slot_key}
use Rattle.route_table.specs.Targets.{route_at}
use Rattle.route_table.specs.declared.metric_way.MetricWay.{MetricWay}
use Rattle.route_table.proofs.Along.{EndsBefore, OfEach, begun-are, begun-within, begun_from, each-drop, has_route_at, is_left, runs-ends, runs-left, runs_from}
use Rattle.route_table.proofs.Blocks.{cidr-end, covers-in, nested-from, size-some}
use Rattle.route_table.proofs.Places.{all-from}
use Rattle.route_table.proofs.Prefixes.{in-slot}

-- ---- elements

pub any-of : {X : Type 0} (q : X → Bool) (x : X) (xs : List X) → Contains xs x → q x ≡ true → list_any q xs ≡ true
any-of {X} q x [] h e = absurd (contains-none x h)
any-of {X} q x (y ∷ ys) h e = ⊎_elim
    (λ (same : y ≡ x). or_left (q y) (list_any q ys) (ap q same ∙ e))
    (λ (rest : Contains ys x). or_right (q y) (list_any q ys) (any-of q x ys rest e))
    (contains-cases y x ys h)

pub each-of : (xs : List PrefixRoutes) (s : PrefixRoutes) → AllByRecursion IsSlot xs → Contains xs s → IsSlot s
each-of [] s h i = absurd (contains-none s i)
each-of (x ∷ xs) s h i = ⊎_elim
    (λ (e : x ≡ s). subst (λ y. IsSlot y) e h.0)
    (λ (j : Contains xs s). each-of xs s h.1 j)
    (contains-cases x s xs i)

some-of : {T : Type 0} (xs : List T) → eqb (length xs) 0 ≡ false → (x : T) × Contains xs x
some-of [] n = absurd (let f : true ≡ false = n in cc)
some-of (x ∷ xs) n = (x, contains-here x xs)

pub route-of : (slots : List PrefixRoutes) (s : PrefixRoutes) (x : MetricWay) → Contains slots s → Contains s.targets x → Contains (routes_of slots) (route_at s.prefix x)
route-of slots s x i j =
    let there : Contains (routes_at s) (route_at s.prefix x) = map-contains (route_at s.prefix) s.targets x j in
    in-slot slots i.0 s (route_at s.prefix x) i.1 (subst (λ (y : PrefixRoutes). Contains (routes_at y) (route_at s.prefix x)) (sym i.2) there)

behind-contains : (slots : List PrefixRoutes) (k : ℕ) (s : PrefixRoutes) → Contains (drop k slots) s → Contains slots s
behind-contains slots k s i = subst (λ xs. Contains xs s) (take-append-drop k slots) (Contains-append_right (take k slots) (drop k slots) s i)

-- ---- order of prefixes that have an address in common

-- of two the one that goes later is the longer one
pub later-longer : (p q : Cidr) (a : ℕ) → IsCidr p → IsCidr q → key_of p < key_of q → covers p a ≡ true → covers q a ≡ true → p.len < q.len
later-longer p q a sp sq l in_p in_q = ⊎_elim
    (λ (longer : p.len < q.len). longer)
    (λ (shorter : q.len ≤ p.len).
    let from : q.base ≤ p.base = nested-from q p a sq sp shorter in_q in_p in
    absurd (omega arith))
    (cases_lt p.len q.len)

pub longer-later : (p q : Cidr) (a : ℕ) → IsCidr p → IsCidr q → p.len < q.len → covers p a ≡ true → covers q a ≡ true → key_of p < key_of q
longer-later p q a sp sq longer in_p in_q =
    let from : p.base ≤ q.base = nested-from p q a sp sq (omega arith) in_p in_q in
    omega arith

-- ---- the routes of one slot

slot-any : (q : Route → Bool) (b : Bool) (p : Cidr) (xs : List MetricWay) → ((x : MetricWay) → q (route_at p x) ≡ b) → list_any q (map (route_at p) xs) ≡ (not (eqb (length xs) 0) && b)
slot-any q b p [] h = refl
slot-any q b p (x ∷ xs) h =
    ap (λ c. c || list_any q (map (route_at p) xs)) (h x)
    ∙ ap (λ c. b || c) (slot-any q b p xs h)
    ∙ both b (eqb (length xs) 0)
    ∙ sym (ap (λ c. not c && b) (ne_eqb (length (x ∷ xs)) 0 (λ e. absurd (omega arith))))
  where
    both : (b c : Bool) → (b || (not c && b)) ≡ b
    both true c = refl
    both false true = refl
    both false false = refl

slot-longer : (p : Cidr) (a : ℕ) (s : PrefixRoutes) → IsCidr p → IsCidr s.prefix → key_of p < slot_key s → covers p a ≡ true → list_any (is_longer_at p.len a) (routes_at s) ≡ has_route_at a s
slot-longer p a s sp sq l here = slot-any (is_longer_at p.len a) (covers s.prefix a) s.prefix s.targets (λ x. ⊎_elim
    (λ (t : covers s.prefix a ≡ true). and_from (ltb p.len s.prefix.len) (covers s.prefix a) (lt-ltb p.len s.prefix.len (later-longer p s.prefix a sp sq l here t)) t ∙ sym t)
    (λ (f : covers s.prefix a ≡ false). and_right (ltb p.len s.prefix.len) (covers s.prefix a) f ∙ sym f)
    (cases_Bool (covers s.prefix a)))

slot-shorter : (p : Cidr) (a : ℕ) (s : PrefixRoutes) → IsCidr p → IsCidr s.prefix → slot_key s ≤ key_of p → covers p a ≡ true → list_any (is_longer_at p.len a) (routes_at s) ≡ false
slot-shorter p a s sp sq l here =
    slot-any (is_longer_at p.len a) false s.prefix s.targets (λ x. false_from_ne_true (is_longer_at p.len a (route_at s.prefix x)) (λ t.
    let parts : (ltb p.len s.prefix.len ≡ true) × (covers s.prefix a ≡ true) = and_parts (ltb p.len s.prefix.len) (covers s.prefix a) t in
    let k : key_of p < slot_key s = longer-later p s.prefix a sp sq (ltb-true p.len s.prefix.len parts.0) here parts.1 in
    absurd (omega arith)))
    ∙ and_right (not (eqb (length s.targets) 0)) false refl

-- ---- the routes of all

rest-longer : (p : Cidr) (a start : ℕ) (slots : List PrefixRoutes) → IsCidr p → AscendsFrom slot_key start slots → AllByRecursion IsSlot slots → key_of p < start → covers p a ≡ true → list_any (is_longer_at p.len a) (routes_of slots) ≡ list_any (has_route_at a) slots
rest-longer p a start [] sp h each l here = refl
rest-longer p a start (s ∷ slots) sp h each l here =
    let from : start ≤ slot_key s = h.0 in
    list_any-append (is_longer_at p.len a) (routes_at s) (routes_of slots)
    ∙ ap (λ b. b || list_any (is_longer_at p.len a) (routes_of slots)) (slot-longer p a s sp each.0.sound (omega arith) here)
    ∙ ap (λ b. has_route_at a s || b) (rest-longer p a (slot_key s + 1) slots sp h.1 each.1 (omega arith) here)

all-longer : (p : Cidr) (a start : ℕ) (slots : List PrefixRoutes) (i : ℕ) → IsCidr p → AscendsFrom slot_key start slots → AllByRecursion IsSlot slots → IsFound slot_key slots (key_of p) i → covers p a ≡ true → list_any (is_longer_at p.len a) (routes_of slots) ≡ list_any (has_route_at a) (drop (suc i) slots)
all-longer p a start [] i sp h each f here = absurd f
all-longer p a start (s ∷ slots) zero sp h each f here =
    list_any-append (is_longer_at p.len a) (routes_at s) (routes_of slots)
    ∙ ap (λ b. b || list_any (is_longer_at p.len a) (routes_of slots)) (slot-shorter p a s sp each.0.sound (omega arith) here)
    ∙ rest-longer p a (slot_key s + 1) slots sp h.1 each.1 (omega arith) here
all-longer p a start (s ∷ slots) (suc i) sp h each f here =
    let l : slot_key s < key_of p = f.0 in
    list_any-append (is_longer_at p.len a) (routes_at s) (routes_of slots)
    ∙ ap (λ b. b || list_any (is_longer_at p.len a) (routes_of slots)) (slot-shorter p a s sp each.0.sound (omega arith) here)
    ∙ all-longer p a (slot_key s + 1) slots i sp h.1 each.1 f.1 here

ascends-behind : (start : ℕ) (slots : List PrefixRoutes) (k i : ℕ) → AscendsFrom slot_key start slots → IsFound slot_key slots k i → AscendsFrom slot_key (k + 1) (drop (suc i) slots)
ascends-behind start [] k i h f = absurd f
ascends-behind start (s ∷ slots) k zero h f = subst (λ n. AscendsFrom slot_key (n + 1) slots) f h.1
ascends-behind start (s ∷ slots) k (suc i) h f = ascends-behind (slot_key s + 1) slots k i h.1 f.1

-- ---- the runs

module _ (slots : List PrefixRoutes) (p : Cidr) (i : ℕ) (form : AreSlots slots) (sp : IsCidr p) (found : IsFound slot_key slots (key_of p) i) where
  abbrev pub behind : List PrefixRoutes
  behind = drop (suc i) slots

  abbrev past : ℕ
  past = p.base + size p

  keys : AscendsFrom slot_key (key_of p + 1) behind
  keys = ascends-behind 0 slots (key_of p) i form.keys found

  each : AllByRecursion IsSlot behind
  each = each-drop slots (suc i) form.each

  none-first : EndsBefore p.base (key_of p + 1)
  none-first q sound from begins =
      let lp : p.len ≤ 32 = sp.len in
      let lq : q.len ≤ 32 = sound.len in
      absurd (omega arith)

  left : AreRunsFrom p.base (is_left past behind) (runs_from past p.base behind)
  left = runs-left past p.base (key_of p + 1) behind (cidr-end p sp) none-first keys each

  own-left : (a : ℕ) → p.base ≤ a → is_left past behind a ≡ is_own (routes_of slots) p a
  own-left a from = ⊎_elim
      (λ (l : a < past).
      let here : covers p a ≡ true = covers-in p a from l in
      ap (λ b. b && not (list_any (has_route_at a) behind)) (lt-ltb a past l ∙ sym here)
      ∙ ap (λ b. covers p a && not b) (sym (all-longer p a 0 slots i sp form.keys form.each found here)))
      (λ (l : past ≤ a).
      and_left (ltb a past) (not (list_any (has_route_at a) behind)) (le-ltb a past l)
      ∙ sym (and_left (covers p a) (not (list_any (is_longer_at p.len a) (routes_of slots))) (and_right (leb p.base a) (ltb a past) (le-ltb a past l))))
      (cases_lt a past)

  runs-exact : (a : ℕ) → a < 2 ^ 32 → list_any (holds a) (runs_from past p.base behind) ≡ is_own (routes_of slots) p a
  runs-exact a below = ⊎_elim
      (λ (l : a < p.base).
      none-below p.base a (runs_from past p.base behind) left.apart left.start l
      ∙ sym (and_left (covers p a) (not (list_any (is_longer_at p.len a) (routes_of slots))) (and_left (leb p.base a) (ltb a past) (lt-leb p.base a l))))
      (λ (l : p.base ≤ a). left.exact a l below ∙ own-left a l)
      (cases_lt a p.base)

  end-of : (q : Cidr → Bool) (s : PrefixRoutes) → Contains behind s → eqb (length s.targets) 0 ≡ false → q s.prefix ≡ true → list_any (λ r. q r.prefix) (routes_of slots) ≡ true
  end-of q s j n t =
      let x : (y : MetricWay) × Contains s.targets y = some-of s.targets n in
      any-of (λ r. q r.prefix) (route_at s.prefix x.0) (routes_of slots) (route-of slots s x.0 (behind-contains slots (suc i) s j) x.1) t

  own-runs : AreOwnRuns (routes_of slots) p (runs_from past p.base behind)
  own-runs = record {
    runs_are = record { apart = left.apart; exact = runs-exact };
    ends = runs-ends (routes_of slots) p past p.base behind
        (or_left (is_bound_of p p.base) (list_any (λ r. is_bound_of r.prefix p.base) (routes_of slots)) (or_left (eqb p.base p.base) (eqb past p.base) (eq-eqb p.base p.base refl)))
        (or_left (is_bound_of p past) (list_any (λ r. is_bound_of r.prefix past) (routes_of slots)) (or_right (eqb p.base past) (eqb past past) (eq-eqb past past refl)))
        (λ s j n. or_right (is_bound_of p s.prefix.base) (list_any (λ r. is_bound_of r.prefix s.prefix.base) (routes_of slots)) (end-of (λ q. is_bound_of q s.prefix.base) s j n (or_left (eqb s.prefix.base s.prefix.base) (eqb (past_of s) s.prefix.base) (eq-eqb s.prefix.base s.prefix.base refl))))
        (λ s j n. or_right (is_bound_of p (past_of s)) (list_any (λ r. is_bound_of r.prefix (past_of s)) (routes_of slots)) (end-of (λ q. is_bound_of q (past_of s)) s j n (or_right (eqb s.prefix.base (past_of s)) (eqb (past_of s) (past_of s)) (eq-eqb (past_of s) (past_of s) refl))));
  }

  -- a slot behind that begins in the prefix is of a longer one
  longer-within : (s : PrefixRoutes) → Contains behind s → s.prefix.base < past → ltb p.len s.prefix.len ≡ true
  longer-within s j l =
      let slot : IsSlot s = each-of behind s each j in
      let from : key_of p + 1 ≤ slot_key s = all-from slot_key (key_of p + 1) behind s keys j in
      let lp : p.len ≤ 32 = sp.len in
      let ls : s.prefix.len ≤ 32 = slot.sound.len in
      let some : 0 < size s.prefix = size-some s.prefix in
      lt-ltb p.len s.prefix.len (later-longer p s.prefix s.prefix.base sp slot.sound (omega arith) (covers-in p s.prefix.base (omega arith) l) (covers-in s.prefix s.prefix.base (omega arith) (omega arith)))

  begun-known : OfEach (λ s. s.prefix.base < past → list_any (λ r. eqb r.prefix.base s.prefix.base) (filter (λ r. ltb p.len r.prefix.len) (routes_of slots)) ≡ true) behind
  begun-known s j n l =
      let x : (y : MetricWay) × Contains s.targets y = some-of s.targets n in
      let r : Route = route_at s.prefix x.0 in
      let there : Contains (routes_of slots) r = route-of slots s x.0 (behind-contains slots (suc i) s j) x.1 in
      any-of (λ y. eqb y.prefix.base s.prefix.base) r (filter (λ y. ltb p.len y.prefix.len) (routes_of slots))
      (contains-filter (λ y. ltb p.len y.prefix.len) r (routes_of slots) there (longer-within s j l))
      (eq-eqb s.prefix.base s.prefix.base refl)

  passed : (runs : List Run) (was now : ℕ) → now ≤ was + length (along past (record { at = p.base; runs = runs; begun = [] }) behind).begun → IsPassed (routes_of slots) p was now
  passed runs was now few = record {
    begun = begun_from past p.base behind;
    within = begun-within (filter (λ r. ltb p.len r.prefix.len) (routes_of slots)) past p.base p.base behind (omega arith) begun-known;
    few = subst (λ (ns : List ℕ). now ≤ was + length ns) (begun-are past (record { at = p.base; runs = runs; begun = [] }) behind) few;
  }

-- ---- as the code says it

pub own-are : (slots : List PrefixRoutes) (p : Cidr) (i first end : ℕ) (runs : List Run) → AreSlots slots → IsCidr p → IsFound slot_key slots (key_of p) i → first ≡ i + 1 → end ≡ p.base + size p → runs ≡ runs_from end p.base (drop first slots) → AreOwnRuns (routes_of slots) p runs
own-are slots p i first end runs form sp found f e is =
    subst (λ rs. AreOwnRuns (routes_of slots) p rs)
    (sym (is ∙ ap (λ n. runs_from n p.base (drop first slots)) e ∙ ap (λ n. runs_from (p.base + size p) p.base (drop n slots)) (f ∙ add-one i)))
    (own-runs slots p i form sp found)

pub passed-few : (slots : List PrefixRoutes) (p : Cidr) (i first end start was now : ℕ) (runs : List Run) → AreSlots slots → IsCidr p → IsFound slot_key slots (key_of p) i → first ≡ i + 1 → end ≡ p.base + size p → start ≡ p.base → now ≤ was + length (along end (record { at = start; runs = runs; begun = [] }) (drop first slots)).begun → IsPassed (routes_of slots) p was now
passed-few slots p i first end start was now runs form sp found f e b few =
    passed slots p i form sp found runs was now
    (subst (λ n. now ≤ was + length (along (p.base + size p) (record { at = n; runs = runs; begun = [] }) (drop (suc i) slots)).begun) b
    (subst (λ n. now ≤ was + length (along (p.base + size p) (record { at = start; runs = runs; begun = [] }) (drop n slots)).begun) (f ∙ add-one i)
    (subst (λ n. now ≤ was + length (along n (record { at = start; runs = runs; begun = [] }) (drop first slots)).begun) e few)))
