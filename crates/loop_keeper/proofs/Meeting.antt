-- Cycles found in the rows that the run of a change meets.
use Rattle.std.proofs.Common.{◌≡◌, ℕ, zero, suc, ◌+◌, ◌-◌, ◌<◌, ◌≤◌, ◌^◌, ◌∙◌, true, false, nat_le, nat_lt, Option, List, [], ◌∷◌, ◌++◌, length, get_or, take, ap, sym, subst, ⊎_elim, arith}
use Rattle.std.specs.Prelude.{Contains}
use Rattle.std.proofs.lemmas.Bool.{and_parts, both_ways, cases_eq, cases_lt, false≢true, leb-true, lt-ltb, or_cases}
use Rattle.std.proofs.lemmas.List.{take_more}
use Rattle.std.proofs.lemmas.List.Elements.{Contains-append_left, Contains-push, Contains-push_cases}
use Rattle.std.proofs.lemmas.Nat.{pow_pos}
use Rattle.base.specs.Cycles.{goes_round, goes_to, is_cycle}
use Rattle.base.specs.Forwarding.{AreForwarding, does, row_low, row_past, target_in_row, target_of}
use Rattle.base.specs.Rows.{CoverFrom}
use Rattle.base.specs.Runs.{holds}
use Rattle.base.specs.Walk.{at_address}
use Rattle.base.specs.declared.change.Change.{Change}
use Rattle.base.specs.declared.forwarding_row.ForwardingRow.{ForwardingRow}
use Rattle.base.specs.declared.ids.LinkId.{LinkId}
use Rattle.base.specs.declared.ids.RouterId.{RouterId}
use Rattle.base.proofs.Covers.{first-low, high-at, holder-at, last-high, low-at, some-row}
use Rattle.label_view.proofs.InRow.{some_row}
use Rattle.base.specs.declared.target.Target.{Target}
use Rattle.base.specs.declared.target.Target.TheVariants.{To}
use Rattle.label_view.proofs.Found.{each-at}
use Rattle.loop_check.specs.Following.{IsInNone, is_among}
use Rattle.loop_check.proofs.Rounds.{goes-nowhere, goes-on, one-shared}
use Rattle.loop_keeper.specs.Finding.{AllInside, FindTouched, FindsAt, TellsAfter, FindsBetween, FindsMore, is_touched, touches}
use Rattle.loop_keeper.specs.Following.{ComesBack, IsTurned}
use Rattle.loop_keeper.specs.declared.found.Found.{Found}
use Rattle.loop_keeper.proofs.Advancing.{cycle-same}
use Rattle.loop_keeper.proofs.Taking.{touched-append}
use Rattle.loop_keeper.proofs.Turning.{goes-within}
use Rattle.loop_keeper.proofs.Ways.{turned-cycle}

-- ---- one row

-- at an address of a row the cycles are those of the row
pub row-cycle : (n : ℕ) (rows : List ForwardingRow) (i : ℕ) (d : ForwardingRow) (a : ℕ) (rs : List RouterId) → AreForwarding n rows → i < length rows → (get_or rows i d).low ≤ a → a < (get_or rows i d).past → goes_round (does rows) rs a ≡ is_cycle (target_of (get_or rows i d)) rs
row-cycle n rows i d a rs form l from to = cycle-same (at_address (does rows) a) (target_of (get_or rows i d)) rs (λ r m.
    ap (λ (o : Option ForwardingRow). target_in_row o r) (holder-at row_low row_past 0 rows i d a form.cover l from to))

pub finds-none : (n : ℕ) (rows : List ForwardingRow) (i : ℕ) (router : RouterId) (found : List Found) → AreForwarding n rows → i < length rows → ((d : ForwardingRow) → IsInNone (target_of (get_or rows i d)) router) → FindsAt rows i router found found
finds-none n rows i router found form l none = record {
  sound = λ h. h;
  inside = λ h. h;
  kept = λ rs a h. h;
  found = λ d rs a from to goes m. absurd (none d rs (sym (row-cycle n rows i d a rs form l from to) ∙ goes) m);
}

one-goes : (n : ℕ) (rows : List ForwardingRow) (i : ℕ) (router : RouterId) (path : List RouterId) (one : Found) (rs : List RouterId) (a : ℕ) → AreForwarding n rows → i < length rows → ((d : ForwardingRow) → ComesBack (target_of (get_or rows i d)) router path) → IsTurned path one.routers → ((d : ForwardingRow) → one.low ≡ (get_or rows i d).low) → ((d : ForwardingRow) → one.past ≡ (get_or rows i d).past) → one.routers ≡ rs → one.low ≤ a → a < one.past → (a < 2 ^ 32) × (goes_round (does rows) rs a ≡ true)
one-goes n rows i router path one rs a form l back turn low past is from to =
    let lo : one.low ≡ (get_or rows i some_row).low = low some_row in
    let hi : one.past ≡ (get_or rows i some_row).past = past some_row in
    let o : (get_or rows i some_row).past ≤ 2 ^ 32 = high-at row_low row_past 0 rows i some_row form.cover l in
    let C : List RouterId → Type 0 = λ v. is_cycle (target_of (get_or rows i some_row)) v ≡ true in
    let cycle : is_cycle (target_of (get_or rows i some_row)) rs ≡ true = subst C is (turned-cycle (target_of (get_or rows i some_row)) router path one.routers (back some_row) turn).0 in
    let b : a < 2 ^ 32 = omega arith in
    (b, row-cycle n rows i some_row a rs form l (omega arith) (omega arith) ∙ cycle)

-- what was found beside others are addresses
pub inside-one : (n : ℕ) (rows : List ForwardingRow) (i : ℕ) (one : Found) (old new : List Found) → AreForwarding n rows → i < length rows → ((d : ForwardingRow) → one.past ≡ (get_or rows i d).past) → new ≡ old ++ one ∷ [] → AllInside old → AllInside new
inside-one n rows i one old new form l past e before =
    let P : List Found → Type 0 = λ v. AllInside v in
    let lo : one.past ≡ (get_or rows i some_row).past = past some_row in
    let o : (get_or rows i some_row).past ≤ 2 ^ 32 = high-at row_low row_past 0 rows i some_row form.cover l in
    let bound : one.past ≤ 2 ^ 32 = omega arith in
    let B : Found → Type 0 = λ v. v.past ≤ 2 ^ 32 in
    subst P (sym e) (λ x j. ⊎_elim
    (λ (k : Contains old x). before x k)
    (λ (k : one ≡ x). subst B k bound)
    (Contains-push_cases old one x j))

pub finds-one : (n : ℕ) (rows : List ForwardingRow) (i : ℕ) (router : RouterId) (path : List RouterId) (one : Found) (old new : List Found) → AreForwarding n rows → i < length rows → ((d : ForwardingRow) → ComesBack (target_of (get_or rows i d)) router path) → IsTurned path one.routers → ((d : ForwardingRow) → one.low ≡ (get_or rows i d).low) → ((d : ForwardingRow) → one.past ≡ (get_or rows i d).past) → new ≡ old ++ one ∷ [] → FindsAt rows i router old new
finds-one n rows i router path one old new form l back turn low past e =
    let P : List Found → Type 0 = λ v. FindsAt rows i router old v in
    let lo : one.past ≡ (get_or rows i some_row).past = past some_row in
    let o : (get_or rows i some_row).past ≤ 2 ^ 32 = high-at row_low row_past 0 rows i some_row form.cover l in
    let bound : one.past ≤ 2 ^ 32 = omega arith in
    let B : Found → Type 0 = λ v. v.past ≤ 2 ^ 32 in
    subst P (sym e) (record {
      sound = λ before rs a h. ⊎_elim
          (λ (j : Contains old h.one). before rs a (record { one = h.one; among = j; is = h.is; from = h.from; to = h.to }))
          (λ (j : one ≡ h.one).
          let R : Found → Type 0 = λ v. (v.routers ≡ rs) × (v.low ≤ a) × (a < v.past) in
          let its : (one.routers ≡ rs) × (one.low ≤ a) × (a < one.past) = subst R (sym j) (h.is, h.from, h.to) in
          one-goes n rows i router path one rs a form l back turn low past its.0 its.1 its.2)
          (Contains-push_cases old one h.one h.among);
      inside = λ before x j. ⊎_elim
          (λ (k : Contains old x). before x k)
          (λ (k : one ≡ x). subst B k bound)
          (Contains-push_cases old one x j);
      kept = λ rs a h. record { one = h.one; among = Contains-append_left old (one ∷ []) h.one h.among; is = h.is; from = h.from; to = h.to };
      found = λ d rs a from to goes m.
          let turned : (is_cycle (target_of (get_or rows i d)) one.routers ≡ true) × (is_among one.routers router ≡ true) = turned-cycle (target_of (get_or rows i d)) router path one.routers (back d) turn in
          let same : one.routers ≡ rs = one-shared (target_of (get_or rows i d)) one.routers rs router turned.0 (sym (row-cycle n rows i d a rs form l from to) ∙ goes) turned.1 m in
          let f : one.low ≡ (get_or rows i d).low = low d in
          let t : one.past ≡ (get_or rows i d).past = past d in
          record { one = one; among = Contains-push old one; is = same; from = omega arith; to = omega arith };
    })

-- ---- row after row

pub finds-start : (rows : List ForwardingRow) (i : ℕ) (router : RouterId) (found : List Found) → FindsBetween rows i i router found found
finds-start rows i router found = record {
  sound = λ h. h;
  inside = λ h. h;
  kept = λ rs a h. h;
  found = λ k from to d rs a lo hi goes m. absurd (omega arith);
}

pub finds-next : (rows : List ForwardingRow) (first i : ℕ) (router : RouterId) (old now new : List Found) → FindsBetween rows first i router old now → FindsAt rows i router now new → FindsBetween rows first (i + 1) router old new
finds-next rows first i router old now new h at = record {
  sound = λ b. at.sound (h.sound b);
  inside = λ b. at.inside (h.inside b);
  kept = λ rs a b. at.kept rs a (h.kept rs a b);
  found = λ k from to d rs a lo hi goes m. ⊎_elim
      (λ (same : k ≡ i).
      let L : ℕ → Type 0 = λ v. (get_or rows v d).low ≤ a in
      let H : ℕ → Type 0 = λ v. a < (get_or rows v d).past in
      at.found d rs a (subst L same lo) (subst H same hi) goes m)
      (λ (other : k ≡ i → ⊥).
      let b : k < i = omega arith in
      at.kept rs a (h.found k from b d rs a lo hi goes m))
      (cases_eq k i);
}

-- ---- the row of an address

pub record IsBetween (rows : List ForwardingRow) (i j a : ℕ) (d : ForwardingRow) : Type 0 where
  pub place : ℕ
  pub from : i ≤ place
  pub to : place ≤ j
  pub low : (get_or rows place d).low ≤ a
  pub past : a < (get_or rows place d).past

pub row-between : (start : ℕ) (rows : List ForwardingRow) (i j a : ℕ) (d : ForwardingRow) → CoverFrom row_low row_past start rows → i < length rows → j < length rows → (get_or rows i d).low ≤ a → a < (get_or rows j d).past → IsBetween rows i j a d
row-between start [] i j a d h k l from to = absurd (omega arith)
row-between start (row ∷ rows) zero zero a d h k l from to = record { place = zero; from = omega arith; to = omega arith; low = from; past = to }
row-between start (row ∷ rows) zero (suc j) a d h k l from to = ⊎_elim
    (λ (x : a < row.past). record { place = zero; from = omega arith; to = omega arith; low = from; past = x })
    (λ (x : row.past ≤ a).
    let m : j < length rows = omega arith in
    let some : 0 < length rows = omega arith in
    let first : (get_or rows 0 d).low ≡ row.past = first-low row_low row_past row.past rows d h.2 some in
    let b : IsBetween rows zero j a d = row-between row.past rows zero j a d h.2 some m (omega arith) to in
    let t : b.place ≤ j = b.to in
    record { place = suc b.place; from = omega arith; to = omega arith; low = b.low; past = b.past })
    (cases_lt a row.past)
row-between start (row ∷ rows) (suc i) zero a d h k l from to =
    let m : i < length rows = omega arith in
    let below : row.past ≤ (get_or rows i d).low = low-at row_low row_past row.past rows i d h.2 m in
    absurd (omega arith)
row-between start (row ∷ rows) (suc i) (suc j) a d h k l from to =
    let m : i < length rows = omega arith in
    let o : j < length rows = omega arith in
    let b : IsBetween rows i j a d = row-between row.past rows i j a d h.2 m o from to in
    let f : i ≤ b.place = b.from in
    let t : b.place ≤ j = b.to in
    record { place = suc b.place; from = omega arith; to = omega arith; low = b.low; past = b.past }

-- ---- the router of a change

pub touched-one : (c : Change) (rs : List RouterId) (a : ℕ) → is_touched (c ∷ []) rs a ≡ true → (is_among rs c.router ≡ true) × (c.run.lo ≤ a) × (a ≤ c.run.hi)
touched-one c rs a t = ⊎_elim
    (λ (x : touches rs a c ≡ true).
    let p : (is_among rs c.router ≡ true) × (holds a c.run ≡ true) = and_parts (is_among rs c.router) (holds a c.run) x in
    let q : (nat_le c.run.lo a ≡ true) × (nat_le a c.run.hi ≡ true) = and_parts (nat_le c.run.lo a) (nat_le a c.run.hi) p.1 in
    (p.0, leb-true c.run.lo a q.0, leb-true a c.run.hi q.1))
    (λ (x : false ≡ true). absurd (false≢true x))
    (or_cases (touches rs a c) false t)

-- only routers that there are go round
goes-below : (n : ℕ) (rows : List ForwardingRow) (rs : List RouterId) (r : RouterId) (a : ℕ) → AreForwarding n rows → a < 2 ^ 32 → goes_round (does rows) rs a ≡ true → is_among rs r ≡ true → r.0 < n
goes-below n rows rs r a form b goes m =
    let two : 0 < 2 ^ 32 = pow_pos 32 in
    let some : 0 < length rows = some-row row_low row_past 0 rows form.cover two in
    let low : (get_or rows 0 some_row).low ≡ 0 = first-low row_low row_past 0 rows some_row form.cover some in
    let end : (get_or rows (length rows - 1) some_row).past ≡ 2 ^ 32 = last-high row_low row_past 0 rows (length rows - 1) some_row form.cover (omega arith) in
    let at : IsBetween rows 0 (length rows - 1) a some_row = row-between 0 rows 0 (length rows - 1) a some_row form.cover some (omega arith) (omega arith) (omega arith) in
    let t : at.place ≤ length rows - 1 = at.to in
    let l : at.place < length rows = omega arith in
    let cycle : is_cycle (target_of (get_or rows at.place some_row)) rs ≡ true = sym (row-cycle n rows at.place some_row a rs form l at.low at.past) ∙ goes in
    let on : (y : RouterId) × (goes_to (target_of (get_or rows at.place some_row)) r y ≡ true) = goes-on (target_of (get_or rows at.place some_row)) rs r cycle m in
    goes-within n rows at.place some_row form.each l r on.0 on.1

-- a router goes on to one of so many
goes-inside : (n : ℕ) (rows : List ForwardingRow) (r : RouterId) (a : ℕ) (s : RouterId) (k : LinkId) → AreForwarding n rows → a < 2 ^ 32 → does rows r a ≡ To s k → s.0 < n
goes-inside n rows r a s k form b to =
    let two : 0 < 2 ^ 32 = pow_pos 32 in
    let some : 0 < length rows = some-row row_low row_past 0 rows form.cover two in
    let low : (get_or rows 0 some_row).low ≡ 0 = first-low row_low row_past 0 rows some_row form.cover some in
    let end : (get_or rows (length rows - 1) some_row).past ≡ 2 ^ 32 = last-high row_low row_past 0 rows (length rows - 1) some_row form.cover (omega arith) in
    let at : IsBetween rows 0 (length rows - 1) a some_row = row-between 0 rows 0 (length rows - 1) a some_row form.cover some (omega arith) (omega arith) (omega arith) in
    let t : at.place ≤ length rows - 1 = at.to in
    let l : at.place < length rows = omega arith in
    let here : does rows r a ≡ target_of (get_or rows at.place some_row) r = ap (λ (o : Option ForwardingRow). target_in_row o r) (holder-at row_low row_past 0 rows at.place some_row a form.cover l at.low at.past) in
    (each-at n rows at.place some_row form.each l).within r s k (sym here ∙ to)

pub finds-nothing : (n : ℕ) (rows : List ForwardingRow) (c : Change) (found : List Found) → AreForwarding n rows → n ≤ c.router.0 → FindsMore (does rows) (c ∷ []) found found
finds-nothing n rows c found form far = record {
  sound = λ h. h;
  inside = λ h. h;
  kept = λ rs a h. h;
  found = λ rs a b goes t.
      let near : c.router.0 < n = goes-below n rows rs c.router a form b goes (touched-one c rs a t).0 in
      absurd (omega arith);
}

-- a router that goes on to none is in no cycle
pub finds-nowhere : (n : ℕ) (rows : List ForwardingRow) (c : Change) (found : List Found) → AreForwarding n rows → TellsAfter (does rows) c → ((s : RouterId) (k : LinkId) → c.after ≡ To s k → ⊥) → FindsMore (does rows) (c ∷ []) found found
finds-nowhere n rows c found form tells none = record {
  sound = λ h. h;
  inside = λ h. h;
  kept = λ rs a h. h;
  found = λ rs a b goes t.
      let is = touched-one c rs a t in
      let told : does rows c.router a ≡ c.after = tells a is.1 is.2 in
      let on : (y : RouterId) × (goes_to (at_address (does rows) a) c.router y ≡ true) = goes-on (at_address (does rows) a) rs c.router goes is.0 in
      absurd (both_ways (goes_to (at_address (does rows) a) c.router on.0) (goes-nowhere (at_address (does rows) a) c.router on.0 (λ s k e. none s k (sym told ∙ e))) on.1);
}

-- nor goes one on to a router that is not there
pub finds-outside : (n : ℕ) (rows : List ForwardingRow) (c : Change) (far : RouterId) (k : LinkId) (found : List Found) → AreForwarding n rows → TellsAfter (does rows) c → c.after ≡ To far k → nat_lt far.0 n ≡ false → FindsMore (does rows) (c ∷ []) found found
finds-outside n rows c far k found form tells to out = record {
  sound = λ h. h;
  inside = λ h. h;
  kept = λ rs a h. h;
  found = λ rs a b goes t.
      let is = touched-one c rs a t in
      let told : does rows c.router a ≡ c.after = tells a is.1 is.2 in
      let inside : far.0 < n = goes-inside n rows c.router a far k form b (told ∙ to) in
      absurd (both_ways (nat_lt far.0 n) out (lt-ltb far.0 n inside));
}

-- ---- change after change

pub touched-none : (does_so : RouterId → ℕ → Target) (found : List Found) → FindTouched does_so [] found
touched-none does_so found = λ rs a b goes t. absurd (false≢true t)

pub touched-next : (does_so : RouterId → ℕ → Target) (cs : List Change) (c : Change) (old new : List Found) → FindTouched does_so cs old → FindsMore does_so (c ∷ []) old new → FindTouched does_so (cs ++ c ∷ []) new
touched-next does_so cs c old new h more = λ rs a b goes t. ⊎_elim
    (λ (x : is_touched cs rs a ≡ true). more.kept rs a (h rs a b goes x))
    (λ (x : is_touched (c ∷ []) rs a ≡ true). more.found rs a b goes x)
    (or_cases (is_touched cs rs a) (is_touched (c ∷ []) rs a) (sym (touched-append cs (c ∷ []) rs a) ∙ t))

pub touched-take : (does_so : RouterId → ℕ → Target) (cs : List Change) (k : ℕ) (d : Change) (old new : List Found) → k < length cs → FindTouched does_so (take k cs) old → FindsMore does_so (get_or cs k d ∷ []) old new → FindTouched does_so (take (k + 1) cs) new
touched-take does_so cs k d old new l h more =
    let P : List Change → Type 0 = λ v. FindTouched does_so v new in
    subst P (sym (take_more cs k d l)) (touched-next does_so (take k cs) (get_or cs k d) old new h more)
