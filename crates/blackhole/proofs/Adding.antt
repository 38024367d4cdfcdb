-- Rows side by side added to what falls where.
use Rattle.std.proofs.Common.{◌≡◌, ℕ, ◌<◌, ◌≤◌, ◌⊎◌, ◌∙◌, inl, inr, ⊎_elim, Bool, true, false, Option, None, Some, List, [], length, get_or, ap, sym, subst, arith}
use Rattle.std.specs.List.{list_any}
use Rattle.std.proofs.lemmas.Bool.{cases_lt}
use Rattle.base.specs.Forwarding.{AreForwarding}
use Rattle.base.specs.Holes.{cause_rank}
use Rattle.base.specs.Runs.{holds}
use Rattle.base.specs.declared.forwarding_row.ForwardingRow.{ForwardingRow}
use Rattle.base.specs.declared.ids.RouterId.{RouterId}
use Rattle.base.specs.declared.target.Target.{Target}
use Rattle.label_view.specs.Gathered.{Gathered}
use Rattle.label_view.specs.Places.{AreGatheredTo, IsInRows, begin_of}
use Rattle.label_view.proofs.InRow.{begin-before, gathered-past}
use Rattle.blackhole.specs.Falls.{is_fall}
use Rattle.blackhole.specs.Gathering.{AreFalls, HasFall, IsFall}
use Rattle.blackhole.specs.declared.fall.Fall.{Fall}
use Rattle.blackhole.proofs.Order.{Before, before-from, fall-key, fall-other}

-- ---- the addresses of rows side by side

later : (rows : List ForwardingRow) (i j a : ℕ) → a < begin_of rows j → (a < begin_of rows i) ⊎ IsInRows rows i j a
later rows i j a l = ⊎_elim (λ (b : a < begin_of rows i). inl b) (λ (b : begin_of rows i ≤ a). inr (record { from = b; to = l })) (cases_lt a (begin_of rows i))

-- what has the addresses of the rows isn't empty
pub some-fall : (n : ℕ) (rows : List ForwardingRow) (i j : ℕ) (g : Gathered) (test : ℕ → Bool) → AreForwarding n rows → i < j → j ≤ length rows → AreGatheredTo g rows j test → ((a : ℕ) → IsInRows rows i j a → true ≡ test a) → g.runs ≡ [] → ⊥
some-fall n rows i j g test form l end h is empty =
    let order : begin_of rows i < begin_of rows j = begin-before n rows i j form l end in
    let inside : IsInRows rows i j (begin_of rows i) = record { from = omega arith; to = order } in
    let has : list_any (holds (begin_of rows i)) g.runs ≡ test (begin_of rows i) = h.exact _ order in
    let none : list_any (holds (begin_of rows i)) g.runs ≡ false = ap (list_any (holds (begin_of rows i))) empty in
    let yes : true ≡ test (begin_of rows i) = is _ inside in
    cc

kept : (n : ℕ) (rows : List ForwardingRow) (i j : ℕ) (x : Fall) (test : RouterId → Target → ℕ → Bool) → AreForwarding n rows → i < j → j ≤ length rows → IsFall x rows i test → ((a : ℕ) → IsInRows rows i j a → false ≡ test x.router x.cause a) → IsFall x rows j test
kept n rows i j x test form l end h is = record {
  cause = h.cause;
  runs = gathered-past n rows i j x.runs (test x.router x.cause) form l end h.runs is;
  some = h.some;
}

-- ---- no walk of the rows falls

pub none-added : (n : ℕ) (rows : List ForwardingRow) (i j : ℕ) (falls : List Fall) (end : Option (RouterId × Target)) (test : RouterId → Target → ℕ → Bool) → AreForwarding n rows → i < j → j ≤ length rows → end ≡ None → AreFalls falls rows i test → ((r : RouterId) (t : Target) (a : ℕ) → IsInRows rows i j a → is_fall end r t ≡ test r t a) → AreFalls falls rows j test
none-added n rows i j falls end test form l past none h is =
    let no_fall : (r : RouterId) (t : Target) (a : ℕ) → IsInRows rows i j a → false ≡ test r t a = λ r t a inside. sym (ap (λ (o : Option (RouterId × Target)). is_fall o r t) none) ∙ is r t a inside in
    record {
      order = h.order;
      each = λ k d b. kept n rows i j (get_or falls k d) test form l past (h.each k d b) (λ a inside. no_fall (get_or falls k d).router (get_or falls k d).cause a inside);
      all = λ r t a b yes. ⊎_elim
          (λ (before : a < begin_of rows i). h.all r t a before yes)
          (λ (inside : IsInRows rows i j a). absurd (let x : false ≡ test r t a = no_fall r t a inside in let y : false ≡ true = x ∙ yes in cc))
          (later rows i j a b);
    }

-- ---- all walks of the rows fall at one router by one cause

-- falls of which one is new or lengthened, at a router by a cause
pub record IsAdded (old new : List Fall) (x : Fall) (s : RouterId) (u : Target) : Type 0 where
  pub order : (j k : ℕ) (d : Fall) → j < k → k < length new → Before (get_or new j d).router (get_or new j d).cause (get_or new k d).router (get_or new k d).cause
  pub from : (k : ℕ) (d : Fall) → k < length new → (get_or new k d ≡ x) ⊎ ((j : ℕ) × ((j < length old) × (get_or new k d ≡ get_or old j d) × (s.0 ≡ (get_or old j d).router.0 → cause_rank u ≡ cause_rank (get_or old j d).cause → ⊥)))
  pub keep : (j : ℕ) (d : Fall) → j < length old → HasFall new (get_or old j d).router (get_or old j d).cause
  pub has : HasFall new s u

renamed : (falls : List Fall) (r s : RouterId) (t u : Target) → HasFall falls r t → r.0 ≡ s.0 → cause_rank t ≡ cause_rank u → HasFall falls s u
renamed falls r s t u h e k = record { at = h.at; inside = h.inside; router = λ d. h.router d ∙ e; cause = λ d. h.cause d ∙ k }

pub one-added : (n : ℕ) (rows : List ForwardingRow) (i j : ℕ) (old new : List Fall) (x : Fall) (s : RouterId) (u : Target) (end : Option (RouterId × Target)) (test : RouterId → Target → ℕ → Bool) → AreForwarding n rows → i < j → j ≤ length rows → end ≡ Some (s, u) → IsAdded old new x s u → IsFall x rows j test → AreFalls old rows i test → ((r : RouterId) (t : Target) (a : ℕ) → IsInRows rows i j a → is_fall end r t ≡ test r t a) → AreFalls new rows j test
one-added n rows i j old new x s u end test form l past some added fall h is =
    let tells : (r : RouterId) (t : Target) (a : ℕ) → IsInRows rows i j a → is_fall (Some (s, u)) r t ≡ test r t a = λ r t a inside. sym (ap (λ (o : Option (RouterId × Target)). is_fall o r t) some) ∙ is r t a inside in
    let P : Fall → Type 0 = λ f. IsFall f rows j test in
    record {
      order = record { rise = λ j k d b c. before-from (get_or new j d).router (get_or new j d).cause (get_or new k d).router (get_or new k d).cause (added.order j k d b c) };
      each = λ k d b. ⊎_elim
          (λ (e : get_or new k d ≡ x). subst P (sym e) fall)
          (λ (o : (j : ℕ) × ((j < length old) × (get_or new k d ≡ get_or old j d) × (s.0 ≡ (get_or old j d).router.0 → cause_rank u ≡ cause_rank (get_or old j d).cause → ⊥))).
          subst P (sym o.1.1) (kept n rows i j (get_or old o.0 d) test form l past (h.each o.0 d o.1.0) (λ a inside. sym (fall-other s u (get_or old o.0 d).router (get_or old o.0 d).cause o.1.2) ∙ tells (get_or old o.0 d).router (get_or old o.0 d).cause a inside)))
          (added.from k d b);
      all = λ r t a b yes. ⊎_elim
          (λ (before : a < begin_of rows i).
          let was : HasFall old r t = h.all r t a before yes in
          renamed new (get_or old was.at x).router r (get_or old was.at x).cause t (added.keep was.at x was.inside) (was.router x) (was.cause x))
          (λ (inside : IsInRows rows i j a).
          let key = fall-key s u r t (tells r t a inside ∙ yes) in
          renamed new s r u t added.has key.0 key.1)
          (later rows i j a b);
    }
