-- The cycles of one row, put together by first router.
use Rattle.std.proofs.Common.{◌≡◌, ℕ, ◌+◌, ◌<◌, ◌≤◌, ◌⊎◌, ◌∙◌, true, Option, None, List, [], ◌∷◌, length, get_or, refl, ap, sym, subst, inl, inr, ⊎_elim, arith}
use Rattle.std.specs.List.{Contains, insert}
use Rattle.std.specs.Option.{is_some}
use Rattle.std.proofs.lemmas.Bool.{cases_eq, false≢true}
use Rattle.std.proofs.lemmas.List.Elements.{Contains-get_or}
use Rattle.base.specs.Cycles.{is_cycle, first_router}
use Rattle.base.specs.declared.ids.RouterId.{RouterId}
use Rattle.base.specs.declared.target.Target.{Target}
use Rattle.base.proofs.Elements.{contains-none}
use Rattle.base.proofs.CycleFrom.{one-cycle}
use Rattle.base.proofs.DeltaParts.{same-router}
use Rattle.base.proofs.Ordered.{Ordered, ordered-insert, insert-here, insert-kept, insert-only}
use Rattle.loop_check.specs.FirstOrder.{HasFirst, IsPutByFirst, AreSomeOf, TellPassed}
use Rattle.loop_check.specs.Following.{IsCycleAt, IsInNone, IsPassed, MeetsPassed, hops, is_among}
use Rattle.loop_check.specs.RowCycles.{AreInFirstOrder, AreCyclesOf}
use Rattle.loop_check.proofs.Chains.{goes-below}
use Rattle.loop_check.proofs.Rounds.{first-among, goes-on}

-- ---- the place of a cycle

abbrev no_second : List RouterId → ℕ
no_second x = 0

ordered : (cs : List (List RouterId)) → AreInFirstOrder cs → Ordered first_router no_second cs
ordered [] h = tt
ordered (x ∷ []) h = tt
ordered (x ∷ y ∷ rest) h = (inl h.0, ordered (y ∷ rest) h.1)

in-order : (cs : List (List RouterId)) → Ordered first_router no_second cs → AreInFirstOrder cs
in-order [] h = tt
in-order (x ∷ []) h = tt
in-order (x ∷ y ∷ rest) h = (
  ⊎_elim
      (λ (l : first_router x < first_router y). l)
      (λ (e : (first_router x ≡ first_router y) × (0 < 0)). let z : 0 < 0 = e.1 in omega arith)
      h.0,
  in-order (y ∷ rest) h.1,
)

pub put-new : (path : List RouterId) (old : List (List RouterId)) (place : ℕ) → AreInFirstOrder old → place ≤ length old
    → ((k : ℕ) (d : List RouterId) → k < place → first_router (get_or old k d) < first_router path)
    → ((d : List RouterId) → place < length old → first_router path < first_router (get_or old place d))
    → IsPutByFirst path old (insert old place path)
put-new path old place order le before after = record {
  order = in-order (insert old place path) (ordered-insert first_router no_second old place path path (ordered old order) le (λ k l. inl (before k path l)) (λ l. inl (after path l)));
  only = insert-only old place path;
  kept = insert-kept old place path;
  there = record { cycle = path; among = insert-here old place path; is = refl };
}

pub put-there : (path : List RouterId) (old : List (List RouterId)) (place : ℕ) (d : List RouterId) → AreInFirstOrder old → place < length old → first_router (get_or old place d) ≡ first_router path → IsPutByFirst path old old
put-there path old place d order l e = record {
  order = order;
  only = λ x i. inr i;
  kept = λ x i. i;
  there = record { cycle = get_or old place d; among = Contains-get_or old place d l; is = e };
}

-- ---- what was told so far

pub some-put : (f : RouterId → Target) (path : List RouterId) (old new : List (List RouterId)) → AreSomeOf f old → is_cycle f path ≡ true → IsPutByFirst path old new → AreSomeOf f new
some-put f path old new h c put = record {
  order = put.order;
  each = λ x i. ⊎_elim
      (λ (e : path ≡ x). let P : List RouterId → Type 0 = λ v. is_cycle f v ≡ true in subst P e c)
      (λ (o : Contains old x). h.each x o)
      (put.only x i);
}

pub told-put : (f : RouterId → Target) (r : RouterId) (path : List RouterId) (before after : List (Option RouterId)) (old new : List (List RouterId)) → AreSomeOf f old → IsPutByFirst path old new → IsCycleAt f r path true → TellPassed f before old
    → ((rs : List RouterId) → is_cycle f rs ≡ true → MeetsPassed after rs → MeetsPassed before rs ⊎ (is_among rs r ≡ true)) → TellPassed f after new
told-put f r path before after old new some put found h told =
    let has : HasFirst new (first_router path) = put.there in
    let same : has.cycle ≡ path = one-cycle f has.cycle path ((some-put f path old new some found.0 put).each has.cycle has.among) found.0 has.is in
    let P : List RouterId → Type 0 = λ v. Contains new v in
    record {
      all = λ rs c m. ⊎_elim
          (λ (o : MeetsPassed before rs). put.kept rs (h.all rs c o))
          (λ (i : is_among rs r ≡ true). subst P (same ∙ sym (found.1 rs c i)) has.among)
          (told rs c m);
    }

pub told-none : (f : RouterId → Target) (r : RouterId) (before after : List (Option RouterId)) (cycles : List (List RouterId)) → IsInNone f r → TellPassed f before cycles
    → ((rs : List RouterId) → is_cycle f rs ≡ true → MeetsPassed after rs → MeetsPassed before rs ⊎ (is_among rs r ≡ true)) → TellPassed f after cycles
told-none f r before after cycles none h told = record {
  all = λ rs c m. ⊎_elim
      (λ (o : MeetsPassed before rs). h.all rs c o)
      (λ (i : is_among rs r ≡ true). absurd (none rs c i))
      (told rs c m);
}

pub told-end : (f : RouterId → Target) (before after : List (Option RouterId)) (cycles : List (List RouterId)) → TellPassed f before cycles
    → ((rs : List RouterId) → is_cycle f rs ≡ true → MeetsPassed after rs → MeetsPassed before rs ⊎ ⊥) → TellPassed f after cycles
told-end f before after cycles h told = record {
  all = λ rs c m. ⊎_elim
      (λ (o : MeetsPassed before rs). h.all rs c o)
      (λ (i : ⊥). absurd i)
      (told rs c m);
}

-- ---- the whole row

pub some-start : (f : RouterId → Target) (cycles : List (List RouterId)) → cycles ≡ [] → AreSomeOf f cycles
some-start f cycles e =
    let P : List (List RouterId) → Type 0 = λ v. AreSomeOf f v in
    subst P (sym e) (record { order = tt; each = λ x i. absurd (contains-none x i) })

pub told-start : (f : RouterId → Target) (passed : List (Option RouterId)) (cycles : List (List RouterId)) → ((r : RouterId) → get_or passed r.0 None ≡ None) → TellPassed f passed cycles
told-start f passed cycles none = record {
  all = λ rs c m. absurd (false≢true (ap (λ (o : Option RouterId). is_some o) (sym (none m.router)) ∙ m.is_passed));
}

pub passed-more : (old new : List (Option RouterId)) (n : ℕ) (start : RouterId) → start.0 ≡ n → ((r : RouterId) → r.0 < n → IsPassed old r) → ((r : RouterId) → IsPassed old r → IsPassed new r) → IsPassed new start → (r : RouterId) → r.0 < n + 1 → IsPassed new r
passed-more old new n start e all kept here = λ r l. ⊎_elim
    (λ (same : r.0 ≡ n). let P : RouterId → Type 0 = λ v. IsPassed new v in subst P (sym (same-router r start (same ∙ sym e))) here)
    (λ (other : r.0 ≡ n → ⊥). kept r (all r (omega arith)))
    (cases_eq r.0 n)

pub row-told : (targets : List Target) (passed : List (Option RouterId)) (cycles all : List (List RouterId)) → AreSomeOf (hops targets) cycles → TellPassed (hops targets) passed cycles → ((r : RouterId) → r.0 < length targets → IsPassed passed r) → all ≡ cycles → AreCyclesOf (hops targets) all
row-told targets passed cycles all some told every e =
    let P : List (List RouterId) → Type 0 = λ v. AreCyclesOf (hops targets) v in
    subst P (sym e) (record {
      order = some.order;
      each = some.each;
      all = λ rs c.
          let f : (r : RouterId) × (is_among rs r ≡ true) = first-among (hops targets) rs c in
          let on = goes-on (hops targets) rs f.0 c f.1 in
          told.all rs c (record { router = f.0; is_passed = every f.0 (goes-below targets f.0 on.0 on.1); among = f.1 });
    })
