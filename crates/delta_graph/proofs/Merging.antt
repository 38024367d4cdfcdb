-- Changes of one list pushed onto another one after the other.
use Rattle.std.proofs.lemmas.List.{drop_more}
use Rattle.std.proofs.Common.{◌≡◌, ℕ, ◌+◌, ◌<◌, length, drop, get_or, ◌∙◌, true, false, cond, Option, Some, None, List, [], ◌∷◌, refl, ap, sym, subst, inr, ⊎_elim}
use Rattle.std.specs.Option.{IsSome}
use Rattle.std.proofs.lemmas.Bool.{cases_Bool, false≢true, and_parts, leb-true}
use Rattle.base.specs.Delta.{AreChanges, change_at, is_change_at, targets_of}
use Rattle.base.specs.declared.change.Change.{Change}
use Rattle.base.specs.declared.ids.RouterId.{RouterId}
use Rattle.base.specs.declared.target.Target.{Target}
use Rattle.base.proofs.DeltaOnce.{first-is, none-later, not-first, within}
use Rattle.delta_graph.specs.Pushed.{AreMerged, IsPushed, MeetNone, MeetsNone, or_else}
use Rattle.delta_graph.proofs.Joints.{IsAt, is-at}

-- those that are left to push onto what is so far make the merge of all
pub record Merges (all left first now : List Change) : Type 0 where
  pub form : AreChanges now
  pub left_form : AreChanges left
  pub apart : MeetNone now left
  pub exact : (r : RouterId) (a : ℕ) → or_else (change_at left r a) (change_at now r a) ≡ or_else (change_at all r a) (change_at first r a)

pub merges-first : (all first : List Change) → AreChanges all → AreChanges first → MeetNone first all → Merges all all first first
merges-first all first h k apart = record { form = k; left_form = h; apart = apart; exact = λ r a. refl }

pub merges-meets : (all rest first now : List Change) (c : Change) → Merges all (c ∷ rest) first now → MeetsNone now c
merges-meets all rest first now c m a held =
    let ends = and_parts _ _ held in
    let P : Option (Target × Target) → Type 0 = λ o. IsSome o in
    m.apart c.router a (subst P (sym (first-is c.router a c rest (within c.router a c refl (leb-true c.run.lo a ends.0) (leb-true a c.run.hi ends.1)))) refl)

later-none : (r : RouterId) (a : ℕ) (c : Change) (rest : List Change) → AreChanges (c ∷ rest) → is_change_at r a c ≡ true → change_at rest r a ≡ None
later-none r a c rest h t = let at : IsAt r a c = is-at r a c t in none-later r a c rest h.1 h.2 (inr (sym at.router, at.high))

pub merges-more : (all rest first now new : List Change) (c : Change) → Merges all (c ∷ rest) first now → IsPushed now new c → Merges all rest first new
merges-more all rest first now new c m p = record {
  form = p.form;
  left_form = m.left_form.2;
  apart = λ r a some. ⊎_elim
      (λ (t : is_change_at r a c ≡ true).
      let P : Option (Target × Target) → Type 0 = λ o. IsSome o in
      absurd (false≢true (subst P (later-none r a c rest m.left_form t) some)))
      (λ (f : is_change_at r a c ≡ false).
      let P : Option (Target × Target) → Type 0 = λ o. IsSome o in
      p.exact r a ∙ ap (λ b. cond b (Some (targets_of c)) (change_at now r a)) f ∙ m.apart r a (subst P (sym (not-first r a c rest f)) some))
      (cases_Bool (is_change_at r a c));
  exact = λ r a. ⊎_elim
      (λ (t : is_change_at r a c ≡ true).
      ap (λ o. or_else o (change_at new r a)) (later-none r a c rest m.left_form t)
      ∙ p.exact r a ∙ ap (λ b. cond b (Some (targets_of c)) (change_at now r a)) t
      ∙ sym (ap (λ o. or_else o (change_at now r a)) (first-is r a c rest t)) ∙ m.exact r a)
      (λ (f : is_change_at r a c ≡ false).
      ap (λ o. or_else (change_at rest r a) o) (p.exact r a ∙ ap (λ b. cond b (Some (targets_of c)) (change_at now r a)) f)
      ∙ sym (ap (λ o. or_else o (change_at now r a)) (not-first r a c rest f)) ∙ m.exact r a)
      (cases_Bool (is_change_at r a c));
}

pub merged : (all first now : List Change) → Merges all [] first now → AreMerged first all now
merged all first now m = record { form = m.form; exact = m.exact }

pub merges-at : (all first now new : List Change) (i : ℕ) (c : Change) → i < length all → c ≡ get_or all i c → Merges all (drop i all) first now → IsPushed now new c → Merges all (drop (i + 1) all) first new
merges-at all first now new i c lt is m p =
    let P : List Change → Type 0 = λ ys. Merges all ys first now in
    let front : drop i all ≡ c ∷ drop (i + 1) all = drop_more all i c lt ∙ ap (λ x. x ∷ drop (i + 1) all) (sym is) in
    merges-more all (drop (i + 1) all) first now new c (subst P front m) p
