-- Routers that walks have passed, with one more.
use Rattle.std.proofs.Common.{◌≡◌, ℕ, ◌<◌, ◌⊎◌, ◌∙◌, true, Option, Some, None, List, length, get_or, slice_set, ap, sym, subst, inl, inr, ⊎_elim}
use Rattle.std.specs.Option.{is_some}
use Rattle.std.proofs.lemmas.Bool.{cases_eq}
use Rattle.std.proofs.lemmas.List.{get_or-set_same, get_or-set_other}
use Rattle.base.specs.declared.ids.RouterId.{RouterId}
use Rattle.base.proofs.DeltaParts.{same-router}
use Rattle.loop_check.specs.Following.{IsPassed, MeetsPassed, is_among}

abbrev pub Marks : Type 0
Marks = List (Option RouterId)

new-at : (ps new : Marks) (r start : RouterId) → r.0 < length ps → new ≡ slice_set ps r.0 (Some start) → get_or new r.0 None ≡ Some start
new-at ps new r start l e = ap (λ (v : Marks). get_or v r.0 None) e ∙ get_or-set_same ps r.0 (Some start) None l

new-other : (ps new : Marks) (r start y : RouterId) → new ≡ slice_set ps r.0 (Some start) → (y.0 ≡ r.0 → ⊥) → get_or new y.0 None ≡ get_or ps y.0 None
new-other ps new r start y e other = ap (λ (v : Marks). get_or v y.0 None) e ∙ get_or-set_other ps r.0 y.0 (Some start) None other

pub passed-new : (ps new : Marks) (r start : RouterId) → r.0 < length ps → new ≡ slice_set ps r.0 (Some start) → IsPassed new r
passed-new ps new r start l e = ap (λ (o : Option RouterId). is_some o) (new-at ps new r start l e)

pub passed-kept : (ps new : Marks) (r start y : RouterId) → r.0 < length ps → new ≡ slice_set ps r.0 (Some start) → IsPassed ps y → IsPassed new y
passed-kept ps new r start y l e h = ⊎_elim
    (λ (same : y.0 ≡ r.0). let P : RouterId → Type 0 = λ v. IsPassed new v in subst P (sym (same-router y r same)) (passed-new ps new r start l e))
    (λ (other : y.0 ≡ r.0 → ⊥). ap (λ (o : Option RouterId). is_some o) (new-other ps new r start y e other) ∙ h)
    (cases_eq y.0 r.0)

pub passed-cases : (ps new : Marks) (r start y : RouterId) → new ≡ slice_set ps r.0 (Some start) → IsPassed new y → (y ≡ r) ⊎ IsPassed ps y
passed-cases ps new r start y e h = ⊎_elim
    (λ (same : y.0 ≡ r.0). inl (same-router y r same))
    (λ (other : y.0 ≡ r.0 → ⊥). inr (ap (λ (o : Option RouterId). is_some o) (sym (new-other ps new r start y e other)) ∙ h))
    (cases_eq y.0 r.0)

-- a mark of another walk is an old one
pub mark-old : (ps new : Marks) (r start y by : RouterId) → r.0 < length ps → new ≡ slice_set ps r.0 (Some start) → get_or new y.0 None ≡ Some by → (by.0 ≡ start.0 → ⊥) → get_or ps y.0 None ≡ Some by
mark-old ps new r start y by l e h differ = ⊎_elim
    (λ (same : y.0 ≡ r.0).
    let is : Some by ≡ Some start = sym h ∙ ap (λ (n : ℕ). get_or new n None) same ∙ new-at ps new r start l e in
    let there : by ≡ start = cc in
    absurd (differ (ap (λ (v : RouterId). v.0) there)))
    (λ (other : y.0 ≡ r.0 → ⊥). sym (new-other ps new r start y e other) ∙ h)
    (cases_eq y.0 r.0)

-- of these routers one was passed before, or the new one is among them
pub meets-cases : (ps new : Marks) (r start : RouterId) (rs : List RouterId) → new ≡ slice_set ps r.0 (Some start) → MeetsPassed new rs → MeetsPassed ps rs ⊎ (is_among rs r ≡ true)
meets-cases ps new r start rs e h = ⊎_elim
    (λ (same : h.router ≡ r). let P : RouterId → Type 0 = λ v. is_among rs v ≡ true in inr (subst P same h.among))
    (λ (old : IsPassed ps h.router). inl (record { router = h.router; is_passed = old; among = h.among }))
    (passed-cases ps new r start h.router e h.is_passed)
