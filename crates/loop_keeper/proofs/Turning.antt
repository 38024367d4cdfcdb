-- A way turned so that its first router in the topology's order comes first.
use Rattle.std.proofs.Common.{◌≡◌, ℕ, zero, suc, ◌+◌, ◌<◌, ◌≤◌, ◌∙◌, true, List, [], ◌∷◌, ◌++◌, length, get_or, take, drop, ap, sym, subst, ⊎_elim, arith}
use Rattle.std.proofs.lemmas.Bool.{eqb-true, or_cases, false≢true}
use Rattle.std.proofs.lemmas.List.{drop_more, take-append-drop}
use Rattle.base.specs.Forwarding.{AreEachForwarding, IsForwarding, target_of}
use Rattle.base.specs.Cycles.{goes_to}
use Rattle.base.specs.Reach.{is_router}
use Rattle.base.specs.declared.forwarding_row.ForwardingRow.{ForwardingRow}
use Rattle.base.specs.declared.ids.RouterId.{RouterId}
use Rattle.base.proofs.DeltaParts.{same-router}
use Rattle.loop_check.specs.Following.{is_among}
use Rattle.loop_check.proofs.Chains.{goes-below}
use Rattle.loop_keeper.specs.Following.{IsTurned}

among-at : (rs : List RouterId) (r d : RouterId) → is_among rs r ≡ true → (k : ℕ) × (k < length rs) × (get_or rs k d ≡ r)
among-at [] r d m = absurd (false≢true m)
among-at (x ∷ rs) r d m = ⊎_elim
    (λ (h : is_router r x ≡ true). (0, (omega arith), same-router x r (eqb-true x.0 r.0 h)))
    (λ (h : is_among rs r ≡ true).
    let at : (k : ℕ) × (k < length rs) × (get_or rs k d ≡ r) = among-at rs r d h in
    let l : at.0 < length rs = at.1 in
    (suc at.0, (omega arith), at.2))
    (or_cases (is_router r x) (is_among rs r) m)

pub turned-at : (path turned : List RouterId) (p : ℕ) (d : RouterId) → p < length path → turned ≡ drop p path ++ take p path → ((k : ℕ) (d : RouterId) → k < length path → (get_or path p d).0 ≤ (get_or path k d).0) → IsTurned path turned
turned-at path turned p d l e least = record {
  front = take p path;
  back = drop (p + 1) path;
  first = get_or path p d;
  is = sym (take-append-drop p path) ∙ ap (λ (v : List RouterId). take p path ++ v) (drop_more path p d l);
  turn = e ∙ ap (λ (v : List RouterId). v ++ take p path) (drop_more path p d l);
  least = λ (r : RouterId). λ (m : is_among path r ≡ true).
      let at : (k : ℕ) × (k < length path) × (get_or path k d ≡ r) = among-at path r d m in
      let P : RouterId → Type 0 = λ v. (get_or path p d).0 ≤ v.0 in
      subst P at.2 (least at.0 d at.1);
}

each-at : (n : ℕ) (rows : List ForwardingRow) (i : ℕ) (d : ForwardingRow) → AreEachForwarding n rows → i < length rows → IsForwarding n (get_or rows i d)
each-at n [] i d h l = absurd (omega arith)
each-at n (row ∷ rows) zero d h l = h.0
each-at n (row ∷ rows) (suc i) d h l = each-at n rows i d h.1 (omega arith)

-- only routers that there are go on
pub goes-within : (n : ℕ) (rows : List ForwardingRow) (i : ℕ) (d : ForwardingRow) → AreEachForwarding n rows → i < length rows → (r x : RouterId) → goes_to (target_of (get_or rows i d)) r x ≡ true → r.0 < n
goes-within n rows i d h l r x g =
    let row : IsForwarding n (get_or rows i d) = each-at n rows i d h l in
    let below : r.0 < length (get_or rows i d).targets = goes-below (get_or rows i d).targets r x g in
    let all : length (get_or rows i d).targets ≡ n = row.all in
    omega arith
