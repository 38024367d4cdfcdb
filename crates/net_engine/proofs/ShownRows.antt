-- What is read of what a version shows: what is kept, with the links that are down.
use Rattle.std.proofs.Common.{◌≡◌, ℕ, ◌+◌, ◌<◌, ◌≤◌, ◌∙◌, ◌++◌, List, length, get_or, map, take, refl, ap, sym, subst}
use Rattle.base.specs.Forwarding.{AreForwarding, target_of}
use Rattle.base.specs.Links.{without}
use Rattle.base.specs.declared.forwarding_row.ForwardingRow.{ForwardingRow}
use Rattle.base.specs.declared.ids.LinkId.{LinkId}
use Rattle.base.specs.declared.ids.RouterId.{RouterId}
use Rattle.base.specs.declared.run.Run.{Run}
use Rattle.base.specs.declared.target.Target.{Target}
use Rattle.label_view.specs.Places.{AreRunsFrom}
use Rattle.what_if.specs.Restricted.{Restricted, rows_without}
use Rattle.what_if.proofs.Lowered.{column-of, low-at, past-at, runs-of, same-form, same-length, target-at, targets-of}
use Rattle.net_engine.specs.Shown.{View}

-- the view that the fields make
abbrev pub view_with : View → List LinkId → View
view_with kept down = record { routers = kept.routers; rows = rows_without down kept.rows }

module _ (kept now : View) (down : List LinkId) (is : view_with kept down ≡ now) where
  pub routers-shown : kept.routers ≡ now.routers
  routers-shown = ap (λ (v : View). v.routers) is

  pub count-shown : length kept.rows ≡ length now.rows
  count-shown = sym (same-length down kept.rows) ∙ ap (λ (v : View). length v.rows) is

  pub place-shown : (i : ℕ) → i < length now.rows → i < length kept.rows
  place-shown i l = subst (λ n. i < n) (sym count-shown) l

  pub form-shown : AreForwarding kept.routers kept.rows → AreForwarding now.routers now.rows
  form-shown form = subst (λ (v : View). AreForwarding v.routers v.rows) is (same-form down kept.routers kept.rows form)

  -- bounds are those that are kept
  pub low-shown : (i : ℕ) (d : ForwardingRow) → i < length kept.rows → (get_or kept.rows i d).low ≡ (get_or now.rows i d).low
  low-shown i d l = sym (low-at down kept.rows i d l) ∙ ap (λ (v : View). (get_or v.rows i d).low) is

  pub past-shown : (i : ℕ) (d : ForwardingRow) → i < length kept.rows → (get_or kept.rows i d).past ≡ (get_or now.rows i d).past
  past-shown i d l = sym (past-at down kept.rows i d l) ∙ ap (λ (v : View). (get_or v.rows i d).past) is

  pub runs-shown : (i count : ℕ) (runs : List Run) → AreRunsFrom kept.rows i count runs → AreRunsFrom now.rows i count runs
  runs-shown i count runs h = subst (λ (v : View). AreRunsFrom v.rows i count runs) is (runs-of down kept.rows i count runs h)

  -- and targets are with the links down
  pub target-shown : (i : ℕ) (r : RouterId) (t shown : Target) → i < length kept.rows → ((d : ForwardingRow) → t ≡ target_of (get_or kept.rows i d) r) → shown ≡ without down t → (d : ForwardingRow) → shown ≡ target_of (get_or now.rows i d) r
  target-shown i r t shown l read put d =
      subst (λ (v : View). shown ≡ target_of (get_or v.rows i d) r) is (target-at down kept.rows i d r t shown l (read d) put)

  pub column-shown : (i count : ℕ) (r : RouterId) (read shown rest : List Target) → i + count ≤ length kept.rows → count ≤ length read → ((k : ℕ) (d : ForwardingRow) (e : Target) → k < count → get_or read k e ≡ target_of (get_or kept.rows (i + k) d) r) → shown ≡ map (without down) (take count read) →
      (k : ℕ) (d : ForwardingRow) (e : Target) → k < count → get_or (shown ++ rest) k e ≡ target_of (get_or now.rows (i + k) d) r
  column-shown i count r read shown rest l room each put k d e b =
      let w : Restricted View = record { view = kept; links = down } in
      subst (λ (v : View). get_or (shown ++ rest) k e ≡ target_of (get_or v.rows (i + k) d) r) is
      (column-of (λ (v : View). v.rows) w kept down i count r read shown rest refl l room each put k d e b)

  pub targets-shown : (i : ℕ) (read shown : List Target) → i < length kept.rows → ((d : ForwardingRow) → read ≡ (get_or kept.rows i d).targets) → shown ≡ map (without down) read → (d : ForwardingRow) → shown ≡ (get_or now.rows i d).targets
  targets-shown i read shown l each put d =
      let w : Restricted View = record { view = kept; links = down } in
      let inside : i < length (rows_without down kept.rows) = subst (λ n. i < n) (sym (same-length down kept.rows)) l in
      subst (λ (v : View). shown ≡ (get_or v.rows i d).targets) is
      (targets-of (λ (v : View). v.rows) w kept down i read shown refl inside each put d)
