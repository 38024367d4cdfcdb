-- Targets that were read of a row, one by one: they are those that stand at its place.
use Rattle.std.proofs.Common.{arith, ◌≡◌, ◌∙◌, ◌+◌, ◌<◌, ◌≤◌, ℕ, suc, zero, List, length, get_or, slice_set, subst, sym}
use Rattle.std.proofs.lemmas.List.{get_or-set_same, get_or_default, same_lists}
use Rattle.atom_map.specs.Spans.{Span}
use Rattle.base.specs.Forwarding.{target_of}
use Rattle.base.specs.declared.forwarding_row.ForwardingRow.{ForwardingRow}
use Rattle.base.specs.declared.ids.RouterId.{RouterId}
use Rattle.base.specs.declared.target.Target.{Target}
use Rattle.base.specs.declared.target.Target.TheVariants.{NoRoute}
use Rattle.target_rows.specs.Labels.{Labels, target_at, targets_of}
use Rattle.net_engine.specs.Paired.{AreLabelled}

pub targets-read : (rows : List Span) (labels : Labels) (i : ℕ) (out : List Target) → AreLabelled rows labels → i < length rows → length out ≡ labels.routers → ((k : ℕ) (e : Target) → k < labels.routers → get_or out k e ≡ target_at labels k i) → out ≡ targets_of labels i
targets-read rows labels i out h l n each =
    same_lists out (targets_of labels i) (n ∙ sym (h.wide i l))
    (λ k d m.
    each k d (subst (λ x. k < x) n m)
    ∙ get_or_default (targets_of labels i) k NoRoute d (subst (λ x. k < x) (n ∙ sym (h.wide i l)) m))

-- a place among so many from another on
pub place-among : (i k n m : ℕ) → i + n ≤ m → k < n → i + k < m
place-among i k n m h l = omega arith

-- one target is a column of one row
pub column-of-one : (rows : List ForwardingRow) (out : List Target) (i : ℕ) (r : RouterId) (t : Target) → 0 < length out → ((d : ForwardingRow) → t ≡ target_of (get_or rows i d) r) → (k : ℕ) (d : ForwardingRow) (e : Target) → k < 1 → get_or (slice_set out 0 t) k e ≡ target_of (get_or rows (i + k) d) r
column-of-one rows out i r t l h zero d e m = get_or-set_same out 0 t e l ∙ subst (λ n. t ≡ target_of (get_or rows n d) r) (omega arith) (h d)
column-of-one rows out i r t l h (suc k) d e m = absurd (omega arith)
