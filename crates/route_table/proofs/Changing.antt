-- One slot of a table changed in the row of its prefix.
use Rattle.std.proofs.Common.{◌≡◌, ◌<◌, ◌∙◌, ℕ, Bool, List, [], ◌∷◌, Option, Result, Ok, Err, OnOk, OnErr, IfOk, if◌then◌else◌, is_ok, length, ap, sym, subst, get_or, set, arith}
use Rattle.std.specs.List.{insert}
use Rattle.std.specs.List.Sorted.{IsPermutation}
use Rattle.std.proofs.lemmas.List.Sorted.{IsPermutation-refl}
use Rattle.base.specs.Cidr.{Cidr, IsCidr}
use Rattle.std.proofs.lemmas.List.{set-get_or}
use Rattle.dn_model.specs.declared.table_op.TableOp.{TableOp}
use Rattle.dn_model.specs.declared.entry.Route.{Route}
use Rattle.dn_model.specs.declared.way.Way.{Way}
use Rattle.route_table.specs.Ascending.{AscendsFrom}
use Rattle.route_table.specs.Rows.{AddsSlots, KeepsSlots, slot_in, slots_in}
use Rattle.route_table.specs.Targets.{metric_of}
use Rattle.route_table.specs.Slots.{IsAddedAt, IsUpdatedAt, IsUpdatedIn, PrefixRoutes}
use Rattle.route_table.specs.declared.rows.PrefixRow.{PrefixRow}
use Rattle.route_table.proofs.SideBySide.{put-in, put-over, read}

pub update-made : {E : Type 0} (r : Result (Option Way) E) (lane : ℕ) (old new : List PrefixRow) (i : ℕ) (alone : Bool) (op : TableOp) (v : PrefixRow) → i < length old → ((d : PrefixRow) → IfOk r (λ first. IsUpdatedIn (slot_in lane (get_or old i d)) (slot_in lane v) alone op first)) → new ≡ set old i v → IfOk r (λ first. IsUpdatedAt (slots_in lane old) (slots_in lane new) i alone op first)
update-made (Ok first) lane old new i alone op v l made is = record {
  slot = slot_in lane v;
  made = λ d. subst (λ (s : PrefixRoutes). IsUpdatedIn s (slot_in lane v) alone op first) (sym (read lane old i d v l)) (made v);
  list = ap (slots_in lane) is ∙ put-over lane old i v;
}
update-made (Err e) lane old new i alone op v l made is = tt

-- a row in the place of another that has the same slot in a table leaves the table's slots as they are
pub over-others : (lane : ℕ) (old new : List PrefixRow) (i : ℕ) (v : PrefixRow) → i < length old → ((d : PrefixRow) (k : ℕ) → (k ≡ lane → ⊥) → slot_in k v ≡ slot_in k (get_or old i d)) → new ≡ set old i v → KeepsSlots lane old new
over-others lane old new i v l same is k n =
    let here : slot_in k v ≡ get_or (slots_in k old) i (slot_in k v) = same v k n ∙ sym (read k old i (slot_in k v) v l) in
    ap (slots_in k) is ∙ put-over k old i v ∙ ap (λ (s : PrefixRoutes). set (slots_in k old) i s) here ∙ set-get_or (slots_in k old) i (slot_in k v)

-- ---- a row put in

pub added-is : {E : Type 0} (r : Result (Unit {0}) E) (lane : ℕ) (old new : List PrefixRow) (i : ℕ) (route : Route) (v : PrefixRow) → IsCidr route.prefix → v.prefix ≡ route.prefix → (slot_in lane v).targets ≡ record { metric = route.metric; way = route.way } ∷ [] → new ≡ (if is_ok r then insert old i v else old) → OnOk r (IsAddedAt (slots_in lane old) (slots_in lane new) i route)
added-is (Ok u) lane old new i route v sound vp vt is = record {
  slot = slot_in lane v;
  prefix = vp;
  sound = sound;
  targets = subst (λ xs. IsPermutation xs (record { metric = route.metric; way = route.way } ∷ [])) (sym vt) (IsPermutation-refl (record { metric = route.metric; way = route.way } ∷ []));
  metrics = subst (λ xs. AscendsFrom metric_of 0 xs) (sym vt) (omega arith, tt);
  list = ap (slots_in lane) is ∙ put-in lane old i v;
}
added-is (Err e) lane old new i route v sound vp vt is = tt

pub added-others : {E : Type 0} (r : Result (Unit {0}) E) (lane : ℕ) (old new : List PrefixRow) (i : ℕ) (p : Cidr) (v : PrefixRow) → v.prefix ≡ p → ((k : ℕ) → (k ≡ lane → ⊥) → (slot_in k v).targets ≡ []) → new ≡ (if is_ok r then insert old i v else old) → OnOk r (AddsSlots lane old new i p)
added-others (Ok u) lane old new i p v vp none is = λ k n.
    ap (slots_in k) is
    ∙ put-in k old i v
    ∙ ap (λ q. insert (slots_in k old) i (record { prefix = q; targets = (slot_in k v).targets })) vp
    ∙ ap (λ xs. insert (slots_in k old) i (record { prefix = p; targets = xs })) (none k n)
added-others (Err e) lane old new i p v vp none is = tt

pub unmade : {T E : Type 0} (r : Result T E) (old new : List PrefixRow) (i : ℕ) (v : PrefixRow) → ((d : PrefixRow) → OnErr r (v ≡ get_or old i d)) → new ≡ set old i v → OnErr r (new ≡ old)
unmade (Ok u) old new i v same is = tt
unmade (Err e) old new i v same is = is ∙ ap (λ (x : PrefixRow). set old i x) (same v) ∙ set-get_or old i v
