-- Whether an update puts a route of a prefix that is new to all tables, as a row tells it.
use Rattle.std.proofs.Common.{◌≡◌, ℕ, ◌<◌, ◌∙◌, Bool, true, false, List, [], ◌∷◌, None, length, get_or, ap, sym, subst, arith}
use Rattle.std.specs.List.{list_any}
use Rattle.std.proofs.lemmas.List.Folds.{list_any_at}
use Rattle.base.specs.Cidr.{Cidr, IsCidr}
use Rattle.dn_model.specs.Table.{is_of_prefix, prefix_of_op}
use Rattle.dn_model.specs.declared.entry.Route.{Route}
use Rattle.dn_model.specs.declared.table_op.TableOp.{TableOp}
use Rattle.dn_model.specs.declared.table_op.TableOp.TheVariants.{Put, Clear}
use Rattle.dn_model.specs.declared.way.Way.{Way}
use Rattle.base.proofs.Elements.{contains-none}
use Rattle.route_table.specs.Ascending.{IsFound}
use Rattle.route_table.specs.Own.{TellsNew, is_held}
use Rattle.route_table.specs.Rows.{AreWhole, IsHeld, TellsFirst, row_key, slot_in, slots_in, tables_in}
use Rattle.route_table.specs.Slots.{IsUnchangedBy, key_of, routes_of}
use Rattle.route_table.specs.Targets.{IsPlaced}
use Rattle.route_table.specs.declared.rows.PrefixRow.{PrefixRow}
use Rattle.route_table.specs.declared.metric_way.MetricWay.{MetricWay}
use Rattle.route_table.proofs.Made.{slot-has}
use Rattle.route_table.proofs.SideBySide.{found-in, slot-in, table-is}

-- a table's route in the row of a prefix is one of the prefix
held-in : (rows : List PrefixRow) (row : PrefixRow) (lengths : List Bool) (p : Cidr) (i : ℕ) → AreWhole rows lengths → IsCidr p → IsFound row_key rows (key_of p) i → row ≡ get_or rows i row → IsHeld row → is_held (tables_in rows) p ≡ true
held-in rows row lengths p i whole sound found is h =
    let k : ℕ = h.lane in
    let has : list_any (is_of_prefix p) (routes_of (slots_in h.lane rows)) ≡ true =
    slot-has (slots_in h.lane rows) (Clear p None) i (slot_in h.lane row) (whole h.lane).form sound (found-in h.lane rows (key_of p) i found) (slot-in h.lane rows (key_of p) i row (slot_in h.lane row) found is) h.some in
    list_any_at (λ (routes : List Route). list_any (is_of_prefix p) routes) (tables_in rows) h.lane [] h.inside
    (ap (λ (routes : List Route). list_any (is_of_prefix p) routes) (table-is h.lane rows h.inside) ∙ has)

pub new-in : (rows : List PrefixRow) (row : PrefixRow) (lengths : List Bool) (op : TableOp) (is_new : Bool) (i : ℕ) → AreWhole rows lengths → IsCidr (prefix_of_op op) → IsFound row_key rows (key_of (prefix_of_op op)) i → row ≡ get_or rows i row → TellsFirst row op is_new → TellsNew (tables_in rows) op is_new
new-in rows row lengths (Put p m w) true i whole sound found is h = tt
new-in rows row lengths (Put p m w) false i whole sound found is h = held-in rows row lengths p i whole sound found is h
new-in rows row lengths (Clear p m) true i whole sound found is h = h
new-in rows row lengths (Clear p m) false i whole sound found is h = tt

-- a route that is there already
some-placed : (alone : Bool) (targets : List MetricWay) (m : ℕ) (t : Way) → IsPlaced alone targets m t → 0 < length targets
some-placed true targets m t e = subst (λ (xs : List MetricWay). 0 < length xs) (sym e) (omega arith)
some-placed false [] m t c = absurd (contains-none _ c)
some-placed false (x ∷ xs) m t c = omega arith

pub known-there : (alone : Bool) (row : PrefixRow) (lane : ℕ) (op : TableOp) → lane < 4 → IsUnchangedBy alone (slot_in lane row).targets op → TellsFirst row op false
known-there alone row lane (Put p m t) l u = record { lane = lane; inside = l; some = some-placed alone (slot_in lane row).targets m t u }
known-there alone row lane (Clear p m) l u = tt

-- where there is no row
pub put-new : (tables : List (List Route)) (op : TableOp) (p : Cidr) (m : ℕ) (t : Way) → op ≡ Put p m t → TellsNew tables op true
put-new tables op p m t e = subst (λ (o : TableOp). TellsNew tables o true) (sym e) tt

pub clear-known : (tables : List (List Route)) (op : TableOp) (p : Cidr) (m : _) → op ≡ Clear p m → TellsNew tables op false
clear-known tables op p m e = subst (λ (o : TableOp). TellsNew tables o false) (sym e) tt
