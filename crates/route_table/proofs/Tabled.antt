-- What is said of the slots of one of four tables, said of the list of the tables.
use Rattle.std.proofs.Common.{◌≡◌, ◌<◌, ◌∙◌, ℕ, Bool, List, set, refl, ap, sym, subst}
use Rattle.std.specs.List.Sorted.{IsPermutation}
use Rattle.dn_model.specs.Routes.{IsTable}
use Rattle.dn_model.specs.Table.{after_table_op}
use Rattle.dn_model.specs.declared.table_op.TableOp.{TableOp}
use Rattle.dn_model.specs.declared.entry.Route.{Route}
use Rattle.route_table.specs.Rows.{AreWhole, KeepsRoutes, slots_in, tables_in}
use Rattle.route_table.specs.Slots.{routes_of}
use Rattle.route_table.specs.Tables.{table_at}
use Rattle.route_table.specs.declared.rows.PrefixRow.{PrefixRow}
use Rattle.route_table.proofs.SideBySide.{table-is, tables-set}
use Rattle.route_table.proofs.Whole.{table-of}

pub on-table : (lane : ℕ) (rows : List PrefixRow) → lane < 4 → (P : List Route → Type 0) → P (routes_of (slots_in lane rows)) → P (table_at (tables_in rows) lane)
on-table lane rows l P h = subst P (sym (table-is lane rows l)) h

module _ (lane : ℕ) (old : List PrefixRow) (tables : List (List Route)) (l : lane < 4) (view : tables_in old ≡ tables) where
  pub was : routes_of (slots_in lane old) ≡ table_at tables lane
  was = sym (table-is lane old l) ∙ ap (λ ts. table_at ts lane) view

  pub others-set : (new : List PrefixRow) → KeepsRoutes lane old new → tables_in new ≡ set tables lane (table_at (tables_in new) lane)
  others-set new h = tables-set lane old new l h ∙ ap (λ ts. set ts lane (table_at (tables_in new) lane)) view

  pub permuted : (new : List PrefixRow) (alone : Bool) (op : TableOp) → IsPermutation (routes_of (slots_in lane new)) (after_table_op alone (routes_of (slots_in lane old)) op) → IsPermutation (table_at (tables_in new) lane) (after_table_op alone (table_at tables lane) op)
  permuted new alone op h = on-table lane new l (λ rs. IsPermutation rs (after_table_op alone (table_at tables lane) op)) (subst (λ rs. IsPermutation (routes_of (slots_in lane new)) (after_table_op alone rs op)) was h)

  -- where nothing was changed
  pub permuted-same : (new : List PrefixRow) (alone : Bool) (op : TableOp) → new ≡ old → IsPermutation (routes_of (slots_in lane old)) (after_table_op alone (routes_of (slots_in lane old)) op) → IsPermutation (table_at (tables_in new) lane) (after_table_op alone (table_at tables lane) op)
  permuted-same new alone op e h = permuted new alone op (subst (λ rows. IsPermutation (routes_of (slots_in lane rows)) (after_table_op alone (routes_of (slots_in lane old)) op)) (sym e) h)

  pub table-same : (new : List PrefixRow) → new ≡ old → table_at (tables_in new) lane ≡ table_at tables lane
  table-same new e = table-is lane new l ∙ ap (λ rows. routes_of (slots_in lane rows)) e ∙ was

pub table-form : (lane : ℕ) (rows : List PrefixRow) (lengths : List Bool) → lane < 4 → AreWhole rows lengths → IsTable (table_at (tables_in rows) lane)
table-form lane rows lengths l h = on-table lane rows l (λ rs. IsTable rs) (table-of (slots_in lane rows) (routes_of (slots_in lane rows)) (h lane).form refl)
