-- An update of rows that fails.
use Rattle.std.proofs.Common.{◌≡◌, ℕ, Bool, List, Option, Result, ap, subst, sym}
use Rattle.std.specs.Result.{IsErrAnd}
use Rattle.std.proofs.lemmas.Result.{err_from_is_err_and}
use Rattle.base.specs.declared.memory.OutOfMemory.{OutOfMemory}
use Rattle.route_table.specs.Made.{IsMaking}
use Rattle.route_table.specs.Rows.{AreWhole, slots_in}
use Rattle.route_table.specs.Slots.{routes_of}
use Rattle.route_table.specs.declared.rows.PrefixRow.{PrefixRow}
use Rattle.route_table.specs.declared.table_update.TableUpdate.{TableUpdate}
use Rattle.route_table.specs.declared.update.Made.{Made}

-- all is as before
pub failed : (Q : OutOfMemory → Type 0) (r : Result (Option Made) OutOfMemory) (lane : ℕ) (old new : List PrefixRow) (lengths : List Bool) (u : TableUpdate) → IsErrAnd r Q → new ≡ old → AreWhole old lengths → IsMaking lane old new lengths u r
failed Q r lane old new lengths u e same whole =
    let p = err_from_is_err_and r e in
    subst (λ (q : Result (Option Made) OutOfMemory). IsMaking lane old new lengths u q) (sym p.1) (record {
      made = tt;
      same = tt;
      unmade = tt;
      err = same;
      others = λ k n. ap (λ rows. routes_of (slots_in k rows)) same;
      whole = subst (λ rows. AreWhole rows lengths) (sym same) whole;
      is_new = tt;
      known = tt;
    })
