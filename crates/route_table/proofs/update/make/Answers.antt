use Rattle.std.proofs.Common.{false, refl, subst}
use Rattle.base.specs.Cidr.{IsCidr}
use Rattle.dn_model.specs.Table.{prefix_of_op}
use Rattle.route_table.specs.Ascending.{IsFound}
use Rattle.route_table.specs.Rows.{row_key, slot_in, slots_in}
use Rattle.route_table.specs.Slots.{key_of, slot_key}
use Rattle.route_table.proofs.Made.{unchanged-is, update-is, where-there}
use Rattle.route_table.proofs.Making.{failed}
use Rattle.route_table.proofs.Places.{found-inside}
use Rattle.route_table.proofs.SideBySide.{found-in, keeps-routes, slot-in, updated-whole}
use Rattle.route_table.proofs.Known.{known-there, new-in}
use Rattle.route_table.proofs.update.make.Goals as goal

pub update_at-requires : goal.update_at-requires
update_at-requires c = record { inside = found-inside row_key c.args.rows.now (key_of c.prefix.result) c.look-place.result.place (where-there _ c.look-place.result.row c.in-Some.row c.in-Some.is c.look-place.ensures.found) }

pub returns-then-not-changes : goal.returns-then-not-changes
returns-then-not-changes c =
    let found : IsFound slot_key (slots_in c.args.lane.index c.args.rows.now) (key_of (prefix_of_op c.args.update.now.op)) c.look-place.result.place = subst (λ p. IsFound slot_key (slots_in c.args.lane.index c.args.rows.now) (key_of p) c.look-place.result.place) c.prefix.ensures (found-in c.args.lane.index c.args.rows.now (key_of c.prefix.result) c.look-place.result.place (where-there _ c.look-place.result.row c.in-Some.row c.in-Some.is c.look-place.ensures.found)) in
    let sound : IsCidr (prefix_of_op c.args.update.now.op) = subst (λ p. IsCidr p) c.prefix.ensures c.look-place.ensures.sound in
    let found-row : IsFound row_key c.args.rows.now (key_of (prefix_of_op c.args.update.now.op)) c.look-place.result.place = subst (λ p. IsFound row_key c.args.rows.now (key_of p) c.look-place.result.place) c.prefix.ensures (where-there _ c.look-place.result.row c.in-Some.row c.in-Some.is c.look-place.ensures.found) in
    record {
      made = tt;
      same = refl;
      unmade = unchanged-is (slots_in c.args.lane.index c.args.rows.now) c.args.update.now.alone c.args.update.now.op c.look-place.result.place (slot_in c.args.lane.index c.in-Some.row.now) (c.requires c.args.lane.index).form sound found
          (slot-in c.args.lane.index c.args.rows.now (key_of c.prefix.result) c.look-place.result.place c.in-Some.row.now (slot_in c.args.lane.index c.in-Some.row.now) (where-there _ c.look-place.result.row c.in-Some.row c.in-Some.is c.look-place.ensures.found) (where-there _ c.look-place.result.row c.in-Some.row c.in-Some.is (c.look-place.ensures.row c.in-Some.row.now))) (c.changes.ensures.same c.if-not-changes.true);
      err = tt;
      others = λ k n. refl;
      whole = c.requires;
      is_new = tt;
      known = new-in c.args.rows.now c.in-Some.row.now c.args.lengths.now c.args.update.now.op false c.look-place.result.place c.requires sound found-row (where-there _ c.look-place.result.row c.in-Some.row c.in-Some.is (c.look-place.ensures.row c.in-Some.row.now)) (known-there c.args.update.now.alone c.in-Some.row.now c.args.lane.index c.args.update.now.op c.args.lane.inside (c.changes.ensures.same c.if-not-changes.true));
    }

pub returns-in_err-first : goal.returns-in_err-first
returns-in_err-first c = failed _ c.from_residual.result c.args.lane.index c.args.rows.now c.update_at.new.rows c.args.lengths.now c.args.update.now c.from_residual.ensures.1 c.in_err-first.ensures.err c.requires

pub returns : goal.returns
returns c =
    let found : IsFound slot_key (slots_in c.args.lane.index c.args.rows.now) (key_of (prefix_of_op c.args.update.now.op)) c.look-place.result.place = subst (λ p. IsFound slot_key (slots_in c.args.lane.index c.args.rows.now) (key_of p) c.look-place.result.place) c.prefix.ensures (found-in c.args.lane.index c.args.rows.now (key_of c.prefix.result) c.look-place.result.place (where-there _ c.look-place.result.row c.in-Some.row c.in-Some.is c.look-place.ensures.found)) in
    let sound : IsCidr (prefix_of_op c.args.update.now.op) = subst (λ p. IsCidr p) c.prefix.ensures c.look-place.ensures.sound in
    let found-row : IsFound row_key c.args.rows.now (key_of (prefix_of_op c.args.update.now.op)) c.look-place.result.place = subst (λ p. IsFound row_key c.args.rows.now (key_of p) c.look-place.result.place) c.prefix.ensures (where-there _ c.look-place.result.row c.in-Some.row c.in-Some.is c.look-place.ensures.found) in
    record {
      made = update-is (slots_in c.args.lane.index c.args.rows.now) (slots_in c.args.lane.index c.update_at.new.rows) c.args.lengths.now c.args.update.now.alone c.args.update.now.op c.look-place.result.place c.look-place.result.before (slot_in c.args.lane.index c.in-Some.row.now) c.first_of-before.result c.in_ok-first.first (c.requires c.args.lane.index) sound found
          (slot-in c.args.lane.index c.args.rows.now (key_of c.prefix.result) c.look-place.result.place c.in-Some.row.now (slot_in c.args.lane.index c.in-Some.row.now) (where-there _ c.look-place.result.row c.in-Some.row c.in-Some.is c.look-place.ensures.found) (where-there _ c.look-place.result.row c.in-Some.row c.in-Some.is (c.look-place.ensures.row c.in-Some.row.now))) (c.look-place.ensures.before c.args.lane.index) c.first_of-before.ensures.first (c.changes.ensures.some c.if-not-changes.false) c.in_ok-first.ensures.ok;
      same = tt;
      unmade = tt;
      err = tt;
      others = keeps-routes c.args.lane.index c.args.rows.now c.update_at.new.rows c.update_at.ensures.others;
      whole = updated-whole c.args.lane.index c.args.rows.now c.update_at.new.rows c.args.lengths.now c.args.update.now.alone c.args.update.now.op c.look-place.result.place c.in_ok-first.first c.requires sound found c.in_ok-first.ensures.ok c.update_at.ensures.others;
      is_new = new-in c.args.rows.now c.in-Some.row.now c.args.lengths.now c.args.update.now.op c.is_first-is_new.result c.look-place.result.place c.requires sound found-row (where-there _ c.look-place.result.row c.in-Some.row c.in-Some.is (c.look-place.ensures.row c.in-Some.row.now)) c.is_first-is_new.ensures;
      known = tt;
    }
