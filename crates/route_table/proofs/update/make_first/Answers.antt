use Rattle.std.proofs.Common.{ℕ, refl, subst}
use Rattle.base.specs.Cidr.{IsCidr}
use Rattle.dn_model.specs.Table.{prefix_of_op}
use Rattle.dn_model.specs.declared.table_op.TableOp.{TableOp}
use Rattle.route_table.specs.Ascending.{IsGap}
use Rattle.route_table.specs.Rows.{AreWhole, row_key, slots_in}
use Rattle.route_table.specs.Slots.{key_of, slot_key}
use Rattle.route_table.proofs.Made.{add-is, first-cleared}
use Rattle.route_table.proofs.Making.{failed}
use Rattle.route_table.proofs.Places.{gap-inside}
use Rattle.route_table.proofs.SideBySide.{added-whole, adds-routes, gap-in}
use Rattle.route_table.specs.Rows.{tables_in}
use Rattle.route_table.proofs.Known.{clear-known, put-new}
use Rattle.route_table.proofs.update.make_first.Goals as goal

pub add_at-requires-clause-inside : goal.add_at-requires-clause-inside
add_at-requires-clause-inside c = gap-inside row_key c.args.rows.now (key_of (prefix_of_op c.args.update.now.op)) c.args.gap.place c.requires.gap

pub add_at-requires-clause-sound : goal.add_at-requires-clause-sound
add_at-requires-clause-sound c = subst (λ (o : TableOp). IsCidr (prefix_of_op o)) c.in-Put.is c.requires.sound

pub returns-in_default : goal.returns-in_default
returns-in_default c = record {
  made = tt;
  same = refl;
  unmade = first-cleared (slots_in c.args.lane.index c.args.rows.now) c.args.update.now.alone c.args.update.now.op c.in_default.field-0 c.in_default.field-1 c.args.gap.place c.in_default.is (c.requires.whole c.args.lane.index).form (gap-in c.args.lane.index c.args.rows.now (key_of (prefix_of_op c.args.update.now.op)) c.args.gap.place c.requires.gap);
  err = tt;
  others = λ k n. refl;
  whole = c.requires.whole;
  is_new = tt;
  known = clear-known (tables_in c.args.rows.now) c.args.update.now.op c.in_default.field-0 c.in_default.field-1 c.in_default.is;
}

pub returns-in_err-add_at : goal.returns-in_err-add_at
returns-in_err-add_at c = failed _ c.from_residual.result c.args.lane.index c.args.rows.now c.add_at.new.rows c.args.lengths.now c.args.update.now c.from_residual.ensures.1 c.in_err-add_at.ensures.err c.requires.whole

pub returns : goal.returns
returns c =
    let sound : IsCidr c.in-Put.prefix = subst (λ (o : TableOp). IsCidr (prefix_of_op o)) c.in-Put.is c.requires.sound in
    let gap : (k : ℕ) → IsGap slot_key (slots_in k c.args.rows.now) (key_of c.in-Put.prefix) c.args.gap.place = λ k. subst (λ (o : TableOp). IsGap slot_key (slots_in k c.args.rows.now) (key_of (prefix_of_op o)) c.args.gap.place) c.in-Put.is (gap-in k c.args.rows.now (key_of (prefix_of_op c.args.update.now.op)) c.args.gap.place c.requires.gap) in
    let whole : AreWhole c.add_at.new.rows c.add.new.self =
    added-whole c.args.lane.index c.args.rows.now c.add_at.new.rows c.args.lengths.now c.add.new.self (record { prefix = c.in-Put.prefix; metric = c.in-Put.metric; way = c.in-Put.way }) c.args.gap.place c.requires.whole gap sound c.in_ok-add_at.ensures.ok c.in_ok-add_at.ensures.others c.add.ensures in
    record {
      made = add-is (slots_in c.args.lane.index c.args.rows.now) (slots_in c.args.lane.index c.add_at.new.rows) c.args.lengths.now c.add.new.self c.args.update.now.alone c.args.update.now.op (record { prefix = c.in-Put.prefix; metric = c.in-Put.metric; way = c.in-Put.way }) c.args.gap.place c.args.gap.base c.in-Put.is (c.requires.whole c.args.lane.index) (gap-in c.args.lane.index c.args.rows.now (key_of (prefix_of_op c.args.update.now.op)) c.args.gap.place c.requires.gap) c.requires.base c.in_ok-add_at.ensures.ok (whole c.args.lane.index);
      same = tt;
      unmade = tt;
      err = tt;
      others = adds-routes c.args.lane.index c.args.rows.now c.add_at.new.rows c.args.gap.place c.in-Put.prefix c.in_ok-add_at.ensures.others;
      whole = whole;
      is_new = put-new (tables_in c.args.rows.now) c.args.update.now.op c.in-Put.prefix c.in-Put.metric c.in-Put.way c.in-Put.is;
      known = tt;
    }
