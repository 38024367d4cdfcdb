use Rattle.std.proofs.Common.{◌∙◌, refl}
use Rattle.std.specs.Arc.{arc_value}
use Rattle.net_engine.specs.Seen.{kept_in, net_in}
use Rattle.net_engine.specs.Whole.{IsWhole}
use Rattle.net_engine.proofs.Making.{kept_of, ways-kept, ways-updated, update-made, whole-of}
use Rattle.net_engine.proofs.state.State.update.Goals as goal

pub returns-clause-made : goal.returns-clause-made
returns-clause-made g c =
    let whole : IsWhole (kept_of (arc_value c.args.self.now.topology) (net_in c.update.new.self).atoms c.update.new.self.tables c.args.self.now.down) =
    whole-of (arc_value c.args.self.now.topology) c.update.new.self.routers c.update.new.self.atoms c.update.new.self.labels c.update.new.self.tables c.args.self.now.down c.in_ok-told.ensures.paired (c.in_ok-told.ensures.routers ∙ c.requires.sound.routers) c.requires.sound.whole.few
    (ways-updated (arc_value c.args.self.now.topology) c.args.self.now.net.tables c.update.new.self.tables c.args.update.now c.in_ok-told.ensures.tables c.requires.own.op
    (ways-kept (arc_value c.args.self.now.topology) (kept_in c.args.self.now) (net_in c.args.self.now.net).atoms c.args.self.now.net.tables c.args.self.now.net.tables c.args.self.now.down refl c.requires.sound.whole refl)) in
    update-made (kept_in c.args.self.now) (arc_value c.args.self.now.topology) (net_in c.args.self.now.net).atoms (net_in c.update.new.self).atoms c.args.self.now.net.tables c.update.new.self.tables c.args.self.now.down c.args.update.now c.in_ok-told.told c.in_ok-delta.delta refl whole c.in_ok-told.ensures.tables c.in_ok-told.ensures.told c.in_ok-delta.ensures.form c.in_ok-delta.ensures.changes

pub returns-clause-sound : goal.returns-clause-sound
returns-clause-sound g c = record {
  whole =
      whole-of (arc_value c.args.self.now.topology) c.update.new.self.routers c.update.new.self.atoms c.update.new.self.labels c.update.new.self.tables c.args.self.now.down c.in_ok-told.ensures.paired (c.in_ok-told.ensures.routers ∙ c.requires.sound.routers) c.requires.sound.whole.few
      (ways-updated (arc_value c.args.self.now.topology) c.args.self.now.net.tables c.update.new.self.tables c.args.update.now c.in_ok-told.ensures.tables c.requires.own.op
      (ways-kept (arc_value c.args.self.now.topology) (kept_in c.args.self.now) (net_in c.args.self.now.net).atoms c.args.self.now.net.tables c.args.self.now.net.tables c.args.self.now.down refl c.requires.sound.whole refl));
  paired = c.in_ok-told.ensures.paired;
  routers = c.in_ok-told.ensures.routers ∙ c.requires.sound.routers;
}
