use Rattle.std.proofs.Common.{refl}
use Rattle.net_engine.specs.Seen.{kept_in}
use Rattle.net_engine.proofs.Linked.{put-alike, whole-links}
use Rattle.net_engine.proofs.state.State.turn_link.Goals as goal

pub changes_to-requires-clause-alike : goal.changes_to-requires-clause-alike
changes_to-requires-clause-alike g c = put-alike c.args.self.now.down c.in_ok-after.after c.args.link c.args.down c.in_ok-after.ensures

pub returns-clause-made : goal.returns-clause-made
returns-clause-made g c = record { same = refl; links = c.in_ok-after.ensures; told = c.in_ok-delta.ensures.changes }

pub returns-clause-sound : goal.returns-clause-sound
returns-clause-sound g c = record {
  whole = whole-links (kept_in c.args.self.now) c.in_ok-after.after c.requires.sound.whole;
  paired = c.requires.sound.paired;
  routers = c.requires.sound.routers;
}
