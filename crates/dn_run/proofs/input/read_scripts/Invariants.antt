use Rattle.std.proofs.Common.{◌≡◌, ◌≤◌, ◌+◌, drop, length, map}
use Rattle.dn_run.specs.Jobs.{AreFit, scripts_of}
use Rattle.dn_run.specs.PartsRead.{script_texts}
use Rattle.dn_run.specs.Stops.{AreTaken, ScriptsGoOn}
use Rattle.dn_run.proofs.input.read_scripts.Given as goal

-- the scripts of the parts so far were read, and whatever comes of the rest comes of all
abbrev pub invariant-loop-part : goal.invariant-loop-part
invariant-loop-part g l = record {
  on : ScriptsGoOn (g.W.World.files l.fn.world) l.topology l.routers (g.W.World.calls l.fn.world) (map script_texts l.parts) (g.W.World.calls l.world) (scripts_of l.read.scripts.items)
      (drop l.part-index (map script_texts l.parts));
  taken : AreTaken l.read.taken.items (scripts_of l.read.scripts.items);
  fit : AreFit (scripts_of l.read.scripts.items);
  len : length l.read.scripts.items ≡ l.part-index;
  few : length (g.W.World.calls l.world) ≤ length (g.W.World.calls l.fn.world) + l.part-index;
  same_files : g.W.World.files l.world ≡ g.W.World.files l.fn.world;
}
