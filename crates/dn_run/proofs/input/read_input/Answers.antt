use Rattle.std.specs.String.{string_bytes}
use Rattle.std.proofs.Common.{List, [], length, ap, sym, ◌∙◌, subst, arith}
use Rattle.dn_io.specs.Calls.{Call}
use Rattle.dn_run.specs.PartsRead.{parts_texts}
use Rattle.dn_run.specs.Jobs.{scripts_of}
use Rattle.dn_run.specs.Run.{feed_files}
use Rattle.dn_model.specs.declared.topology.Topology.{Topology}
use Rattle.dn_run.specs.Stops.{Reaches, from_feeds, Stops, stop_of_parts}
use Rattle.dn_run.specs.WordsRefused.{run_texts}
use Rattle.dn_run.specs.declared.stop.Stop.{Stop}
use Rattle.dn_run.proofs.StopLemmas.{at-exit, stops-parts, stops-topology, stops-topology-memory, loaded-one, reaches-routers, stops-routers, reaches-scripts, stops-scripts, stops-jobs, reaches-feeds, few-jobs}
use Rattle.dn_run.proofs.input.read_input.Goals as goal

pub returns-in_err-parts-clause-stops : goal.returns-in_err-parts-clause-stops
returns-in_err-parts-clause-stops g c =
    at-exit (Stops (run_texts c.args.command.now) (g.W.World.files c.args.world.now) (g.W.World.calls c.args.world.now)) _ c.from_residual.result c.from_residual.ensures.1
    (λ e is. subst (λ (s : Stop). Stops (run_texts c.args.command.now) (g.W.World.files c.args.world.now) (g.W.World.calls c.args.world.now) s) (sym is)
    (subst (λ (calls : List Call). Stops (run_texts c.args.command.now) (g.W.World.files c.args.world.now) calls (stop_of_parts c.in_err-parts.field-0.0)) (sym c.requires.fresh)
    (stops-parts (g.W.World.files c.args.world.now) (run_texts c.args.command.now) c.in_err-parts.field-0.0 (rw c.as_slice.ensures.value at c.in_err-parts.ensures.refused))))

pub returns-in_err-load_topology-clause-stops : goal.returns-in_err-load_topology-clause-stops
returns-in_err-load_topology-clause-stops g c =
    let parts = rw c.as_slice.ensures.value at c.in_ok-parts.ensures.ok in
    let may = rw (c.requires.fresh, c.as_str.ensures.value) at c.in_err-load_topology.ensures.memory in
    at-exit (Stops (run_texts c.args.command.now) (g.W.World.files c.args.world.now) (g.W.World.calls c.load_topology.new.world)) _ c.from_residual-in_err-load_topology.result c.from_residual-in_err-load_topology.ensures.1
    (λ e is. subst (λ (s : Stop). Stops (run_texts c.args.command.now) (g.W.World.files c.args.world.now) (g.W.World.calls c.load_topology.new.world) s) (sym is)
    (stops-topology-memory (g.W.World.files c.args.world.now) (run_texts c.args.command.now) (parts_texts c.in_ok-parts.parts)
    parts (g.W.World.calls c.load_topology.new.world) may))

pub returns-in_err-topology-clause-stops : goal.returns-in_err-topology-clause-stops
returns-in_err-topology-clause-stops g c =
    let parts = rw c.as_slice.ensures.value at c.in_ok-parts.ensures.ok in
    let loads = rw (c.requires.fresh, c.as_str.ensures.value) at c.in_ok-load_topology.ensures.loads in
    at-exit (Stops (run_texts c.args.command.now) (g.W.World.files c.args.world.now) (g.W.World.calls c.load_topology.new.world)) _ c.from_residual-in_err-topology.result c.from_residual-in_err-topology.ensures.1
    (λ e is. subst (λ (s : Stop). Stops (run_texts c.args.command.now) (g.W.World.files c.args.world.now) (g.W.World.calls c.load_topology.new.world) s) (sym is)
    (stops-topology (g.W.World.files c.args.world.now) (run_texts c.args.command.now) (parts_texts c.in_ok-parts.parts)
    parts (g.W.World.calls c.load_topology.new.world) c.in_ok-load_topology.field-0 c.in_err-topology.field-0.0 loads c.in_err-topology.ensures.stops))

pub returns-in_err-topology-2-clause-stops : goal.returns-in_err-topology-2-clause-stops
returns-in_err-topology-2-clause-stops g c =
    let parts = rw c.as_slice.ensures.value at c.in_ok-parts.ensures.ok in
    let loads = rw (c.requires.fresh, c.as_str.ensures.value, c.in_ok-topology.ensures.ok) at c.in_ok-load_topology.ensures.loads in
    at-exit (Stops (run_texts c.args.command.now) (g.W.World.files c.args.world.now) (g.W.World.calls c.load_topology.new.world)) _ c.from_residual-in_err-topology-2.result c.from_residual-in_err-topology-2.ensures.1
    (λ e is. subst (λ (s : Stop). Stops (run_texts c.args.command.now) (g.W.World.files c.args.world.now) (g.W.World.calls c.load_topology.new.world) s) (sym is)
    (stops-topology-memory (g.W.World.files c.args.world.now) (run_texts c.args.command.now) (parts_texts c.in_ok-parts.parts)
    parts (g.W.World.calls c.load_topology.new.world)
    (loaded-one (g.W.World.files c.args.world.now) [] (g.W.World.calls c.load_topology.new.world) (string_bytes c.args.command.now.topology) c.in_ok-topology.topology loads)))

pub returns-in_err-routers-clause-stops : goal.returns-in_err-routers-clause-stops
returns-in_err-routers-clause-stops g c =
    let parts = rw c.as_slice.ensures.value at c.in_ok-parts.ensures.ok in
    let loads = rw (c.requires.fresh, c.as_str.ensures.value, c.in_ok-topology.ensures.ok) at c.in_ok-load_topology.ensures.loads in
    let reaches = reaches-routers (g.W.World.files c.args.world.now) (run_texts c.args.command.now) (parts_texts c.in_ok-parts.parts)
    parts (g.W.World.calls c.load_topology.new.world) c.in_ok-topology.topology loads in
    let refused = rw (c.as_slice-2.ensures.value, c.deref.ensures, c.in_ok-topology-2.ensures.ok) at c.in_err-routers.ensures.refused in
    at-exit (Stops (run_texts c.args.command.now) (g.W.World.files c.args.world.now) (g.W.World.calls c.load_topology.new.world)) _ c.from_residual-in_err-routers.result c.from_residual-in_err-routers.ensures.1
    (λ e is. subst (λ (s : Stop). Stops (run_texts c.args.command.now) (g.W.World.files c.args.world.now) (g.W.World.calls c.load_topology.new.world) s) (sym is)
    (stops-routers (run_texts c.args.command.now) (g.W.World.files c.args.world.now) (g.W.World.calls c.load_topology.new.world) _ (parts_texts c.in_ok-parts.parts) c.in_ok-topology.topology
    c.in_err-routers.field-0.0 reaches refused))

pub returns-in_err-scripts-clause-stops : goal.returns-in_err-scripts-clause-stops
returns-in_err-scripts-clause-stops g c =
    let parts = rw c.as_slice.ensures.value at c.in_ok-parts.ensures.ok in
    let loads = rw (c.requires.fresh, c.as_str.ensures.value, c.in_ok-topology.ensures.ok) at c.in_ok-load_topology.ensures.loads in
    let routers = rw (c.as_slice-2.ensures.value, c.deref.ensures, c.in_ok-topology-2.ensures.ok) at c.in_ok-routers.ensures.ok in
    let reaches = reaches-scripts (run_texts c.args.command.now) (g.W.World.files c.args.world.now) (g.W.World.calls c.load_topology.new.world) _ (parts_texts c.in_ok-parts.parts) c.in_ok-topology.topology c.in_ok-routers.routers.items
    (reaches-routers (g.W.World.files c.args.world.now) (run_texts c.args.command.now) (parts_texts c.in_ok-parts.parts)
    parts (g.W.World.calls c.load_topology.new.world) c.in_ok-topology.topology loads) routers in
    let stops = rw (c.as_slice-3.ensures.value, c.deref-2.ensures, c.in_ok-topology-2.ensures.ok, c.as_slice-4.ensures.value, c.load_topology.ensures.same_files) at c.in_err-scripts.ensures.stops in
    at-exit (Stops (run_texts c.args.command.now) (g.W.World.files c.args.world.now) (g.W.World.calls c.read_scripts.new.world)) _ c.from_residual-in_err-scripts.result c.from_residual-in_err-scripts.ensures.1
    (λ e is. subst (λ (s : Stop). Stops (run_texts c.args.command.now) (g.W.World.files c.args.world.now) (g.W.World.calls c.read_scripts.new.world) s) (sym is)
    (stops-scripts (run_texts c.args.command.now) (g.W.World.files c.args.world.now) (g.W.World.calls c.load_topology.new.world) (g.W.World.calls c.read_scripts.new.world) c.in_ok-topology.topology c.in_ok-routers.routers.items
    (parts_texts c.in_ok-parts.parts) c.in_err-scripts.field-0.0 reaches (stops (parts_texts c.in_ok-parts.parts).feeds)))

pub returns-then-has_too_many_jobs-clause-stops : goal.returns-then-has_too_many_jobs-clause-stops
returns-then-has_too_many_jobs-clause-stops g c =
    let parts = rw c.as_slice.ensures.value at c.in_ok-parts.ensures.ok in
    let loads = rw (c.requires.fresh, c.as_str.ensures.value, c.in_ok-topology.ensures.ok) at c.in_ok-load_topology.ensures.loads in
    let routers = rw (c.as_slice-2.ensures.value, c.deref.ensures, c.in_ok-topology-2.ensures.ok) at c.in_ok-routers.ensures.ok in
    let reaches = reaches-scripts (run_texts c.args.command.now) (g.W.World.files c.args.world.now) (g.W.World.calls c.load_topology.new.world) _ (parts_texts c.in_ok-parts.parts) c.in_ok-topology.topology c.in_ok-routers.routers.items
    (reaches-routers (g.W.World.files c.args.world.now) (run_texts c.args.command.now) (parts_texts c.in_ok-parts.parts)
    parts (g.W.World.calls c.load_topology.new.world) c.in_ok-topology.topology loads) routers in
    let on = rw (c.as_slice-3.ensures.value, c.deref-2.ensures, c.in_ok-topology-2.ensures.ok, c.as_slice-4.ensures.value, c.load_topology.ensures.same_files) at c.in_ok-scripts.ensures.ok in
    let many = rw (c.as_slice-5.ensures.value, c.as_slice-6.ensures.value) at c.has_too_many_jobs.ensures in
    stops-jobs (run_texts c.args.command.now) (g.W.World.files c.args.world.now) (g.W.World.calls c.load_topology.new.world) (g.W.World.calls c.read_scripts.new.world) c.in_ok-topology.topology c.in_ok-routers.routers.items
    (parts_texts c.in_ok-parts.parts) (scripts_of c.in_ok-scripts.scripts.items) reaches (on (parts_texts c.in_ok-parts.parts).feeds) (sym many ∙ c.if-has_too_many_jobs.true)

pub returns-clause-ok : goal.returns-clause-ok
returns-clause-ok g c =
    let parts = rw c.as_slice.ensures.value at c.in_ok-parts.ensures.ok in
    let loads = rw (c.requires.fresh, c.as_str.ensures.value, c.in_ok-topology.ensures.ok) at c.in_ok-load_topology.ensures.loads in
    let routers = rw (c.as_slice-2.ensures.value, c.deref.ensures, c.in_ok-topology-2.ensures.ok) at c.in_ok-routers.ensures.ok in
    let reaches = reaches-scripts (run_texts c.args.command.now) (g.W.World.files c.args.world.now) (g.W.World.calls c.load_topology.new.world) _ (parts_texts c.in_ok-parts.parts) c.in_ok-topology.topology c.in_ok-routers.routers.items
    (reaches-routers (g.W.World.files c.args.world.now) (run_texts c.args.command.now) (parts_texts c.in_ok-parts.parts)
    parts (g.W.World.calls c.load_topology.new.world) c.in_ok-topology.topology loads) routers in
    let on = rw (c.as_slice-3.ensures.value, c.deref-2.ensures, c.in_ok-topology-2.ensures.ok, c.as_slice-4.ensures.value, c.load_topology.ensures.same_files) at c.in_ok-scripts.ensures.ok in
    let many = rw (c.as_slice-5.ensures.value, c.as_slice-6.ensures.value) at c.has_too_many_jobs.ensures in
    let one = ap length loads.1 in
    record {
      reaches = subst (λ (t : Topology). Reaches (run_texts c.args.command.now) (g.W.World.files c.args.world.now) (g.W.World.calls c.read_scripts.new.world) (feed_files (parts_texts c.in_ok-parts.parts).feeds)
          (from_feeds (g.W.World.files c.args.world.now) t c.in_ok-routers.routers.items (scripts_of c.in_ok-scripts.scripts.items) (parts_texts c.in_ok-parts.parts).feeds)) (sym c.in_ok-topology-2.ensures.ok)
          (reaches-feeds (run_texts c.args.command.now) (g.W.World.files c.args.world.now) (g.W.World.calls c.load_topology.new.world) (g.W.World.calls c.read_scripts.new.world) c.in_ok-topology.topology c.in_ok-routers.routers.items
          (parts_texts c.in_ok-parts.parts) (scripts_of c.in_ok-scripts.scripts.items) reaches (on (parts_texts c.in_ok-parts.parts).feeds) (sym many ∙ c.if-has_too_many_jobs.false));
      as_many = rw c.as_slice-2.ensures.value at c.in_ok-routers.ensures.len;
      few = c.in_ok-parts.ensures.few.0;
      few_jobs = few-jobs (scripts_of c.in_ok-scripts.scripts.items) c.in_ok-routers.routers.items (sym many ∙ c.if-has_too_many_jobs.false);
      fit_scripts = c.in_ok-scripts.ensures.fit;
      known = rw c.deref.ensures at c.in_ok-routers.ensures.within;
      apart = c.in_ok-routers.ensures.apart;
      room = (
          let parts-few = c.in_ok-parts.ensures.few.1 in
          let read = rw c.as_slice-3.ensures.value at c.in_ok-scripts.ensures.few in
          omega (arith, one, parts-few, read)
          );
    }
