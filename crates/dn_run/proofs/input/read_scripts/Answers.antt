use Rattle.std.proofs.Common.{◌≡◌, ◌+◌, List, drop, map, sym, ◌∙◌, subst, arith, refl}
use Rattle.std.proofs.lemmas.List.{drop_all, length-map}
use Rattle.dn_formats.specs.declared.script.Line.{Line}
use Rattle.dn_formats.specs.declared.script.Script.{Script}
use Rattle.dn_run.specs.Jobs.{scripts_of}
use Rattle.dn_run.specs.PartsRead.{script_texts}
use Rattle.dn_run.specs.Stops.{ScriptsEnd, ScriptsGoOn}
use Rattle.dn_run.specs.declared.stop.Stop.{Stop}
use Rattle.dn_run.proofs.ApartLemmas.{fit-none}
use Rattle.dn_run.proofs.PartsLemmas.{part_here}
use Rattle.dn_run.proofs.StopLemmas.{at-exit, scripts-end, scripts-memory, scripts-on, scripts-start}
use Rattle.dn_run.proofs.input.read_scripts.Goals as goal

pub loop-part-init : goal.loop-part-init
loop-part-init g c = record {
  on = subst (λ (scripts : List Script). ScriptsGoOn (g.W.World.files c.args.world.now) c.args.topology.now c.args.routers.now (g.W.World.calls c.args.world.now) (map script_texts c.args.parts.now) (g.W.World.calls c.args.world.now)
      (scripts_of scripts) (map script_texts c.args.parts.now)) (sym c.new.ensures.items)
      (scripts-start (g.W.World.files c.args.world.now) c.args.topology.now c.args.routers.now (g.W.World.calls c.args.world.now) (map script_texts c.args.parts.now));
  taken = λ r. rw (c.new.ensures.items, c.new-2.ensures.items) refl;
  fit = rw c.new.ensures.items fit-none;
  len = rw c.new.ensures.items refl;
  few = omega arith;
  same_files = refl;
}

pub add-requires-clause-follows : goal.add-requires-clause-follows
add-requires-clause-follows g c = rw c.as_slice.ensures.value at c.in_ok-script.ensures.follows

pub loop-part-preserved : goal.loop-part-preserved
loop-part-preserved g c =
    let here = part_here script_texts c.args.parts.now c.loop-part.part-index c.part-item.result (omega arith) c.part-item.is in
    let so = subst (λ rest. ScriptsGoOn (g.W.World.files c.args.world.now) c.args.topology.now c.args.routers.now (g.W.World.calls c.args.world.now) (map script_texts c.args.parts.now) (g.W.World.calls c.loop-part.world)
    (scripts_of c.loop-part.read.scripts.items) rest) here c.loop-part.invariant.on in
    let on = rw (c.as_slice.ensures.value, c.loop-part.invariant.same_files) at c.in_ok-script.ensures.ok in
    record {
      on = subst (λ (read : List (List Line)). ScriptsGoOn (g.W.World.files c.args.world.now) c.args.topology.now c.args.routers.now (g.W.World.calls c.args.world.now) (map script_texts c.args.parts.now) (g.W.World.calls c.read_part.new.world)
          read (drop (c.loop-part.part-index + 1) (map script_texts c.args.parts.now))) (sym c.in_ok-add.ensures.added)
          (scripts-on (g.W.World.files c.args.world.now) c.args.topology.now c.args.routers.now c.loop-part.read.taken.items (g.W.World.calls c.args.world.now) (g.W.World.calls c.loop-part.world) (g.W.World.calls c.read_part.new.world)
          (map script_texts c.args.parts.now) (drop (c.loop-part.part-index + 1) (map script_texts c.args.parts.now)) (script_texts c.part-item.result) (scripts_of c.loop-part.read.scripts.items) c.in_ok-script.script.lines
          so c.loop-part.invariant.taken on);
      taken = c.in_ok-add.ensures.taken;
      fit = c.in_ok-add.ensures.fit;
      len = (let before = c.loop-part.invariant.len in let added = c.in_ok-add.ensures.len in omega (arith, before, added));
      few = (let before = c.loop-part.invariant.few in let more = c.in_ok-script.ensures.few in omega (arith, before, more));
      same_files = c.read_part.ensures.same_files ∙ c.loop-part.invariant.same_files;
    }

pub returns-in_err-script-clause-stops : goal.returns-in_err-script-clause-stops
returns-in_err-script-clause-stops g c =
    let here = part_here script_texts c.args.parts.now c.loop-part.part-index c.part-item.result (omega arith) c.part-item.is in
    let so = subst (λ rest. ScriptsGoOn (g.W.World.files c.args.world.now) c.args.topology.now c.args.routers.now (g.W.World.calls c.args.world.now) (map script_texts c.args.parts.now) (g.W.World.calls c.loop-part.world)
    (scripts_of c.loop-part.read.scripts.items) rest) here c.loop-part.invariant.on in
    let stops = rw (c.as_slice.ensures.value, c.loop-part.invariant.same_files) at c.in_err-script.ensures.stops in
    at-exit (ScriptsEnd (g.W.World.files c.args.world.now) c.args.topology.now c.args.routers.now (g.W.World.calls c.args.world.now) (map script_texts c.args.parts.now) (g.W.World.calls c.read_part.new.world)) _
    c.from_residual.result c.from_residual.ensures.1
    (λ e is. subst (λ (s : Stop). ScriptsEnd (g.W.World.files c.args.world.now) c.args.topology.now c.args.routers.now (g.W.World.calls c.args.world.now) (map script_texts c.args.parts.now) (g.W.World.calls c.read_part.new.world) s) (sym is)
    (scripts-end (g.W.World.files c.args.world.now) c.args.topology.now c.args.routers.now c.loop-part.read.taken.items (g.W.World.calls c.args.world.now) (g.W.World.calls c.loop-part.world) (g.W.World.calls c.read_part.new.world)
    (map script_texts c.args.parts.now) (drop (c.loop-part.part-index + 1) (map script_texts c.args.parts.now)) (script_texts c.part-item.result) (scripts_of c.loop-part.read.scripts.items) c.in_err-script.field-0.0
    so c.loop-part.invariant.taken stops))

pub returns-in_err-add-clause-stops : goal.returns-in_err-add-clause-stops
returns-in_err-add-clause-stops g c =
    let here = part_here script_texts c.args.parts.now c.loop-part.part-index c.part-item.result (omega arith) c.part-item.is in
    let so = subst (λ rest. ScriptsGoOn (g.W.World.files c.args.world.now) c.args.topology.now c.args.routers.now (g.W.World.calls c.args.world.now) (map script_texts c.args.parts.now) (g.W.World.calls c.loop-part.world)
    (scripts_of c.loop-part.read.scripts.items) rest) here c.loop-part.invariant.on in
    let on = rw (c.as_slice.ensures.value, c.loop-part.invariant.same_files) at c.in_ok-script.ensures.ok in
    let after = scripts-on (g.W.World.files c.args.world.now) c.args.topology.now c.args.routers.now c.loop-part.read.taken.items (g.W.World.calls c.args.world.now) (g.W.World.calls c.loop-part.world) (g.W.World.calls c.read_part.new.world)
    (map script_texts c.args.parts.now) (drop (c.loop-part.part-index + 1) (map script_texts c.args.parts.now)) (script_texts c.part-item.result) (scripts_of c.loop-part.read.scripts.items) c.in_ok-script.script.lines
    so c.loop-part.invariant.taken on in
    at-exit (ScriptsEnd (g.W.World.files c.args.world.now) c.args.topology.now c.args.routers.now (g.W.World.calls c.args.world.now) (map script_texts c.args.parts.now) (g.W.World.calls c.read_part.new.world)) _
    c.from_residual-in_err-add.result c.from_residual-in_err-add.ensures.1
    (λ e is. subst (λ (s : Stop). ScriptsEnd (g.W.World.files c.args.world.now) c.args.topology.now c.args.routers.now (g.W.World.calls c.args.world.now) (map script_texts c.args.parts.now) (g.W.World.calls c.read_part.new.world) s) (sym is)
    (scripts-memory (g.W.World.files c.args.world.now) c.args.topology.now c.args.routers.now (g.W.World.calls c.args.world.now) (g.W.World.calls c.read_part.new.world) (map script_texts c.args.parts.now) _ _ after))

pub returns-clause-ok : goal.returns-clause-ok
returns-clause-ok g c =
    let none : drop c.loop-part.part-index (map script_texts c.args.parts.now) ≡ _ = drop_all c.loop-part.part-index (map script_texts c.args.parts.now) (omega (arith, length-map c.args.parts.now script_texts)) in
    subst (λ rest. ScriptsGoOn (g.W.World.files c.args.world.now) c.args.topology.now c.args.routers.now (g.W.World.calls c.args.world.now) (map script_texts c.args.parts.now) (g.W.World.calls c.loop-part.world)
    (scripts_of c.loop-part.read.scripts.items) rest) none c.loop-part.invariant.on
