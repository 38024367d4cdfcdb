use Rattle.std.proofs.Common.{◌<◌, ◌≤◌, ◌^◌, ◌+◌, ◌-◌, arith}
use Rattle.std.proofs.lemmas.Nat.{mul-le}
use Rattle.target_rows.specs.ChunkRows.{stride_of}
use Rattle.target_rows.proofs.ChunkLemmas.{atoms-in, no-chunks, routers-in}
use Rattle.target_rows.proofs.TargetLemmas.{coded-within}
use Rattle.target_rows.proofs.TurnLemmas.{turned-before, turned-chunks, turned-labels, turned-there}
use Rattle.target_rows.proofs.rows.TargetRows.turn_run.Goals as goal

pub turn_column-requires-clause-router : goal.turn_column-requires-clause-router
turn_column-requires-clause-router c = omega (arith, routers-in c.self.inside.routers c.self.inside.atoms c.self.inside.chunks c.self.inside.book c.args.self.now c.self.view_is)

pub turn_column-requires-clause-atoms : goal.turn_column-requires-clause-atoms
turn_column-requires-clause-atoms c =
    let s = c.self.inside in
    let few : c.self.inside.atoms ≤ 2 ^ 32 = c.self.invariant.rows.few in
    omega (arith, atoms-in s.routers s.atoms s.chunks s.book c.args.self.now c.self.view_is)

pub turn_column-requires-clause-inside : goal.turn_column-requires-clause-inside
turn_column-requires-clause-inside c =
    let s = c.self.inside in
    let inside : c.args.first + (c.args.past - c.args.first) ≤ c.self.inside.atoms = omega (arith, atoms-in s.routers s.atoms s.chunks s.book c.args.self.now c.self.view_is) in
    omega (arith, mul-le (c.args.first + (c.args.past - c.args.first)) (stride_of s.routers) s.atoms (stride_of s.routers) inside (omega arith), c.self.invariant.long)

pub edge-requires : goal.edge-requires
edge-requires c =
    let s = c.self.inside in
    let inside : c.args.past ≤ c.self.inside.atoms = omega (arith, atoms-in s.routers s.atoms s.chunks s.book c.args.self.now c.self.view_is) in
    let lr : c.args.r.0 < c.self.inside.routers = omega (arith, routers-in s.routers s.atoms s.chunks s.book c.args.self.now c.self.view_is) in
    turned-there s.routers s.atoms c.args.r.0 c.args.first c.args.past c.in-Ok.before c.in_ok-code.code s.chunks s.book c.code_near.new.self c.args.after c.args.self.now c.self.view_is c.self.invariant c.in_ok-code.ensures.ok lr c.requires.some inside c.in-Ok.ensures.before

pub invariant_of-self-in-Ok : goal.invariant_of-self-in-Ok
invariant_of-self-in-Ok c =
    let s = c.self.inside in
    let inside : c.args.past ≤ c.self.inside.atoms = omega (arith, atoms-in s.routers s.atoms s.chunks s.book c.args.self.now c.self.view_is) in
    let lr : c.args.r.0 < c.self.inside.routers = omega (arith, routers-in s.routers s.atoms s.chunks s.book c.args.self.now c.self.view_is) in
    turned-chunks s.routers s.atoms c.args.r.0 c.args.first c.args.past c.in-Ok.before c.in_ok-code.code s.chunks s.book c.code_near.new.self c.args.after c.args.self.now c.self.view_is c.self.invariant c.in_ok-code.ensures.ok lr c.requires.some inside c.in-Ok.ensures.before c.turn_column.new.self c.in-Ok.ensures.all

pub returns-in-Ok-clause-before : goal.returns-in-Ok-clause-before
returns-in-Ok-clause-before c =
    let s = c.self.inside in
    let inside : c.args.past ≤ c.self.inside.atoms = omega (arith, atoms-in s.routers s.atoms s.chunks s.book c.args.self.now c.self.view_is) in
    let lr : c.args.r.0 < c.self.inside.routers = omega (arith, routers-in s.routers s.atoms s.chunks s.book c.args.self.now c.self.view_is) in
    turned-before s.routers s.atoms c.args.r.0 c.args.first c.args.past c.in-Ok.before c.in_ok-code.code s.chunks s.book c.code_near.new.self c.args.after c.args.self.now c.self.view_is c.self.invariant c.in_ok-code.ensures.ok lr c.requires.some inside c.in-Ok.ensures.before c.edge.result c.edge.ensures

pub returns-in-Ok-clause-moved : goal.returns-in-Ok-clause-moved
returns-in-Ok-clause-moved c =
    let s = c.self.inside in
    let inside : c.args.past ≤ c.self.inside.atoms = omega (arith, atoms-in s.routers s.atoms s.chunks s.book c.args.self.now c.self.view_is) in
    let lr : c.args.r.0 < c.self.inside.routers = omega (arith, routers-in s.routers s.atoms s.chunks s.book c.args.self.now c.self.view_is) in
    turned-labels s.routers s.atoms c.args.r.0 c.args.first c.args.past c.in-Ok.before c.in_ok-code.code s.chunks s.book c.code_near.new.self c.args.after c.args.self.now c.self.view_is c.self.invariant c.in_ok-code.ensures.ok lr c.requires.some inside c.in-Ok.ensures.before c.turn_column.new.self c.requires.same c.in-Ok.ensures.all

pub invariant_of-self-in-Err : goal.invariant_of-self-in-Err
invariant_of-self-in-Err c =
    let s = c.self.inside in
    let lr : c.args.r.0 < c.self.inside.routers = omega (arith, routers-in s.routers s.atoms s.chunks s.book c.args.self.now c.self.view_is) in
    no-chunks s.routers _ c.code_near.new.self c.new.ensures (λ k l. coded-within s.routers c.args.r.0 c.in_ok-code.code s.book c.code_near.new.self c.args.after c.self.invariant.rows.within c.in_ok-code.ensures.ok lr k l)
