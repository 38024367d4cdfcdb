use Rattle.std.proofs.Common.{◌≡◌, ◌<◌, length, arith}
use Rattle.target_rows.specs.ChunkRows.{stride_of}
use Rattle.target_rows.proofs.RowLemmas.{row-fits}
use Rattle.target_rows.proofs.ChunkLemmas.{atoms-in, made-twice, no-chunks, parted-chunks, parted-chunks-seen}
use Rattle.target_rows.proofs.rows.TargetRows.part.Goals as goal

pub repeat-requires-clause-inside : goal.repeat-requires-clause-inside
repeat-requires-clause-inside c =
    let s = c.self.inside in
    let la : c.args.place < c.self.inside.atoms = omega (arith, atoms-in s.routers s.atoms s.chunks s.book c.args.self.now c.self.view_is) in
    omega (arith, row-fits c.args.place s.atoms (stride_of s.routers) la, c.self.invariant.long, c.start_of-from.ensures.at)

pub repeat-requires-clause-place : goal.repeat-requires-clause-place
repeat-requires-clause-place c =
    let s = c.self.inside in
    let la : c.args.place < c.self.inside.atoms = omega (arith, atoms-in s.routers s.atoms s.chunks s.book c.args.self.now c.self.view_is) in
    omega (arith, row-fits c.args.place s.atoms (stride_of s.routers) la, c.self.invariant.long, c.start_of-next.ensures.at)

pub invariant_of-self : goal.invariant_of-self
invariant_of-self c =
    let s = c.self.inside in
    let count : length c.args.self.now.rows ≡ c.self.inside.atoms = atoms-in s.routers s.atoms s.chunks s.book c.args.self.now c.self.view_is in
    parted-chunks s.routers s.atoms c.args.place s.chunks c.repeat.new.self c.self.invariant.long (omega arith) (made-twice s.routers c.args.place c.stride.result c.start_of-from.result c.start_of-next.result s.chunks c.repeat.new.self c.stride.ensures c.start_of-from.ensures.at c.start_of-next.ensures.at c.in-Ok.ensures.all) s.book c.self.invariant (omega arith)

pub returns-in-Ok : goal.returns-in-Ok
returns-in-Ok c =
    let s = c.self.inside in
    let la : c.args.place < c.self.inside.atoms = omega (arith, atoms-in s.routers s.atoms s.chunks s.book c.args.self.now c.self.view_is) in
    parted-chunks-seen s.routers s.atoms c.args.place s.chunks c.repeat.new.self c.self.invariant.long la (made-twice s.routers c.args.place c.stride.result c.start_of-from.result c.start_of-next.result s.chunks c.repeat.new.self c.stride.ensures c.start_of-from.ensures.at c.start_of-next.ensures.at c.in-Ok.ensures.all) s.book c.args.self.now c.self.view_is

pub invariant_of-self-in-Err : goal.invariant_of-self-in-Err
invariant_of-self-in-Err c = no-chunks c.self.inside.routers c.repeat.new.self c.self.inside.book c.in-Err.ensures.none c.self.invariant.rows.within
