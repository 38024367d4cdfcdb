use Rattle.std.proofs.Common.{◌+◌, ◌*◌, ◌<◌, ◌≤◌, arith}
use Rattle.target_rows.proofs.RowLemmas.{rows-fit}
use Rattle.target_rows.proofs.chunk_rows.start_of.Goals as goal

pub overflow_mul-result : goal.overflow_mul-result
overflow_mul-result c =
    let few : c.stride.result ≤ 536870912 = omega arith in
    record { fits = (let all : c.args.atom * c.stride.result + c.stride.result < 18446744073709551616 = rows-fit c.args.atom c.stride.result (omega arith) few in omega arith) }

pub returns-clause-fits : goal.returns-clause-fits
returns-clause-fits c =
    let few : c.stride.result ≤ 536870912 = omega arith in
    omega (arith, rows-fit c.args.atom c.stride.result (omega arith) few)
