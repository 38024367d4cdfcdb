use Rattle.target_rows.proofs.TurnLemmas.{turned-column}
use Rattle.target_rows.proofs.chunk_rows.turn_column.Goals as goal

pub returns-clause-all : goal.returns-clause-all
returns-clause-all c =
    let column = c.args.column in
    let turned = c.in_ok-turned.turned in
    turned-column column.routers column.r.0 column.first column.count turned.count turned.before c.args.code c.place_in-place.result.chunk c.stride.result c.place_in-place.result.lane c.args.chunks.now c.turn_some.new.chunks c.write_column.new.chunks c.requires.router c.stride.ensures c.place_in-place.ensures.chunk c.place_in-place.ensures.lane c.if-turned-code.false c.in_ok-turned.ensures.few c.in_ok-turned.ensures.written c.in_ok-write_column.ensures.all
