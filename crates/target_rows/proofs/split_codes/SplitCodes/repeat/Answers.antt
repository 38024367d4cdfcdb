use Rattle.std.proofs.Common.{length, ap, arith}
use Rattle.target_rows.proofs.SplitLemmas.{sides-long}
use Rattle.target_rows.proofs.split_codes.SplitCodes.repeat.Goals as goal

pub repeat_both-requires-clause-inside : goal.repeat_both-requires-clause-inside
repeat_both-requires-clause-inside c = omega (arith, sides-long c.self.inside.low c.self.inside.high, ap length c.self.view_is, c.requires.inside)

pub repeat_both-requires-clause-place : goal.repeat_both-requires-clause-place
repeat_both-requires-clause-place c = omega (arith, sides-long c.self.inside.low c.self.inside.high, ap length c.self.view_is, c.requires.place)
