use Rattle.std.proofs.Common.{None, arith}
use Rattle.std.proofs.lemmas.Str.Pattern.{strip_prefix_char}
use Rattle.dn_run.proofs.PartsLemmas.{part_of-feed}
use Rattle.dn_run.proofs.parts.RunParts.add.Goals as goal

pub returns-in-None-clause-refused : goal.returns-in-None-clause-refused
returns-in-None-clause-refused c =
    rw (part_of-feed c.args.text.now (strip_prefix_char 64 c.args.text.now None c.in-None.ensures.cases (omega arith))) c.add_feed.ensures.refused
