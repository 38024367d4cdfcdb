use Rattle.std.proofs.Common.{Some, None, option_map, ap, sym, ◌∙◌}
use Rattle.clap.specs.Matches.{found_of}
use Rattle.dn_formats.specs.Decimal.{number_within}
use Rattle.dn_run.specs.CommandLine.{Make}
use Rattle.dn_run.specs.Limits.{most_updates}
use Rattle.dn_run.proofs.CommandLineLemmas.{number_in}
use Rattle.dn_run.proofs.words.read_make.Goals as goal

pub returns-in_default-clause-refused : goal.returns-in_default-clause-refused
returns-in_default-clause-refused c = number_in (found_of c.args.make.now) None c.in_default.ensures

pub returns-in-Some-read_number-clause-ok : goal.returns-in-Some-read_number-clause-ok
returns-in-Some-read_number-clause-ok c =
    ap (option_map Make) (number_in (found_of c.args.make.now) (Some c.in-Some.text.now) c.in-Some.ensures
    ∙ ap (number_within 1 most_updates) (sym c.as_bytes.ensures.value) ∙ sym c.in-Some-read_number.ensures.value)

pub returns-in-None-clause-refused : goal.returns-in-None-clause-refused
returns-in-None-clause-refused c =
    number_in (found_of c.args.make.now) (Some c.in-Some.text.now) c.in-Some.ensures
    ∙ ap (number_within 1 most_updates) (sym c.as_bytes.ensures.value) ∙ sym c.in-None.ensures.value
