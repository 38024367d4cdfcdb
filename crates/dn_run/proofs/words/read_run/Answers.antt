use Rattle.std.proofs.Common.{Some, None, List, ℕ, option_map, ap, ap₂, sym, ◌∙◌}
use Rattle.clap.specs.Matches.{found_of}
use Rattle.dn_run.specs.CommandLine.{Run}
use Rattle.dn_run.proofs.CommandLineLemmas.{run_in}
use Rattle.dn_run.proofs.words.read_run.Goals as goal

pub returns-in_default-clause-refused : goal.returns-in_default-clause-refused
returns-in_default-clause-refused c = run_in (found_of c.args.run.now) None c.in_default.ensures

pub returns-clause-ok : goal.returns-clause-ok
returns-clause-ok c =
    ap (option_map Run) (run_in (found_of c.args.run.now) (Some c.in-Some.topology.now) c.in-Some.ensures)
    ∙ ap₂ (λ (t : List ℕ) (ps : List (List ℕ)). Some (Run (record { topology = t; parts = ps }))) (sym c.in_ok-topology.ensures.ok) (sym c.in_ok-parts.ensures)
