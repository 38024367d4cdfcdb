use Rattle.std.proofs.Common.{rules, ap, ap₂, codes, true, ◌≡◌, ◌∙◌}
use Rattle.std.proofs.lemmas.Result.{IfOk-weaker}
use Rattle.clap.specs.Walk.{rule_of}
use Rattle.clap.specs.Simple.{App, Shape, app_of, app_of_fields, new_app, on_top, with_rule, with_subcommand}
use Rattle.dn_run.specs.CommandLine.{command_line, make_command, number_rule, part_rule, run_command, topology_rule}
use Rattle.dn_run.proofs.words.command_line.Goals as goal

abbrev requires_subcommand : Shape → Shape
requires_subcommand top = record top { subcommand_required = true }

pub returns : goal.returns
unfolding command_line
returns c =
    let topology_is : rule_of c.action-topology.result ≡ topology_rule = search rules in
    let part_is : rule_of c.action-part.result ≡ part_rule = search rules in
    let number_is : rule_of c.action-number.result ≡ number_rule = search rules in
    let run_is : app_of c.in_ok-run.run' ≡ run_command = c.in_ok-run.ensures.shape (search rules)
    ∙ ap₂ with_rule (c.in_ok-arg.ensures.shape (search rules) ∙ ap₂ with_rule c.new-4.ensures.app topology_is) part_is in
    let make_is : app_of c.in_ok-make.make ≡ make_command = c.in_ok-make.ensures.shape (search rules) ∙ ap₂ with_rule c.new-5.ensures.app number_is in
    let top_is : app_of c.subcommand_required.result ≡ on_top requires_subcommand (new_app (codes "deltanet")) =
    ap app_of_fields c.subcommand_required.ensures ∙ ap (on_top requires_subcommand) c.new-6.ensures.app in
    let with_run = c.in_ok-subcommand.ensures.shape (search rules) ∙ ap₂ with_subcommand top_is (ap (λ (a : App). a.top) run_is) in
    IfOk-weaker c.subcommand-2.result _ _ (λ r h. h.shape (search rules) ∙ ap₂ with_subcommand with_run (ap (λ (a : App). a.top) make_is)) c.subcommand-2.ensures
