use Rattle.std.proofs.Common.{Some, None, map, sym, ◌∙◌}
use Rattle.std.proofs.lemmas.Result.{IfOk-weaker}
use Rattle.clap.specs.Matches.{found_of}
use Rattle.dn_run.proofs.CommandLineLemmas.{parts_in}
use Rattle.dn_run.proofs.words.read_part_words.Goals as goal

pub returns-in-Some : goal.returns-in-Some
returns-in-Some c = IfOk-weaker c.copied.result _ _ (λ copies h. h ∙ sym (parts_in (found_of c.args.run.now) (Some (map (λ text. text.now) c.in-Some.parts.now)) c.in-Some.ensures)) c.copied.ensures

pub returns-in-None : goal.returns-in-None
returns-in-None c = rw c.new.ensures.items (sym (parts_in (found_of c.args.run.now) None c.in-None.ensures))
