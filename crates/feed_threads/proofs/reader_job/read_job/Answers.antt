use Rattle.std.proofs.Common.{◌∙◌, All, ap, refl, sym, subst}
use Rattle.feed_threads.specs.Jobs.{Task}
use Rattle.feed_threads.specs.Reads.{IsAsk}
use Rattle.feed_threads.proofs.ReadLemmas.{read-ends}
use Rattle.feed_threads.proofs.reader_job.read_job.Goals as goal

pub do_lines-done-requires-clause-asks : goal.do_lines-done-requires-clause-asks
do_lines-done-requires-clause-asks g c κs within = subst (All IsAsk) (sym (c.lines_of_script.ensures ∙ ap (λ (j : Task _). j.lines) c.job.view_is)) c.requires.alone.asks

pub returns : goal.returns
returns g c = record {
  pins = c.do_lines-done.ensures.pins;
  number = ap (λ (j : Task _). j.number) c.job.view_is;
  ends = read-ends c.do_lines-done.result c.is_err.result _ _ _ _ c.args.job _ _ c.give_back.result.items c.job.inside.feeds.items c.is_err.ensures.value refl
      (c.lines_of_script.ensures ∙ ap (λ (j : Task _). j.lines) c.job.view_is) c.requires.alone.none (ap (λ (j : Task _). j.feeds) c.job.view_is) c.give_back.ensures
      c.do_lines-done.ensures.done c.do_lines-done.ensures.front;
}
