use Rattle.par_scan.proofs.RangeBounds.{shows-range}
use Rattle.par_scan.proofs.part.Part.of_range.Goals as goal

pub returns-clause-shows : goal.returns-clause-shows
returns-clause-shows g c = shows-range _ (g.V.LabelView.rows c.args.view.now) _ c.args.ranges.rows c.place.result c.place-2.result c.args.ranges.size c.args.k c.requires.rows c.place.ensures c.place-2.ensures c.new.ensures.shows
