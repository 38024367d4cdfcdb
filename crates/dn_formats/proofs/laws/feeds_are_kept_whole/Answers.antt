use Rattle.dn_formats.proofs.LawfulLemmas.{kept-taken, whole}
use Rattle.dn_formats.proofs.laws.feeds_are_kept_whole.Goals as goal

pub returns : goal.returns
returns c limit history f lines is other = kept-taken f lines (whole limit history f other is)
