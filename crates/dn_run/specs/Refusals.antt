-- Refusals of the world, as those of a file.
use Rattle.dn_io.specs.declared.refusals.WorldRefused.{WorldRefused}
use Rattle.dn_io.specs.declared.refusals.WorldRefused.TheVariants.{Failed, OutOfMemory}
use Rattle.dn_run.specs.declared.files.FileRefused.{FileRefused}
use Rattle.dn_run.specs.declared.files.FileRefused.TheVariants as refused

abbrev pub as_file_refused : WorldRefused → FileRefused
as_file_refused Failed = refused.Failed
as_file_refused OutOfMemory = refused.OutOfMemory
