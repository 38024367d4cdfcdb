use Rattle.std.proofs.Common.{◌≡◌, map, drop, Some, []}
use Rattle.dn_io.specs.Worlds.{sure_file}
use Rattle.dn_io.specs.Files.{bytes_among}
use Rattle.dn_io.proofs.files.find_sure_bytes.Given as goal

-- the first file of this name is not among those that were passed
abbrev pub invariant-loop-file : goal.invariant-loop-file
invariant-loop-file l = bytes_among (map sure_file (drop l.file-index l.files)) (Some []) l.name ≡ bytes_among (map sure_file l.files) (Some []) l.name
