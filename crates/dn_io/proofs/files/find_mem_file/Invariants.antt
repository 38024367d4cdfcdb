use Rattle.std.proofs.Common.{◌≡◌, map, drop}
use Rattle.dn_io.specs.Worlds.{mem_file, file_named}
use Rattle.dn_io.proofs.files.find_mem_file.Given as goal

-- the first file of this name is not among those that were passed
abbrev pub invariant-loop-file : goal.invariant-loop-file
invariant-loop-file l = file_named (map mem_file (drop l.file-index l.files)) l.name ≡ file_named (map mem_file l.files) l.name
