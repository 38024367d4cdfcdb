-- What the worlds in memory mean.
use Rattle.std.specs.Prelude.{◌≡◌, ℕ, List, [], ◌∷◌, Option, Some, None, map, if◌then◌else◌, bytes_eq, string_bytes}
use Rattle.dn_io.specs.Files.{File, Files}
use Rattle.dn_io.specs.Calls.{Call}
use Rattle.dn_io.specs.Memory.{PlanView, MemSourceView}
use Rattle.dn_io.specs.declared.files.MemFile.{MemFile}
use Rattle.dn_io.specs.declared.files.SureFile.{SureFile}

-- a file in memory, with how its sources are read
pub record MemFileView : Type 0 where
  pub name : List ℕ
  pub bytes : List ℕ
  pub step : ℕ
  pub fails : List ℕ

abbrev pub mem_file : MemFile → MemFileView
mem_file file =
    record { name = string_bytes file.name; bytes = file.bytes.items; step = file.step; fails = file.fails.items }

-- its name and bytes
abbrev pub told_file : MemFileView → File
told_file file = record { name = file.name; bytes = file.bytes }

abbrev pub sure_file : SureFile → File
sure_file file = record { name = string_bytes file.name; bytes = file.bytes.items }

-- the first file of this name
abbrev pub file_named : List MemFileView → List ℕ → Option MemFileView
file_named [] name = None
file_named (file ∷ rest) name = if bytes_eq file.name name then Some file else file_named rest name

-- a world in memory: its files, which `source_of` calls fail, and its calls
pub record MemWorldView : Type 0 where
  pub files : List MemFileView
  pub plan : PlanView
  pub calls : List Call

-- what it tells: its files, and no byte of any other name
abbrev pub mem_files : MemWorldView → Files
mem_files world = record { mapped = map told_file world.files; others = None }

-- a fresh source of this file, at this place
abbrev pub fresh_source : MemFileView → ℕ → MemSourceView
fresh_source file place = record {
  left = file.bytes;
  step = file.step;
  place = place;
  plan = record { fails = file.fails; calls = 0; faults = 0 };
}

-- a world that never fails: its files and its calls
pub record SureWorldView : Type 0 where
  pub files : List File
  pub calls : List Call

-- what it tells: its files, and that every other name is an empty file
abbrev pub sure_files : SureWorldView → Files
sure_files world = record { mapped = world.files; others = Some [] }
