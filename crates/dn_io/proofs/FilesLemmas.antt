-- Laws of files in memory.
use Rattle.std.proofs.Common.{◌≡◌, ℕ, List, [], ◌∷◌, Bool, true, false, cond, Option, Some, None, bytes_eq, map, refl}
use Rattle.std.specs.Option.{option_map}
use Rattle.dn_io.specs.Files.{bytes_among}
use Rattle.dn_io.specs.Worlds.{MemFileView, file_named, told_file}

-- the bytes of a name are those of the first file of that name
pub bytes_among-named : (files : List MemFileView) (name : List ℕ) → bytes_among (map told_file files) None name ≡ option_map (λ file. file.bytes) (file_named files name)
bytes_among-named [] name = refl
bytes_among-named (file ∷ files) name =
    elim (bytes_eq file.name name) as (λ b. cond b (Some file.bytes) (bytes_among (map told_file files) None name) ≡ option_map (λ f. f.bytes) (cond b (Some file) (file_named files name)))
    [ true ↦ refl | false ↦ bytes_among-named files name ]

pub ruleset named = (bytes_among-named)
