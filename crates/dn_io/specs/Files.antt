-- What a world holds, where it tells it: some files, and perhaps the bytes of every other name.
use Rattle.std.specs.Prelude.{ℕ, List, [], ◌∷◌, Option, Some, None, if◌then◌else◌, bytes_eq}

-- a file's name and its bytes
pub record File : Type 0 where
  pub name : List ℕ
  pub bytes : List ℕ

-- files, of which an earlier one hides a later one of its name, and the bytes of each name that none of them has
pub record Files : Type 0 where
  pub mapped : List File
  pub others : Option (List ℕ)

-- the bytes of the first file of this name, else `others`
abbrev pub bytes_among : List File → Option (List ℕ) → List ℕ → Option (List ℕ)
bytes_among [] others name = others
bytes_among (file ∷ rest) others name =
    if bytes_eq file.name name then Some file.bytes else bytes_among rest others name

-- the bytes of a name, if it has any
abbrev pub bytes_of : Files → List ℕ → Option (List ℕ)
bytes_of files name = bytes_among files.mapped files.others name
