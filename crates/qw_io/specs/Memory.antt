-- The files of a shelf in memory.
use Rattle.std.specs.Prelude.{ℕ, List, Option, find}
use Rattle.std.specs.Option.{option_map}
use Rattle.std.specs.Str.{bytes_eq}
use Rattle.std.specs.String.{string_bytes}
use Rattle.qw_io.specs.declared.piece.NamedFile.{NamedFile}

-- the bytes of the first file of this name
abbrev pub bytes_of : List NamedFile → List ℕ → Option (List ℕ)
bytes_of files name =
    option_map (λ (file : NamedFile). file.bytes.items) (find (λ (file : NamedFile). bytes_eq (string_bytes file.name) name) files)
