-- How far the reading of a file has come.
use Rattle.std.specs.Prelude.{◌≡◌, ◌≤◌, ℕ, List, [], Option, IfSome, length, take, unwrap_or}

-- Where the files are told, the bytes are a front of the file of this name, or of the empty file where
-- there is none.
abbrev pub IsFront : Option (List ℕ → Option (List ℕ)) → List ℕ → List ℕ → Type 0
IsFront files name bytes =
    IfSome files (λ bytes_of. bytes ≡ take (length bytes) (unwrap_or (bytes_of name) []))

-- Where the files are told, the file of this name has so many octets, or they are none.
abbrev pub Reaches : Option (List ℕ → Option (List ℕ)) → List ℕ → ℕ → Type 0
Reaches files name at = IfSome files (λ bytes_of. at ≤ length (unwrap_or (bytes_of name) []))
