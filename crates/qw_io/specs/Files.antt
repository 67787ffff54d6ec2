-- What is told of the files of a shelf.
use Rattle.std.specs.Prelude.{ℕ, List, Option, IfSome, IsSomeAnd, max, if◌then◌else◌}
use Rattle.std.specs.Str.{bytes_eq}

-- The files are not told, or there is one of this name and its bytes have the property.
abbrev pub OfFile : Option (List ℕ → Option (List ℕ)) → List ℕ → (List ℕ → Type 0) → Type 0
OfFile files name P = IfSome files (λ bytes_of. IsSomeAnd (bytes_of name) P)

-- A file that is watched: its name, and the offset behind the last octet that any call asked for.
pub record Watched : Type 0 where
  pub name : List ℕ
  pub asked_to : ℕ

-- the same after a call that asked for octets of the file `name` up to this offset
abbrev pub watched_after : (name : List ℕ) → (end : ℕ) → Watched → Watched
watched_after name end watched = if bytes_eq watched.name name then record { name = watched.name; asked_to = max watched.asked_to end } else watched
