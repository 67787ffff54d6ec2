-- What a sink took of a text: all of it, or a front.
use Rattle.std.specs.Prelude.{◌≡◌, ℕ, ◌≤◌, List, Option, ◌++◌, length, take}
use Rattle.std.specs.Option.{option_map}

-- the bytes that were taken, where they are told, and this text
abbrev pub with_text : Option (List ℕ) → List ℕ → Option (List ℕ)
with_text taken text = option_map (λ bytes. bytes ++ text) taken

-- a front of the text was taken, and nothing else
abbrev pub TookFront : Option (List ℕ) → Option (List ℕ) → List ℕ → Type 0
TookFront old new text = (n : ℕ) × (n ≤ length text) × (new ≡ with_text old (take n text))
