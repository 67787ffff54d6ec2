-- Writing by a grammar.
use Rattle.std.specs.Prelude.{◌≡◌, ℕ, List, ◌++◌}
use Rattle.qw_octet_grammar.specs.Grammar.{Grammar, Spells}

-- octets that spell a value were put behind those before
unfoldable pub Puts : {A : Type 0} → Grammar A → A → (old new : List ℕ) → Type 0
Puts g x old new = (text : List ℕ) × (new ≡ old ++ text) × Spells g x text
