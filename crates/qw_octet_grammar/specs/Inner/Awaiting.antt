-- Mirrors the loops that write items: what is awaited behind what was put so far.
use Rattle.std.specs.Prelude.{◌≡◌, ℕ, List, ◌++◌}
use Rattle.qw_octet_grammar.specs.Grammar.{Next, Grammar, items, Chain, Spells, SpellsAll}
use Rattle.qw_octet_grammar.specs.Writing.{Puts}

-- whatever spells a value by what comes next, it and all that was put so far spell the value by the whole
unfoldable pub Awaits : {A : Type 0} → (whole next : Grammar A) → (old now : List ℕ) → Type 0
Awaits {A} whole next old now = (x : A) (text : List ℕ) → Spells next x text → Puts whole x old (now ++ text)

-- the same of items that come next from a state, until one is the last
unfoldable pub AwaitsItems : {S A : Type 0} → (step : S → ℕ → Grammar (Next S A)) → (from : S) → (next : Next S A) → (old now : List ℕ) → Type 0
AwaitsItems {S} {A} step from next old now =
    (x : A) (n : ℕ) (text : List ℕ) → Chain (λ s b r t. Spells (step s b) r t) n next x text → Puts (items from step) x old (now ++ text)

-- the same of items that come next to the end of the octets
unfoldable pub AwaitsAll : {S : Type 0} → (step : S → ℕ → Grammar S) → (from next : S) → (old now : List ℕ) → Type 0
AwaitsAll {S} step from next old now =
    (last : S) (n : ℕ) (text : List ℕ) → SpellsAll step n next last text
    → (most : ℕ) × (all : List ℕ) × (now ++ text ≡ old ++ all) × SpellsAll step most from last all
