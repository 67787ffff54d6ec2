-- What proofs that values have spellings of at most so many octets go by.
use Rattle.std.specs.Prelude.{ℕ, ◌≤◌, List, [], ◌∷◌, ◌++◌, length}
use Rattle.qw_octet_grammar.specs.Grammar.{Next, Grammar, Spells}
use Rattle.qw_module.specs.Syntax.{Sequences}
use Rattle.qw_binary.specs.Instructions.{Progress}
use Rattle.qw_binary.specs.Inner.Followed.{Leads}

pub record IsShort {A : Type 0} (g : Grammar A) (x : A) (most : ℕ) : Type 0 where
  pub text : List ℕ
  pub spells : Spells g x text
  pub short : length text ≤ most

-- items behind those before them, of which each may depend on those
abbrev pub AreShort : {A : Type 0} → (List A → Grammar A) → (A → ℕ) → (before xs : List A) → Type 0
AreShort item size before [] = Unit {0}
AreShort item size before (x ∷ xs) = IsShort (item before) x (size x) × AreShort item size (before ++ x ∷ []) xs

-- at most so many octets lead from a state of a reader to another
pub record Way (from to : Next Progress Sequences) (most : ℕ) : Type 0 where
  pub text : List ℕ
  pub short : length text ≤ most
  pub leads : (body : Sequences) (count : ℕ) (rest : List ℕ) → Leads body count to rest → (more : ℕ) × Leads body more from (text ++ rest)
