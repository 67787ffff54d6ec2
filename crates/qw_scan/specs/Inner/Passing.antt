-- Things that are passed over: read for what follows, with nothing kept of them.
use Rattle.std.specs.Prelude.{ℕ}
use Rattle.qw_octet_grammar.specs.Grammar.{Grammar, is, after}
use Rattle.qw_octet_grammar.specs.Numbers.{u32}
use Rattle.qw_octet_grammar.specs.Vectors.{counted}

-- one thing
abbrev pub over : {A : Type 0} → Grammar A → Grammar (Unit {0})
over g = after g (λ x. is tt)

-- so many things, and a vector of them
abbrev pub all_over : ℕ → Grammar (Unit {0}) → Grammar (Unit {0})
all_over count item = counted count (λ before. item) tt

abbrev pub vector_over : Grammar (Unit {0}) → Grammar (Unit {0})
vector_over item = after u32 (λ n. all_over n item)
