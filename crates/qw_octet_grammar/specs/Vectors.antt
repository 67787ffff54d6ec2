-- Vectors and names (WebAssembly Core Specification 1.0, 5.1.3 and 5.2.4).
use Rattle.std.specs.Prelude.{ℕ, zero, suc, List, [], ◌∷◌, ◌++◌}
use Rattle.std.specs.Str.{is_utf8}
use Rattle.qw_octet_grammar.specs.declared.fault.BinaryFault.TheVariants.{NotModule}
use Rattle.qw_octet_grammar.specs.Grammar.{Grammar, is, refuse, octets, after, pick}
use Rattle.qw_octet_grammar.specs.Numbers.{u32}

-- so many items one after the other, each leading from a state to the next
unfoldable pub counted : {S : Type 0} → ℕ → (S → Grammar S) → S → Grammar S
counted zero step s = is s
counted (suc n) step s = after (step s) (counted n step)

-- an item behind those before it
abbrev pub one_more : {A : Type 0} → Grammar A → List A → Grammar (List A)
one_more item before = after item (λ x. is (before ++ x ∷ []))

-- a count, and so many items
abbrev pub vector : {A : Type 0} → Grammar A → Grammar (List A)
vector item = after u32 (λ n. counted n (one_more item) [])

-- a count, and so many octets that are UTF-8
abbrev pub name : Grammar (List ℕ)
name = after u32 (λ n. octets n (λ text. pick (is_utf8 text) (is text) (refuse NotModule)))
