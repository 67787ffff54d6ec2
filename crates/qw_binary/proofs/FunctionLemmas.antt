-- The code of functions one after the other, as a loop reads it.
use Rattle.std.proofs.Common.{◌≡◌, ℕ, ◌-◌, ◌+◌, ◌<◌, List, [], ◌∷◌, ◌++◌, length, map, get_or, subst, Result, Ok, sym, ap, ◌∙◌}
use Rattle.std.proofs.lemmas.List.{length-map}
use Rattle.qw_octet_grammar.specs.declared.fault.BinaryFault.{BinaryFault}
use Rattle.qw_octet_grammar.specs.Vectors.{counted}
use Rattle.qw_octet_grammar.specs.Reading.{Fails, read}
use Rattle.qw_octet_grammar.proofs.Loops.{goes_on_counted, ends_counted, one_more_ok, one_more_fails}
use Rattle.qw_module.specs.declared.module.Function.{Function}
use Rattle.qw_binary.specs.Contents.{FunctionContents, function_contents}
use Rattle.qw_binary.specs.Sections.{code, next_function}

module _ (indices : List ℕ) (i : ℕ) (found : List Function) (bytes : List ℕ) (total : Result (List FunctionContents × List ℕ) BinaryFault)
    (lt : i < length indices) (as_many : length found ≡ i) (so_far : read (counted (length indices - i) (next_function indices) (map function_contents found)) bytes ≡ total) where
  its_index : (index : ℕ) → get_or indices i 0 ≡ index → get_or indices (length (map function_contents found)) 0 ≡ index
  its_index index e = ap (λ n. get_or indices n 0) (length-map found function_contents ∙ as_many) ∙ e

  pub next_read : (x : Function) (rest : List ℕ) (index : ℕ) → get_or indices i 0 ≡ index → read (code index) bytes ≡ Ok (function_contents x, rest)
      → read (counted (length indices - (i + 1)) (next_function indices) (map function_contents found ++ function_contents x ∷ [])) rest ≡ total
  next_read x rest index e h =
      goes_on_counted (next_function indices) (length indices) i (map function_contents found) bytes (map function_contents found ++ function_contents x ∷ []) rest total lt
      (one_more_ok (code (get_or indices (length (map function_contents found)) 0)) (map function_contents found) bytes (function_contents x) rest
      (subst (λ n. read (code n) bytes ≡ Ok (function_contents x, rest)) (sym (its_index index e)) h)) so_far

  pub next_fails : (f : BinaryFault) (index : ℕ) → get_or indices i 0 ≡ index → Fails f (read (code index) bytes) → Fails f total
  next_fails f index e h =
      ends_counted (next_function indices) f (length indices) i (map function_contents found) bytes total lt
      (one_more_fails f (code (get_or indices (length (map function_contents found)) 0)) (map function_contents found) bytes (subst (λ n. Fails f (read (code n) bytes)) (sym (its_index index e)) h)) so_far
