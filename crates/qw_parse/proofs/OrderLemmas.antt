-- The order of a query's rows is read exactly, and what it begins with ends what stands before it.
use Rattle.std.proofs.Common.{◌≡◌, ℕ, ◌<◌, ◌≤◌, ◌||◌, Bool, List, [], ◌∷◌, length, Some, None, refl, sym, ap, subst, ◌∙◌, arith, inl, inr}
use Rattle.std.specs.Prelude.{codes, IsTrue}
use Rattle.std.proofs.lemmas.Bool.{and_parts, or_left, or_right}
use Rattle.qw_types.specs.Digits.{are_digits}
use Rattle.qw_token.specs.Token.{Lexeme}
use Rattle.qw_ast.specs.Syntax.{Key, ordinal, result_column, SortSpecification}
use Rattle.qw_ast.specs.ScriptGrammar.{is_word, is_symbol, is_integer, is_name, is_number, is_string, is_comma, IsOperator, IsKey, an_ordinal, a_key_column, IsDirection, no_direction, ascending, descending, IsSort, a_sort, IsOrder, unordered, ordered}
use Rattle.qw_parse.specs.Inner.Readers.{token_at, word_at, symbol_at, octets_if, key_at, direction_at, sort_at, order_at}
use Rattle.qw_parse.proofs.LoopLemmas.{bind_some, cases_option, some_same}
use Rattle.qw_parse.proofs.TokenLemmas.{word_is, one_is, one_not, one_none, token_is, token_not, token_none, octets_are, octets_hold}
use Rattle.qw_parse.proofs.ExactLemmas.{Starts, starts_at, Exact, comma_is, further_is, further_ends, clause_takes, words_take, other_word, no_word}
use Rattle.qw_parse.proofs.PrimaryLemmas.{name_kind}

-- ---- a sort key

key_takes : (ts : List Lexeme) (x : Key × List Lexeme) → key_at ts ≡ Some x → IsKey x.0 ts x.1
unfolding key_at
key_takes ts x e =
    elim (cases_option (token_at (octets_if is_integer) ts)) [
      | inr t ↦ subst (λ (y : Key × List Lexeme). IsKey y.0 ts y.1) (some_same (ordinal t.0.0, t.0.1) x (rw t.1 at e)) (octets_hold is_integer (λ octets us. IsKey (ordinal octets) us t.0.1) ts t.0 (λ u h. an_ordinal u t.0.1 h) t.1)
      | inl no_integer ↦ (
          let t = bind_some (token_at (octets_if is_name) ts) _ x (rw no_integer at e) in
          subst (λ (y : Key × List Lexeme). IsKey y.0 ts y.1) (some_same (result_column t.0.0, t.0.1) x t.2) (octets_hold is_name (λ octets us. IsKey (result_column octets) us t.0.1) ts t.0 (λ u h. a_key_column u t.0.1 h) t.1))
    ]

-- a name is no number
no_integer : (t : Lexeme) (rest : List Lexeme) → IsTrue (is_name t) → token_at (octets_if is_integer) (t ∷ rest) ≡ None
no_integer t rest h = let k = name_kind t t.kind refl h in token_not (octets_if is_integer) t rest (rw k.0 refl)

key_is : (key : Key) (ts rest : List Lexeme) → IsKey key ts rest → key_at ts ≡ Some (key, rest)
unfolding key_at
key_is _ _ _ (an_ordinal t rest h) = rw (token_is (octets_if is_integer) t rest t.octets (octets_are is_integer t h)) refl
key_is _ _ _ (a_key_column t rest h) = rw (no_integer t rest h, token_is (octets_if is_name) t rest t.octets (octets_are is_name t h)) refl

key_shorter : (key : Key) (ts rest : List Lexeme) → IsKey key ts rest → length rest < length ts
key_shorter _ _ _ (an_ordinal t rest h) = omega arith
key_shorter _ _ _ (a_key_column t rest h) = omega arith

pub name_begins : (t : Lexeme) (rest : List Lexeme) → IsTrue (is_name t) → Starts (t ∷ rest)
name_begins t rest h = starts_at t rest (or_right (is_number t || is_string t) _ (or_left (is_name t) _ h))

key_begins : (key : Key) (ts rest : List Lexeme) → IsKey key ts rest → Starts ts
key_begins _ _ _ (an_ordinal t rest h) =
    let n = (and_parts (is_number t) (are_digits t.octets) h).0 in
    starts_at t rest (or_left (is_number t || is_string t) _ (or_left (is_number t) (is_string t) n))
key_begins _ _ _ (a_key_column t rest h) = name_begins t rest h

-- ---- a sort specification

-- what ends it: no ASC and no DESC
pub record EndsSort (ts : List Lexeme) : Type 0 where
  pub no_asc : word_at (codes "ASC") ts ≡ None
  pub no_desc : word_at (codes "DESC") ts ≡ None

none_sort : EndsSort []
none_sort = record { no_asc = one_none (is_word (codes "ASC")); no_desc = one_none (is_word (codes "DESC")) }

comma_sort : (o : Unit {0}) (ts rest : List Lexeme) → IsOperator is_comma o ts rest → EndsSort ts
comma_sort =
    comma_is EndsSort (λ t rest h. record { no_asc = no_word (codes ",") (codes "ASC") t rest h; no_desc = no_word (codes ",") (codes "DESC") t rest h })

direction_takes : (ts : List Lexeme) → IsDirection (direction_at ts).0 ts (direction_at ts).1
unfolding direction_at
direction_takes ts = words_take (codes "DESC") (codes "ASC") IsDirection no_direction descending ascending ts (direction_at ts) refl

direction_is : (is_descending : Bool) (ts rest : List Lexeme) → IsDirection is_descending ts rest → EndsSort rest → direction_at ts ≡ (is_descending, rest)
unfolding direction_at
direction_is _ _ _ (no_direction rest) ends = rw (ends.no_desc, ends.no_asc) refl
direction_is _ _ _ (ascending t rest h) ends = rw (other_word (codes "ASC") (codes "DESC") t rest refl refl h, one_is (is_word (codes "ASC")) t rest h) refl
direction_is _ _ _ (descending t rest h) ends = rw (one_is (is_word (codes "DESC")) t rest h) refl

direction_shorter : (is_descending : Bool) (ts rest : List Lexeme) → IsDirection is_descending ts rest → length rest ≤ length ts
direction_shorter _ _ _ (no_direction rest) = omega arith
direction_shorter _ _ _ (ascending t rest h) = omega arith
direction_shorter _ _ _ (descending t rest h) = omega arith

-- no point stands before it
pub word_no_point : (w : List ℕ) (t : Lexeme) (rest : List Lexeme) → IsTrue (is_word w t) → symbol_at (codes ".") (t ∷ rest) ≡ None
word_no_point w t rest h = let i = word_is w t h in one_not (is_symbol (codes ".")) t rest (rw i.0 refl)

sort_takes : (ts : List Lexeme) (x : SortSpecification × List Lexeme) → sort_at ts ≡ Some x → IsSort x.0 ts x.1
unfolding sort_at
sort_takes ts x e =
    let k = bind_some (key_at ts) _ x e in
    subst (λ (y : SortSpecification × List Lexeme). IsSort y.0 ts y.1) (some_same (record { key = k.0.0; is_descending = (direction_at k.0.1).0 }, (direction_at k.0.1).1) x k.2)
    (a_sort k.0.0 (direction_at k.0.1).0 ts k.0.1 (direction_at k.0.1).1 (key_takes ts k.0 k.1) (direction_takes k.0.1))

sort_is : (s : SortSpecification) (ts rest : List Lexeme) → IsSort s ts rest → EndsSort rest → sort_at ts ≡ Some (s, rest)
unfolding sort_at
sort_is _ _ _ (a_sort key is_descending ts us rest h i) ends =
    rw (key_is key ts us h, direction_is is_descending us rest i ends) refl

sort_shorter : (s : SortSpecification) (ts rest : List Lexeme) → IsSort s ts rest → length rest < length ts
sort_shorter _ _ _ (a_sort key is_descending ts us rest h i) =
    let p = key_shorter key ts us h in
    let q = direction_shorter is_descending us rest i in
    omega (arith, p, q)

sort_begins : (s : SortSpecification) (ts rest : List Lexeme) → IsSort s ts rest → Starts ts
sort_begins _ _ _ (a_sort key is_descending ts us rest h i) = key_begins key ts us h

pub sort_exact : Exact IsSort EndsSort sort_at
sort_exact = record { takes = sort_takes; is = sort_is; shorter = sort_shorter; begins = sort_begins }

-- ---- an order by clause

pub order_takes : (ts : List Lexeme) (x : List SortSpecification × List Lexeme) → order_at ts ≡ Some x → IsOrder x.0 ts x.1
unfolding order_at
order_takes = clause_takes EndsSort sort_exact comma_sort (codes "ORDER") (codes "BY") IsOrder unordered ordered

pub order_is : (order : List SortSpecification) (ts rest : List Lexeme) → IsOrder order ts rest → rest ≡ [] → order_at ts ≡ Some (order, rest)
unfolding order_at
order_is _ _ _ (unordered rest) end = rw (ap (word_at (codes "ORDER")) end ∙ one_none (is_word (codes "ORDER"))) refl
order_is _ _ _ (ordered s others w b ts us rest f g h are) end =
    let ends = subst EndsSort (sym end) none_sort in
    let none : token_at is_comma rest ≡ None = subst (λ (vs : List Lexeme). token_at is_comma vs ≡ None) (sym end) (token_none is_comma) in
    rw (
      one_is (is_word (codes "ORDER")) w (b ∷ ts) f,
      one_is (is_word (codes "BY")) b ts g,
      sort_is s ts us h (further_ends EndsSort sort_exact comma_sort others us rest are ends),
      further_is EndsSort sort_exact comma_sort others us rest are ends none,
    ) refl
