-- GROUP BY is read exactly; and it ends what stands before it, as ORDER BY does.
use Rattle.std.proofs.Common.{Option, ◌≡◌, ℕ, ◌<◌, List, [], ◌∷◌, length, Some, None, refl, sym, subst, arith}
use Rattle.std.specs.Prelude.{codes}
use Rattle.qw_token.specs.Token.{Lexeme}
use Rattle.qw_ast.specs.Syntax.{Reference, SortSpecification}
use Rattle.qw_ast.specs.ScriptGrammar.{is_word, is_symbol, is_comma, IsOperator, IsReference, a_bare_reference, a_qualified_reference, IsGrouping, ungrouped, grouped, IsOrder, unordered, ordered}
use Rattle.qw_parse.specs.Inner.Readers.{word_at, symbol_at, reference_at, grouping_at}
use Rattle.qw_parse.proofs.TokenLemmas.{symbol_is, one_is, one_not, one_none}
use Rattle.qw_parse.proofs.ExactLemmas.{Starts, Exact, comma_is, further_is, further_ends, clause_takes, names_take, one_name, two_names, other_word}
use Rattle.qw_parse.proofs.NameLemmas.{EndsFilter, none_filter, word_filter}
use Rattle.qw_parse.proofs.OrderLemmas.{name_begins, word_no_point}

-- ---- what ends a column reference, a group by clause and a having clause

-- no point
pub record EndsReference (ts : List Lexeme) : Type 0 where
  pub no_point : symbol_at (codes ".") ts ≡ None

-- nothing that goes on with a where clause or a column reference, and no GROUP
pub record EndsGrouping (ts : List Lexeme) : Type 0 where
  pub filter : EndsFilter ts
  pub no_point : symbol_at (codes ".") ts ≡ None
  pub no_group : word_at (codes "GROUP") ts ≡ None

-- and no HAVING
pub record EndsHaving (ts : List Lexeme) : Type 0 where
  pub grouping : EndsGrouping ts
  pub no_having : word_at (codes "HAVING") ts ≡ None

none_having : EndsHaving []
none_having = record { grouping = record { filter = none_filter; no_point = one_none (is_symbol (codes ".")); no_group = one_none (is_word (codes "GROUP")) }; no_having = one_none (is_word (codes "HAVING")) }

pub order_next : (order : List SortSpecification) (ts rest : List Lexeme) → IsOrder order ts rest → rest ≡ [] → EndsHaving ts
order_next _ _ _ (unordered rest) end = subst EndsHaving (sym end) none_having
order_next _ _ _ (ordered s others w b ts us rest f g h are) end = record {
  grouping = record {
    filter = word_filter (codes "ORDER") w (b ∷ ts) refl refl refl refl refl refl refl refl f;
    no_point = word_no_point (codes "ORDER") w (b ∷ ts) f;
    no_group = other_word (codes "ORDER") (codes "GROUP") w (b ∷ ts) refl refl f;
  };
  no_having = other_word (codes "ORDER") (codes "HAVING") w (b ∷ ts) refl refl f;
}

-- ---- a column reference

abbrev referred : Option (List ℕ) → List ℕ → Reference
referred qualifier name = record { qualifier = qualifier; name = name }

reference_takes : (ts : List Lexeme) (x : Reference × List Lexeme) → reference_at ts ≡ Some x → IsReference x.0 ts x.1
unfolding reference_at
reference_takes = names_take referred IsReference a_bare_reference a_qualified_reference

reference_is : (r : Reference) (ts rest : List Lexeme) → IsReference r ts rest → EndsReference rest → reference_at ts ≡ Some (r, rest)
unfolding reference_at
reference_is _ _ _ (a_bare_reference t rest h) ends = one_name referred t rest h ends.no_point
reference_is _ _ _ (a_qualified_reference q p t rest h f i) ends = two_names referred q p t rest h f i

reference_shorter : (r : Reference) (ts rest : List Lexeme) → IsReference r ts rest → length rest < length ts
reference_shorter _ _ _ (a_bare_reference t rest h) = omega arith
reference_shorter _ _ _ (a_qualified_reference q p t rest h f i) = omega arith

reference_begins : (r : Reference) (ts rest : List Lexeme) → IsReference r ts rest → Starts ts
reference_begins _ _ _ (a_bare_reference t rest h) = name_begins t rest h
reference_begins _ _ _ (a_qualified_reference q p t rest h f i) = name_begins q (p ∷ t ∷ rest) h

pub reference_exact : Exact IsReference EndsReference reference_at
reference_exact = record { takes = reference_takes; is = reference_is; shorter = reference_shorter; begins = reference_begins }

comma_reference : (o : Unit {0}) (ts rest : List Lexeme) → IsOperator is_comma o ts rest → EndsReference ts
comma_reference = comma_is EndsReference (λ t rest h. let i = symbol_is (codes ",") t h in record { no_point = one_not (is_symbol (codes ".")) t rest (rw (i.0, i.1) refl) })

-- ---- a group by clause

pub grouping_takes : (ts : List Lexeme) (x : List Reference × List Lexeme) → grouping_at ts ≡ Some x → IsGrouping x.0 ts x.1
unfolding grouping_at
grouping_takes = clause_takes EndsReference reference_exact comma_reference (codes "GROUP") (codes "BY") IsGrouping ungrouped grouped

pub grouping_is : (rs : List Reference) (ts rest : List Lexeme) → IsGrouping rs ts rest → EndsGrouping rest → grouping_at ts ≡ Some (rs, rest)
unfolding grouping_at
grouping_is _ _ _ (ungrouped rest) ends = rw ends.no_group refl
grouping_is _ _ _ (grouped r others w b ts us rest f g h are) ends =
    let last : EndsReference rest = record { no_point = ends.no_point } in
    rw (
      one_is (is_word (codes "GROUP")) w (b ∷ ts) f,
      one_is (is_word (codes "BY")) b ts g,
      reference_is r ts us h (further_ends EndsReference reference_exact comma_reference others us rest are last),
      further_is EndsReference reference_exact comma_reference others us rest are last ends.filter.no_comma,
    ) refl

pub grouping_next : (rs : List Reference) (ts rest : List Lexeme) → IsGrouping rs ts rest → EndsGrouping rest → EndsFilter ts
grouping_next _ _ _ (ungrouped rest) ends = ends.filter
grouping_next _ _ _ (grouped r others w b ts us rest f g h are) ends = word_filter (codes "GROUP") w (b ∷ ts) refl refl refl refl refl refl refl refl f
