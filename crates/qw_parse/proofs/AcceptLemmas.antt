-- Statements are queries or have a first fault, and so a text is a script or is refused: what the functions of src/script.rt keep.
use Rattle.std.proofs.Common.{◌≡◌, ℕ, zero, suc, ◌+◌, ◌<◌, ◌≤◌, true, false, List, [], ◌∷◌, ◌++◌, length, map, drop, get_or, Option, Some, None, Err, refl, sym, ap, subst, ◌∙◌, arith, inl, inr, append_assoc}
use Rattle.std.specs.Prelude.{◌⊎◌, IsErrOf, eqb}
use Rattle.std.specs.Borrow.{Bor}
use Rattle.std.specs.List.{AllByRecursion}
use Rattle.std.specs.Str.{IsUtf8}
use Rattle.std.proofs.lemmas.Bool.{false≢true}
use Rattle.std.proofs.lemmas.List.{append-nil, length-drop, length-map}
use Rattle.qw_token.specs.declared.token.Token.{Token}
use Rattle.qw_token.specs.declared.token.TokenFault.{TokenFault}
use Rattle.qw_token.specs.declared.token.TokenFault.TheVariants as token_faults
use Rattle.qw_token.specs.Token.{Lexeme, lexemes, AreTokens, StopsAt}
use Rattle.qw_ast.specs.declared.script.Source.{Source}
use Rattle.qw_ast.specs.declared.script.Statement.{Statement}
use Rattle.qw_ast.specs.SchemaGrammar.{IsTooDeep, exceeds, statements}
use Rattle.qw_ast.specs.ScriptGrammar.{IsSelectOf}
use Rattle.qw_ast.specs.Syntax.{Select}
use Rattle.qw_ast.specs.SyntaxTree as tree
use Rattle.qw_ast.proofs.NestingLemmas.{deep-Decides}
use Rattle.qw_ast.proofs.StatementLemmas.{drop_next, is_no_list, lexed}
use Rattle.qw_parse.specs.declared.fault.Count.TheVariants.{Statements, SelectItems, FromEntries, GroupColumns, SortKeys, Nodes, LiteralOctets}
use Rattle.qw_parse.specs.declared.fault.ParseFault.{ParseFault}
use Rattle.qw_parse.specs.declared.fault.ParseFault.TheVariants.{NotGrammar, TooDeep, TooMany, NoMemory}
use Rattle.qw_parse.specs.Script as script
use Rattle.qw_ast.specs.Limits.{AreQueries, AreTaken, IsAccepted, IsQuery, entries_of, query_columns, query_entries, query_items, query_keys, query_nodes, query_octets}
use Rattle.qw_parse.specs.Script.{AreAccepted, HasFault, HasFirstFault, IsScriptRefused, ReadsScript}
use Rattle.qw_parse.specs.Inner.Judges as judges
use Rattle.qw_parse.specs.Inner.Judges.{PassesLimit, fault_of}
use Rattle.qw_parse.specs.Inner.Readers.{select_of}
use Rattle.qw_parse.proofs.SelectLemmas.{select_read, select_is_read}

-- ---- one statement

pub deep_fault : (k : ℕ) (ts : List Lexeme) → exceeds 0 ts ≡ true → HasFault k ts (TooDeep k)
deep_fault k ts e = script.too_deep ((deep-Decides ts).0 e)

shallow_of : (ts : List Lexeme) → false ≡ exceeds 0 ts → IsTooDeep ts → ⊥
shallow_of ts e deep = false≢true (e ∙ (deep-Decides ts).1 deep)

pub not_read : (ts : List Lexeme) (s : Select) → select_of ts ≡ None → IsSelectOf ts s → ⊥
not_read ts s none is = none_some (select_of ts) s none (select_is_read ts s is)
  where
    none_some : (o : Option Select) (s : Select) → o ≡ None → o ≡ Some s → ⊥
    none_some o s none some = cc

pub grammar_fault : (k : ℕ) (ts : List Lexeme) → false ≡ exceeds 0 ts → select_of ts ≡ None → HasFault k ts (NotGrammar k)
grammar_fault k ts shallow none = script.not_grammar (shallow_of ts shallow) (λ s is. not_read ts s none is)

pub accepted_is : (ts : List Lexeme) (s : Select) → false ≡ exceeds 0 ts → select_of ts ≡ Some s → AreTaken (query_items s) (query_entries s) (query_columns s) (query_keys s) (query_nodes s) (query_octets s) → IsAccepted ts s
accepted_is ts s shallow is sizes = record {
  shallow = shallow_of ts shallow;
  query = select_read ts s is;
  sizes = sizes;
}

pub limit_fault : (k : ℕ) (ts : List Lexeme) (s : Select) (f : ParseFault) → false ≡ exceeds 0 ts → select_of ts ≡ Some s → PassesLimit k s f → HasFault k ts f
limit_fault k ts s _ shallow is (judges.passes limit first) = script.too_many (shallow_of ts shallow) s (select_read ts s is) limit first

pub many_items : (k : ℕ) (s : Select) → 64 < query_items s → PassesLimit k s (TooMany k SelectItems 64)
many_items k s many = judges.passes (record { many = query_items s; what = SelectItems; most = 64 }) (script.passed _ _ many)

-- the entries of the sources of a statement are those of its query
pub entries_same : (sources : List Source) (s : Statement) → sources ≡ s.sources.items → length (entries_of (map tree.source_of sources)) ≡ query_entries (tree.select_of s)
entries_same sources s same = ap (λ (ss : List Source). length (entries_of (map tree.source_of ss))) same

pub many_entries : (k : ℕ) (s : Select) → query_items s ≤ 64 → 8 < query_entries s → PassesLimit k s (TooMany k FromEntries 8)
many_entries k s few_items many = judges.passes (record { many = query_entries s; what = FromEntries; most = 8 }) (script.kept _ _ _ few_items (script.passed _ _ many))

-- the columns of GROUP BY of a statement are as many as those of its query
pub columns_same : (s : Statement) → query_columns (tree.select_of s) ≡ length s.grouping.items
columns_same s = length-map s.grouping.items tree.reference_of

pub many_columns : (k : ℕ) (s : Select) → query_items s ≤ 64 → query_entries s ≤ 8 → 64 < query_columns s → PassesLimit k s (TooMany k GroupColumns 64)
many_columns k s few_items few_entries many =
    judges.passes (record { many = query_columns s; what = GroupColumns; most = 64 }) (script.kept _ _ _ few_items (script.kept _ _ _ few_entries (script.passed _ _ many)))

-- the sort specifications of a statement are as many as those of its query
pub keys_same : (s : Statement) → query_keys (tree.select_of s) ≡ length s.order.items
keys_same s = length-map s.order.items tree.sort_of

-- the first three limits are kept
pub record FewColumns (s : Select) : Type 0 where
  pub items : query_items s ≤ 64
  pub entries : query_entries s ≤ 8
  pub columns : query_columns s ≤ 64

-- so of all limits the first that is passed is the first of the others
behind_columns : (k : ℕ) (s : Select) (limit : script.Limit) → FewColumns s
    → script.IsPassedFirst (record { many = query_keys s; what = SortKeys; most = 64 } ∷ record { many = query_nodes s; what = Nodes; most = 1000 } ∷ record { many = query_octets s; what = LiteralOctets; most = 16384 } ∷ []) limit → PassesLimit k s (TooMany k limit.what limit.most)
behind_columns k s limit few first = judges.passes limit (script.kept _ _ _ few.items (script.kept _ _ _ few.entries (script.kept _ _ _ few.columns first)))

pub many_keys : (k : ℕ) (s : Select) → FewColumns s → 64 < query_keys s → PassesLimit k s (TooMany k SortKeys 64)
many_keys k s few many = behind_columns k s (record { many = query_keys s; what = SortKeys; most = 64 }) few (script.passed _ _ many)

pub many_nodes : (k : ℕ) (s : Select) → FewColumns s → query_keys s ≤ 64 → 1000 < query_nodes s → PassesLimit k s (TooMany k Nodes 1000)
many_nodes k s few few_keys many = behind_columns k s (record { many = query_nodes s; what = Nodes; most = 1000 }) few (script.kept _ _ _ few_keys (script.passed _ _ many))

pub many_octets : (k : ℕ) (s : Select) → FewColumns s → query_keys s ≤ 64 → query_nodes s ≤ 1000 → 16384 < query_octets s → PassesLimit k s (TooMany k LiteralOctets 16384)
many_octets k s few few_keys few_nodes many = behind_columns k s (record { many = query_octets s; what = LiteralOctets; most = 16384 }) few (script.kept _ _ _ few_keys (script.kept _ _ _ few_nodes (script.passed _ _ many)))

-- ---- all statements

abbrev pub selects : List Statement → List Select
selects qs = map tree.select_of qs

selects_push : (qs : List Statement) (q : Statement) → selects (qs ++ q ∷ []) ≡ selects qs ++ tree.select_of q ∷ []
selects_push [] q = refl
selects_push (p ∷ qs) q = ap (λ x. tree.select_of p ∷ x) (selects_push qs q)

-- What the loop keeps behind the first i statements: with queries for the others those so far are all, and a fault of the
-- others is the first of all.
pub record Accepts (ss : List (Bor (List Token))) (qs : List Statement) (i : ℕ) : Type 0 where
  pub accepted : (rest : List Select) → AreAccepted (lexed (drop i ss)) rest → AreAccepted (lexed ss) (selects qs ++ rest)
  pub refused : (f : ParseFault) → HasFirstFault (i + 1) (lexed (drop i ss)) f → HasFirstFault 1 (lexed ss) f

pub accepts_none : (ss : List (Bor (List Token))) → Accepts ss [] 0
accepts_none ss = record { accepted = λ rest h. h; refused = λ f h. h }

pub accepts_more : (ss : List (Bor (List Token))) (qs : List Statement) (i : ℕ) (d : Bor (List Token)) (q : Statement) → i < length ss → IsAccepted (lexemes (get_or ss i d).now) (tree.select_of q) → Accepts ss qs i → Accepts ss (qs ++ q ∷ []) (i + 1)
accepts_more ss qs i d q lt is before =
    let next = ap (λ (x : List (Bor (List Token))). lexed x) (drop_next ss i d lt) in
    let ts = lexemes (get_or ss i d).now in
    let others = lexed (drop (i + 1) ss) in
    let s = tree.select_of q in
    let number : (i + 1) + 1 ≡ suc (i + 1) = omega arith in
    record {
      accepted = λ rest h.
          subst (λ x. AreAccepted (lexed ss) x) (sym (ap (λ x. x ++ rest) (selects_push qs q) ∙ append_assoc (selects qs) (s ∷ []) rest))
          (before.accepted (s ∷ rest) (subst (λ x. AreAccepted x (s ∷ rest)) (sym next) (is, h)));
      refused = λ f h. before.refused f (subst (λ x. HasFirstFault (i + 1) x f) (sym next) (script.later (i + 1) ts others s f is (subst (λ k. HasFirstFault k others f) number h)));
    }

pub accepts_fault : (ss : List (Bor (List Token))) (qs : List Statement) (i : ℕ) (d : Bor (List Token)) (f : ParseFault) → i < length ss → HasFault (i + 1) (lexemes (get_or ss i d).now) f → Accepts ss qs i → HasFirstFault 1 (lexed ss) f
accepts_fault ss qs i d f lt wrong before =
    let next = ap (λ (x : List (Bor (List Token))). lexed x) (drop_next ss i d lt) in
    before.refused f (subst (λ x. HasFirstFault (i + 1) x f) (sym next) (script.here (i + 1) (lexemes (get_or ss i d).now) (lexed (drop (i + 1) ss)) f wrong))

pub accepts_all : (ss : List (Bor (List Token))) (qs : List Statement) (i : ℕ) → length ss ≤ i → Accepts ss qs i → AreAccepted (lexed ss) (selects qs)
accepts_all ss qs i le before =
    let none : drop i ss ≡ [] = is_no_list (drop i ss) (omega (arith, length-drop i ss, le)) in
    subst (λ x. AreAccepted (lexed ss) x) (append-nil (selects qs)) (before.accepted [] (subst (λ (x : List (Bor (List Token))). AreAccepted (lexed x) []) (sym none) tt))

-- ---- a text

as_many : (ss : List (Bor (List Token))) (ts : List Lexeme) → lexed ss ≡ statements ts → length (statements ts) ≡ length ss
as_many ss ts split = sym (ap length split) ∙ length-map ss (λ s. lexemes s.now)

pub tokens_refused : {T : Type 0} (text : List ℕ) (fault : TokenFault) → (IsErrOf {T = T} (Err fault) token_faults.NotUtf8 → IsUtf8 text → ⊥) → ((n : ℕ) → IsErrOf {T = T} (Err fault) (token_faults.NotToken n) → StopsAt text n) → (fault_of fault ≡ NoMemory) ⊎ IsScriptRefused text (fault_of fault)
tokens_refused text token_faults.NotUtf8 u s = inr (script.not_utf8 (u refl))
tokens_refused text (token_faults.NotToken n) u s = inr (script.not_token n (s n refl))
tokens_refused text token_faults.NoMemory u s = inl refl

pub many_refused : (text : List ℕ) (ts : List Lexeme) (ss : List (Bor (List Token))) → AreTokens text ts → lexed ss ≡ statements ts → 64 < length ss → IsScriptRefused text (TooMany 1 Statements 64)
many_refused text ts ss a split many = script.too_many ts a (omega (arith, as_many ss ts split, many))

pub none_refused : (text : List ℕ) (ts : List Lexeme) (ss : List (Bor (List Token))) → AreTokens text ts → lexed ss ≡ statements ts → length ss ≤ 0 → IsScriptRefused text (NotGrammar 1)
none_refused text ts ss a split none = script.no_statement ts a (sym split ∙ ap lexed (is_no_list ss none))

pub fault_refused : (text : List ℕ) (ts : List Lexeme) (ss : List (Bor (List Token))) (fault : ParseFault) → AreTokens text ts → lexed ss ≡ statements ts → length ss ≤ 64
    → (fault ≡ NoMemory) ⊎ HasFirstFault 1 (lexed ss) fault → (fault ≡ NoMemory) ⊎ IsScriptRefused text fault
fault_refused text ts ss fault a split few (inl memory) = inl memory
fault_refused text ts ss fault a split few (inr wrong) =
    inr (script.statement ts fault a (omega (arith, as_many ss ts split, few)) (subst (λ x. HasFirstFault 1 x fault) split wrong))

pub script_read : (text : List ℕ) (ts : List Lexeme) (ss : List (Bor (List Token))) (qs : List Select) → AreTokens text ts → lexed ss ≡ statements ts → length ss ≤ 64 → 0 < length ss → AreAccepted (lexed ss) qs → ReadsScript text qs
script_read text ts ss qs a split few some accepted = record {
  tokens = ts;
  are_tokens = a;
  length_is = record { some = omega (arith, as_many ss ts split, some); few = omega (arith, as_many ss ts split, few) };
  accepted = subst (λ x. AreAccepted x qs) split accepted;
}

each_query : (ts : List (List Lexeme)) (qs : List Select) → AreAccepted ts qs → AllByRecursion IsQuery qs
each_query [] [] a = tt
each_query [] (q ∷ qs) a = absurd a
each_query (t ∷ ts) [] a = absurd a
each_query (t ∷ ts) (q ∷ qs) a = ((t, a.0), each_query ts qs a.1)

as_long : (ts : List (List Lexeme)) (qs : List Select) → AreAccepted ts qs → length qs ≡ length ts
as_long [] [] a = refl
as_long [] (q ∷ qs) a = absurd a
as_long (t ∷ ts) [] a = absurd a
as_long (t ∷ ts) (q ∷ qs) a = ap suc (as_long ts qs a.1)

-- what is accepted is what a script keeps
pub queries_kept : (ss : List (Bor (List Token))) (qs : List Select) → AreAccepted (lexed ss) qs → 0 < length ss → length ss ≤ 64 → AreQueries qs
queries_kept ss qs accepted some few =
    let one = as_long (lexed ss) qs accepted in
    let two = length-map ss (λ s. lexemes s.now) in
    record {
      length_is = record { some = omega (arith, one, two, some); few = omega (arith, one, two, few) };
      each = each_query (lexed ss) qs accepted;
    }

pub some_left : (n : ℕ) → false ≡ eqb n 0 → 0 < n
some_left zero e = absurd (false≢true e)
some_left (suc n) e = omega arith
