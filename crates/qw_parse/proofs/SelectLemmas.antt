-- Queries are read exactly, where expressions and conditions are; so tokens are one query at most.
use Rattle.std.proofs.Common.{ℕ, ◌≡◌, ◌<◌, ◌≤◌, Bool, List, [], ◌∷◌, length, Option, Some, None, refl, sym, ap, subst, ◌∙◌, arith, inl, inr}
use Rattle.std.specs.Prelude.{codes, IsTrue}
use Rattle.std.specs.Option.{option_map_or}
use Rattle.qw_token.specs.Token.{Lexeme}
use Rattle.qw_ast.specs.Syntax.{Condition, Clause, condition, expression, SelectItem, Selected, all_columns, items, Entry, Joined, Source, Reference, SortSpecification, Select}
use Rattle.qw_ast.specs.ScriptGrammar.{is_word, is_symbol, is_comma, first, more, IsNothing, nothing, IsNested, IsItem, item, IsSelectList, asterisk, some_items, IsQuantifier, no_quantifier, all_rows, distinct_rows, IsFilter, unfiltered, filtered, IsEntry, IsJoin, IsJoined, a_joined, with_join, AreJoins, IsSource, a_source, AreSources, some_sources, IsGrouping, IsHaving, no_having, a_having, IsOrder, IsSelect, a_select, IsSelectOf}
use Rattle.qw_parse.specs.Inner.Readers.{◌>>=◌, token_at, word_at, symbol_at, given, further_at, expression_at, condition_at, the_condition, nested_at, naming_at, item_at, select_list_at, quantifier_at, filter_at, entry_at, join_at, joined_at, join_on, joins_at, source_at, sources_at, grouping_at, having_at, order_at, select_at, whole, select_of}
use Rattle.qw_parse.proofs.LoopLemmas.{Shortens, bind_some, cases_option, series_holds, series_is, some_same}
use Rattle.qw_parse.proofs.TokenLemmas.{word_is, Front, front, one_takes, one_is, one_holds, token_not, Stops}
use Rattle.qw_parse.proofs.ExactLemmas.{Starts, starts_not, starts_no_asterisk, Exact, given_is, series_front, further_takes, further_is, further_ends, words_take, no_word, other_word, word_stops}
use Rattle.qw_parse.proofs.PrimaryLemmas.{expression_takes, expression_is}
use Rattle.qw_parse.proofs.ConditionLemmas.{nested_exact, the_condition_is}
use Rattle.qw_parse.proofs.NameLemmas.{EndsName, EndsItem, EndsSource, EndsFilter, comma_ends, from_ends, word_ends, naming_takes, naming_is, naming_shorter, naming_stops, entry_takes, entry_is, entry_shorter, entry_begins, join_takes, join_is, join_shorter, join_shortens, join_ends, no_join_word, comma_source, word_filter}
use Rattle.qw_parse.proofs.OrderLemmas.{word_no_point, order_takes, order_is}
use Rattle.qw_parse.proofs.GroupLemmas.{EndsGrouping, EndsHaving, grouping_takes, grouping_is, grouping_next, order_next}

-- ---- ALL and DISTINCT

quantifier_takes : (ts : List Lexeme) → IsQuantifier (quantifier_at ts).0 ts (quantifier_at ts).1
unfolding quantifier_at
quantifier_takes ts = words_take (codes "DISTINCT") (codes "ALL") IsQuantifier no_quantifier distinct_rows all_rows ts (quantifier_at ts) refl

quantifier_is : (distinct : Bool) (ts rest : List Lexeme) → IsQuantifier distinct ts rest → word_at (codes "DISTINCT") rest ≡ None → word_at (codes "ALL") rest ≡ None → quantifier_at ts ≡ (distinct, rest)
unfolding quantifier_at
quantifier_is _ _ _ (no_quantifier rest) no_distinct no_all = rw (no_distinct, no_all) refl
quantifier_is _ _ _ (all_rows t rest h) no_distinct no_all = rw (other_word (codes "ALL") (codes "DISTINCT") t rest refl refl h, one_is (is_word (codes "ALL")) t rest h) refl
quantifier_is _ _ _ (distinct_rows t rest h) no_distinct no_all = rw (one_is (is_word (codes "DISTINCT")) t rest h) refl

module _ (Inner : Clause → List Lexeme → List Lexeme → Type 0) (inner : List Lexeme → Option (Clause × List Lexeme)) (reads : Exact Inner (Stops 1) inner) where
  -- ---- a select list

  item_takes : (ts : List Lexeme) (x : SelectItem × List Lexeme) → item_at inner ts ≡ Some x → IsItem Inner x.0 ts x.1
  unfolding item_at
  item_takes ts x e =
      let v = bind_some (expression_at inner ts) _ x e in
      let n = bind_some (naming_at v.0.1) _ x v.2 in
      subst (λ (y : SelectItem × List Lexeme). IsItem Inner y.0 ts y.1) (some_same (record { value = v.0.0; name = n.0.0 }, n.0.1) x n.2)
      (item v.0.0 n.0.0 ts v.0.1 n.0.1 (expression_takes Inner inner reads ts v.0 v.1) (naming_takes v.0.1 n.0 n.1))

  item_is : (i : SelectItem) (ts rest : List Lexeme) → IsItem Inner i ts rest → EndsItem rest → item_at inner ts ≡ Some (i, rest)
  unfolding item_at
  item_is _ _ _ (item e n ts us rest h i) ends = rw (expression_is Inner inner reads e ts us h (naming_stops n us rest i ends.stops), naming_is n us rest i ends.name) refl

  item_shorter : (i : SelectItem) (ts rest : List Lexeme) → IsItem Inner i ts rest → length rest < length ts
  item_shorter _ _ _ (item e n ts us rest h i) =
      let p = reads.shorter (expression e) ts us h in
      let q = naming_shorter n us rest i in
      omega (arith, p, q)

  item_begins : (i : SelectItem) (ts rest : List Lexeme) → IsItem Inner i ts rest → Starts ts
  item_begins _ _ _ (item e n ts us rest h i) = reads.begins (expression e) ts us h

  pub item_exact : Exact (IsItem Inner) EndsItem (item_at inner)
  item_exact = record { takes = item_takes; is = item_is; shorter = item_shorter; begins = item_begins }

  select_list_takes : (ts : List Lexeme) (x : Selected × List Lexeme) → select_list_at inner ts ≡ Some x → IsSelectList Inner x.0 ts x.1
  unfolding select_list_at
  select_list_takes ts x e =
      elim (cases_option (symbol_at (codes "*") ts)) [
        | inr rest ↦ subst (λ (y : Selected × List Lexeme). IsSelectList Inner y.0 ts y.1) (some_same (all_columns, rest.0) x (rw rest.1 at e)) (one_holds (is_symbol (codes "*")) (λ us. IsSelectList Inner all_columns us rest.0) ts rest.0 (λ t h. asterisk t rest.0 h) rest.1)
        | inl none ↦ (
            let i = bind_some (item_at inner ts) _ x (rw none at e) in
            let rest' = bind_some (further_at (item_at inner) i.0.1) _ x i.2 in
            subst (λ (y : Selected × List Lexeme). IsSelectList Inner y.0 ts y.1) (some_same (items (i.0.0 ∷ rest'.0.0), rest'.0.1) x rest'.2)
            (some_items i.0.0 rest'.0.0 ts i.0.1 rest'.0.1 (item_takes ts i.0 i.1) (further_takes EndsItem item_exact comma_ends i.0.1 rest'.0 rest'.1)))
      ]

  select_list_is : (l : Selected) (ts rest : List Lexeme) → IsSelectList Inner l ts rest → EndsItem rest → token_at is_comma rest ≡ None → select_list_at inner ts ≡ Some (l, rest)
  unfolding select_list_at
  select_list_is _ _ _ (asterisk t rest h) ends none = rw (one_is (is_symbol (codes "*")) t rest h) refl
  select_list_is _ _ _ (some_items i xs ts us rest h are) ends none =
      rw (starts_no_asterisk ts (item_begins i ts us h), item_is i ts us h (further_ends EndsItem item_exact comma_ends xs us rest are ends), further_is EndsItem item_exact comma_ends xs us rest are ends none) refl

  select_list_no_all : (l : Selected) (ts rest : List Lexeme) → IsSelectList Inner l ts rest → word_at (codes "ALL") ts ≡ None
  select_list_no_all _ _ _ (asterisk t rest h) = no_word (codes "*") (codes "ALL") t rest h
  select_list_no_all _ _ _ (some_items i xs ts us rest h are) = starts_not (codes "ALL") refl refl ts (item_begins i ts us h)

  select_list_no_distinct : (l : Selected) (ts rest : List Lexeme) → IsSelectList Inner l ts rest → word_at (codes "DISTINCT") ts ≡ None
  select_list_no_distinct _ _ _ (asterisk t rest h) = no_word (codes "*") (codes "DISTINCT") t rest h
  select_list_no_distinct _ _ _ (some_items i xs ts us rest h are) = starts_not (codes "DISTINCT") refl refl ts (item_begins i ts us h)

  -- ---- WHERE and HAVING

  inner_condition_takes : (ts : List Lexeme) (x : Condition × List Lexeme) → condition_at inner ts ≡ Some x → Inner (condition x.0) ts x.1
  unfolding condition_at
  inner_condition_takes ts x e =
      let c = bind_some (inner ts) _ x e in
      let d = bind_some (the_condition c.0.0) _ x c.2 in
      subst (λ (y : Condition × List Lexeme). Inner (condition y.0) ts y.1) (some_same (d.0, c.0.1) x d.2) (subst (λ y. Inner y ts c.0.1) (the_condition_is c.0.0 d.0 d.1) (reads.takes ts c.0 c.1))

  tested_takes : (w : List ℕ) (Is : Option Condition → List Lexeme → List Lexeme → Type 0) → ((ts : List Lexeme) → Is None ts ts) → ((c : Condition) (t : Lexeme) (ts rest : List Lexeme) → IsTrue (is_word w t) → Inner (condition c) ts rest → Is (Some c) (t ∷ ts) rest)
      → (ts : List Lexeme) (x : Option Condition × List Lexeme) → option_map_or (λ us. condition_at inner us >>= (λ c. Some (Some c.0, c.1))) (word_at w ts) (Some (None, ts)) ≡ Some x → Is x.0 ts x.1
  tested_takes w Is none some ts x e =
      let R = λ (y : Option Condition × List Lexeme). Is y.0 ts y.1 in
      elim (cases_option (word_at w ts)) [
        | inl no_word ↦ subst R (some_same (None, ts) x (rw no_word at e)) (none ts)
        | inr us ↦ (
            let c = bind_some (condition_at inner us.0) _ x (rw us.1 at e) in
            subst R (some_same (Some c.0.0, c.0.1) x c.2) (one_holds (is_word w) (λ vs. Is (Some c.0.0) vs c.0.1) ts us.0 (λ t f. some c.0.0 t us.0 c.0.1 f (inner_condition_takes us.0 c.0 c.1)) us.1))
      ]

  filter_takes : (ts : List Lexeme) (x : Option Condition × List Lexeme) → filter_at inner ts ≡ Some x → IsFilter Inner x.0 ts x.1
  unfolding filter_at
  filter_takes = tested_takes (codes "WHERE") (IsFilter Inner) unfiltered filtered

  filter_is : (f : Option Condition) (ts rest : List Lexeme) → IsFilter Inner f ts rest → EndsFilter rest → filter_at inner ts ≡ Some (f, rest)
  unfolding filter_at condition_at
  filter_is _ _ _ (unfiltered rest) ends = rw ends.no_where refl
  filter_is _ _ _ (filtered c w ts rest f h) ends = rw (one_is (is_word (codes "WHERE")) w ts f, reads.is (condition c) ts rest h ends.source.item.stops) refl

  filter_next : (f : Option Condition) (ts rest : List Lexeme) → IsFilter Inner f ts rest → EndsFilter rest → EndsSource ts × (token_at is_comma ts ≡ None)
  filter_next _ _ _ (unfiltered rest) ends = (ends.source, ends.no_comma)
  filter_next _ _ _ (filtered c w ts rest f h) ends =
      let i = word_is (codes "WHERE") w f in (
        record {
          item = record { stops = word_stops (codes "WHERE") 1 w ts refl refl (omega arith) f; name = word_ends (codes "WHERE") w ts refl refl refl f };
          no_join = no_join_word (codes "WHERE") w ts refl refl refl refl f;
        },
        token_not is_comma w ts (rw i.0 refl),
      )

  having_takes : (ts : List Lexeme) (x : Option Condition × List Lexeme) → having_at inner ts ≡ Some x → IsHaving Inner x.0 ts x.1
  unfolding having_at
  having_takes = tested_takes (codes "HAVING") (IsHaving Inner) no_having a_having

  having_is : (h : Option Condition) (ts rest : List Lexeme) → IsHaving Inner h ts rest → EndsHaving rest → having_at inner ts ≡ Some (h, rest)
  unfolding having_at condition_at
  having_is _ _ _ (no_having rest) ends = rw ends.no_having refl
  having_is _ _ _ (a_having c w ts rest f h) ends = rw (one_is (is_word (codes "HAVING")) w ts f, reads.is (condition c) ts rest h ends.grouping.filter.source.item.stops) refl

  having_next : (h : Option Condition) (ts rest : List Lexeme) → IsHaving Inner h ts rest → EndsHaving rest → EndsGrouping ts
  having_next _ _ _ (no_having rest) ends = ends.grouping
  having_next _ _ _ (a_having c w ts rest f h) ends = record {
    filter = word_filter (codes "HAVING") w ts refl refl refl refl refl refl refl refl f;
    no_point = word_no_point (codes "HAVING") w ts f;
    no_group = other_word (codes "HAVING") (codes "GROUP") w ts refl refl f;
  }

  -- ---- FROM

  joined_takes : (ts : List Lexeme) (x : (Entry × Condition) × List Lexeme) → joined_at inner ts ≡ Some x → IsJoined Inner x.0 ts x.1
  unfolding joined_at
  joined_takes ts x e =
      let h = bind_some (entry_at ts) _ x e in
      let us = bind_some (word_at (codes "ON") h.0.1) _ x h.2 in
      let c = bind_some (condition_at inner us.0) _ x us.2 in
      subst (λ (y : (Entry × Condition) × List Lexeme). IsJoined Inner y.0 ts y.1) (some_same ((h.0.0, c.0.0), c.0.1) x c.2)
      (one_holds (is_word (codes "ON")) (λ vs. IsEntry h.0.0 ts vs → IsJoined Inner (h.0.0, c.0.0) ts c.0.1) h.0.1 us.0 (λ t f i. a_joined h.0.0 c.0.0 t ts us.0 c.0.1 i f (inner_condition_takes us.0 c.0 c.1)) us.1 (entry_takes ts h.0 h.1))

  joined_is : (j : Entry × Condition) (ts rest : List Lexeme) → IsJoined Inner j ts rest → Stops 1 rest → joined_at inner ts ≡ Some (j, rest)
  unfolding joined_at condition_at
  joined_is _ _ _ (a_joined e c w ts us rest h f i) ends =
      rw (entry_is e ts (w ∷ us) h (word_ends (codes "ON") w us refl refl refl f), one_is (is_word (codes "ON")) w us f, reads.is (condition c) us rest i ends) refl

  joined_shorter : (j : Entry × Condition) (ts rest : List Lexeme) → IsJoined Inner j ts rest → length rest < length ts
  joined_shorter _ _ _ (a_joined e c w ts us rest h f i) =
      let p = entry_shorter e ts (w ∷ us) h in
      let q = reads.shorter (condition c) us rest i in
      omega (arith, p, q)

  pub joined_shortens : Shortens (joined_at inner)
  joined_shortens ts x e = joined_shorter x.0 ts x.1 (joined_takes ts x e)

  joins_take : (ts : List Lexeme) (x : List Joined × List Lexeme) → joins_at inner ts ≡ Some x → AreJoins Inner x.0 ts x.1
  unfolding joins_at
  joins_take =
      series_holds join_at (joined_at inner) join_on (AreJoins Inner)
      (λ xs ys o b ts us vs rest h link item joins.
      subst (λ (y : List Joined). AreJoins Inner y ts rest) (some_same (with_join o xs b) ys joins)
      (more xs o b ts us vs rest h (join_takes us (o, vs) link) (joined_takes vs (b, rest) item)))
      (given [])
      (λ ts x e. let same = some_same ([], ts) x e in subst (λ (y : List Joined × List Lexeme). AreJoins Inner y.0 ts y.1) same (first [] ts ts (nothing ts)))

  joins_are : (js : List Joined) (ts rest : List Lexeme) → AreJoins Inner js ts rest → Stops 1 rest → join_at rest ≡ None → joins_at inner ts ≡ Some (js, rest)
  unfolding joins_at
  joins_are js ts rest h ends none =
      series_is join_at (joined_at inner) join_on (λ (ys : List Joined). ys) (λ (y : Entry × Condition). y) IsNothing IsJoin (IsJoined Inner) with_join (Stops 1)
      (λ o a c. refl)
      join_is
      joined_is
      (λ o c us vs ws between item. (join_ends o us vs between).stops)
      join_shortens joined_shortens
      (given [])
      (λ ys us vs nothing_is ends. given_is ys us vs nothing_is)
      js ts rest h ends none

  joins_end : (js : List Joined) (ts rest : List Lexeme) → AreJoins Inner js ts rest → EndsName rest → EndsName ts
  joins_end js ts rest h ends =
      elim (series_front EndsName (λ o us vs between. (join_ends o us vs between).name) js ts rest h) [
        | inl none ↦ subst EndsName (sym none.1) ends
        | inr hit ↦ hit
      ]

  joins_shorter : (js : List Joined) (ts rest : List Lexeme) → AreJoins Inner js ts rest → length rest ≤ length ts
  joins_shorter _ _ _ (first _ _ _ (nothing rest)) = omega arith
  joins_shorter _ _ _ (more js o j ts us vs rest h between operand) =
      let p = joins_shorter js ts us h in
      let q = join_shorter o us vs between in
      let r = joined_shorter j vs rest operand in
      omega (arith, p, q, r)

  source_takes : (ts : List Lexeme) (x : Source × List Lexeme) → source_at inner ts ≡ Some x → IsSource Inner x.0 ts x.1
  unfolding source_at
  source_takes ts x e =
      let h = bind_some (entry_at ts) _ x e in
      let js = bind_some (joins_at inner h.0.1) _ x h.2 in
      subst (λ (y : Source × List Lexeme). IsSource Inner y.0 ts y.1) (some_same (record { first = h.0.0; joins = js.0.0 }, js.0.1) x js.2)
      (a_source h.0.0 js.0.0 ts h.0.1 js.0.1 (entry_takes ts h.0 h.1) (joins_take h.0.1 js.0 js.1))

  source_is : (s : Source) (ts rest : List Lexeme) → IsSource Inner s ts rest → EndsSource rest → source_at inner ts ≡ Some (s, rest)
  unfolding source_at
  source_is _ _ _ (a_source e js ts us rest h i) ends = rw (entry_is e ts us h (joins_end js us rest i ends.item.name), joins_are js us rest i ends.item.stops ends.no_join) refl

  source_shorter : (s : Source) (ts rest : List Lexeme) → IsSource Inner s ts rest → length rest < length ts
  source_shorter _ _ _ (a_source e js ts us rest h i) =
      let p = entry_shorter e ts us h in
      let q = joins_shorter js us rest i in
      omega (arith, p, q)

  source_begins : (s : Source) (ts rest : List Lexeme) → IsSource Inner s ts rest → Starts ts
  source_begins _ _ _ (a_source e js ts us rest h i) = entry_begins e ts us h

  pub source_exact : Exact (IsSource Inner) EndsSource (source_at inner)
  source_exact = record { takes = source_takes; is = source_is; shorter = source_shorter; begins = source_begins }

  sources_take : (ts : List Lexeme) (x : List Source × List Lexeme) → sources_at inner ts ≡ Some x → AreSources Inner x.0 ts x.1
  unfolding sources_at
  sources_take ts x e =
      let s = bind_some (source_at inner ts) _ x e in
      let others = bind_some (further_at (source_at inner) s.0.1) _ x s.2 in
      subst (λ (y : List Source × List Lexeme). AreSources Inner y.0 ts y.1) (some_same (s.0.0 ∷ others.0.0, others.0.1) x others.2)
      (some_sources s.0.0 others.0.0 ts s.0.1 others.0.1 (source_takes ts s.0 s.1) (further_takes EndsSource source_exact comma_source s.0.1 others.0 others.1))

  sources_are : (ss : List Source) (ts rest : List Lexeme) → AreSources Inner ss ts rest → EndsSource rest → token_at is_comma rest ≡ None → sources_at inner ts ≡ Some (ss, rest)
  unfolding sources_at
  sources_are _ _ _ (some_sources s others ts us rest h are) ends none =
      rw (source_is s ts us h (further_ends EndsSource source_exact comma_source others us rest are ends), further_is EndsSource source_exact comma_source others us rest are ends none) refl

  -- ---- a query

  select_made : (distinct : Bool) (l : Selected) (ss : List Source) (f : Option Condition) (g : List Reference) (h : Option Condition) (order : List SortSpecification) (ts us vs ws xs ys zs gs hs rest : List Lexeme) → Front (is_word (codes "SELECT")) ts us → IsQuantifier distinct us vs
      → IsSelectList Inner l vs ws → Front (is_word (codes "FROM")) ws xs → AreSources Inner ss xs ys → IsFilter Inner f ys zs → IsGrouping g zs gs → IsHaving Inner h gs hs → IsOrder order hs rest
      → IsSelect Inner (record { distinct = distinct; selected = l; sources = ss; filter = f; grouping = g; having = h; order = order }) ts rest
  select_made distinct l ss f g h order _ us vs _ xs ys zs gs hs rest (front w _ a) all i (front v _ b) j k m n o = a_select distinct l ss f g h order w v us vs xs ys zs gs hs rest a all i b j k m n o

  pub select_takes : (ts : List Lexeme) (x : Select × List Lexeme) → select_at inner ts ≡ Some x → IsSelect Inner x.0 ts x.1
  unfolding select_at
  select_takes ts x e =
      let us = bind_some (word_at (codes "SELECT") ts) _ x e in
      let l = bind_some (select_list_at inner (quantifier_at us.0).1) _ x us.2 in
      let vs = bind_some (word_at (codes "FROM") l.0.1) _ x l.2 in
      let ss = bind_some (sources_at inner vs.0) _ x vs.2 in
      let f = bind_some (filter_at inner ss.0.1) _ x ss.2 in
      let g = bind_some (grouping_at f.0.1) _ x f.2 in
      let h = bind_some (having_at inner g.0.1) _ x g.2 in
      let o = bind_some (order_at h.0.1) _ x h.2 in
      subst (λ (y : Select × List Lexeme). IsSelect Inner y.0 ts y.1) (some_same (record { distinct = (quantifier_at us.0).0; selected = l.0.0; sources = ss.0.0; filter = f.0.0; grouping = g.0.0; having = h.0.0; order = o.0.0 }, o.0.1) x o.2)
      (select_made (quantifier_at us.0).0 l.0.0 ss.0.0 f.0.0 g.0.0 h.0.0 o.0.0 ts us.0 (quantifier_at us.0).1 l.0.1 vs.0 ss.0.1 f.0.1 g.0.1 h.0.1 o.0.1 (one_takes (is_word (codes "SELECT")) ts us.0 us.1) (quantifier_takes us.0) (select_list_takes (quantifier_at us.0).1 l.0 l.1)
      (one_takes (is_word (codes "FROM")) l.0.1 vs.0 vs.1) (sources_take vs.0 ss.0 ss.1) (filter_takes ss.0.1 f.0 f.1) (grouping_takes f.0.1 g.0 g.1) (having_takes g.0.1 h.0 h.1) (order_takes h.0.1 o.0 o.1))

  from_no_comma : (t : Lexeme) (rest : List Lexeme) → IsTrue (is_word (codes "FROM") t) → token_at is_comma (t ∷ rest) ≡ None
  from_no_comma t rest h = let i = word_is (codes "FROM") t h in token_not is_comma t rest (rw i.0 refl)

  pub select_is : (s : Select) (ts rest : List Lexeme) → IsSelect Inner s ts rest → rest ≡ [] → select_at inner ts ≡ Some (s, rest)
  unfolding select_at
  select_is _ _ _ (a_select distinct l ss f g h order w v ts us vs ws xs ys zs rest a all i b j k m n o) end =
      let behind_having = order_next order zs rest o end in
      let behind_grouping = having_next h ys zs n behind_having in
      let behind_filter = grouping_next g xs ys m behind_grouping in
      let behind_sources = filter_next f ws xs k behind_filter in
      rw (
        one_is (is_word (codes "SELECT")) w ts a,
        quantifier_is distinct ts us all (select_list_no_distinct l us (v ∷ vs) i) (select_list_no_all l us (v ∷ vs) i),
        select_list_is l us (v ∷ vs) i (from_ends v vs b) (from_no_comma v vs b),
        one_is (is_word (codes "FROM")) v vs b,
        sources_are ss vs ws j behind_sources.0 behind_sources.1,
        filter_is f ws xs k behind_filter,
        grouping_is g xs ys m behind_grouping,
        having_is h ys zs n behind_having,
        order_is order zs rest o end,
      ) refl

-- ---- all tokens

whole_some : (o : Option (Select × List Lexeme)) (s : Select) → whole o ≡ Some s → o ≡ Some (s, [])
whole_some None s e = absurd cc
whole_some (Some (t, [])) s e = ap (λ (x : Select). Some (x, [])) (some_same t s e)
whole_some (Some (t, u ∷ us)) s e = absurd cc

-- what is read is the query that the tokens are
pub select_read : (ts : List Lexeme) (s : Select) → select_of ts ≡ Some s → IsSelectOf ts s
unfolding select_of
select_read ts s e = select_takes (IsNested 33) (nested_at 33) (nested_exact 33) ts (s, []) (whole_some (select_at (nested_at 33) ts) s e)

-- the query that they are is read
pub select_is_read : (ts : List Lexeme) (s : Select) → IsSelectOf ts s → select_of ts ≡ Some s
unfolding select_of
select_is_read ts s h = rw (select_is (IsNested 33) (nested_at 33) (nested_exact 33) s ts [] h refl) refl

-- so they are one at most
pub one_select : (ts : List Lexeme) (s t : Select) → IsSelectOf ts s → IsSelectOf ts t → s ≡ t
one_select ts s t h i = some_same s t (sym (select_is_read ts s h) ∙ select_is_read ts t i)
