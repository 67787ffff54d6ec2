-- What told files hold is one, and a file that is accepted isn't refused.
use Rattle.std.proofs.Common.{◌≡◌, ℕ, suc, ◌+◌, ◌<◌, ◌≤◌, List, [], ◌∷◌, ◌++◌, Option, Some, None, inl, inr, refl, sym, subst, length, ap, ◌∙◌, arith}
use Rattle.std.specs.Prelude.{IsSomeAnd}
use Rattle.std.proofs.lemmas.Bool.{cases_lt}
use Rattle.qw_types.specs.Contents.{Contents}
use Rattle.qw_types.specs.declared.schema.ColumnType.{ColumnType}
use Rattle.qw_types.specs.declared.schema.Table.{Table}
use Rattle.qw_types.specs.declared.value.Val.{Val}
use Rattle.qw_csv.specs.Loading.{IsFirstPartFault, LoadsParts}
use Rattle.qw_csv.proofs.PartLaws.{parts_or_fail, same_first_part, same_loads_parts}
use Rattle.qw_schema.specs.Parse.{IsRefused, ReadsSchema}
use Rattle.qw_parse.specs.Script.{IsScriptRefused}
use Rattle.qw_parse.proofs.ScriptLemmas.{refused_one, script_or_refused}
use Rattle.qw_schema.proofs.SchemaLemmas.{IsRefused-unique, ReadsSchema-unique, reads_or_refused}
use Rattle.qw_top.specs.Causes.{AreOne, Cause, queries_refused, schema_refused, table_refused, table_too_long}
use Rattle.qw_top.specs.FileNames.{file_of, told_part}
use Rattle.qw_top.specs.Limits.{most_table_octets, most_text_octets}
use Rattle.qw_top.specs.Top.{Asked, AsksFor, HasQueries, HasTables, HoldAll, HoldFrom, IsFile, IsLongPart, IsMistyped, IsNextTable, IsTooLong, Names, QueriesAre, SchemaIs, TableIs, TablesAre}
use Rattle.qw_top.specs.Inner.Inputs.{IsNoSchema, IsNoScript, IsNoTable}
use Rattle.qw_top.proofs.AskedLemmas.{AsksFor-unique, asked_or_mistyped, mistyped_one}

-- ---- one file

-- the octets of a file are told once
same_octets : (o : Option (List ℕ)) (a b : List ℕ) → IsSomeAnd o (λ file. file ≡ a) → IsSomeAnd o (λ file. file ≡ b) → a ≡ b
same_octets None a b h k = absurd h
same_octets (Some file) a b h k = cc

short_or_long : (o : Option (List ℕ)) (a : List ℕ) (limit : ℕ) → IsSomeAnd o (λ file. file ≡ a) → length a ≤ limit → IsSomeAnd o (λ file. limit < length file) → ⊥
short_or_long None a limit h short long = h
short_or_long (Some file) a limit h short long = let e : length file ≡ length a = ap length h in omega arith

module _ (told : List ℕ → Option (List ℕ)) where
  pub IsFile-unique : (name : List ℕ) (limit : ℕ) (a b : List ℕ) → IsFile (Some told) name limit a → IsFile (Some told) name limit b → a ≡ b
  IsFile-unique name limit a b h k = same_octets (told name) a b h.there k.there

  pub IsFile-short : (name : List ℕ) (limit : ℕ) (a : List ℕ) → IsFile (Some told) name limit a → IsTooLong (Some told) name limit → ⊥
  IsFile-short name limit a h long = short_or_long (told name) a limit h.there h.short long

  -- ---- the schema

  pub SchemaIs-unique : (name : List ℕ) (a b : List Table) → SchemaIs (Some told) name a → SchemaIs (Some told) name b → a ≡ b
  SchemaIs-unique name a b h k =
      let e = IsFile-unique name most_text_octets h.text k.text h.file k.file in
      ReadsSchema-unique k.text a b (subst (λ (t : List ℕ). ReadsSchema t a) e h.reads) k.reads

  pub SchemaIs-refused : (name : List ℕ) (schema : List Table) (cause : Cause) → SchemaIs (Some told) name schema → IsNoSchema (Some told) name cause → ⊥
  SchemaIs-refused name schema cause h (inl (is, long)) = IsFile-short name most_text_octets h.text h.file long
  SchemaIs-refused name schema cause h (inr (fault, text, is, file, refused)) =
      let e = IsFile-unique name most_text_octets h.text text h.file file in
      reads_or_refused text schema fault (subst (λ (t : List ℕ). ReadsSchema t schema) e h.reads) refused

  pub IsNoSchema-unique : (name : List ℕ) (cause other : Cause) → IsNoSchema (Some told) name cause → IsNoSchema (Some told) name other → cause ≡ other
  IsNoSchema-unique name cause other (inl (is, long)) (inl (is', long')) = is ∙ sym is'
  IsNoSchema-unique name cause other (inl (is, long)) (inr (fault, text, is', file, refused)) = absurd (IsFile-short name most_text_octets text file long)
  IsNoSchema-unique name cause other (inr (fault, text, is, file, refused)) (inl (is', long)) = absurd (IsFile-short name most_text_octets text file long)
  IsNoSchema-unique name cause other (inr (fault, text, is, file, refused)) (inr (fault', text', is', file', refused')) =
      let e = IsFile-unique name most_text_octets text text' file file' in
      let f = IsRefused-unique text' fault fault' (subst (λ (t : List ℕ). IsRefused t fault) e refused) refused' in
      is ∙ ap schema_refused f ∙ sym is'

  -- ---- a table

  abbrev contents : List ColumnType → List (List Val) → Contents
  contents columns rows = record { columns = columns; rows = rows }

  same_contents : (a b : Contents) → a.columns ≡ b.columns → a.rows ≡ b.rows → a ≡ b
  same_contents a b columns rows = ap (λ c. contents c a.rows) columns ∙ ap (λ r. contents b.columns r) rows

  -- the files of a table hold one list of octets, as long as it is
  HoldFrom-unique : (names : Names) (table : List ℕ) (a b : List (List ℕ)) (part : ℕ) → length a ≡ length b → HoldFrom (Some told) names table a part → HoldFrom (Some told) names table b part → a ≡ b
  HoldFrom-unique names table [] [] part same h k = refl
  HoldFrom-unique names table [] (other ∷ b) part same h k = absurd (omega (arith, same))
  HoldFrom-unique names table (bytes ∷ a) [] part same h k = absurd (omega (arith, same))
  HoldFrom-unique names table (bytes ∷ a) (other ∷ b) part same h k =
      ap (λ (x : List ℕ). x ∷ a) (IsFile-unique (file_of names.folder names.parts table part) most_table_octets bytes other h.0 k.0)
      ∙ ap (λ (xs : List (List ℕ)). other ∷ xs) (HoldFrom-unique names table a b (suc part) (omega (arith, same)) h.1 k.1)

  HoldAll-unique : (names : Names) (table : List ℕ) (a b : List (List ℕ)) → HoldAll (Some told) names table a → HoldAll (Some told) names table b → a ≡ b
  HoldAll-unique names table a b h k = HoldFrom-unique names table a b 1 (h.all ∙ sym k.all) h.each k.each

  -- a file that is too long isn't among those that are within the limit
  held_short : (names : Names) (table : List ℕ) (parts : List (List ℕ)) (from part : ℕ) → HoldFrom (Some told) names table parts from → from ≤ part → part < from + length parts →
      IsTooLong (Some told) (file_of names.folder names.parts table part) most_table_octets → ⊥
  held_short names table [] from part h low high long = absurd (omega (arith, low, high))
  held_short names table (bytes ∷ parts) from part h low high long =
      elim (cases_lt from part) [
        | inl later ↦ held_short names table parts (suc from) part h.1 (omega (arith, later)) (omega (arith, high)) long
        | inr first ↦
            let same : from ≡ part = omega (arith, low, first) in
            IsFile-short (file_of names.folder names.parts table part) most_table_octets bytes
            (subst (λ (n : ℕ). IsFile (Some told) (file_of names.folder names.parts table n) most_table_octets bytes) same h.0) long
      ]

  -- one file of a table is the first that is too long
  one_long : (names : Names) (table : Table) (part other : ℕ) → IsLongPart (Some told) names table part → IsLongPart (Some told) names table other → part ≡ other
  one_long names table part other (next, long) (next', long') =
      elim (cases_lt part other) [
        | inl less ↦ absurd (held_short names table.name next'.before 1 part next'.held (omega (arith, next.next)) (omega (arith, less, next'.next)) long)
        | inr more ↦
            elim (cases_lt other part) [
              | inl less ↦ absurd (held_short names table.name next.before 1 other next.held (omega (arith, next'.next)) (omega (arith, less, next.next)) long')
              | inr same ↦ omega (arith, more, same)
            ]
      ]

  -- and none is where all are within the limit
  none_long : (names : Names) (table : Table) (parts : List (List ℕ)) (part : ℕ) → HoldAll (Some told) names table.name parts → IsLongPart (Some told) names table part → ⊥
  none_long names table parts part held (next, long) =
      held_short names table.name parts 1 part held.each (omega (arith, next.next)) (omega (arith, next.few, held.all)) long

  pub TableIs-unique : (names : Names) (table : Table) (a b : Contents) → TableIs (Some told) names table a → TableIs (Some told) names table b → a ≡ b
  TableIs-unique names table a b h k =
      let e = HoldAll-unique names table.name h.parts k.parts h.held k.held in
      same_contents a b (h.columns ∙ sym k.columns)
      (same_loads_parts table names.null k.parts a.rows b.rows (subst (λ (p : List (List ℕ)). LoadsParts table names.null p a.rows) e h.loads) k.loads)

  pub TableIs-refused : (names : Names) (table : Table) (one : Contents) (cause : Cause) → TableIs (Some told) names table one → IsNoTable (Some told) names table cause → ⊥
  TableIs-refused names table one cause h (inl (part, is, long)) = none_long names table h.parts part h.held long
  TableIs-refused names table one cause h (inr (part, fault, is, (parts, held, fails))) =
      let e = HoldAll-unique names table.name h.parts parts h.held held in
      parts_or_fail table names.null parts one.rows part fault (subst (λ (p : List (List ℕ)). LoadsParts table names.null p one.rows) e h.loads) fails

  pub IsNoTable-unique : (names : Names) (table : Table) (cause other : Cause) → IsNoTable (Some told) names table cause → IsNoTable (Some told) names table other → cause ≡ other
  IsNoTable-unique names table cause other (inl (part, is, long)) (inl (part', is', long')) =
      is ∙ ap (λ (n : ℕ). table_too_long table (told_part names.parts n)) (one_long names table part part' long long') ∙ sym is'
  IsNoTable-unique names table cause other (inl (part, is, long)) (inr (part', fault, is', (parts, held, fails))) = absurd (none_long names table parts part held long)
  IsNoTable-unique names table cause other (inr (part, fault, is, (parts, held, fails))) (inl (part', is', long)) = absurd (none_long names table parts part' held long)
  IsNoTable-unique names table cause other (inr (part, fault, is, (parts, held, fails))) (inr (part', fault', is', (parts', held', fails'))) =
      let e = HoldAll-unique names table.name parts parts' held held' in
      let (same, f) = same_first_part table names.null parts' part part' fault fault' (subst (λ (p : List (List ℕ)). IsFirstPartFault table names.null p part fault) e fails) fails' in
      is ∙ ap (λ (n : ℕ). table_refused table (told_part names.parts n) fault) same ∙ ap (table_refused table (told_part names.parts part')) f ∙ sym is'

  -- ---- the tables of a schema

  pub TablesAre-unique : (names : Names) (tables : List Table) (a b : List Contents) → TablesAre (Some told) names tables a → TablesAre (Some told) names tables b → a ≡ b
  TablesAre-unique names [] [] [] h k = refl
  TablesAre-unique names [] [] (two ∷ b) h k = absurd k
  TablesAre-unique names [] (one ∷ a) b h k = absurd h
  TablesAre-unique names (table ∷ tables) [] b h k = absurd h
  TablesAre-unique names (table ∷ tables) (one ∷ a) [] h k = absurd k
  TablesAre-unique names (table ∷ tables) (one ∷ a) (two ∷ b) h k =
      ap (λ (x : Contents). x ∷ a) (TableIs-unique names table one two h.0 k.0) ∙ ap (λ (xs : List Contents). two ∷ xs) (TablesAre-unique names tables a b h.1 k.1)

  -- where all tables were accepted, one of them was
  accepted_at : (names : Names) (before : List Table) (table : Table) (behind : List Table) (tables : List Contents) →
      TablesAre (Some told) names (before ++ table ∷ behind) tables → (one : Contents) × TableIs (Some told) names table one
  accepted_at names [] table behind [] h = absurd h
  accepted_at names [] table behind (one ∷ tables) h = (one, h.0)
  accepted_at names (first ∷ before) table behind [] h = absurd h
  accepted_at names (first ∷ before) table behind (one ∷ tables) h = accepted_at names before table behind tables h.1

  -- the first table whose file isn't accepted is one
  first_refused : (names : Names) (before other : List Table) (table next : Table) (behind rest : List Table) (a b : List Contents) →
      before ++ table ∷ behind ≡ other ++ next ∷ rest → TablesAre (Some told) names before a → TablesAre (Some told) names other b →
      ((one : Contents) → TableIs (Some told) names table one → ⊥) → ((one : Contents) → TableIs (Some told) names next one → ⊥) → table ≡ next
  first_refused names [] [] table next behind rest a b same h k none none' = cc
  first_refused names [] (o ∷ other) table next behind rest a [] same h k none none' = absurd k
  first_refused names [] (o ∷ other) table next behind rest a (two ∷ b) same h k none none' =
      let is : o ≡ table = cc in absurd (none two (subst (λ (t : Table). TableIs (Some told) names t two) is k.0))
  first_refused names (x ∷ before) other table next behind rest [] b same h k none none' = absurd h
  first_refused names (x ∷ before) [] table next behind rest (one ∷ a) b same h k none none' =
      let is : x ≡ next = cc in absurd (none' one (subst (λ (t : Table). TableIs (Some told) names t one) is h.0))
  first_refused names (x ∷ before) (o ∷ other) table next behind rest (one ∷ a) [] same h k none none' = absurd k
  first_refused names (x ∷ before) (o ∷ other) table next behind rest (one ∷ a) (two ∷ b) same h k none none' =
      let tails : before ++ table ∷ behind ≡ other ++ next ∷ rest = cc in
      first_refused names before other table next behind rest a b tails h.1 k.1 none none'

  -- ---- the queries

  pub QueriesAre-unique : (name : List ℕ) (schema : List Table) (a b : List Asked) → QueriesAre (Some told) name schema a → QueriesAre (Some told) name schema b → a ≡ b
  QueriesAre-unique name schema a b h k =
      let e = IsFile-unique name most_text_octets h.text k.text h.file k.file in
      AsksFor-unique schema k.text a b (subst (λ (t : List ℕ). AsksFor schema t a) e h.asks) k.asks

  pub QueriesAre-refused : (name : List ℕ) (schema : List Table) (queries : List Asked) (cause : Cause) → QueriesAre (Some told) name schema queries → IsNoScript (Some told) name schema cause → ⊥
  QueriesAre-refused name schema queries cause h (inl (is, long)) = IsFile-short name most_text_octets h.text h.file long
  QueriesAre-refused name schema queries cause h (inr (inl (fault, text, is, file, refused))) =
      let e = IsFile-unique name most_text_octets h.text text h.file file in
      let asks = subst (λ (t : List ℕ). AsksFor schema t queries) e h.asks in
      script_or_refused text asks.script fault asks.reads refused
  QueriesAre-refused name schema queries cause h (inr (inr (fault, text, is, file, mistyped))) =
      let e = IsFile-unique name most_text_octets h.text text h.file file in
      asked_or_mistyped schema text queries fault (subst (λ (t : List ℕ). AsksFor schema t queries) e h.asks) mistyped

  pub IsNoScript-one : (name : List ℕ) (schema : List Table) (cause other : Cause) → IsNoScript (Some told) name schema cause → IsNoScript (Some told) name schema other → AreOne cause other
  IsNoScript-one name schema cause other (inl (is, long)) (inl (is', long')) = inl (is ∙ sym is')
  IsNoScript-one name schema cause other (inl (is, long)) (inr (inl (fault, text, is', file, refused))) = absurd (IsFile-short name most_text_octets text file long)
  IsNoScript-one name schema cause other (inl (is, long)) (inr (inr (fault, text, is', file, mistyped))) = absurd (IsFile-short name most_text_octets text file long)
  IsNoScript-one name schema cause other (inr (inl (fault, text, is, file, refused))) (inl (is', long)) = absurd (IsFile-short name most_text_octets text file long)
  IsNoScript-one name schema cause other (inr (inr (fault, text, is, file, mistyped))) (inl (is', long)) = absurd (IsFile-short name most_text_octets text file long)
  IsNoScript-one name schema cause other (inr (inl (fault, text, is, file, refused))) (inr (inl (fault', text', is', file', refused'))) =
      let e = IsFile-unique name most_text_octets text text' file file' in
      let f = refused_one text' fault fault' (subst (λ (t : List ℕ). IsScriptRefused t fault) e refused) refused' in
      inl (is ∙ ap queries_refused f ∙ sym is')
  IsNoScript-one name schema cause other (inr (inl (fault, text, is, file, refused))) (inr (inr (fault', text', is', file', mistyped))) =
      let e = IsFile-unique name most_text_octets text text' file file' in
      absurd (script_or_refused text' mistyped.0 fault mistyped.1 (subst (λ (t : List ℕ). IsScriptRefused t fault) e refused))
  IsNoScript-one name schema cause other (inr (inr (fault, text, is, file, mistyped))) (inr (inl (fault', text', is', file', refused))) =
      let e = IsFile-unique name most_text_octets text' text file' file in
      absurd (script_or_refused text mistyped.0 fault' mistyped.1 (subst (λ (t : List ℕ). IsScriptRefused t fault') e refused))
  IsNoScript-one name schema cause other (inr (inr (fault, text, is, file, mistyped))) (inr (inr (fault', text', is', file', mistyped'))) =
      let e = IsFile-unique name most_text_octets text text' file file' in
      mistyped_one schema text' fault fault' cause other is is' (subst (λ (t : List ℕ). IsMistyped schema t fault) e mistyped) mistyped'

  -- ---- all files

  pub HasTables-unique : (names : Names) (schema other : List Table) (a b : List Contents) → HasTables (Some told) names schema a → HasTables (Some told) names other b → (schema ≡ other) × (a ≡ b)
  HasTables-unique names schema other a b h k =
      let e = SchemaIs-unique names.schema schema other h.declared k.declared in
      (e, TablesAre-unique names other a b (subst (λ (s : List Table). TablesAre (Some told) names s a) e h.loaded) k.loaded)

  pub HasQueries-unique : (names : Names) (schema other_schema : List Table) (tables other_tables : List Contents) (queries other_queries : List Asked) →
      HasQueries (Some told) names schema tables queries → HasQueries (Some told) names other_schema other_tables other_queries →
      (schema ≡ other_schema) × (tables ≡ other_tables) × (queries ≡ other_queries)
  HasQueries-unique names schema other_schema tables other_tables queries other_queries h k =
      let e = HasTables-unique names schema other_schema tables other_tables h.before k.before in (
        e.0,
        e.1,
        QueriesAre-unique names.queries other_schema queries other_queries (subst (λ (s : List Table). QueriesAre (Some told) names.queries s queries) e.0 h.asked) k.asked,
      )

  -- a table's file isn't refused where all tables were accepted
  pub next_accepted : (names : Names) (table : Table) (schema : List Table) (tables : List Contents) (cause : Cause) →
      IsNextTable (Some told) names table → HasTables (Some told) names schema tables → IsNoTable (Some told) names table cause → ⊥
  next_accepted names table schema tables cause next h none =
      let e = SchemaIs-unique names.schema schema (next.before ++ table ∷ next.behind) h.declared next.declared in
      let one = accepted_at names next.before table next.behind tables (subst (λ (s : List Table). TablesAre (Some told) names s tables) e h.loaded) in
      TableIs-refused names table one.0 cause one.1 none

  -- and the first one that is refused is one
  pub one_refused : (names : Names) (table other : Table) (cause cause' : Cause) → IsNextTable (Some told) names table → IsNextTable (Some told) names other →
      IsNoTable (Some told) names table cause → IsNoTable (Some told) names other cause' → table ≡ other
  one_refused names table other cause cause' h k none none' =
      let e = SchemaIs-unique names.schema (h.before ++ table ∷ h.behind) (k.before ++ other ∷ k.behind) h.declared k.declared in
      first_refused names h.before k.before table other h.behind k.behind h.contents k.contents e h.loaded k.loaded
      (λ one is. TableIs-refused names table one cause is none)
      (λ one is. TableIs-refused names other one cause' is none')
