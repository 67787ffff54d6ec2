-- What is planned of a query over any tables of its entries, by what its columns and its pipelines are said to be; and which pipelines build tables.
use Rattle.std.proofs.Common.{◌≡◌, ◌≢◌, ◌∙◌, ◌⊎◌, inl, inr, ◌≤◌, ℕ, zero, suc, ◌+◌, ◌/◌, ◌%◌, ◌==◌, ◌||◌, eqb, Bool, true, false, Some, slice_get, List, [], ◌∷◌, ◌++◌, length, append_assoc, map, refl, sym, ap, ap₂, subst, arith}
use Rattle.std.specs.List.{AllByRecursion, AllZip, IsDistinct, list_any}
use Rattle.std.proofs.lemmas.List.{length-map}
use Rattle.std.proofs.lemmas.Option.{same_Some}
use Rattle.qw_types.specs.Value.{IsSized}
use Rattle.qw_types.specs.declared.schema.ColumnType.{ColumnType}
use Rattle.qw_types.specs.declared.value.Ty.{Ty}
use Rattle.qw_types.specs.declared.value.Val.{Val}
use Rattle.qw_meaning.specs.Query.{QueryParts, query_of}
use Rattle.qw_meaning.specs.Select.{AreOfEntries, Entry, IsOfEntry, Source, entries_in_rows, entries_of}
use Rattle.qw_algebra.specs.Node.{Node}
use Rattle.qw_algebra.proofs.Lists.{all_more, all_of_any}
use Rattle.qw_pipe.specs.Pipes as pipes
use Rattle.qw_pipe.specs.Pipes.{pipelines}
use Rattle.qw_physical.specs.Coded.{pipeline_of}
use Rattle.qw_physical.specs.Named.{IsDeclared, and_firsts, columns_of_entries, declared_at, numbers, typed_numbers}
use Rattle.qw_physical.specs.Physical.{Pipeline}
use Rattle.qw_physical.specs.Sides.{IsOfEntries, IsPlanned, builds_of, column_in, last_of}
use Rattle.qw_physical.specs.Spelled.{IsSamePipeline, all_spelled}
use Rattle.qw_physical.specs.declared.pipeline.Pipeline as coded
use Rattle.qw_physical.specs.declared.pipeline.ReadColumn.{ReadColumn}
use Rattle.qw_physical.proofs.QueryFew.{AreSizedColumns}
use Rattle.qw_physical.proofs.QueryScans.{ScansOne}
use Rattle.qw_physical.proofs.Reading.{same_number}
use Rattle.qw_physical.proofs.Results.{in_order}
use Rattle.qw_physical.proofs.Scaled.{query_scaled}
use Rattle.qw_physical.proofs.Shown.{IsAmong, IsColumn, Within, at_either, behind, front_is, none_among}
use Rattle.qw_operator.proofs.PairRows.{AreDistinct}
use Rattle.qw_compile.specs.QueryPasses.{ArePipelinesOf}
use Rattle.qw_compile.specs.QueryColumns.{AreColumnsOf}
use Rattle.qw_compile.specs.QueryMade.{CanStand}
use Rattle.qw_compile.specs.WrittenTexts.{texts_of_query}
use Rattle.qw_compile.proofs.InRows.{IsTypedIn, declared_of, typed_in_rows}
use Rattle.qw_compile.proofs.QueryCan.{IsReadyPipeline, query_ready, query_scans, query_stands}
use Rattle.qw_compile.proofs.ScansCounted.{pipelines_counted}
use Rattle.qw_compile.proofs.TextsWithin.{texts_within}
use Rattle.qw_physical.proofs.Firsts.{firsts_kept}

-- ---- columns of entries

one_sized : (columns : List ColumnType) (k : ℕ) (c : ColumnType) → AllByRecursion (λ (d : ColumnType). IsSized d.ty) columns → slice_get columns k ≡ Some c → IsSized c.ty
one_sized [] k c h e = absurd cc
one_sized (d ∷ columns) zero c h e = subst (λ (x : ColumnType). IsSized x.ty) (same_Some d c e) h.0
one_sized (d ∷ columns) (suc k) c h e = one_sized columns k c h.1 e

entry_sized : (entries : List Entry) (e k : ℕ) (c : ColumnType) → AllByRecursion (λ (one : Entry). AllByRecursion (λ (d : ColumnType). IsSized d.ty) one.columns) entries → column_in (slice_get entries e) k ≡ Some c → IsSized c.ty
entry_sized [] e k c h there = absurd cc
entry_sized (one ∷ entries) zero k c h there = one_sized one.columns k c h.0 there
entry_sized (one ∷ entries) (suc e) k c h there = entry_sized entries e k c h.1 there

-- columns of entries are of sizes that types may have, as the entries' are
pub are_sized : (entries : List Entry) (columns : List ReadColumn) → AllByRecursion (λ (e : Entry). AllByRecursion (λ (c : ColumnType). IsSized c.ty) e.columns) entries → AllByRecursion (IsDeclared (columns_of_entries entries)) columns → AreSizedColumns columns
are_sized entries columns sized declared =
    all_more (IsDeclared (columns_of_entries entries)) (λ (c : ReadColumn). IsSized c.ty) columns
    (λ c h. entry_sized entries (c.number / 64) (c.number % 64) (record { ty = c.ty; not_null = c.not_null }) sized (declared_of entries c h)) declared

-- those that rows have are of the same sizes
pub kept_sized : (sources : List Source) (columns : List ReadColumn) → AllByRecursion (λ (e : Entry). AllByRecursion (λ (c : ColumnType). IsSized c.ty) e.columns) (entries_of sources)
    → AllByRecursion (IsDeclared (columns_of_entries (entries_in_rows sources))) columns → AreSizedColumns columns
kept_sized sources columns sized declared =
    all_more (IsDeclared (columns_of_entries (entries_in_rows sources))) (λ (c : ReadColumn). IsSized c.ty) columns
    (λ c h.
    let typed = typed_in_rows sources c h in
    let own : ReadColumn = record c { not_null = typed.0 } in
    entry_sized (entries_of sources) (c.number / 64) (c.number % 64) (record { ty = c.ty; not_null = typed.0 }) sized (declared_of (entries_of sources) own typed.1)) declared

-- ---- columns that are named are among those that are read

-- a column of a number that is there is there with its type
found : (all : List (List ColumnType)) (columns : List ReadColumn) (c : ReadColumn) → AllByRecursion (IsDeclared all) columns → IsTypedIn all c → list_any (λ (j : ℕ). j == c.number) (numbers columns) ≡ true
    → IsAmong (typed_numbers columns) c.number c.ty
found all [] c declared own there = absurd cc
found all (d ∷ columns) c declared own there = one (d.number == c.number) refl there (λ later. found all columns c declared.1 own later)
  where
    made : ReadColumn → ColumnType
    made x = record { ty = x.ty; not_null = x.not_null }

    same : d.number ≡ c.number → IsColumn d c.number c.ty
    same e =
        let types : made d ≡ record { ty = c.ty; not_null = own.0 } = same_Some (made d) (record { ty = c.ty; not_null = own.0 }) (sym declared.0 ∙ (ap (declared_at all) e ∙ own.1)) in
        ap₂ (λ (i : ℕ) (ty : Ty). (i, ty)) e (ap (λ (x : ColumnType). x.ty) types)

    one : (b : Bool) → (d.number == c.number) ≡ b → (b || list_any (λ (j : ℕ). j == c.number) (numbers columns)) ≡ true
        → (list_any (λ (j : ℕ). j == c.number) (numbers columns) ≡ true → IsAmong (typed_numbers columns) c.number c.ty) → IsAmong (typed_numbers (d ∷ columns)) c.number c.ty
    one true e h later = front_is (d.number, d.ty) (typed_numbers columns) (c.number, c.ty) (same (same_number d.number c.number e))
    one false e h later = behind (d.number, d.ty) (typed_numbers columns) (c.number, c.ty) (later h)

itself : (front : List ℕ) (i : ℕ) (back : List ℕ) → list_any (λ (j : ℕ). j == i) (front ++ i ∷ back) ≡ true
itself [] i back = ap (λ (b : Bool). b || list_any (λ (j : ℕ). j == i) back) (same i)
  where
    same : (n : ℕ) → (n == n) ≡ true
    same n = grind (arith)
itself (x ∷ front) i back = one (x == i) (itself front i back)
  where
    one : (b : Bool) → list_any (λ (j : ℕ). j == i) (front ++ i ∷ back) ≡ true → (b || list_any (λ (j : ℕ). j == i) (front ++ i ∷ back)) ≡ true
    one true h = refl
    one false h = h

module _ (all : List (List ColumnType)) (columns : List ReadColumn) (declared : AllByRecursion (IsDeclared all) columns) where
  -- each of a list is there whose numbers all are
  all_within : (kept : List ReadColumn) → AllByRecursion (IsTypedIn all) kept → AllByRecursion (λ (c : ReadColumn). list_any (λ (j : ℕ). j == c.number) (numbers columns) ≡ true) kept → Within kept columns
  all_within [] own there i ty h = absurd (none_among (i, ty) h)
  all_within (c ∷ kept) own there i ty h =
      one (at_either (c.number, c.ty) (typed_numbers kept) (i, ty) h) (λ g. all_within kept own.1 there.1 i ty g)
    where
      one : IsColumn c i ty ⊎ IsAmong (typed_numbers kept) i ty → (IsAmong (typed_numbers kept) i ty → IsAmong (typed_numbers columns) i ty) → IsAmong (typed_numbers columns) i ty
      one (inl e) later = subst (λ (p : ℕ × Ty). IsAmong (typed_numbers columns) p.0 p.1) e (found all columns c declared own.0 there.0)
      one (inr g) later = later g

numbers_there : (ns : List ℕ) (count : ℕ) (front : List ℕ) (kept : List ReadColumn) → ns ≡ and_firsts (front ++ numbers kept) 0 count
    → AllByRecursion (λ (c : ReadColumn). list_any (λ (j : ℕ). j == c.number) ns ≡ true) kept
numbers_there ns count front [] is = tt
numbers_there ns count front (c ∷ kept) is = (
  ap (list_any (λ (j : ℕ). j == c.number)) is ∙ firsts_kept (λ (j : ℕ). j == c.number) (front ++ c.number ∷ numbers kept) 0 count (itself front c.number (numbers kept)),
  numbers_there ns count (front ++ c.number ∷ []) kept (is ∙ ap (λ (l : List ℕ). and_firsts l 0 count) (sym (append_assoc front (c.number ∷ []) (numbers kept)))),
)

pub named_within : (parts : QueryParts) (kept columns : List ReadColumn) → AreColumnsOf parts kept columns → Within kept columns
named_within parts kept columns are =
    let entries : List Entry = entries_of (query_of parts).sources in
    all_within (columns_of_entries entries) columns are.declared kept
    (all_more (IsDeclared (columns_of_entries (entries_in_rows (query_of parts).sources))) (IsTypedIn (columns_of_entries entries)) kept (typed_in_rows (query_of parts).sources) are.kept_declared)
    (numbers_there (numbers columns) (length entries) [] kept (are.read ∙ ap (λ (l : List ℕ). and_firsts l 0 (length entries)) (sym are.named)))

-- ---- columns once

apart_numbers : (n : ℕ) (columns : List ReadColumn) → AllByRecursion (λ (m : ℕ). eqb n m ≡ false) (numbers columns) → AllByRecursion (λ (d : ReadColumn). n ≢ d.number) columns
apart_numbers n [] h = tt
apart_numbers n (d ∷ columns) h = (λ e. differs n d.number h.0 e, apart_numbers n columns h.1)
  where
    differs : (a b : ℕ) → eqb a b ≡ false → a ≡ b → ⊥
    differs a b apart same = grind (arith)

pub are_distinct : (columns : List ReadColumn) → IsDistinct eqb (numbers columns) → AreDistinct columns
unfolding IsDistinct
are_distinct [] h = tt
are_distinct (c ∷ columns) h = (apart_numbers c.number columns h.0, are_distinct columns h.1)

-- ---- pipelines of the code

-- those that build tables, and the last one
pub record IsPartedOf (kept : List ReadColumn) (node : Node) (ps : List Pipeline) : Type 0 where
  pub building : List Pipeline
  pub last : Pipeline
  pub whole : ps ≡ building ++ last ∷ []
  pub same : AllZip IsSamePipeline (builds_of kept node) building
  pub same_last : IsSamePipeline (last_of kept node) last

zip_parts : (xs : List Pipeline) (x : Pipeline) (ys : List Pipeline) (y : Pipeline) → AllZip IsSamePipeline (xs ++ x ∷ []) (ys ++ y ∷ []) → AllZip IsSamePipeline xs ys × IsSamePipeline x y
zip_parts [] x [] y h = (tt, h.0)
zip_parts [] x (b ∷ []) y h = absurd h.1
zip_parts [] x (b ∷ c ∷ ys) y h = absurd h.1
zip_parts (a ∷ []) x [] y h = absurd h.1
zip_parts (a ∷ c ∷ xs) x [] y h = absurd h.1
zip_parts (a ∷ xs) x (b ∷ ys) y h = let rest = zip_parts xs x ys y h.1 in ((h.0, rest.0), rest.1)

pub parted_as : (kept : List ReadColumn) (node : Node) (ps building : List Pipeline) (last : Pipeline) → ps ≡ building ++ last ∷ [] → AllZip IsSamePipeline (all_spelled kept 0 (pipelines node)) ps
    → AllZip IsSamePipeline (builds_of kept node) building × IsSamePipeline (last_of kept node) last
parted_as kept node ps building last is h =
    zip_parts (builds_of kept node) (last_of kept node) building last (subst (λ (l : List Pipeline). AllZip IsSamePipeline (builds_of kept node ++ last_of kept node ∷ []) l) is (subst (λ (l : List Pipeline). AllZip IsSamePipeline l ps) (in_order kept node) h))

zip_long : (xs ys : List Pipeline) → AllZip IsSamePipeline xs ys → length xs ≡ length ys
zip_long [] [] h = refl
zip_long [] (y ∷ ys) h = absurd h
zip_long (x ∷ xs) [] h = absurd h
zip_long (x ∷ xs) (y ∷ ys) h = ap suc (zip_long xs ys h.1)

spelled_long : (kept : List ReadColumn) (ps : List pipes.Pipeline) (next : ℕ) → length (all_spelled kept next ps) ≡ length ps
spelled_long kept [] next = refl
spelled_long kept (p ∷ ps) next = ap suc (spelled_long kept ps (next + 1))

-- as many as the plan's
pub same_long : (kept : List ReadColumn) (ps : List pipes.Pipeline) (qs : List Pipeline) → AllZip IsSamePipeline (all_spelled kept 0 ps) qs → length ps ≡ length qs
same_long kept ps qs h = sym (spelled_long kept ps 0) ∙ zip_long (all_spelled kept 0 ps) qs h

some_entries : (sources : List Source) → 1 ≤ length sources → 1 ≤ length (entries_of sources)
some_entries [] some = some
some_entries (source ∷ sources) some = omega arith

module _ (parts : QueryParts) (kept columns : List ReadColumn) (made : List coded.Pipeline) (are : AreColumnsOf parts kept columns) (of : ArePipelinesOf parts kept made) where
  abbrev entries : List Entry
  entries = entries_of (query_of parts).sources

  abbrev rows : List Entry
  rows = entries_in_rows (query_of parts).sources

  -- over any tables of the query's entries
  pub planned : (tables : List (List (List Val))) → AreOfEntries (entries_of (query_of parts).sources) tables → IsPlanned (query_of parts) tables kept of.node
  planned tables loaded = record {
    specification = are.specification;
    loaded = loaded;
    sized = are.sized;
    there = all_more (IsDeclared (columns_of_entries rows)) (IsOfEntries rows) kept (λ c h. declared_of rows c h) are.kept_declared;
    read = are.reads;
    scaled = query_scaled parts are.specification;
    placed = of.placed;
  }

  few_rows : 0 ≤ 1000000
  few_rows = omega arith

  pub over_none : IsPlanned (query_of parts) [] kept of.node
  over_none = planned [] (all_of_any (IsOfEntry []) entries (λ e. record { few = few_rows; typed = tt }))

  -- with the query's texts
  pub all_stand : (count : ℕ) → AllByRecursion (λ (q : coded.Pipeline). CanStand count (texts_of_query parts) made columns (pipeline_of q)) made
  all_stand count =
      query_stands (query_of parts) kept columns of.node over_none are.on are.conjuncts are.items are.kept_few (kept_sized (query_of parts).sources kept are.sized are.kept_declared)
      (named_within parts kept columns are) are.each count (texts_of_query parts) made (texts_within parts kept made of) of.follow of.typed

  -- and wherever literals are
  pub all_ready : AllByRecursion (IsReadyPipeline kept columns) (map pipeline_of made)
  all_ready =
      query_ready (query_of parts) kept columns of.node over_none are.on are.conjuncts are.items are.kept_few (kept_sized (query_of parts).sources kept are.sized are.kept_declared) are.each (map pipeline_of made) of.follow of.typed

  pub all_scan : AllByRecursion (ScansOne (entries_of (query_of parts).sources)) (map pipeline_of made)
  all_scan =
      query_scans (query_of parts) kept columns of.node over_none are.on are.conjuncts are.items are.kept_few (kept_sized (query_of parts).sources kept are.sized are.kept_declared)
      (map pipeline_of made) of.follow

  -- one for each entry of FROM
  pub as_many : length made ≡ length (entries_of (query_of parts).sources)
  as_many =
      let planned = pipelines_counted (query_of parts) of.node are.specification of.placed in
      let spelled = same_long kept (pipelines of.node) (map pipeline_of made) of.same in
      let coded = length-map made pipeline_of in
      omega (arith, planned, spelled, coded)

  pub few_made : (1 ≤ length made) × (length made ≤ 8)
  few_made =
      let some : 1 ≤ length (entries_of (query_of parts).sources) = some_entries (query_of parts).sources are.specification.some_source in
      let few = are.specification.few_entries in
      (omega (arith, as_many, some), omega (arith, as_many, few))

  -- where these are the query's texts, its pipelines and its columns
  pub stand_as : (count : ℕ) (ts : List (List ℕ)) (qs : List coded.Pipeline) (cs : List ReadColumn) → ts ≡ texts_of_query parts → qs ≡ made → cs ≡ columns
      → AllByRecursion (λ (q : coded.Pipeline). CanStand count ts qs cs (pipeline_of q)) qs
  stand_as count ts qs cs texts pipelines read =
      subst (λ (l : List (List ℕ)). AllByRecursion (λ (q : coded.Pipeline). CanStand count l qs cs (pipeline_of q)) qs) (sym texts)
      (subst (λ (l : List coded.Pipeline). AllByRecursion (λ (q : coded.Pipeline). CanStand count (texts_of_query parts) l cs (pipeline_of q)) l) (sym pipelines)
      (subst (λ (l : List ReadColumn). AllByRecursion (λ (q : coded.Pipeline). CanStand count (texts_of_query parts) made l (pipeline_of q)) made) (sym read) (all_stand count)))
