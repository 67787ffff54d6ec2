-- The entries of FROM, one after another: their faults, and how they stand in scope.
use Rattle.std.proofs.Common.{◌≡◌, ℕ, ◌+◌, ◌-◌, ◌≤◌, ◌<◌, Bool, true, false, List, [], ◌∷◌, ◌++◌, map, length, take, drop, get_or, slice_get, Option, Some, None, unwrap_or, refl, sym, ap, subst, ◌∙◌, arith, append_assoc, is_none}
use Rattle.std.specs.Prelude.{Contains}
use Rattle.std.specs.List.{list_any}
use Rattle.std.specs.Option.{option_and_then, option_map_or}
use Rattle.std.proofs.lemmas.List.Quantifiers.{position-Some}
use Rattle.std.proofs.lemmas.Option.{slice_get_read}
use Rattle.qw_types.specs.declared.schema.Column.{Column}
use Rattle.std.specs.Str.{bytes_eq}
use Rattle.std.proofs.lemmas.List.{append-nil}
use Rattle.std.proofs.lemmas.List.Elements.{Contains-append_left, Contains-append_right}
use Rattle.qw_types.specs.Schema.{AreColumns}
use Rattle.qw_types.specs.declared.schema.Table.{Table}
use Rattle.qw_ast.specs.declared.script.Entry as coded_entry
use Rattle.qw_ast.specs.declared.script.Source as coded_source
use Rattle.qw_ast.specs.Grammar.{name_of}
use Rattle.qw_ast.specs.Limits.{entries_of}
use Rattle.qw_ast.specs.Syntax as written
use Rattle.qw_ast.specs.SyntaxTree as syntax
use Rattle.qw_typer.specs.declared.fault.FaultKind.TheVariants.{DuplicateAlias, UnknownTable}
use Rattle.qw_typer.specs.declared.refusal.Refusal.{Refusal}
use Rattle.qw_typer.specs.declared.refusal.Refusal.TheVariants as refusal
use Rattle.qw_typer.specs.declared.scope.Entry.{Entry as CodeEntry}
use Rattle.qw_typer.specs.Faults.{Fault, fault_where}
use Rattle.qw_typer.specs.Meant.{Entry}
use Rattle.qw_typer.specs.Typed.{columns_of, entries_faults, entry_name, in_scope, place_of, entries_from}
use Rattle.qw_typer.specs.Inner.Queries.{HaveTables, IsOneOf}
use Rattle.qw_typer.specs.Inner.Typing.{as_entries, as_entry, spelled}
use Rattle.qw_typer.proofs.ScopeLemmas.{any_mapped}
use Rattle.qw_typer.proofs.StepLemmas.{first_rest, push_length, push_map}

abbrev pub names_in : List Entry → List (List ℕ)
names_in entries = map (λ (e : Entry). e.name) entries

push_reach : (made : List CodeEntry) (x : CodeEntry) → as_entries (made ++ x ∷ []) ≡ as_entries made ++ as_entry x ∷ []
push_reach [] x = refl
push_reach (y ∷ made) x = ap (λ es. as_entry y ∷ es) (push_reach made x)

push_names : (entries : List Entry) (e : Entry) → names_in (entries ++ e ∷ []) ≡ names_in entries ++ e.name ∷ []
push_names [] e = refl
push_names (f ∷ entries) e = ap (λ ns. f.name ∷ ns) (push_names entries e)

-- ---- what is kept while entries come

-- the faults of the rest are all faults; the entries that are made stand before the rest; and they are few
pub record EntriesWith (schema : List Table) (made : List CodeEntry) (rest all : List written.Entry) : Type 0 where
  pub faults : entries_faults schema (names_in (as_entries made)) rest ≡ entries_faults schema [] all
  pub scope : as_entries made ++ entries_from schema (length made) rest ≡ entries_from schema 0 all
  pub few : length made + length rest ≤ 8
  pub tables : HaveTables (as_entries made)

no_faults : (schema : List Table) (before : List (List ℕ)) (e : written.Entry) (es : List written.Entry) → is_none (place_of schema (name_of e.table)) ≡ false → list_any (bytes_eq (entry_name e)) before ≡ false
    → entries_faults schema before (e ∷ es) ≡ entries_faults schema (before ++ entry_name e ∷ []) es
no_faults schema before e es known fresh =
    ap (λ (b : Bool). (fault_where b UnknownTable (name_of e.table) ++ fault_where (list_any (bytes_eq (entry_name e)) before) DuplicateAlias (entry_name e)) ++ entries_faults schema (before ++ entry_name e ∷ []) es) known
    ∙ ap (λ (b : Bool). fault_where b DuplicateAlias (entry_name e) ++ entries_faults schema (before ++ entry_name e ∷ []) es) fresh

tables_push : (made : List CodeEntry) (x : CodeEntry) → HaveTables (as_entries made) → AreColumns x.columns.now → HaveTables (as_entries (made ++ x ∷ []))
tables_push [] x h one = (one, tt)
tables_push (y ∷ made) x h one = (h.0, tables_push made x h.1 one)

pub entries_kept : (schema : List Table) (made made' : List CodeEntry) (x : CodeEntry) (rest rest' all : List coded_entry.Entry) (e : coded_entry.Entry) → rest ≡ e ∷ rest' → made' ≡ made ++ x ∷ []
    → is_none (place_of schema (name_of e.table.now)) ≡ false → as_entry x ≡ in_scope schema (length made) (syntax.entry_of e) → list_any (λ (f : Entry). bytes_eq x.name f.name) (as_entries made) ≡ false → AreColumns x.columns.now
    → EntriesWith schema made (map syntax.entry_of rest) (map syntax.entry_of all) → EntriesWith schema made' (map syntax.entry_of rest') (map syntax.entry_of all)
entries_kept schema made made' x rest rest' all e first more known is fresh columns before =
    let w = syntax.entry_of e in
    let others = map syntax.entry_of rest' in
    let name : x.name ≡ entry_name w = ap (λ (f : Entry). f.name) is in
    let fresh' : list_any (bytes_eq (entry_name w)) (names_in (as_entries made)) ≡ false =
    ap (λ (n : List ℕ). list_any (bytes_eq n) (names_in (as_entries made))) (sym name) ∙ any_mapped (bytes_eq x.name) (λ (f : Entry). f.name) (as_entries made) ∙ fresh in
    let pushed : as_entries made' ≡ as_entries made ++ as_entry x ∷ [] = ap as_entries more ∙ push_reach made x in
    let names : names_in (as_entries made') ≡ names_in (as_entries made) ++ entry_name w ∷ [] = ap names_in pushed ∙ push_names (as_entries made) (as_entry x) ∙ ap (λ (n : List ℕ). names_in (as_entries made) ++ n ∷ []) name in
    let count : length made' ≡ length made + 1 = omega (arith, ap (λ (es : List CodeEntry). length es) more, push_length made x) in
    let before_faults : entries_faults schema (names_in (as_entries made)) (w ∷ others) ≡ entries_faults schema [] (map syntax.entry_of all) = rw first at before.faults in
    let before_scope : as_entries made ++ (in_scope schema (length made) w ∷ entries_from schema (length made + 1) others) ≡ entries_from schema 0 (map syntax.entry_of all) = rw first at before.scope in
    let before_few : length made + length (w ∷ others) ≤ 8 = rw first at before.few in
    record {
      faults = ap (λ (ns : List (List ℕ)). entries_faults schema ns others) names ∙ sym (no_faults schema (names_in (as_entries made)) w others known fresh') ∙ before_faults;
      scope = ap (λ (es : List Entry). es ++ entries_from schema (length made') others) pushed ∙ append_assoc (as_entries made) (as_entry x ∷ []) (entries_from schema (length made') others)
          ∙ ap (λ (f : Entry). as_entries made ++ f ∷ entries_from schema (length made') others) is
          ∙ ap (λ (n : ℕ). as_entries made ++ in_scope schema (length made) w ∷ entries_from schema n others) count
          ∙ before_scope;
      few = omega (arith, count, before_few);
      tables = rw more (tables_push made x before.tables columns);
    }

pub head_rest : {X : Type 0} (xs : List X) (d : X) → 1 ≤ length xs → xs ≡ get_or xs 0 d ∷ take (length xs - 1) (drop 1 xs)
head_rest [] d h = absurd (omega (arith, h))
head_rest (x ∷ xs) d h = first_rest (x ∷ xs) x refl h

-- ---- one entry

abbrev entry_with : List ℕ → ℕ → ℕ → List Column → Entry
entry_with name number table columns = record { name = name; number = number; table = table; columns = columns }

pub entry_found : (schema : List Table) (w : written.Entry) (number place : ℕ) (table : Table) (name : List ℕ) (columns : List Column) → place_of schema (name_of w.table) ≡ Some place → table ≡ get_or schema place table → name ≡ entry_name w
    → columns ≡ table.columns → (is_none (place_of schema (name_of w.table)) ≡ false) × (entry_with name number place columns ≡ in_scope schema number w)
entry_found schema w number place table name columns there is same columns_are =
    let before = (position-Some (λ (t : Table). bytes_eq (name_of w.table) t.name) schema place table there).0 in
    let sliced : slice_get schema place ≡ Some table = slice_get_read schema (length schema) place table refl before is in
    let of_table : columns_of schema (name_of w.table) ≡ table.columns =
    ap (λ (o : Option ℕ). option_map_or (λ (t : Table). t.columns) (option_and_then (slice_get schema) o) []) there ∙ ap (λ (o : Option Table). option_map_or (λ (t : Table). t.columns) o []) sliced in
    let at : place ≡ unwrap_or (place_of schema (name_of w.table)) 0 = sym (ap (λ (o : Option ℕ). unwrap_or o 0) there) in (
      ap (λ (o : Option ℕ). is_none o) there,
      ap (λ (n : List ℕ). entry_with n number place columns) same ∙ ap (λ (k : ℕ). entry_with (entry_name w) number k columns) at
          ∙ ap (entry_with (entry_name w) number (unwrap_or (place_of schema (name_of w.table)) 0)) (columns_are ∙ sym of_table),
    )

pub table_unknown : (schema : List Table) (name : List ℕ) → place_of schema name ≡ None → Contains (fault_where (is_none (place_of schema name)) UnknownTable name) (record { kind = UnknownTable; name = name })
table_unknown schema name none = rw none (0, omega arith, refl)

-- ---- what is refused

-- a fault of the first of the rest
pub entry_refused : (schema : List Table) (made : List CodeEntry) (rest rest' all : List coded_entry.Entry) (e : coded_entry.Entry) (r : Refusal) → rest ≡ e ∷ rest'
    → IsOneOf r (fault_where (is_none (place_of schema (name_of e.table.now))) UnknownTable (name_of e.table.now)) → EntriesWith schema made (map syntax.entry_of rest) (map syntax.entry_of all) → IsOneOf r (entries_faults schema [] (map syntax.entry_of all))
unfolding IsOneOf
entry_refused schema made rest rest' all e refusal.NoMemory first one h = tt
entry_refused schema made rest rest' all e (refusal.Fault kind token) first one h =
    let w = syntax.entry_of e in
    let fs = fault_where (is_none (place_of schema (name_of w.table))) UnknownTable (name_of w.table) in
    let gs = fault_where (list_any (bytes_eq (entry_name w)) (names_in (as_entries made))) DuplicateAlias (entry_name w) in
    let more = entries_faults schema (names_in (as_entries made) ++ entry_name w ∷ []) (map syntax.entry_of rest') in
    let fault : Fault = record { kind = kind; name = spelled token } in
    let faults : (fs ++ gs) ++ more ≡ entries_faults schema [] (map syntax.entry_of all) = rw first at h.faults in
    subst (λ (all : List Fault). Contains all fault) faults (Contains-append_left (fs ++ gs) more fault (Contains-append_left fs gs fault one))

told : (b : Bool) (name : List ℕ) → b ≡ true → Contains (fault_where b DuplicateAlias name) (record { kind = DuplicateAlias; name = name })
told true name e = (0, omega arith, refl)
told false name e = absurd cc

pub duplicate_refused : (schema : List Table) (made : List CodeEntry) (x : CodeEntry) (rest rest' all : List coded_entry.Entry) (e : coded_entry.Entry) (token : List ℕ) → rest ≡ e ∷ rest'
    → as_entry x ≡ in_scope schema (length made) (syntax.entry_of e) → list_any (λ (f : Entry). bytes_eq x.name f.name) (as_entries made) ≡ true → name_of token ≡ entry_name (syntax.entry_of e)
    → EntriesWith schema made (map syntax.entry_of rest) (map syntax.entry_of all) → Contains (entries_faults schema [] (map syntax.entry_of all)) (record { kind = DuplicateAlias; name = name_of token })
duplicate_refused schema made x rest rest' all e token first is taken spelled h =
    let w = syntax.entry_of e in
    let name : x.name ≡ entry_name w = ap (λ (f : Entry). f.name) is in
    let taken' : list_any (bytes_eq (entry_name w)) (names_in (as_entries made)) ≡ true =
    ap (λ (n : List ℕ). list_any (bytes_eq n) (names_in (as_entries made))) (sym name) ∙ any_mapped (bytes_eq x.name) (λ (f : Entry). f.name) (as_entries made) ∙ taken in
    let fs = fault_where (is_none (place_of schema (name_of w.table))) UnknownTable (name_of w.table) in
    let gs = fault_where (list_any (bytes_eq (entry_name w)) (names_in (as_entries made))) DuplicateAlias (entry_name w) in
    let more = entries_faults schema (names_in (as_entries made) ++ entry_name w ∷ []) (map syntax.entry_of rest') in
    let fault : Fault = record { kind = DuplicateAlias; name = entry_name w } in
    let faults : (fs ++ gs) ++ more ≡ entries_faults schema [] (map syntax.entry_of all) = rw first at h.faults in
    let there = told (list_any (bytes_eq (entry_name w)) (names_in (as_entries made))) (entry_name w) taken' in
    let one = subst (λ (all : List Fault). Contains all fault) faults (Contains-append_left (fs ++ gs) more fault (Contains-append_right fs gs fault there)) in
    subst (λ (n : List ℕ). Contains (entries_faults schema [] (map syntax.entry_of all)) (record { kind = DuplicateAlias; name = n })) (sym spelled) one

-- ---- the entries as they are written

pub named_kept : (made made' made'' : List coded_entry.Entry) (rest rest' : List coded_source.Source) (s : coded_source.Source) (all : List written.Entry) → rest ≡ s ∷ rest' → made' ≡ made ++ s.first ∷ []
    → map syntax.entry_of made'' ≡ map syntax.entry_of made' ++ map (λ (j : written.Joined). j.entry) (map syntax.joined_of s.joins.items)
    → map syntax.entry_of made ++ entries_of (map syntax.source_of rest) ≡ all → map syntax.entry_of made'' ++ entries_of (map syntax.source_of rest') ≡ all
named_kept made made' made'' rest rest' s all first more joined before =
    let joins = map (λ (j : written.Joined). j.entry) (map syntax.joined_of s.joins.items) in
    let others = entries_of (map syntax.source_of rest') in
    let next : map syntax.entry_of made ++ ((syntax.entry_of s.first ∷ joins) ++ others) ≡ all = rw first at before in
    ap (λ es. es ++ others) joined ∙ append_assoc (map syntax.entry_of made') joins others
    ∙ ap (λ (es : List coded_entry.Entry). map syntax.entry_of es ++ (joins ++ others)) more
    ∙ push_map syntax.entry_of made s.first (joins ++ others) ∙ next

pub named_end : (made : List coded_entry.Entry) (rest : List coded_source.Source) (all : List written.Entry) → length rest < 1 → map syntax.entry_of made ++ entries_of (map syntax.source_of rest) ≡ all → map syntax.entry_of made ≡ all
named_end made [] all none h = sym (append-nil (map syntax.entry_of made)) ∙ h
named_end made (s ∷ rest) all none h = absurd (omega (arith, none))
