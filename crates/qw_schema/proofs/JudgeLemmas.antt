-- A statement declares a table or has a fault, and is judged so.
use Rattle.std.proofs.Common.{◌≡◌, ◌≢◌, ℕ, zero, suc, ◌<◌, ◌≤◌, Bool, true, false, ltb, ◌||◌, List, [], ◌∷◌, length, map, Some, None, Result, Ok, Err, refl, sym, ap, subst, ◌∙◌, arith, inl, inr, le-ltb}
use Rattle.std.specs.Prelude.{◌⊎◌, ◌&&◌, nat_le, Contains, IfSome}
use Rattle.std.specs.Bool.{Decides}
use Rattle.std.specs.List.{AllByRecursion, list_any}
use Rattle.std.specs.Str.{bytes_eq}
use Rattle.std.proofs.lemmas.Bool.{and_parts, leb-true, cases_Bool, or_cases, or_left, or_right, or_parts, lt-ltb, ltb-true, ltb-false, false≢true}
use Rattle.std.proofs.lemmas.List.{length-map}
use Rattle.std.proofs.lemmas.Map.Views.{Contains-from_any}
use Rattle.std.proofs.lemmas.Slice.Eq.{bytes_eq-Decides}
use Rattle.qw_types.specs.declared.schema.Column.{Column}
use Rattle.qw_types.specs.declared.schema.Table.{Table}
use Rattle.qw_types.specs.declared.value.Ty.{Ty}
use Rattle.qw_types.specs.declared.value.Ty.TheVariants as types
use Rattle.qw_types.specs.Schema.{AreColumns, AreDistinct}
use Rattle.qw_types.specs.Value.{IsSized}
use Rattle.qw_token.specs.Token.{Lexeme}
use Rattle.qw_ast.specs.SchemaGrammar.{IsTableOf, IsTooDeep, exceeds, is_sized}
use Rattle.qw_ast.proofs.NestingLemmas.{deep-Decides, shallow_test}
use Rattle.qw_schema.specs.declared.parse.SchemaFault.{SchemaFault}
use Rattle.qw_schema.specs.declared.parse.SchemaFault.TheVariants.{NotGrammar, TooDeep, TooMany, Duplicate, BadSize}
use Rattle.qw_schema.specs.declared.parse.Count.TheVariants.{Columns}
use Rattle.qw_schema.specs.Parse as parse
use Rattle.qw_schema.specs.Parse.{IsTwice, here, later, IsDuplicate, IsDeclared, HasFault}
use Rattle.qw_schema.specs.Inner.Parser.{all_of}
use Rattle.qw_schema.specs.Inner.Tables.{sized, create_table_at}
use Rattle.qw_schema.specs.Inner.Judges.{AreSized, Read, name_in, is_twice, columns_of, is_named, judged}
use Rattle.qw_schema.proofs.TerminalLemmas.{any_from_contains, bind_some, cases_option, none_not_some, some_same}
use Rattle.qw_schema.proofs.TableLemmas.{column_tree, table_tree, table_read, table_is_read, table_some}

-- ---- names

abbrev names_in : List Table → List (List ℕ)
names_in before = map (λ (t : Table). t.name) before

named_any : (before : List Table) (name : List ℕ) → is_named before name ≡ list_any (bytes_eq name) (names_in before)
named_any [] name = refl
named_any (t ∷ ts) name = ap (λ b. bytes_eq name t.name || b) (named_any ts name)

contains-Decides : (name : List ℕ) (names : List (List ℕ)) → Decides (list_any (bytes_eq name) names) (Contains names name)
contains-Decides name names = (
  λ e. Contains-from_any (λ x y. (bytes_eq-Decides x y).0) name names e,
  λ h. any_from_contains names name h,
)

twice_is : (names : List (List ℕ)) → is_twice names ≡ true → IsTwice names
twice_is [] e = absurd (false≢true e)
twice_is (name ∷ names) e =
    elim (or_cases (list_any (bytes_eq name) names) (is_twice names) e) [
      | inl again ↦ here name names ((contains-Decides name names).0 again)
      | inr more ↦ later name names (twice_is names more)
    ]

is_twice_of : (names : List (List ℕ)) → IsTwice names → is_twice names ≡ true
is_twice_of all (here name names again) = or_left (list_any (bytes_eq name) names) (is_twice names) ((contains-Decides name names).1 again)
is_twice_of all (later name names more) = or_right (list_any (bytes_eq name) names) (is_twice names) (is_twice_of names more)

-- names of the columns that are read
abbrev column_names : List Column → List (List ℕ)
column_names cs = map (λ (c : Column). c.name) cs

read_names : (cs : List Column) → map name_in (map (column_tree sized) cs) ≡ column_names cs
read_names [] = refl
read_names (c ∷ cs) = ap (λ x. c.name ∷ x) (read_names cs)

-- the test of `checked`
abbrev duplicate_test : List Table → Table → Bool
duplicate_test before t = is_named before t.name || is_twice (map name_in (map (column_tree sized) t.columns))

duplicate-Decides : (before : List Table) (t : Table) → Decides (duplicate_test before t) (IsDuplicate before t)
duplicate-Decides before t = (
  λ e. elim (or_cases (is_named before t.name) (is_twice (map name_in (map (column_tree sized) t.columns))) e) [
    | inl named ↦ inl ((contains-Decides t.name (names_in before)).0 (sym (named_any before t.name) ∙ named))
    | inr twice ↦ inr (twice_is (column_names t.columns) (subst (λ x. is_twice x ≡ true) (read_names t.columns) twice))
  ],
  λ h. elim h [
    | inl named ↦ or_left (is_named before t.name) _ (named_any before t.name ∙ (contains-Decides t.name (names_in before)).1 named)
    | inr twice ↦ or_right (is_named before t.name) _ (subst (λ x. is_twice x ≡ true) (sym (read_names t.columns)) (is_twice_of (column_names t.columns) twice))
  ],
)

-- ---- sizes

abbrev IsBadIn : List Column → Type 0
IsBadIn cs = (c : Column) × Contains cs c × (is_sized c.ty ≡ false)

bad_later : (c : Column) (cs : List Column) → IsBadIn cs → IsBadIn (c ∷ cs)
bad_later c cs bad = (bad.0, (suc bad.1.0, omega (arith, bad.1.1), bad.1.2), bad.2)

bad_first : (c : Column) (cs : List Column) → IsBadIn (c ∷ cs) → (is_sized c.ty ≡ false) ⊎ IsBadIn cs
bad_first c cs (b, (zero, lt, same), bad) = inl (ap (λ (x : Column). is_sized x.ty) same ∙ bad)
bad_first c cs (b, (suc k, lt, same), bad) = inr (b, (k, omega (arith, lt), same), bad)

abbrev ColumnsCase : List Column → Type 0
ColumnsCase cs =
    ((columns_of (map (column_tree sized) cs) ≡ Some cs) × (IsBadIn cs → ⊥)) ⊎ ((columns_of (map (column_tree sized) cs) ≡ None) × IsBadIn cs)

columns_case : (cs : List Column) → ColumnsCase cs
columns_case [] = inl (refl, λ bad. omega (arith, bad.1.1))
columns_case (c ∷ cs) =
    elim (cases_Bool (is_sized c.ty)) [
      | inr bad ↦ inr (rw bad refl, (c, (0, omega arith, refl), bad))
      | inl good ↦ elim (columns_case cs) [
        | inl fine ↦ inl (
          rw (good, fine.0) refl,
          λ bad. elim (bad_first c cs bad) [
            | inl first ↦ false≢true (sym first ∙ good)
            | inr more ↦ fine.1 more
          ],
        )
        | inr wrong ↦ inr (rw (good, wrong.0) refl, bad_later c cs wrong.1)
      ]
    ]

columns_fine : (cs : List Column) → (IsBadIn cs → ⊥) → columns_of (map (column_tree sized) cs) ≡ Some cs
columns_fine cs fine =
    elim (columns_case cs) [
      | inl is ↦ is.0
      | inr wrong ↦ absurd (fine wrong.1)
    ]

columns_wrong : (cs : List Column) → IsBadIn cs → columns_of (map (column_tree sized) cs) ≡ None
columns_wrong cs bad =
    elim (columns_case cs) [
      | inl is ↦ absurd (is.1 bad)
      | inr wrong ↦ wrong.0
    ]

-- ---- one statement

few_test : (t : Table) → length t.columns ≤ 64 → ltb 64 (length (map (column_tree sized) t.columns)) ≡ false
few_test t few = le-ltb 64 (length (map (column_tree sized) t.columns)) (omega (arith, few, length-map t.columns (column_tree sized)))

single_test : (before : List Table) (t : Table) → (IsDuplicate before t → ⊥) → duplicate_test before t ≡ false
single_test before t single =
    elim (cases_Bool (duplicate_test before t)) [
      | inl e ↦ absurd (single ((duplicate-Decides before t).0 e))
      | inr e ↦ e
    ]

none_read : (ts : List Lexeme) → ((table : Table) → IsTableOf ts table → ⊥) → all_of (create_table_at sized) ts ≡ None
none_read ts none =
    elim (cases_option (all_of (create_table_at sized) ts)) [
      | inl e ↦ e
      | inr some ↦ (let t = table_read sized ts some.0 some.1 in absurd (none t.0 t.2))
    ]

pub declared_judged : (before : List Table) (k : ℕ) (ts : List Lexeme) (t : Table) → IsDeclared before ts t → judged before k ts ≡ Ok t
declared_judged before k ts t h =
    rw (shallow_test ts h.shallow, table_is_read sized ts t h.definition, few_test t h.few, single_test before t h.single, columns_fine t.columns h.sizes) refl

pub fault_judged : (before : List Table) (k : ℕ) (ts : List Lexeme) (f : SchemaFault) → HasFault before k ts f → judged before k ts ≡ Err f
fault_judged before k ts f (parse.too_deep deep) = rw ((deep-Decides ts).1 deep) refl
fault_judged before k ts f (parse.not_grammar shallow none) = rw (shallow_test ts shallow, none_read ts none) refl
fault_judged before k ts f (parse.too_many shallow t is many) =
    rw (shallow_test ts shallow, table_is_read sized ts t is, lt-ltb 64 (length (map (column_tree sized) t.columns)) (omega (arith, many, length-map t.columns (column_tree sized)))) refl
fault_judged before k ts f (parse.duplicate shallow t is few again) =
    rw (shallow_test ts shallow, table_is_read sized ts t is, few_test t few, (duplicate-Decides before t).1 again) refl
fault_judged before k ts f (parse.bad_size shallow t is few single bad) =
    rw (shallow_test ts shallow, table_is_read sized ts t is, few_test t few, single_test before t single, columns_wrong t.columns bad) refl

-- it declares a table, or has a fault
abbrev StatementCase : List Table → ℕ → List Lexeme → Type 0
StatementCase before k ts = ((t : Table) × IsDeclared before ts t) ⊎ ((f : SchemaFault) × HasFault before k ts f)

table_case : (before : List Table) (k : ℕ) (ts : List Lexeme) (t : Table) → (IsTooDeep ts → ⊥) → IsTableOf ts t → StatementCase before k ts
table_case before k ts t shallow is =
    elim (cases_Bool (ltb 64 (length t.columns))) [
      | inl many ↦ inr (TooMany k Columns 64, parse.too_many shallow t is (ltb-true 64 (length t.columns) many))
      | inr not_many ↦ (let few = ltb-false 64 (length t.columns) not_many in
          elim (cases_Bool (duplicate_test before t)) [
            | inl again ↦ inr (Duplicate k, parse.duplicate shallow t is few ((duplicate-Decides before t).0 again))
            | inr once ↦ (let single : IsDuplicate before t → ⊥ = λ d. false≢true (sym once ∙ (duplicate-Decides before t).1 d) in
                elim (columns_case t.columns) [
                  | inl fine ↦ inl (t, record { shallow = shallow; definition = is; few = few; single = single; sizes = fine.1 })
                  | inr wrong ↦ inr (BadSize k, parse.bad_size shallow t is few single wrong.1)
                ])
          ])
    ]

pub statement_case : (before : List Table) (k : ℕ) (ts : List Lexeme) → StatementCase before k ts
statement_case before k ts =
    elim (cases_Bool (exceeds 0 ts)) [
      | inl deep ↦ inr (TooDeep k, parse.too_deep ((deep-Decides ts).0 deep))
      | inr not_deep ↦ (let shallow : IsTooDeep ts → ⊥ = λ d. false≢true (sym not_deep ∙ (deep-Decides ts).1 d) in
          elim (cases_option (all_of (create_table_at sized) ts)) [
            | inl none ↦ inr (NotGrammar k, parse.not_grammar shallow (λ t is. none_not_some (all_of (create_table_at sized) ts) (table_tree sized t) none (table_is_read sized ts t is)))
            | inr some ↦ (let t = table_read sized ts some.0 some.1 in table_case before k ts t.0 shallow t.2)
          ])
    ]

pub ok_same : {A B : Type 0} (r : Result A B) (x y : A) → r ≡ Ok x → r ≡ Ok y → x ≡ y
ok_same r x y e f = let both : r ≡ Ok y = f in cc

pub err_same : {A B : Type 0} (r : Result A B) (x y : B) → r ≡ Err x → r ≡ Err y → x ≡ y
err_same r x y e f = let both : r ≡ Err y = f in cc

pub ok_not_err : {A B : Type 0} (r : Result A B) (x : A) (y : B) → r ≡ Ok x → r ≡ Err y → ⊥
ok_not_err (Ok z) x y e f = absurd cc
ok_not_err (Err z) x y e f = absurd cc

-- ---- what the code needs

pub some_columns_read : (ts : List Lexeme) (d : List ℕ × List Read) → all_of (create_table_at sized) ts ≡ Some d → 0 < length d.1
some_columns_read ts d e =
    let t = table_read sized ts d e in
    let same : length (map (column_tree sized) t.0.columns) ≡ length d.1 = ap (λ (x : List ℕ × List Read). length x.1) t.1 in
    omega (arith, same, length-map t.0.columns (column_tree sized), table_some ts t.0 t.2)

columns_keep : (rs : List Read) (cs : List Column) → columns_of rs ≡ Some cs → (length cs ≡ length rs) × (column_names cs ≡ map name_in rs)
columns_keep [] cs e = let same = some_same [] cs e in (ap (λ (x : List Column). length x) (sym same), ap column_names (sym same))
columns_keep (r ∷ rs) cs e =
    let ty = bind_some r.1.0 _ cs e in
    let more = bind_some (columns_of rs) _ cs ty.2 in
    let same = some_same _ cs more.2 in
    let rest = columns_keep rs more.0 more.1 in (
      ap (λ (x : List Column). length x) (sym same) ∙ ap suc rest.0,
      ap column_names (sym same) ∙ ap (λ x. r.0 ∷ x) rest.1,
    )

type_sized : (ty : Ty) → is_sized ty ≡ true → IsSized ty
type_sized types.Integer e = tt
type_sized (types.Decimal precision scale) e =
    let parts = and_parts (nat_le 1 precision && nat_le precision 18) (nat_le scale precision) e in
    let bounds = and_parts (nat_le 1 precision) (nat_le precision 18) parts.0 in
    (leb-true 1 precision bounds.0, leb-true precision 18 bounds.1, leb-true scale precision parts.1)
type_sized types.Date e = tt
type_sized (types.Varchar n) e =
    let bounds = and_parts (nat_le 1 n) (nat_le n 1000) e in
    (leb-true 1 n bounds.0, leb-true n 1000 bounds.1)

read_sized : (ty : Ty) → IfSome (sized ty) IsSized
read_sized ty =
    elim (cases_Bool (is_sized ty)) [
      | inl good ↦ rw good (type_sized ty good)
      | inr bad ↦ rw bad tt
    ]

reads_sized : (cs : List Column) → AreSized (map (column_tree sized) cs)
reads_sized [] = tt
reads_sized (c ∷ cs) = (read_sized c.ty, reads_sized cs)

pub sized_columns_read : (ts : List Lexeme) (d : List ℕ × List Read) → all_of (create_table_at sized) ts ≡ Some d → AreSized d.1
sized_columns_read ts d e = let t = table_read sized ts d e in subst (λ (x : List ℕ × List Read). AreSized x.1) t.1 (reads_sized t.0.columns)

-- the columns have the types that were read
columns_sized : (rs : List Read) (cs : List Column) → AreSized rs → columns_of rs ≡ Some cs → AllByRecursion (λ (c : Column). IsSized c.ty) cs
columns_sized [] cs h e = subst (AllByRecursion (λ (c : Column). IsSized c.ty)) (some_same [] cs e) tt
columns_sized (r ∷ rs) cs h e =
    let ty = bind_some r.1.0 _ cs e in
    let more = bind_some (columns_of rs) _ cs ty.2 in
    subst (AllByRecursion (λ (c : Column). IsSized c.ty)) (some_same _ cs more.2) (rw ty.1 at h.0, columns_sized rs more.0 h.1 more.1)

none_same : (name : List ℕ) (names : List (List ℕ)) → list_any (bytes_eq name) names ≡ false → AllByRecursion (λ other. name ≢ other) names
none_same name [] e = tt
none_same name (other ∷ names) e =
    let parts = or_parts (bytes_eq name other) (list_any (bytes_eq name) names) e in
    ((λ is. false≢true (sym parts.0 ∙ (bytes_eq-Decides name other).1 is)), none_same name names parts.1)

pub distinct_from_twice : (names : List (List ℕ)) → is_twice names ≡ false → AreDistinct names
distinct_from_twice [] e = tt
distinct_from_twice (name ∷ names) e =
    let parts = or_parts (list_any (bytes_eq name) names) (is_twice names) e in
    (none_same name names parts.0, distinct_from_twice names parts.1)

pub are_columns : (rs : List Read) (cs : List Column) → 0 < length rs → length rs ≤ 64 → is_twice (map name_in rs) ≡ false → AreSized rs → columns_of rs ≡ Some cs → AreColumns cs
are_columns rs cs some few once sizes e =
    let keep = columns_keep rs cs e in
    record {
      some = omega (arith, keep.0, some);
      few = omega (arith, keep.0, few);
      distinct = subst AreDistinct (sym keep.1) (distinct_from_twice (map name_in rs) once);
      sized = columns_sized rs cs sizes e;
    }
