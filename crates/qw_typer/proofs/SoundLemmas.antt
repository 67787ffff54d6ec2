-- What has no fault is typed over the columns of the entries that it reaches.
use Rattle.std.proofs.Common.{◌≡◌, ℕ, zero, suc, ◌+◌, ◌*◌, ◌≤◌, ◌^◌, ◌&&◌, Bool, true, false, not, nat_lt, nat_le, pos, List, [], ◌∷◌, ◌++◌, map, Option, Some, None, max, refl, ap, ◌∙◌, arith, inl, inr, slice_get, position, is_none, length, sym, ◌==◌, unwrap_or, option_map, subst}
use Rattle.std.specs.Prelude.{◌⊎◌, if◌then◌else◌}
use Rattle.std.specs.List.{AllByRecursion}
use Rattle.std.specs.Option.{option_and_then}
use Rattle.std.specs.Str.{bytes_eq}
use Rattle.std.specs.Str.Parse.{digits_value}
use Rattle.std.proofs.lemmas.List.{length-map}
use Rattle.std.proofs.lemmas.Option.{slice_get-map}
use Rattle.qw_types.specs.Digits.{are_digits}
use Rattle.std.proofs.lemmas.Bool.{and_parts, cases_Bool}
use Rattle.std.proofs.lemmas.Bool.Decides.{nat_tests}
use Rattle.qw_types.specs.Kind.{type_kind}
use Rattle.qw_types.specs.Value.{IsSized, type_scale}
use Rattle.qw_types.specs.declared.schema.Column.{Column}
use Rattle.qw_types.specs.declared.value.Ty.{Ty}
use Rattle.qw_types.specs.declared.value.Ty.TheVariants as type
use Rattle.qw_types.specs.declared.kind.Kind.{Kind}
use Rattle.qw_scalar.specs.declared.expression.Operator.{Operator}
use Rattle.qw_scalar.specs.declared.expression.Operator.TheVariants as op
use Rattle.qw_scalar.specs.declared.expression.Field.{Field}
use Rattle.qw_scalar.specs.declared.comparison.Comparison.{Comparison}
use Rattle.qw_scalar.specs.declared.comparison.Comparison.TheVariants.{Equal, GreaterOrEqual, LessOrEqual}
use Rattle.qw_scalar.specs.Columns.{HasColumns, HaveColumns}
use Rattle.qw_scalar.specs.declared.expression.Function.TheVariants.{Coalesce, NullIf}
use Rattle.qw_scalar.specs.Expression as meaning
use Rattle.qw_scalar.specs.Typing.{AreTyped, IsTyped, ScalesAllowed, agree, are_comparable, has_kind, is_date, is_number, kind_of}
use Rattle.qw_grouped.specs.declared.query.GroupedColumn.{GroupedColumn}
use Rattle.qw_ast.specs.declared.script.Sign.{Sign}
use Rattle.qw_ast.specs.declared.script.Sign.TheVariants.{Plus, Minus}
use Rattle.qw_typer.specs.declared.fault.FaultKind.{FaultKind}
use Rattle.qw_typer.specs.declared.fault.FaultKind.TheVariants.{Clash, UnknownTable}
use Rattle.qw_ast.specs.Grammar.{name_of}
use Rattle.qw_ast.specs.Syntax.{Days, Expression, null, number, text, date, column, signed, arithmetic, extract, searched_case, simple_case, call, count_rows, set_function, Condition, comparison, between, among, predicate, both, either, negation_of, is, bracketed, condition, expression, Expressions, last, further, Branching, otherwise, when}
use Rattle.qw_typer.specs.Days.{Day}
use Rattle.qw_ast.specs.Quoted.{string_value}
use Rattle.qw_typer.specs.Literal.{after_intervals, date_at, date_of, day_shown, digits_of, is_short, number_of, scale_of}
use Rattle.qw_typer.proofs.DateLemmas.{at_most, date_typed}
use Rattle.qw_typer.specs.Faults.{Fault, all_faults, among_faults, branch_faults, case_faults, choices_faults, comparison_faults, condition_faults, counted_faults, fault_where, faults, first_of_all, first_of_branches, first_token, group_faults, is_allowed, is_known, matches_faults, or_own, qualifier_of, reference_faults, results_agree, results_kind}
use Rattle.qw_scalar.proofs.ColumnLemmas.{columns_more}
use Rattle.qw_typer.specs.Meant.{Entry, FunctionColumn, Grouping, Scope, all_meant, choices, column_named, condition_meant, first_of, function_meant, in_group, is_qualified, listed, matches, meant, referred, with_not, with_sign}
use Rattle.qw_typer.specs.Inner.Typing.{AreScaled, IsScaled, kind_scale}
use Rattle.qw_typer.proofs.CaseLemmas.{agree_at, kind_cases, scaled_case, scaled_cases}

-- ---- no faults

pub no_own : (fs own : List Fault) → or_own fs own ≡ [] → (fs ≡ []) × (own ≡ [])
no_own [] own h = (refl, h)
no_own (f ∷ fs) own h = absurd cc

pub no_both : (fs gs : List Fault) → fs ++ gs ≡ [] → (fs ≡ []) × (gs ≡ [])
no_both [] gs h = (refl, h)
no_both (f ∷ fs) gs h = absurd cc

pub not_where : (b : Bool) (k : FaultKind) (name : List ℕ) → fault_where b k name ≡ [] → b ≡ false
not_where true k name h = absurd cc
not_where false k name h = refl

not_not : (b : Bool) → not b ≡ false → b ≡ true
not_not true h = refl
not_not false h = absurd cc

pub tested : (b : Bool) (k : FaultKind) (name : List ℕ) → fault_where (not b) k name ≡ [] → b ≡ true
tested b k name h = not_not b (not_where (not b) k name h)

-- ---- what is typed

-- typed over columns of which something holds, of a scale that is small, and that its kind has
pub record IsGood (Holds : ℕ → Ty → Type 0) (m : meaning.Expression) : Type 0 where
  pub typed : IsTyped m
  pub columns : HasColumns Holds m
  pub scaled : IsScaled m
  pub small : meaning.scale_of m ≤ 18

pub record IsGoodCondition (Holds : ℕ → Ty → Type 0) (c : meaning.Condition) : Type 0 where
  pub typed : AreTyped c
  pub columns : HaveColumns Holds c

abbrev pub AreGood : (ℕ → Ty → Type 0) → meaning.Choices → Type 0
AreGood Holds (meaning.otherwise e) = IsGood Holds e
AreGood Holds (meaning.when c e rest) = IsGoodCondition Holds c × (IsGood Holds e × AreGood Holds rest)

abbrev pub AllGood : (ℕ → Ty → Type 0) → meaning.Expressions → Type 0
AllGood Holds (meaning.last e) = IsGood Holds e
AllGood Holds (meaning.more e es) = IsGood Holds e × AllGood Holds es

pub null_good : (Holds : ℕ → Ty → Type 0) → IsGood Holds meaning.null
null_good Holds = record { typed = tt; columns = tt; scaled = refl; small = omega arith }

pub text_good : (Holds : ℕ → Ty → Type 0) (t : List ℕ) → IsGood Holds (meaning.text t)
text_good Holds t = record { typed = tt; columns = tt; scaled = refl; small = omega arith }

negative_good : (Holds : ℕ → Ty → Type 0) (k : Option Kind) (m : meaning.Expression) → k ≡ kind_of m → is_number k ≡ true → IsGood Holds m → IsGood Holds (meaning.negative m)
negative_good Holds k m e n h = record { typed = (h.typed, rw e at n); columns = h.columns; scaled = refl; small = h.small }

pub sign_good : (Holds : ℕ → Ty → Type 0) (sign : Sign) (m : meaning.Expression) → is_number (kind_of m) ≡ true → IsGood Holds m → IsGood Holds (with_sign sign m)
sign_good Holds Plus m n h = h
sign_good Holds Minus m n h = negative_good Holds (kind_of m) m refl n h

allowed_scales : (operator : Operator) (s t : ℕ) → is_allowed operator s t ≡ true → ScalesAllowed operator s t
allowed_scales op.Add s t h = tt
allowed_scales op.Subtract s t h = tt
allowed_scales op.Multiply s t h = grind (arith, nat_tests)
allowed_scales op.Divide s t h = grind (arith, nat_tests)

small_after : (operator : Operator) (s t : ℕ) → ScalesAllowed operator s t → s ≤ 18 → t ≤ 18 → meaning.scale_after operator s t ≤ 18
small_after op.Add s t h a b = omega arith
small_after op.Subtract s t h a b = omega arith
small_after op.Multiply s t h a b = h
small_after op.Divide s t h a b = a

pub arithmetic_good : (Holds : ℕ → Ty → Type 0) (operator : Operator) (x y : meaning.Expression) → is_number (kind_of x) ≡ true → is_number (kind_of y) ≡ true
    → is_allowed operator (meaning.scale_of x) (meaning.scale_of y) ≡ true → IsGood Holds x → IsGood Holds y → IsGood Holds (meaning.arithmetic operator x y)
arithmetic_good Holds operator x y nx ny allowed hx hy =
    let scales = allowed_scales operator (meaning.scale_of x) (meaning.scale_of y) allowed in
    record { typed = ((hx.typed, hy.typed), ((nx, ny), scales)); columns = (hx.columns, hy.columns); scaled = refl; small = small_after operator (meaning.scale_of x) (meaning.scale_of y) scales hx.small hy.small }

pub extract_good : (Holds : ℕ → Ty → Type 0) (field : Field) (x : meaning.Expression) → is_date (kind_of x) ≡ true → IsGood Holds x → IsGood Holds (meaning.extract field x)
extract_good Holds field x d h = record { typed = (h.typed, d); columns = h.columns; scaled = refl; small = omega arith }

pub comparison_good : (Holds : ℕ → Ty → Type 0) (op : Comparison) (x y : meaning.Expression) → are_comparable (kind_of x) (kind_of y) ≡ true → IsGood Holds x → IsGood Holds y → IsGoodCondition Holds (meaning.comparison op x y)
comparison_good Holds op x y e hx hy = record { typed = ((hx.typed, hy.typed), e); columns = (hx.columns, hy.columns) }

-- ---- CASE

scaled_all : (Holds : ℕ → Ty → Type 0) (cs : meaning.Choices) → AreGood Holds cs → AreScaled cs
scaled_all Holds (meaning.otherwise e) h = h.scaled
scaled_all Holds (meaning.when c e rest) h = (h.1.0.scaled, scaled_all Holds rest h.1.1)

largest_small : (Holds : ℕ → Ty → Type 0) (cs : meaning.Choices) → AreGood Holds cs → meaning.largest_result cs ≤ 18
largest_small Holds (meaning.otherwise e) h = h.small
largest_small Holds (meaning.when c e rest) h = let a : meaning.scale_of e ≤ 18 = h.1.0.small in let b = largest_small Holds rest h.1.1 in omega arith

cases_typed : (Holds : ℕ → Ty → Type 0) (s : ℕ) (cs : meaning.Choices) → AreGood Holds cs → results_agree cs ≡ true → meaning.largest_result cs ≤ s → s ≤ 18 → IsTyped (meaning.cases s cs)
cases_typed Holds s (meaning.otherwise e) h a l small = (h.typed, (l, small))
cases_typed Holds s (meaning.when c e rest) h a l small =
    let (one, others) = and_parts (agree (kind_of e) (results_kind rest)) (results_agree rest) a in
    let le : meaning.scale_of e ≤ s = omega arith in
    let lr : meaning.largest_result rest ≤ s = omega arith in
    (h.0.typed, (((h.1.0.typed, (le, small)), cases_typed Holds s rest h.1.1 others lr small), rw (kind_cases s rest, agree_at (kind_of e) (results_kind rest) s) one))

cases_columns : (Holds : ℕ → Ty → Type 0) (s : ℕ) (cs : meaning.Choices) → AreGood Holds cs → HasColumns Holds (meaning.cases s cs)
cases_columns Holds s (meaning.otherwise e) h = h.columns
cases_columns Holds s (meaning.when c e rest) h = (h.0.columns, (h.1.0.columns, cases_columns Holds s rest h.1.1))

pub case_good : (Holds : ℕ → Ty → Type 0) (cs : meaning.Choices) → AreGood Holds cs → results_agree cs ≡ true → IsGood Holds (meaning.case cs)
case_good Holds cs h a =
    let small = largest_small Holds cs h in
    record {
      typed = cases_typed Holds (meaning.largest_result cs) cs h a (omega arith) small;
      columns = cases_columns Holds (meaning.largest_result cs) cs h;
      scaled = scaled_case cs a (scaled_all Holds cs h);
      small = rw (scaled_cases (meaning.largest_result cs) cs) small;
    }

pub coalesced_good : (Holds : ℕ → Ty → Type 0) (es : meaning.Expressions) → AllGood Holds es → AreGood Holds (meaning.coalesced es)
coalesced_good Holds (meaning.last e) h = h
coalesced_good Holds (meaning.more e es) h = (record { typed = h.0.typed; columns = h.0.columns }, (h.0, coalesced_good Holds es h.1))

-- ---- predicates

pub not_good : (Holds : ℕ → Ty → Type 0) (negated : Bool) (c : meaning.Condition) → IsGoodCondition Holds c → IsGoodCondition Holds (with_not negated c)
not_good Holds true c h = record { typed = h.typed; columns = h.columns }
not_good Holds false c h = h

pub between_good : (Holds : ℕ → Ty → Type 0) (x a b : meaning.Expression) → are_comparable (kind_of x) (kind_of a) ≡ true → are_comparable (kind_of x) (kind_of b) ≡ true
    → IsGood Holds x → IsGood Holds a → IsGood Holds b → IsGoodCondition Holds (meaning.between x a b)
between_good Holds x a b ea eb hx ha hb =
    let low = comparison_good Holds GreaterOrEqual x a ea hx ha in
    let high = comparison_good Holds LessOrEqual x b eb hx hb in
    record { typed = (low.typed, high.typed); columns = (low.columns, high.columns) }

pub among_good : (Holds : ℕ → Ty → Type 0) (token : List ℕ) (x : meaning.Expression) (vs : meaning.Expressions) → among_faults token x vs ≡ [] → IsGood Holds x → AllGood Holds vs → IsGoodCondition Holds (meaning.among x vs)
among_good Holds token x (meaning.last v) none hx hv = comparison_good Holds Equal x v (tested (are_comparable (kind_of x) (kind_of v)) _ token none) hx hv
among_good Holds token x (meaning.more v vs) none hx hv =
    let (first, others) = no_both (comparison_faults token x v) (among_faults token x vs) none in
    let one = comparison_good Holds Equal x v (tested (are_comparable (kind_of x) (kind_of v)) _ token first) hx hv.0 in
    let more = among_good Holds token x vs others hx hv.1 in
    record { typed = (one.typed, more.typed); columns = (one.columns, more.columns) }

pub unless_good : (Holds : ℕ → Ty → Type 0) (token : List ℕ) (x : meaning.Expression) (vs : meaning.Expressions) → among_faults token x vs ≡ [] → IsGood Holds x → AllGood Holds vs → IsGood Holds (meaning.unless_among (meaning.more x vs))
unless_good Holds token x vs none hx hv =
    let test = among_good Holds token x vs none hx hv in
    record {
      typed = (test.typed, ((tt, hx.typed), refl));
      columns = (test.columns, (tt, hx.columns));
      scaled = (let m : max 0 (meaning.scale_of x) ≡ meaning.scale_of x = omega arith in m ∙ hx.scaled);
      small = (let small : meaning.scale_of x ≤ 18 = hx.small in omega arith);
    }

pub case_tested : (token : List ℕ) (cs : meaning.Choices) → case_faults token cs ≡ [] → results_agree cs ≡ true
case_tested token cs none = (and_parts (results_agree cs) (has_kind (results_kind cs)) (tested (results_agree cs && has_kind (results_kind cs)) _ token none)).0

-- ---- leaves

abbrev pub types_of : List Column → List Ty
types_of columns = map (λ (c : Column). c.ty) columns

-- the column of this number is the entry's, and of this type
abbrev pub IsIn : Entry → ℕ → Ty → Type 0
IsIn e i ty = (k : ℕ) × (i ≡ 64 * e.number + k) × (slice_get (types_of e.columns) k ≡ Some ty)

-- and one of these entries
abbrev pub IsAt : List Entry → ℕ → Ty → Type 0
IsAt [] i ty = ⊥
IsAt (e ∷ es) i ty = IsIn e i ty ⊎ IsAt es i ty

abbrev pub HasSized : List Column → Type 0
HasSized columns = AllByRecursion (λ (c : Column). IsSized c.ty) columns

abbrev pub AreSized : List Entry → Type 0
AreSized entries = AllByRecursion (λ (e : Entry). HasSized e.columns) entries

-- the types of the grouped table's columns
abbrev pub types_in : Grouping → List Ty
types_in g = map (λ (c : GroupedColumn). c.ty) g.columns ++ map (λ (f : FunctionColumn). f.ty) g.functions

-- the columns that expressions are over: those of the entries, and where there is a grouped table its own
abbrev pub Reaches : List Entry → Option Grouping → ℕ → Ty → Type 0
Reaches entries None i ty = IsAt entries i ty
Reaches entries (Some g) i ty = slice_get (types_in g) i ≡ Some ty

abbrev pub HasColumn : Scope → ℕ → Ty → Type 0
HasColumn scope i ty = Reaches scope.entries scope.grouping i ty

-- all columns are of types that there are
abbrev pub HasSizedTypes : Option Grouping → Type 0
HasSizedTypes None = Unit {0}
HasSizedTypes (Some g) = AllByRecursion IsSized (types_in g)

abbrev pub IsSizedScope : Scope → Type 0
IsSizedScope scope = AreSized scope.entries × HasSizedTypes scope.grouping

pub all_more : {A : Type 0} (P Q : A → Type 0) → ((x : A) → P x → Q x) → (xs : List A) → AllByRecursion P xs → AllByRecursion Q xs
all_more P Q more [] h = tt
all_more P Q more (x ∷ xs) h = (more x h.0, all_more P Q more xs h.1)

pub all_both : {A : Type 0} (P : A → Type 0) (xs ys : List A) → AllByRecursion P xs → AllByRecursion P ys → AllByRecursion P (xs ++ ys)
all_both P [] ys h k = k
all_both P (x ∷ xs) ys h k = (h.0, all_both P xs ys h.1 k)

pub good_more : (Holds More : ℕ → Ty → Type 0) → ((i : ℕ) (ty : Ty) → Holds i ty → More i ty) → (m : meaning.Expression) → IsGood Holds m → IsGood More m
good_more Holds More more m h = record { typed = h.typed; columns = columns_more Holds More more m h.columns; scaled = h.scaled; small = h.small }

scale_small : (ty : Ty) → IsSized ty → type_scale ty ≤ 18
scale_small type.Integer h = omega arith
scale_small (type.Decimal p s) h = let a = h.1 in let b = h.2 in omega arith
scale_small type.Date h = omega arith
scale_small (type.Varchar n) h = omega arith

type_scaled : (ty : Ty) → type_scale ty ≡ kind_scale (Some (type_kind ty))
type_scaled type.Integer = refl
type_scaled (type.Decimal p s) = refl
type_scaled type.Date = refl
type_scaled (type.Varchar n) = refl

sized_at : (columns : List Column) (i : ℕ) (c : Column) → HasSized columns → slice_get columns i ≡ Some c → IsSized c.ty
sized_at [] i c s e = absurd cc
sized_at (d ∷ ds) zero c s e = let same : d ≡ c = cc in subst (λ (x : Column). IsSized x.ty) same s.0
sized_at (d ∷ ds) (suc i) c s e = sized_at ds i c s.1 e

pub column_good : (entry : Entry) (k : ℕ) (c : Column) → HasSized entry.columns → slice_get entry.columns k ≡ Some c → IsGood (IsIn entry) (meaning.column (64 * entry.number + k) c.ty)
column_good entry k c s e =
    let small = scale_small c.ty (sized_at entry.columns k c s e) in
    record { typed = small; columns = (k, refl, slice_get-map (λ (d : Column). d.ty) entry.columns k ∙ ap (option_map (λ (d : Column). d.ty)) e); scaled = type_scaled c.ty; small = small }

placed_good : (entry : Entry) (k : ℕ) (o : Option Column) → HasSized entry.columns → slice_get entry.columns k ≡ o → AllByRecursion (IsGood (IsIn entry)) (listed (option_map (λ (c : Column). meaning.column (64 * entry.number + k) c.ty) o))
placed_good entry k None s e = tt
placed_good entry k (Some c) s e = (column_good entry k c s e, tt)

named_good : (entry : Entry) (o : Option ℕ) → HasSized entry.columns
    → AllByRecursion (IsGood (IsIn entry)) (listed (option_and_then (λ (k : ℕ). option_map (λ (c : Column). meaning.column (64 * entry.number + k) c.ty) (slice_get entry.columns k)) o))
named_good entry None s = tt
named_good entry (Some k) s = placed_good entry k (slice_get entry.columns k) s refl

if_good : (Holds : ℕ → Ty → Type 0) (b : Bool) (es : List meaning.Expression) → AllByRecursion (IsGood Holds) es → AllByRecursion (IsGood Holds) (if b then es else [])
if_good Holds true es h = h
if_good Holds false es h = tt

referred_good : (entries : List Entry) → AreSized entries → (qualifier : Option (List ℕ)) (name : List ℕ) → AllByRecursion (IsGood (IsAt entries)) (referred entries qualifier name)
referred_good [] s qualifier name = tt
referred_good (entry ∷ others) s qualifier name =
    let here = if is_qualified qualifier entry then listed (column_named entry name) else [] in
    let own = if_good (IsIn entry) (is_qualified qualifier entry) (listed (column_named entry name)) (named_good entry (position (λ (c : Column). bytes_eq name c.name) entry.columns) s.0) in
    all_both (IsGood (IsAt (entry ∷ others))) here (referred others qualifier name)
    (all_more (IsGood (IsIn entry)) (IsGood (IsAt (entry ∷ others))) (good_more (IsIn entry) (IsAt (entry ∷ others)) (λ i ty h. inl h)) here own)
    (all_more (IsGood (IsAt others)) (IsGood (IsAt (entry ∷ others))) (good_more (IsAt others) (IsAt (entry ∷ others)) (λ i ty h. inr h)) (referred others qualifier name) (referred_good others s.1 qualifier name))

only_good : (Holds : ℕ → Ty → Type 0) (name : List ℕ) (es : List meaning.Expression) → counted_faults name es ≡ [] → AllByRecursion (IsGood Holds) es → IsGood Holds (first_of es)
only_good Holds name [] none all = absurd cc
only_good Holds name (e ∷ []) none all = all.0
only_good Holds name (e ∷ f ∷ es) none all = absurd cc

-- ---- over the grouped table

typed_column : (Holds : ℕ → Ty → Type 0) (i : ℕ) (ty : Ty) → IsSized ty → Holds i ty → IsGood Holds (meaning.column i ty)
typed_column Holds i ty sized holds = let small = scale_small ty sized in record { typed = small; columns = holds; scaled = type_scaled ty; small = small }

pub sized_type : (types : List Ty) (i : ℕ) (ty : Ty) → AllByRecursion IsSized types → slice_get types i ≡ Some ty → IsSized ty
sized_type [] i ty s e = absurd cc
sized_type (t ∷ types) zero ty s e = let same : t ≡ ty = cc in subst IsSized same s.0
sized_type (t ∷ types) (suc i) ty s e = sized_type types i ty s.1 e

pub get_before : (xs ys : List Ty) (i : ℕ) (ty : Ty) → slice_get xs i ≡ Some ty → slice_get (xs ++ ys) i ≡ Some ty
get_before [] ys i ty e = absurd cc
get_before (x ∷ xs) ys zero ty e = e
get_before (x ∷ xs) ys (suc i) ty e = get_before xs ys i ty e

get_behind : (xs ys : List Ty) (i : ℕ) (ty : Ty) → slice_get ys i ≡ Some ty → slice_get (xs ++ ys) (length xs + i) ≡ Some ty
get_behind [] ys i ty e = let same : i ≡ 0 + i = omega arith in ap (slice_get ys) (sym same) ∙ e
get_behind (x ∷ xs) ys i ty e =
    let same : length (x ∷ xs) + i ≡ suc (length xs + i) = omega arith in
    ap (slice_get (x ∷ (xs ++ ys))) same ∙ get_behind xs ys i ty e

-- a column of the grouped table, by its type
column_there : (entries : List Entry) (g : Grouping) → HasSizedTypes (Some g) → (i : ℕ) (ty : Ty) → slice_get (types_in g) i ≡ Some ty → IsGood (Reaches entries (Some g)) (meaning.column i ty)
column_there entries g s i ty e = typed_column (Reaches entries (Some g)) i ty (sized_type (types_in g) i ty s e) e

grouped_at : (entries : List Entry) (g : Grouping) → HasSizedTypes (Some g) → (k : ℕ) (o : Option GroupedColumn) → slice_get g.columns k ≡ o
    → IsGood (Reaches entries (Some g)) (unwrap_or (option_map (λ (c : GroupedColumn). meaning.column k c.ty) o) meaning.null)
grouped_at entries g s k None e = null_good (Reaches entries (Some g))
grouped_at entries g s k (Some c) e =
    let types = map (λ (d : GroupedColumn). d.ty) g.columns in
    let is : slice_get types k ≡ Some c.ty = slice_get-map (λ (d : GroupedColumn). d.ty) g.columns k ∙ ap (option_map (λ (d : GroupedColumn). d.ty)) e in
    column_there entries g s k c.ty (get_before types (map (λ (f : FunctionColumn). f.ty) g.functions) k c.ty is)

pub grouped_good : (entries : List Entry) (g : Grouping) → HasSizedTypes (Some g) → (o : Option ℕ)
    → IsGood (Reaches entries (Some g)) (unwrap_or (option_and_then (λ (k : ℕ). option_map (λ (c : GroupedColumn). meaning.column k c.ty) (slice_get g.columns k)) o) meaning.null)
grouped_good entries g s None = null_good (Reaches entries (Some g))
grouped_good entries g s (Some k) = grouped_at entries g s k (slice_get g.columns k) refl

group_good : (entries : List Entry) (grouping : Option Grouping) → HasSizedTypes grouping → (e : meaning.Expression) → IsGood (IsAt entries) e → IsGood (Reaches entries grouping) (unwrap_or (in_group grouping e) meaning.null)
group_good entries None s e h = h
group_good entries (Some g) s (meaning.column i ty) h = grouped_good entries g s (position (λ (c : GroupedColumn). c.number == i) g.columns)
group_good entries (Some g) s meaning.null h = null_good (Reaches entries (Some g))
group_good entries (Some g) s (meaning.number v sc) h = null_good (Reaches entries (Some g))
group_good entries (Some g) s (meaning.date d) h = null_good (Reaches entries (Some g))
group_good entries (Some g) s (meaning.text t) h = null_good (Reaches entries (Some g))
group_good entries (Some g) s (meaning.arithmetic operator a b) h = null_good (Reaches entries (Some g))
group_good entries (Some g) s (meaning.negative a) h = null_good (Reaches entries (Some g))
group_good entries (Some g) s (meaning.extract field a) h = null_good (Reaches entries (Some g))
group_good entries (Some g) s (meaning.brought a sc) h = null_good (Reaches entries (Some g))
group_good entries (Some g) s (meaning.choice c a b) h = null_good (Reaches entries (Some g))
group_good entries (Some g) s (meaning.given w k most v) h = null_good (Reaches entries (Some g))
group_good entries (Some g) s (meaning.cell i ty most) h = null_good (Reaches entries (Some g))

function_there : (entries : List Entry) (g : Grouping) → HasSizedTypes (Some g) → (k : ℕ) (o : Option FunctionColumn) → slice_get g.functions k ≡ o
    → IsGood (Reaches entries (Some g)) (unwrap_or (option_map (λ (f : FunctionColumn). meaning.column (length g.columns + k) f.ty) o) meaning.null)
function_there entries g s k None e = null_good (Reaches entries (Some g))
function_there entries g s k (Some f) e =
    let before = map (λ (c : GroupedColumn). c.ty) g.columns in
    let types = map (λ (h : FunctionColumn). h.ty) g.functions in
    let is : slice_get types k ≡ Some f.ty = slice_get-map (λ (h : FunctionColumn). h.ty) g.functions k ∙ ap (option_map (λ (h : FunctionColumn). h.ty)) e in
    let count : length before ≡ length g.columns = length-map g.columns (λ (c : GroupedColumn). c.ty) in
    let there : slice_get (types_in g) (length g.columns + k) ≡ Some f.ty = ap (λ (n : ℕ). slice_get (before ++ types) (n + k)) (sym count) ∙ get_behind before types k f.ty is in
    column_there entries g s (length g.columns + k) f.ty there

function_placed : (entries : List Entry) (g : Grouping) → HasSizedTypes (Some g) → (o : Option ℕ)
    → IsGood (Reaches entries (Some g)) (unwrap_or (option_and_then (λ (k : ℕ). option_map (λ (f : FunctionColumn). meaning.column (length g.columns + k) f.ty) (slice_get g.functions k)) o) meaning.null)
function_placed entries g s None = null_good (Reaches entries (Some g))
function_placed entries g s (Some k) = function_there entries g s k (slice_get g.functions k) refl

function_good : (entries : List Entry) (grouping : Option Grouping) → HasSizedTypes grouping → (place : ℕ) → IsGood (Reaches entries grouping) (function_meant grouping place)
function_good entries None s place = null_good (IsAt entries)
function_good entries (Some g) s place = function_placed entries g s (position (λ (f : FunctionColumn). f.place == place) g.functions)

number_good : (Holds : ℕ → Ty → Type 0) (octets : List ℕ) → is_none (number_of octets) ≡ false → IsGood Holds (unwrap_or (number_of octets) meaning.null)
number_good Holds octets h = elim (cases_Bool (is_short octets)) [
  | inl e ↦ rw e (short (and_parts (are_digits (digits_of octets)) _ e).1)
  | inr e ↦ absurd (none e)
]
  where
    none : is_short octets ≡ false → ⊥
    none e = let n : true ≡ false = rw e at h in cc

    short : (nat_lt (digits_value 10 (digits_of octets)) (10 ^ 18) && nat_le (scale_of octets) 18) ≡ true → IsGood Holds (meaning.number (pos (digits_value 10 (digits_of octets))) (scale_of octets))
    short e =
        let p = and_parts (nat_lt (digits_value 10 (digits_of octets)) (10 ^ 18)) (nat_le (scale_of octets) 18) e in
        let small : scale_of octets ≤ 18 = at_most (scale_of octets) 18 p.1 in
        record { typed = (p.0, small); columns = tt; scaled = refl; small = small }

date_good : (Holds : ℕ → Ty → Type 0) (string : List ℕ) (intervals : List Days) (o : Option meaning.Expression) → date_of string intervals ≡ o → is_none o ≡ false → IsGood Holds (unwrap_or (date_of string intervals) meaning.null)
date_good Holds string intervals o e h =
    let typed = date_typed string intervals (ap is_none e ∙ h) in
    whole (option_and_then (after_intervals intervals) (day_shown (string_value string))) typed
  where
    whole : (d : Option Day) → IsTyped (unwrap_or (option_map date_at d) meaning.null) → IsGood Holds (unwrap_or (option_map date_at d) meaning.null)
    whole None t = null_good Holds
    whole (Some d) t = record { typed = t; columns = tt; scaled = refl; small = omega arith }

-- ---- every construct

mutual
  pub good : (scope : Scope) → IsSizedScope scope → (e : Expression) → faults scope e ≡ [] → IsGood (HasColumn scope) (meant scope e)
  good scope s null h = null_good (HasColumn scope)
  good scope s (number octets) h = number_good (HasColumn scope) octets (not_where (is_none (number_of octets)) _ octets h)
  good scope s (text octets) h = text_good (HasColumn scope) (string_value octets)
  good scope s (date string intervals) h = date_good (HasColumn scope) string intervals (date_of string intervals) refl (not_where (is_none (date_of string intervals)) _ string h)
  good scope s (column qualifier name) h =
      let es = referred scope.entries (option_map name_of qualifier) (name_of name) in
      let p = no_own (reference_faults scope.entries qualifier name) (group_faults scope.grouping (name_of name) (first_of es)) h in
      let q = no_own (fault_where (not (is_known scope.entries (option_map name_of qualifier))) UnknownTable (qualifier_of qualifier)) (counted_faults (name_of name) es) p.0 in
      group_good scope.entries scope.grouping s.1 (first_of es) (only_good (IsAt scope.entries) (name_of name) es q.1 (referred_good scope.entries s.0 (option_map name_of qualifier) (name_of name)))
  good scope s (signed sign a) h =
      let p = no_own (faults scope a) _ h in
      sign_good (HasColumn scope) sign (meant scope a) (tested (is_number (kind_of (meant scope a))) _ _ p.1) (good scope s a p.0)
  good scope s (arithmetic operator a b) h =
      let p = no_own (faults scope a ++ faults scope b) _ h in
      let q = no_both (faults scope a) (faults scope b) p.0 in
      let t = no_own (fault_where (not (is_number (kind_of (meant scope a)) && is_number (kind_of (meant scope b)))) Clash (first_token a)) _ p.1 in
      let n = and_parts (is_number (kind_of (meant scope a))) (is_number (kind_of (meant scope b))) (tested (is_number (kind_of (meant scope a)) && is_number (kind_of (meant scope b))) _ _ t.0) in
      arithmetic_good (HasColumn scope) operator (meant scope a) (meant scope b) n.0 n.1 (tested (is_allowed operator (meaning.scale_of (meant scope a)) (meaning.scale_of (meant scope b))) _ _ t.1) (good scope s a q.0) (good scope s b q.1)
  good scope s (extract field a) h =
      let p = no_own (faults scope a) _ h in
      extract_good (HasColumn scope) field (meant scope a) (tested (is_date (kind_of (meant scope a))) _ _ p.1) (good scope s a p.0)
  good scope s (searched_case branches) h =
      let p = no_own (choices_faults scope branches) _ h in
      case_good (HasColumn scope) (choices scope branches) (choices_good scope s branches p.0) (case_tested (first_of_branches branches) (choices scope branches) p.1)
  good scope s (simple_case x branches) h =
      let p = no_own (faults scope x) _ h in
      let q = no_own (branch_faults (first_token x) branches ++ matches_faults scope (first_token x) (meant scope x) branches) _ p.1 in
      let t = no_both (branch_faults (first_token x) branches) (matches_faults scope (first_token x) (meant scope x) branches) q.0 in
      case_good (HasColumn scope) (matches scope (meant scope x) branches) (matches_good scope s (first_token x) (meant scope x) (good scope s x p.0) branches t.1) (case_tested (first_token x) (matches scope (meant scope x) branches) q.1)
  good scope s (call Coalesce es) h =
      let p = no_own (all_faults scope es) _ h in
      case_good (HasColumn scope) (meaning.coalesced (all_meant scope es)) (coalesced_good (HasColumn scope) (all_meant scope es) (all_good scope s es p.0)) (case_tested (first_of_all es) (meaning.coalesced (all_meant scope es)) p.1)
  good scope s (call NullIf (last e)) h = case_good (HasColumn scope) (meaning.otherwise (meant scope e)) (good scope s e (no_own (faults scope e) [] h).0) refl
  good scope s (call NullIf (further e es)) h =
      let p = no_own (faults scope e ++ all_faults scope es) _ h in
      let q = no_both (faults scope e) (all_faults scope es) p.0 in
      unless_good (HasColumn scope) (first_token e) (meant scope e) (all_meant scope es) p.1 (good scope s e q.0) (all_good scope s es q.1)
  good scope s (count_rows place) h = function_good scope.entries scope.grouping s.1 place
  good scope s (set_function place f a) h = function_good scope.entries scope.grouping s.1 place

  pub condition_good : (scope : Scope) → IsSizedScope scope → (c : Condition) → condition_faults scope c ≡ [] → IsGoodCondition (HasColumn scope) (condition_meant scope c)
  condition_good scope s (comparison op a b) h =
      let p = no_own (faults scope a ++ faults scope b) _ h in
      let q = no_both (faults scope a) (faults scope b) p.0 in
      comparison_good (HasColumn scope) op (meant scope a) (meant scope b) (tested (are_comparable (kind_of (meant scope a)) (kind_of (meant scope b))) _ _ p.1) (good scope s a q.0) (good scope s b q.1)
  condition_good scope s (between negated x a b) h =
      let p = no_own (faults scope x ++ (faults scope a ++ faults scope b)) _ h in
      let q = no_both (faults scope x) (faults scope a ++ faults scope b) p.0 in
      let r = no_both (faults scope a) (faults scope b) q.1 in
      let t = no_both (comparison_faults (first_token x) (meant scope x) (meant scope a)) (comparison_faults (first_token x) (meant scope x) (meant scope b)) p.1 in
      not_good (HasColumn scope) negated _ (between_good (HasColumn scope) (meant scope x) (meant scope a) (meant scope b)
      (tested (are_comparable (kind_of (meant scope x)) (kind_of (meant scope a))) _ _ t.0) (tested (are_comparable (kind_of (meant scope x)) (kind_of (meant scope b))) _ _ t.1)
      (good scope s x q.0) (good scope s a r.0) (good scope s b r.1))
  condition_good scope s (among negated x es) h =
      let p = no_own (faults scope x ++ all_faults scope es) _ h in
      let q = no_both (faults scope x) (all_faults scope es) p.0 in
      not_good (HasColumn scope) negated _ (among_good (HasColumn scope) (first_token x) (meant scope x) (all_meant scope es) p.1 (good scope s x q.0) (all_good scope s es q.1))
  condition_good scope s (predicate p negated a) h =
      let g = good scope s a h in
      not_good (HasColumn scope) negated _ (record { typed = g.typed; columns = g.columns })
  condition_good scope s (both c d) h =
      let q = no_both (condition_faults scope c) (condition_faults scope d) h in
      let x = condition_good scope s c q.0 in
      let y = condition_good scope s d q.1 in
      record { typed = (x.typed, y.typed); columns = (x.columns, y.columns) }
  condition_good scope s (either c d) h =
      let q = no_both (condition_faults scope c) (condition_faults scope d) h in
      let x = condition_good scope s c q.0 in
      let y = condition_good scope s d q.1 in
      record { typed = (x.typed, y.typed); columns = (x.columns, y.columns) }
  condition_good scope s (negation_of c) h = let x = condition_good scope s c h in record { typed = x.typed; columns = x.columns }
  condition_good scope s (is negated c t) h = let x = condition_good scope s c h in not_good (HasColumn scope) negated _ (record { typed = x.typed; columns = x.columns })
  condition_good scope s (bracketed c) h = condition_good scope s c h

  pub all_good : (scope : Scope) → IsSizedScope scope → (es : Expressions) → all_faults scope es ≡ [] → AllGood (HasColumn scope) (all_meant scope es)
  all_good scope s (last e) h = good scope s e h
  all_good scope s (further e es) h = let q = no_both (faults scope e) (all_faults scope es) h in (good scope s e q.0, all_good scope s es q.1)

  pub choices_good : (scope : Scope) → IsSizedScope scope → (branches : Branching) → choices_faults scope branches ≡ [] → AreGood (HasColumn scope) (choices scope branches)
  choices_good scope s (otherwise e) h = good scope s e h
  choices_good scope s (when (condition c) e rest) h =
      let q = no_both (condition_faults scope c) (faults scope e ++ choices_faults scope rest) h in
      let r = no_both (faults scope e) (choices_faults scope rest) q.1 in
      (condition_good scope s c q.0, (good scope s e r.0, choices_good scope s rest r.1))
  choices_good scope s (when (expression v) e rest) h = absurd cc

  pub matches_good : (scope : Scope) → IsSizedScope scope → (token : List ℕ) (x : meaning.Expression) → IsGood (HasColumn scope) x → (branches : Branching) → matches_faults scope token x branches ≡ []
      → AreGood (HasColumn scope) (matches scope x branches)
  matches_good scope s token x g (otherwise e) h = good scope s e h
  matches_good scope s token x g (when (condition c) e rest) h = absurd cc
  matches_good scope s token x g (when (expression v) e rest) h =
      let q = no_both (or_own (faults scope v) (comparison_faults token x (meant scope v))) (faults scope e ++ matches_faults scope token x rest) h in
      let p = no_own (faults scope v) _ q.0 in
      let r = no_both (faults scope e) (matches_faults scope token x rest) q.1 in
      (comparison_good (HasColumn scope) Equal x (meant scope v) (tested (are_comparable (kind_of x) (kind_of (meant scope v))) _ _ p.1) g (good scope s v p.0), (good scope s e r.0, matches_good scope s token x g rest r.1))
