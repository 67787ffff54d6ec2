-- The values of a group's set functions come into locals, one after another, or the first exception of one is raised; and they are known as columns of the
-- grouped table.
use Rattle.std.proofs.Common.{◌≡◌, ℕ, ◌+◌, ◌*◌, ◌<◌, ◌≤◌, ◌^◌, ◌≤ℤ◌, ℤ, pos, negsuc, unsigned_abs, Bool, true, false, Some, None, List, [], ◌∷◌, length, map, Result, Ok, Err, slice_get, refl, sym, ap, ◌∙◌, subst, arith}
use Rattle.std.proofs.Math.Nat.{le-max_left, le-max_right}
use Rattle.std.proofs.lemmas.Int.{ints}
use Rattle.std.proofs.lemmas.Nat.{mul-le}
use Rattle.qw_types.specs.Arithmetic.{◌>>=◌}
use Rattle.qw_types.specs.Kind.{IsOfKind, type_kind}
use Rattle.qw_types.specs.Value.{IsOfTypeOrNull}
use Rattle.qw_types.specs.declared.code.Code.{Code}
use Rattle.qw_types.specs.declared.kind.Kind.{Kind}
use Rattle.qw_types.specs.declared.value.Ty.{Ty}
use Rattle.qw_types.specs.declared.value.Ty.TheVariants as ty
use Rattle.qw_types.specs.declared.value.Val.{Val}
use Rattle.qw_types.specs.declared.value.Val.TheVariants as val
use Rattle.qw_grouped.specs.Groups.{function_values, values_at}
use Rattle.qw_grouped.specs.SetFunctions.{set_function_value, not_null, least, greatest}
use Rattle.qw_grouped.specs.declared.set_function.SetFunctionKind.{SetFunctionKind}
use Rattle.qw_grouped.specs.declared.set_function.SetFunctionKind.TheVariants.{CountRows, Count, Sum, Avg, Min, Max}
use Rattle.qw_low.specs.declared.cell.Cell.{Cell}
use Rattle.qw_low.specs.Syntax.{Statement}
use Rattle.qw_low.specs.State.{Part, Own, Address, Cells, LowState}
use Rattle.qw_low.specs.Meaning.{meaning}
use Rattle.qw_low.specs.Size.{size}
use Rattle.qw_low.specs.Raising.{Kept, Leaves, Raises}
use Rattle.qw_low.proofs.LessKnown.{IsLess, seen, seen_ends}
use Rattle.qw_low.proofs.Promises.{Ends-weaker}
use Rattle.qw_low.proofs.Results.{Comes, Kept-same, Kept-then, comes_skip, comes_then}
use Rattle.qw_expr.specs.Cells as exprs
use Rattle.qw_expr.specs.Cells.{IsWithin}
use Rattle.qw_expr.specs.Computes as computes
use Rattle.qw_read.specs.Reading.{most_of}
use Rattle.qw_feed.specs.Cells.{UsesNull}
use Rattle.qw_feed.proofs.Frames.{Never}
use Rattle.qw_table.specs.Entries as entries
use Rattle.qw_table.specs.Entries.{Stands, cell_from}
use Rattle.qw_group.specs.Areas.{HasAggregate, HasChosen, HasPlain, HasSum}
use Rattle.qw_group.specs.Groups.{HasAreas}
use Rattle.qw_group.specs.Values.{ReadsValue, may_be_null, read_units}
use Rattle.qw_group.specs.declared.group.Aggregate.{Aggregate}
use Rattle.qw_group.proofs.EntryAreas.{aggregate-map, areas-map}
use Rattle.qw_physical.specs.declared.pipeline.ReadColumn.{ReadColumn}
use Rattle.qw_scalar.specs.Typing.{IsUtf8Value}
use Rattle.qw_operator.proofs.PairRows.{AreAt}
use Rattle.qw_operator.proofs.Seen.{StandsIn, less_kept, longer_kept, stands_later, stands_more, value_later}
use Rattle.qw_group_pipeline.specs.Groups.{ReadsValues, known_values, most_read}
use Rattle.qw_group_pipeline.specs.declared.columns.ValueColumn.{ValueColumn}

-- ---- values, as columns of the grouped table and as set functions of a table of groups
abbrev pub column_for : ValueColumn → ReadColumn
column_for v = record { number = v.number; ty = v.ty; not_null = false }

abbrev pub aggregate_of : ValueColumn → Aggregate
aggregate_of v = record { function = v.function; argument = record { cell = record { value = 0; length = 0; null = None }; kind = v.argument } }

abbrev pub functions_of : List ValueColumn → List SetFunctionKind
functions_of values = map (λ (v : ValueColumn). v.function) values

-- ---- an area says the same where more is known
module _ (Text : Part → ℕ → List ℕ → Type 0) (c d : Cells) (less : IsLess c d) (k : ℕ) where
  plain_less : (at : ℕ) (v : Val) → HasPlain Text c k at v → HasPlain Text d k at v
  plain_less at val.Null h = h
  plain_less at (val.Num v) h = ((h.0.0, less (Own k) at 8 _ h.0.1, h.0.2, h.0.3), h.1)
  plain_less at (val.Date v) h = (h.0, less (Own k) at 8 _ h.1, h.2, h.3)
  plain_less at (val.Text t) h = (h.0, h.1, less (Own k) at 4 _ h.2, less (Own k) (at + 4) 4 _ h.3, h.4)

  sum_less : (at : ℕ) (vs : List Val) → HasSum vs c k at → HasSum vs d k at
  sum_less at vs h = record {
    low = h.low;
    high = h.high;
    low_is = less (Own k) at 8 _ h.low_is;
    high_is = less (Own k) (at + 8) 8 _ h.high_is;
    sum = h.sum;
    bounded = h.bounded;
  }

  chosen_less : (kd : Kind) (choose : Val → List Val → Val) (at : ℕ) (vs : List Val) → HasChosen Text kd choose vs c k at → HasChosen Text kd choose vs d k at
  chosen_less kd choose at [] h = tt
  chosen_less kd choose at (v ∷ vs) h = (h.0, plain_less at (choose v vs) h.1)

  aggregate_less : (function : SetFunctionKind) (kd : Kind) (values : List Val) (at : ℕ) → HasAggregate Text function kd values c k at → HasAggregate Text function kd values d k at
  aggregate_less CountRows kd values at h = less (Own k) (at + 16) 8 _ h
  aggregate_less Count kd values at h = less (Own k) (at + 16) 8 _ h
  aggregate_less Sum kd values at h = (less (Own k) (at + 16) 8 _ h.0, sum_less at (not_null values) h.1)
  aggregate_less Avg kd values at h = (less (Own k) (at + 16) 8 _ h.0, sum_less at (not_null values) h.1)
  aggregate_less Min kd values at h = (less (Own k) (at + 16) 8 _ h.0, chosen_less kd least at (not_null values) h.1)
  aggregate_less Max kd values at h = (less (Own k) (at + 16) 8 _ h.0, chosen_less kd greatest at (not_null values) h.1)

-- ---- a value is in locals
holds_same : (cell : Cell) (v : Val) (s : LowState) → entries.HoldsValue cell v s → exprs.HoldsValue cell v s
holds_same cell val.Null s h = h
holds_same cell (val.Num v) s h = h
holds_same cell (val.Date v) s h = h
holds_same cell (val.Text t) s h = h

-- these are, each in the first of eight locals from one on
abbrev pub AreIn : (free : ℕ) → List ValueColumn → List Val → LowState → Type 0
AreIn free [] [] s = Unit {0}
AreIn free (v ∷ values) (w ∷ vs) s = exprs.HoldsValue (cell_from free (may_be_null v.function)) w s × AreIn (free + 8) values vs s
AreIn free _ _ s = ⊥

null_used : (free : ℕ) (b : Bool) → UsesNull (λ (i : ℕ). i < free + 8) (cell_from free b).null
null_used free true = omega arith
null_used free false = tt

module _ (c : Cells) (most fuel N : ℕ) (once : 1 ≤ N) (fueled : N ≤ fuel) where
  module _ (v : ValueColumn) (at entry free : ℕ) (a : Statement) (xs : List Val) (k o : ℕ) (t : LowState) (reads : ReadsValue v.function v.argument at entry free a) (few : length xs < 10 ^ 18) (less : IsLess c t.cells)
      (leads : slice_get t.locals entry ≡ Some (Address (Own k) o)) (has : HasAggregate (StandsIn c t) v.function v.argument xs c k (o + at)) (room : free + 8 ≤ length t.locals) (enough : 1 + read_units v.function ≤ N) where
    abbrev cell : Cell
    cell = cell_from free (may_be_null v.function)

    abbrev Whole : Val → LowState → Type 0
    Whole w u = Kept free t u × entries.HoldsValue cell w u

    abbrev Known : Val → LowState → Type 0
    Known w u = Kept free (seen c t) u × entries.HoldsValue cell w u

    abbrev Goal : Val → LowState → Type 0
    Goal w u = Kept free t u × exprs.HoldsValue cell w (seen c u)

    cells_are : (r : Result Val Code) (u : LowState) → Leaves Known r u → u.cells ≡ c
    cells_are (Ok w) u h = ap (λ (x : LowState). x.cells) h.0.others
    cells_are (Err e) u h = absurd h

    joined : (r : Result Val Code) (u : LowState) → Leaves Whole r u × Leaves Known r (seen c u) → Leaves Goal r u
    joined (Ok w) u h = (h.0.0, holds_same cell w (seen c u) h.1.1)
    joined (Err e) u h = absurd h.0

    one_end : Comes most fuel N (λ (w : Val) u. Kept free t u × exprs.HoldsValue (cell_from free (may_be_null v.function)) w (seen c u)) (set_function_value v.function xs) a t
    one_end =
        let r : Result Val Code = set_function_value v.function xs in
        let M : ℕ = 1 + read_units v.function in
        let turns : read_units v.function < fuel = omega (arith, enough, fueled) in
        let known = reads.runs most fuel k o (seen c t) xs turns few leads
        (aggregate-map (StandsIn c t) (Stands (seen c t)) (λ p i octets h. (h.2, h.1)) c k v.function v.argument xs (o + at) has) room in
        let whole = reads.runs most fuel k o t xs turns few leads
        (aggregate-map (StandsIn c t) (Stands t) (λ p i octets. stands_more c t p i octets less) t.cells k v.function v.argument xs (o + at) (aggregate_less (StandsIn c t) c t.cells less k v.function v.argument xs (o + at) has)) room in
        Ends-weaker (size a * M) (size a * N) (λ u. Leaves Whole r u × Leaves Known r (seen c u)) (Leaves Goal r) Never Never (Raises r) (Raises r) (meaning most fuel a t) (mul-le (size a) M (size a) N (omega arith) enough)
        (λ u h. joined r u h) (λ u x. x) (λ code x. x)
        (seen_ends most fuel (size a * M) (size a * M) (Leaves Whole r) (Leaves Known r) Never Never (Raises r) (Raises r) c (λ u h. cells_are r u h) a t less known whole)

  mapped : (P Q : List Val → LowState → Type 0) (r : Result (List Val) Code) (w : Val) (a : Statement) (s : LowState) → ((vs : List Val) (u : LowState) → P vs u → Q (w ∷ vs) u) → Comes most fuel N P r a s →
      Comes most fuel N Q (r >>= (λ vs. let q : Result (List Val) Code = Ok (w ∷ vs) in q)) a s
  mapped P Q (Ok vs) w a s more h = Ends-weaker (size a * N) (size a * N) (P vs) (Q (w ∷ vs)) Never Never (λ code. ⊥) (λ code. ⊥) (meaning most fuel a s) (omega arith) (λ u p. more vs u p) (λ u x. x) (λ code x. x) h
  mapped P Q (Err e) w a s more h = h

  pub values_end : (values : List ValueColumn) (at entry free place : ℕ) (a : Statement) (rows : List (List Val)) (k o : ℕ) (t : LowState) → ReadsValues at entry free values a → entry < free → (1 ≤ length values → length rows < 10 ^ 18) → IsLess c t.cells →
      slice_get t.locals entry ≡ Some (Address (Own k) o) → HasAreas (StandsIn c t) place (map aggregate_of values) rows c k (o + at) → free + 8 * length values ≤ length t.locals → 1 + most_read (functions_of values) ≤ N →
      Comes most fuel N (λ (vs : List Val) u. Kept free t u × AreIn free values vs (seen c u)) (function_values place (functions_of values) rows) a t
  values_end [] at entry free place a rows k o t reads low few less leads has room enough =
      let Post : List Val → LowState → Type 0 = λ vs u. Kept free t u × AreIn free [] vs (seen c u) in
      subst (λ (b : Statement). Comes most fuel N Post (Ok []) b t) (sym reads) (comes_skip most fuel N once Post [] t (Kept-same free t, tt))
  values_end (v ∷ values) at entry free place a rows k o t reads low few less leads has room enough =
      let xs : List Val = values_at place rows in
      let fewer : length rows < 10 ^ 18 = few (omega arith) in
      let mine = le-max_left (read_units v.function) (most_read (functions_of values)) in
      let theirs = le-max_right (read_units v.function) (most_read (functions_of values)) in
      let many : length xs ≡ length rows = long rows in
      let Post : List Val → LowState → Type 0 = λ vs u. Kept free t u × AreIn free (v ∷ values) vs (seen c u) in
      let Mid : Val → LowState → Type 0 = λ w u. Kept free t u × exprs.HoldsValue (cell_from free (may_be_null v.function)) w (seen c u) in
      let next : o + at + 32 ≡ o + (at + 32) = omega arith in
      let others : Result (List Val) Code = function_values (place + 1) (functions_of values) rows in
      subst (λ (b : Statement). Comes most fuel N Post (function_values place (functions_of (v ∷ values)) rows) b t) (sym reads.2)
      (comes_then most fuel N {A = Val} {B = List Val} Mid Post (set_function_value v.function xs) (λ w. others >>= (λ vs. let q : Result (List Val) Code = Ok (w ∷ vs) in q)) reads.0 reads.1 t
      (one_end v at entry free reads.0 xs k o t reads.3 (omega (arith, many, fewer)) less leads has.0 (omega (arith, room)) (omega (arith, mine, enough)))
      (λ w u is mid.
      mapped (λ (vs : List Val) x. Kept (free + 8) u x × AreIn (free + 8) values vs (seen c x)) Post others w reads.1 u
      (λ vs x done. (
        Kept-then free (free + 8) t u x (omega arith) mid.0 done.0,
        (
          value_later c (λ (i : ℕ). i < free + 8) u x (longer_kept (free + 8) u x done.0) (λ i below. done.0.below i below) (cell_from free (may_be_null v.function)) w (omega arith, omega arith, null_used free (may_be_null v.function)) mid.1,
          done.1,
        ),
      ))
      (values_end values (at + 32) entry (free + 8) (place + 1) reads.1 rows k o u reads.4 (omega (arith, low)) (λ some. fewer) (less_kept c free t u mid.0 less) (mid.0.below entry low ∙ leads)
      (areas-map (StandsIn c t) (StandsIn c u) (λ p i octets. stands_later c t u p i octets (longer_kept free t u mid.0)) c k (place + 1) (map aggregate_of values) rows (o + (at + 32))
      (subst (λ (n : ℕ). HasAreas (StandsIn c t) (place + 1) (map aggregate_of values) rows c k n) next has.1))
      (omega (arith, room, mid.0.many)) (omega (arith, theirs, enough)))))
    where
      long : (rs : List (List Val)) → length (values_at place rs) ≡ length rs
      long [] = refl
      long (r ∷ rs) = let rest = long rs in omega (arith, rest)

-- ---- and known as columns
integer_small : (z : ℤ) → negsuc 2147483647 ≤ℤ z → z ≤ℤ pos 2147483647 → unsigned_abs z ≤ 2 ^ 31
integer_small (pos m) least greatest = omega (arith, ints, greatest)
integer_small (negsuc m) least greatest = omega (arith, ints, least)

-- of a typed value
pub within_most : (type : Ty) (b : Bool) (v : Val) → IsOfTypeOrNull type b v → IsWithin (most_of type) v
within_most type b val.Null is = tt
within_most ty.Integer b (val.Num z) is = integer_small z is.0 is.1
within_most (ty.Decimal precision scale) b (val.Num z) is = omega (arith, is)
within_most ty.Date b (val.Num z) is = absurd is
within_most (ty.Varchar limit) b (val.Num z) is = absurd is
within_most type b (val.Date d) is = tt
within_most type b (val.Text octets) is = tt

-- values as they are read: of their columns' kinds, texts in UTF-8, and numbers within what the types may have
abbrev pub AreRead : List ValueColumn → List Val → Type 0
AreRead [] [] = Unit {0}
AreRead (v ∷ values) (w ∷ vs) = (IsOfKind (type_kind v.ty) w × IsUtf8Value w × IsWithin (most_of v.ty) w) × AreRead values vs
AreRead _ _ = ⊥

pub read_many : (values : List ValueColumn) (vs : List Val) → AreRead values vs → length vs ≡ length (map column_for values)
read_many [] [] read = refl
read_many [] (w ∷ vs) read = absurd read
read_many (v ∷ values) [] read = absurd read
read_many (v ∷ values) (w ∷ vs) read = let rest = read_many values vs read.1 in omega (arith, rest)

pub values_held : (values : List ValueColumn) (vs : List Val) (free : ℕ) (row : List Val) (s : LowState) → AreIn free values vs s → AreRead values vs → AreAt row (map column_for values) vs → computes.AreHeld (known_values free values) row s
values_held [] [] free row s is read at = tt
values_held [] (w ∷ vs) free row s is read at = absurd is
values_held (v ∷ values) [] free row s is read at = absurd is
values_held (v ∷ values) (w ∷ vs) free row s is read at =
    ((w, ap (λ (x : Val). let r : Result Val Code = Ok x in r) at.0, (is.0, read.0.2)), values_held values vs (free + 8) row s is.1 read.1 at.1)
