-- What the block of a group feeds: its row of the grouped table comes into locals, or an exception of a set function is raised, and it goes through the
-- operators to the sink.
use Rattle.std.proofs.Common.{◌≡◌, ℕ, ◌+◌, ◌*◌, ◌<◌, ◌≤◌, ◌^◌, Bool, true, false, Some, List, [], ◌∷◌, ◌++◌, length, length-append, map, Result, Ok, Err, slice_get, refl, sym, ap, ap₂, ◌∙◌, subst, arith}
use Rattle.std.proofs.lemmas.List.{map-append}
use Rattle.std.specs.List.{AllByRecursion}
use Rattle.qw_types.specs.Kind.{IsOfKind, type_kind}
use Rattle.qw_types.specs.declared.code.Code.{Code}
use Rattle.qw_types.specs.declared.kind.Kind.{Kind}
use Rattle.qw_types.specs.declared.kind.Kind.TheVariants as kind
use Rattle.qw_types.specs.declared.value.Val.{Val}
use Rattle.qw_layout.specs.Row.{cell_offset}
use Rattle.qw_map.proofs.AreaLemmas.{all-append}
use Rattle.qw_meaning.specs.Flow.{Flow}
use Rattle.qw_grouped.specs.Groups.{function_values}
use Rattle.qw_module.specs.declared.instruction.ValType.{ValType}
use Rattle.qw_module.specs.declared.instruction.ValType.TheVariants.{I32}
use Rattle.qw_scalar.specs.Evaluation.{value_of, at_row}
use Rattle.qw_scalar.specs.Expression.{Expression}
use Rattle.qw_low.specs.Syntax.{Statement, seq}
use Rattle.qw_low.specs.State.{Own, Address, Cells, LowState}
use Rattle.qw_low.specs.Meaning.{meaning}
use Rattle.qw_low.specs.Size.{size}
use Rattle.qw_low.specs.Raising.{Kept}
use Rattle.qw_low.proofs.LessKnown.{IsLess, seen}
use Rattle.qw_low.proofs.Promises.{Ends-more}
use Rattle.qw_low.proofs.Results.{Kept-then, at_least}
use Rattle.qw_expr.specs.Cells.{DeclaresKind, DeclaresNull, DeclaresValue, Holds}
use Rattle.qw_expr.specs.Computes.{Known, AreHeld, AreDeclared}
use Rattle.qw_feed.specs.Cells.{HasCells, Uses, UsesNull}
use Rattle.qw_feed.specs.Feeds.{Any, Sink as FlowSink, FeedsTo, flow_by}
use Rattle.qw_feed.specs.Frames.{Below}
use Rattle.qw_feed.specs.Stages.{Among}
use Rattle.qw_feed.proofs.FeedRules.{feeds_weaker, own_by, own_then}
use Rattle.qw_feed.proofs.Frames.{Never, below-less}
use Rattle.qw_table.specs.Entries.{cell_from}
use Rattle.qw_group.specs.Groups.{HasAreas}
use Rattle.qw_group.specs.Values.{chosen_type, may_be_null, value_type, value_types}
use Rattle.qw_leaves.specs.Leaves.{HasLeaves}
use Rattle.qw_physical.specs.Courses.{cost, fed}
use Rattle.qw_physical.specs.Physical.{Operator, Sink, select}
use Rattle.qw_physical.specs.declared.pipeline.ReadColumn.{ReadColumn}
use Rattle.qw_operator.specs.Carries.{entry_types, known_entry}
use Rattle.qw_operator.specs.Takes.{AreSized, CanCarry, anywhere}
use Rattle.qw_operator.proofs.OperatorsFeed.{FeedsEnd, carried_feeds, carried_to_feeds}
use Rattle.qw_operator.proofs.EntryReads.{entry_declared, entry_many, entry_told, entry_within, reads_end}
use Rattle.qw_operator.proofs.Filters.{Runs, Here, base_high, keeps_kept, old_low, stand_keeps}
use Rattle.qw_scalar.specs.Typing.{IsUtf8Value}
use Rattle.qw_operator.proofs.KnownLeaves.{AreFit, Fits}
use Rattle.qw_operator.proofs.PairRows.{AreApart, AreAt, AreStored, IsNullAt, kept_fit}
use Rattle.qw_operator.proofs.Promised.{AreOwn, first_own_types, rest_own_types}
use Rattle.qw_operator.proofs.Seen.{AreWithin, StandsIn, held_later, less_kept, longer_kept, stands_later, within_wider}
use Rattle.qw_operator.proofs.Served.{AreServed}
use Rattle.qw_operator.proofs.Stood.{AllStand, Stood, built_of}
use Rattle.qw_operator.proofs.WholeFeeds.{FeedsSink}
use Rattle.qw_group.proofs.EntryAreas.{areas-map}
use Rattle.qw_operator.specs.Costs.{cost_to}
use Rattle.qw_group_pipeline.specs.Groups.{InEnd, InSink, IsGroupRowTo, all_anywhere, known_group, known_values, most_read, value_anywhere, values_types}
use Rattle.qw_group_pipeline.specs.declared.columns.ValueColumn.{ValueColumn}
use Rattle.qw_group_pipeline.proofs.ValueReads.{values_many}
use Rattle.qw_group_pipeline.proofs.ValuesCome.{AreIn, AreRead, aggregate_of, column_for, functions_of, values_end, values_held}

-- ---- what is known of set functions' values
-- a row fits them at which they are
values_fit : (row : List Val) (values : List ValueColumn) (vs : List Val) → AreRead values vs → AreAt row (map column_for values) vs → AreFit row (map value_anywhere values)
values_fit row [] [] read at = tt
values_fit row [] (w ∷ vs) read at = absurd read
values_fit row (v ∷ values) [] read at = absurd read
values_fit row (v ∷ values) (w ∷ vs) read at = ((subst (IsOfKind (type_kind v.ty)) (sym at.0) read.0.0, subst IsUtf8Value (sym at.0) read.0.1), values_fit row values vs read.1 at.1)

values_told : (free : ℕ) (values : List ValueColumn) → map (λ (k : Known). k.expression) (known_values free values) ≡ map (λ (k : Known). k.expression) (map value_anywhere values)
values_told free [] = refl
values_told free (v ∷ values) = ap (λ (l : List Expression). (value_anywhere v).expression ∷ l) (values_told (free + 8) values)

null_among : (free last : ℕ) (b : Bool) → 5 ≤ free → free < last → UsesNull (Among last) (cell_from free b).null
null_among free last true low room = (low, room)
null_among free last false low room = tt

values_within : (free last : ℕ) (values : List ValueColumn) → 5 ≤ free → free + 8 * length values ≤ last → AreWithin last (known_values free values)
values_within free last [] low room = tt
values_within free last (v ∷ values) low room = (
  ((omega (arith, low), omega (arith, room)), (omega (arith, low), omega (arith, room)), null_among free last (may_be_null v.function) low (omega (arith, room))),
  values_within (free + 8) last values (omega (arith, low)) (omega (arith, room)),
)

-- the local of a value is of the type that its column wants
abbrev pub AreOfKinds : List ValueColumn → Type 0
AreOfKinds values = AllByRecursion (λ (v : ValueColumn). value_type v.function v.argument ≡ chosen_type (type_kind v.ty)) values

null_declared : (types : List ValType) (free : ℕ) (b : Bool) → slice_get types free ≡ Some I32 → DeclaresNull types (cell_from free b).null
null_declared types free true so = so
null_declared types free false so = tt

value_declared : (types : List ValType) (kd : Kind) (free : ℕ) (b : Bool) → slice_get types (free + 1) ≡ Some (chosen_type kd) → slice_get types (free + 2) ≡ Some I32 → DeclaresKind types (cell_from free b) (Some kd)
value_declared types (kind.Number s) free b value long = value
value_declared types kind.Date free b value long = value
value_declared types kind.Text free b value long = (value, long)

pub values_declared : (types : List ValType) (free : ℕ) (values : List ValueColumn) → AreOfKinds values → AreOwn types free (values_types values) → AreDeclared types (known_values free values)
values_declared types free [] kinds own = tt
values_declared types free (v ∷ values) kinds own =
    let first : List ValType = value_types v.function v.argument in
    let rest : List ValType = values_types values in
    let these : AreOwn types free first = first_own_types types free (first ++ rest) first rest refl own in (
      (
        value_declared types (type_kind v.ty) free (may_be_null v.function) (subst (λ (t : ValType). slice_get types (free + 1) ≡ Some t) kinds.0 (these 1 (value_type v.function v.argument) refl)) (these 2 I32 refl),
        null_declared types free (may_be_null v.function) (subst (λ (i : ℕ). slice_get types i ≡ Some I32) (omega arith) (these 0 I32 refl)),
      ),
      values_declared types (free + 8) values kinds.1 (rest_own_types types free (first ++ rest) first rest refl own),
    )

-- units by a result
abbrev pub by_result : Result (List Val) Code → (List Val → ℕ) → ℕ
by_result (Ok vs) f = f vs
by_result (Err code) f = 0

by_ok : (r : Result (List Val) Code) (f : List Val → ℕ) (vs : List Val) → r ≡ Ok vs → by_result r f ≡ f vs
by_ok r f vs is = ap (λ (q : Result (List Val) Code). by_result q f) is

abbrev values_or : Result (List Val) Code → List Val
values_or (Ok vs) = vs
values_or (Err code) = []

-- ---- what is within the reads
-- It feeds what is made of a row that is known, within one more than its units, with tables standing: of a row of which `Good` says what is asked of it.
abbrev pub FeedsRest : (c : Cells) → (stoods : List Stood) → (base : ℕ) → (sink : FlowSink) → (most fuel many : ℕ) → (types : List ValType) → (carried : List Known) → (Rest : List Known → (next : ℕ) → Statement → List ValType → Type 0) → (Good : List Val → Type 0) → (work : List Val → Flow (List Val)) → (units : List Val → ℕ) → Type 0
FeedsRest c stoods base sink most fuel many types carried Rest Good work units =
    (known : List Known) (next : ℕ) (row : List Val) (a : Statement) (own : List ValType) (s : LowState) → 1 + units row ≤ fuel → base ≤ next → next + length own ≤ many → map (λ (k : Known). k.expression) known ≡ map (λ (k : Known). k.expression) carried → AreWithin next known →
    AreDeclared types known → AreOwn types next own → Rest known next a own → AreFit row carried → Good row → Here c stoods many known row s → FeedsTo sink most fuel (1 + units row) (Below next) Any (work row) a s

-- as operators and a sink do, and operators and another block innermost
module _ (c : Cells) (stoods : List Stood) (base : ℕ) (sink : FlowSink) (runs : Runs c stoods base sink) (most fuel many : ℕ) (types : List ValType) (carried : List Known) (operators : List Operator) (apart : AreApart carried operators) (served : AreServed stoods operators) (nulls : (row : List Val) → IsNullAt row operators) where
  pub sink_rest : (snk : Sink) → FeedsSink c stoods base sink most fuel many types snk → CanCarry carried operators snk → FeedsRest c stoods base sink most fuel many types carried (InSink operators snk) (λ row. Unit {0}) (fed (built_of stoods) operators snk) (cost (built_of stoods) operators snk)
  sink_rest snk sunk can known next row a own s enough low room told within declared own_types is fit good here =
      carried_feeds c stoods base sink runs most fuel many types snk sunk operators carried known next row a own s enough low room told within declared own_types is can apart served fit (nulls row) here

  pub end_rest : (End : List Known → (next : ℕ) → Statement → List ValType → Type 0) (values : List Expression) (turn : List Val → ℕ) → FeedsEnd c stoods base sink most fuel many types End (select values) turn → CanCarry carried operators (select values) →
      FeedsRest c stoods base sink most fuel many types carried (InEnd End operators) (λ row. Unit {0}) (fed (built_of stoods) operators (select values)) (cost_to values turn (built_of stoods) operators)
  end_rest End values turn ends can known next row a own s enough low room told within declared own_types is fit good here =
      carried_to_feeds c stoods base sink runs most fuel many types End (select values) turn ends operators carried known next row a own s enough low room told within declared own_types is can apart served fit (nulls row) here

module _ (c : Cells) (stoods : List Stood) (base : ℕ) (sink : FlowSink) (runs : Runs c stoods base sink) (most fuel many : ℕ) (types : List ValType) (Rest : List Known → (next : ℕ) → Statement → List ValType → Type 0) (Good : List Val → Type 0) (work : List Val → Flow (List Val)) (units : List Val → ℕ)
    (literals : List Known) (entry far next : ℕ) (key : List ReadColumn) (values : List ValueColumn) (a : Statement) (own : List ValType) (h : IsGroupRowTo Rest literals entry far next key values a own) (low : base ≤ next)
    (entry_low : entry < next) (room : next + length own ≤ many) (within : AreWithin next literals) (declared : AreDeclared types literals) (own_types : AreOwn types next own) (feeds : FeedsRest c stoods base sink most fuel many types (all_anywhere key values ++ literals) Rest Good work units)
    (kinds : AreOfKinds values) (sized : AreSized key) where
  -- ---- the locals: those of the key, those of the values, and the rest's
  abbrev first_value : ℕ
  first_value = next + 3 * length key

  abbrev last : ℕ
  last = next + 3 * length key + 8 * length values

  five : 5 ≤ next
  five = let high = base_high c stoods base sink runs in omega (arith, high, low)

  own_many : length own ≡ 3 * length key + (8 * length values + length h.rest_own)
  own_many =
      let one = ap (λ (o : List ValType). length o) h.own_is in
      let two = length-append (entry_types key) (values_types values ++ h.rest_own) in
      let three = length-append (values_types values) h.rest_own in
      let keys = entry_many key in
      let areas = values_many values in
      omega (arith, one, two, three, keys, areas)

  all_types : AreOwn types next (entry_types key ++ (values_types values ++ h.rest_own))
  all_types = subst (AreOwn types next) h.own_is own_types

  later_types : AreOwn types first_value (values_types values ++ h.rest_own)
  later_types = subst (λ (n : ℕ). AreOwn types (next + n) (values_types values ++ h.rest_own)) (entry_many key)
      (rest_own_types types next (entry_types key ++ (values_types values ++ h.rest_own)) (entry_types key) (values_types values ++ h.rest_own) refl all_types)

  rest_types : AreOwn types last h.rest_own
  rest_types = subst (λ (n : ℕ). AreOwn types (first_value + n) h.rest_own) (values_many values) (rest_own_types types first_value (values_types values ++ h.rest_own) (values_types values) h.rest_own refl later_types)

  -- ---- what is known at the group
  abbrev held : List Known
  held = known_group next key values ++ literals

  abbrev carried : List Known
  carried = all_anywhere key values ++ literals

  abbrev told_of : List Known → List Expression
  told_of ks = map (λ (k : Known). k.expression) ks

  group_told : told_of (known_group next key values) ≡ told_of (all_anywhere key values)
  group_told = map-append (λ (k : Known). k.expression) (known_entry next key) (known_values first_value values)
      ∙ (ap₂ (λ (x y : List Expression). x ++ y) (entry_told next key) (values_told first_value values) ∙ sym (map-append (λ (k : Known). k.expression) (map anywhere key) (map value_anywhere values)))

  told : told_of held ≡ told_of carried
  told = map-append (λ (k : Known). k.expression) (known_group next key values) literals
      ∙ (ap (λ (x : List Expression). x ++ told_of literals) group_told ∙ sym (map-append (λ (k : Known). k.expression) (all_anywhere key values) literals))

  held_within : AreWithin last held
  held_within = all-append (λ (k : Known). Uses (Among last) k.operand.cell) (known_group next key values) literals
      (all-append (λ (k : Known). Uses (Among last) k.operand.cell) (known_entry next key) (known_values first_value values) (entry_within next last key five (omega arith)) (values_within first_value last values (let high = five in omega (arith, high)) (omega arith)))
      (within_wider next last literals (omega arith) within)

  held_declared : AreDeclared types held
  held_declared = all-append (λ (k : Known). DeclaresValue types k.operand) (known_group next key values) literals
      (all-append (λ (k : Known). DeclaresValue types k.operand) (known_entry next key) (known_values first_value values)
      (entry_declared types next key (first_own_types types next (entry_types key ++ (values_types values ++ h.rest_own)) (entry_types key) (values_types values ++ h.rest_own) refl all_types))
      (values_declared types first_value values kinds (first_own_types types first_value (values_types values ++ h.rest_own) (values_types values) h.rest_own refl later_types))) declared

  -- ---- a group is met
  module _ (k o : ℕ) (key_values : List Val) (rows : List (List Val)) (t : LowState) (leads : slice_get t.locals entry ≡ Some (Address (Own k) o)) (cells : HasCells (StandsIn c t) t.cells k (o + cell_offset 0) key_values)
      (areas : HasAreas (StandsIn c t) (length key) (map aggregate_of values) rows c k (o + far)) (stand : AllStand c stoods t) (stored : AreStored key key_values) (few : 1 ≤ length values → length rows < 10 ^ 18) (less : IsLess c t.cells) (long : many ≤ length t.locals)
      (literals_held : (row : List Val) → AreHeld literals row (seen c t)) (literals_fit : (row : List Val) → AreFit row literals)
      (typed : (vs : List Val) → function_values (length key) (functions_of values) rows ≡ Ok vs → AreRead values vs)
      (goods : (vs : List Val) → function_values (length key) (functions_of values) rows ≡ Ok vs → Good (key_values ++ vs)) (key_at : (vs : List Val) → AreAt (key_values ++ vs) key key_values) (values_at : (vs : List Val) → AreRead values vs → AreAt (key_values ++ vs) (map column_for values) vs) where
    abbrev come : Result (List Val) Code
    come = function_values (length key) (functions_of values) rows

    abbrev N : ℕ
    N = 1 + (most_read (functions_of values) + by_result (function_values (length key) (functions_of values) rows) (λ vs. units (key_values ++ vs)))

    abbrev row : List Val
    row = key_values ++ values_or come

    module _ (enough : 1 + (most_read (functions_of values) + by_result (function_values (length key) (functions_of values) rows) (λ vs. units (key_values ++ vs))) ≤ fuel) where
      -- the key is in locals, and the values of the set functions
      module _ (u w : LowState) (first : Kept next t u) (read : AreHeld (known_entry next key) row (seen c u)) (second : Kept first_value u w) (vs : List Val) (is : come ≡ Ok vs) (held_vs : AreIn first_value values vs (seen c w)) where
        abbrev whole : List Val
        whole = key_values ++ vs

        row_is : row ≡ whole
        row_is = ap (λ (r : Result (List Val) Code). key_values ++ values_or r) is

        read_vs : AreRead values vs
        read_vs = typed vs is

        both_kept : Kept next t w
        both_kept = Kept-then next first_value t u w (omega arith) first second

        here : Here c stoods many held whole w
        here = record {
          less = less_kept c next t w both_kept less;
          held = all-append (λ (x : Known). (v : Val) × (value_of x.expression (at_row whole) ≡ Ok v) × Holds x.operand v (seen c w)) (known_group next key values) literals
              (all-append (λ (x : Known). (v : Val) × (value_of x.expression (at_row whole) ≡ Ok v) × Holds x.operand v (seen c w)) (known_entry next key) (known_values first_value values)
              (subst (λ (r : List Val). AreHeld (known_entry next key) r (seen c w)) row_is
              (held_later c (Among first_value) u w (longer_kept first_value u w second) (λ i among. second.below i among.1) (known_entry next key) row (entry_within next first_value key five (omega arith)) read))
              (values_held values vs first_value whole (seen c w) held_vs read_vs (values_at vs read_vs)))
              (held_later c (Among next) t w (longer_kept next t w both_kept) (λ i among. both_kept.below i among.1) literals whole within (literals_held whole));
          stand = stand_keeps c stoods base sink runs next t w low (keeps_kept c stoods base sink runs next t w low both_kept) stand;
          long = let same = both_kept.many in let far = long in omega (arith, same, far);
        }

        fit : AreFit whole carried
        fit = all-append (λ (x : Known). HasLeaves (Fits whole) x.expression) (all_anywhere key values) literals
            (all-append (λ (x : Known). HasLeaves (Fits whole) x.expression) (map anywhere key) (map value_anywhere values) (kept_fit whole key key_values sized stored (key_at vs))
            (values_fit whole values vs read_vs (values_at vs read_vs))) (literals_fit whole)

        units_are : by_result (function_values (length key) (functions_of values) rows) (λ ws. units (key_values ++ ws)) ≡ units (key_values ++ vs)
        units_are = by_ok come (λ ws. units (key_values ++ ws)) vs is

        onward : FeedsTo sink most fuel N (Below next) Any (work (key_values ++ vs)) h.rest w
        onward =
            let same = units_are in
            feeds_weaker sink most fuel (1 + units (key_values ++ vs)) N (Below last) (Below next) Any Any (work (key_values ++ vs)) h.rest w (omega (arith, same)) (λ i old. below-less next last i (omega arith) old) (λ x keeps any. tt)
            (feeds held last whole h.rest h.rest_own w (omega (arith, same, enough)) (omega (arith, low)) (let count = own_many in omega (arith, room, count)) told held_within held_declared rest_types h.carried fit (goods vs is) here)

      pub group_feeds : FeedsTo sink most fuel (1 + (most_read (functions_of values) + by_result (function_values (length key) (functions_of values) rows) (λ vs. units (key_values ++ vs)))) (Below next) Any
          (flow_by (function_values (length key) (functions_of values) rows) (λ vs. work (key_values ++ vs))) a t
      group_feeds =
          let count = own_many in
          let kept_sink : (rs : List (List Val)) (x y : LowState) → Kept next x y → sink.Has rs x → sink.Has rs y = λ rs x y kept. runs.kept next rs x y low kept in
          let Read : LowState → Type 0 = λ u. AreHeld (known_entry next key) row (seen c u) in
          subst (λ (b : Statement). FeedsTo sink most fuel N (Below next) Any (flow_by come (λ vs. work (key_values ++ vs))) b t) (sym h.is)
          (own_then sink most fuel next (Below next) (old_low c stoods base sink runs next low) kept_sink N next Read Any (flow_by come (λ vs. work (key_values ++ vs))) h.key_reads (seq h.value_reads h.rest) t (omega arith)
          (Ends-more (λ u. Kept next t u × Read u) Never (λ code. ⊥) (size h.key_reads) (size h.key_reads * N) (meaning most fuel h.key_reads t) (at_least (size h.key_reads) N (omega arith))
          (reads_end c row most fuel key (cell_offset 0) entry next h.key_reads key_values k o t h.key_reading five entry_low sized stored (key_at (values_or come)) less leads cells (omega (arith, room, count, long))))
          (λ u first read.
          own_by sink most fuel next (Below next) (old_low c stoods base sink runs next low) kept_sink {A = List Val} N first_value (λ vs w. AreIn first_value values vs (seen c w)) Any come (λ vs. work (key_values ++ vs)) h.value_reads h.rest u (omega arith)
          (values_end c most fuel N (omega arith) enough values far entry first_value (length key) h.value_reads rows k o u h.value_reading (omega (arith, entry_low)) few (less_kept c next t u first less) (first.below entry entry_low ∙ leads)
          (areas-map (StandsIn c t) (StandsIn c u) (λ p i octets. stands_later c t u p i octets (longer_kept next t u first)) c k (length key) (map aggregate_of values) rows (o + far) areas)
          (let same = first.many in omega (arith, same, long, room, count)) (omega arith))
          (λ vs w is second held_vs. onward u w first read second vs is held_vs)))
