-- What the operators of a pipeline feed from a row, whatever is innermost, by induction over them.
use Rattle.std.proofs.Common.{◌≡◌, ℕ, ◌+◌, ◌≤◌, ◌&&◌, not, if◌then◌else◌, Bool, true, false, Some, List, [], ◌∷◌, ◌++◌, get_or, length, map, Result, Ok, Err, slice_get, refl, sym, ap, subst, arith}
use Rattle.std.proofs.Math.Path.{fun_ext}
use Rattle.std.specs.List.{AllByRecursion, list_any}
use Rattle.qw_types.specs.declared.code.Code.{Code}
use Rattle.qw_types.specs.declared.value.Val.{Val}
use Rattle.qw_types.specs.declared.value.Val.TheVariants as val
use Rattle.qw_module.specs.declared.instruction.ValType.{ValType}
use Rattle.qw_layout.specs.Hash.{slot}
use Rattle.qw_meaning.specs.Flow.{Flow, values_of}
use Rattle.qw_scalar.specs.Conjuncts.{passes}
use Rattle.qw_scalar.specs.Evaluation.{at_row}
use Rattle.qw_scalar.specs.Typing.{HasKind}
use Rattle.qw_scalar.specs.Units.{units_of_all, units_of_items}
use Rattle.qw_low.specs.Syntax.{Statement}
use Rattle.qw_low.specs.State.{Cells, LowState}
use Rattle.qw_expr.specs.Computes.{Known, AreDeclared}
use Rattle.qw_feed.specs.Feeds.{Any, Sink as FlowSink, FeedsTo, flow_by, flow_over, spend}
use Rattle.qw_feed.specs.Frames.{Below}
use Rattle.qw_table.specs.Joins.{have_values, keyed, where_values}
use Rattle.qw_table.specs.Keys.{text_octets}
use Rattle.qw_table.specs.Tables.{in_slot}
use Rattle.qw_physical.specs.Courses.{alone_cost, by_values, cost, fed, is_alone, meets, met, met_cost, pair_of, sink_key, sink_values, where_passed}
use Rattle.qw_physical.specs.Physical.{MayBeNull, Operator, Probe, Sink, filter, probe}
use Rattle.qw_physical.specs.declared.pipeline.ReadColumn.{ReadColumn}
use Rattle.qw_operator.specs.Carries.{IsCarriedTo, IsLookedUp, IsProbed, IsSunk}
use Rattle.qw_operator.specs.Costs.{cost_to}
use Rattle.qw_operator.specs.Takes.{AreSized, CanCarry, CanSink, IsTestOver, IsValueOver, anywhere}
use Rattle.qw_operator.proofs.CarriedFeeds.{filtered_feeds, have_kinds, items_at, probed_feeds, value_units}
use Rattle.qw_operator.proofs.Filters.{Runs, Here}
use Rattle.qw_leaves.proofs.Agreement.{value_at}
use Rattle.qw_operator.proofs.KnownLeaves.{AreFit}
use Rattle.qw_operator.proofs.OuterProbed.{outer_probed_feeds}
use Rattle.qw_operator.proofs.PairRows.{AreApart, AreDistinct, AreNew, IsNullAt, pair_null}
use Rattle.qw_operator.proofs.Promised.{AreOwn, IsItemAt}
use Rattle.qw_operator.proofs.Seen.{AreWithin, within_wider}
use Rattle.qw_operator.proofs.Served.{AreServed, Serves}
use Rattle.qw_operator.proofs.Stood.{Stood, built_of}

-- ---- by what may come of a key
same_flow : (r : Result (List Val) Code) (f g : List Val → Flow (List Val)) → ((vs : List Val) → f vs ≡ g vs) → flow_by r f ≡ flow_by r g
same_flow (Ok vs) f g same = same vs
same_flow (Err code) f g same = refl

same_units : (r : Result (List Val) Code) (f g : List Val → ℕ) → ((vs : List Val) → f vs ≡ g vs) → by_values r f ≡ by_values r g
same_units (Ok vs) f g same = same vs
same_units (Err code) f g same = refl

module _ (c : Cells) (stoods : List Stood) (base : ℕ) (sink : FlowSink) (runs : Runs c stoods base sink) (most fuel many : ℕ) (types : List ValType) where
  abbrev built : List (List (List Val))
  built = built_of stoods

  -- ---- a lookup, of either kind
  module _ (costs : List Val → ℕ) (feed : List Val → Flow (List Val)) (Rest : List Known → (next : ℕ) → Statement → List ValType → Type 0) (p : Probe) (carried known : List Known) (next : ℕ) (row : List Val) (a : Statement) (own : List ValType)
      (there : (st : Stood) × (slice_get stoods p.table ≡ Some st) × Serves p st) (low : base ≤ next) (room : next + length own ≤ many) (within : AreWithin next known) (declared : AreDeclared types known)
      (own_types : AreOwn types next own) (told : map (λ (k : Known). k.expression) known ≡ map (λ (k : Known). k.expression) carried) (fit : AreFit row carried) (new : AreNew carried p.kept) (distinct : AreDistinct p.kept)
      (nulls : AllByRecursion (λ (d : ReadColumn). value_at row d.number ≡ val.Null) p.kept) (may : MayBeNull (probe p)) (key_over : AllByRecursion (IsValueOver carried) p.key) (sized : AreSized p.kept)
      (on_over : AllByRecursion (IsTestOver (map anywhere p.kept ++ carried)) p.on)
      (Reached : List Val → Type 0) (reached_pair : (entry : List Val) → Reached (pair_of p row entry)) (reached_row : Reached row)
      (onward : (other : List Val) (held : List Known) (t : LowState) (after : ℕ) (b : Statement) (more : List ValType) → Reached other → map (λ (k : Known). k.expression) held ≡ map (λ (k : Known). k.expression) (map anywhere p.kept ++ carried) → AreWithin after held →
      AreDeclared types held → AreFit other (map anywhere p.kept ++ carried) → Here c stoods many held other t → Rest held after b more → next ≤ after → after + length more ≤ many → AreOwn types after more →
      1 + costs other ≤ fuel → FeedsTo sink most fuel (1 + costs other) (Below after) Any (feed other) b t) (s : LowState) (here : Here c stoods many known row s) where
    abbrev entries : List (List Val)
    entries = get_or built p.table []

    abbrev found : List Val → Flow (List Val)
    found key = where_values (flow_over (met feed p row key) entries) key

    abbrev spent : List Val → ℕ
    spent key = text_octets key + spend (met_cost costs p row key) (in_slot (keyed (length p.key)) (slot key) entries)

    abbrev pub work : List Val → Flow (List Val)
    work key = if is_alone p row key entries then feed row else found key

    abbrev pub turn : List Val → ℕ
    turn key = spent key + alone_cost costs p row key entries

    abbrev pub whole : ℕ
    whole = 1 + (units_of_items p.key (at_row row) + by_values (values_of p.key (at_row row)) turn)

    abbrev Fed : Type 0
    Fed = whole ≤ fuel → FeedsTo sink most fuel whole (Below next) Any (flow_by (values_of p.key (at_row row)) work) a s

    inner : p.outer ≡ false → IsProbed known next p Rest a own → Fed
    inner is h enough =
        let never : (key : List Val) → found key ≡ work key = λ key.
        ap (λ (b : Bool). if b && not (have_values key && list_any (meets p row key) entries) then feed row else found key) (sym is) in
        let none : (key : List Val) → spent key ≡ turn key = λ key.
        let zero : alone_cost costs p row key entries ≡ 0 = ap (λ (b : Bool). if b then 1 + (if is_alone p row key entries then costs row else 0) else 0) is in
        omega (arith, zero) in
        let units : by_values (values_of p.key (at_row row)) spent ≡ by_values (values_of p.key (at_row row)) turn = same_units (values_of p.key (at_row row)) spent turn none in
        subst (λ (f : Flow (List Val)). FeedsTo sink most fuel whole (Below next) Any f a s) (same_flow (values_of p.key (at_row row)) found work never)
        (subst (λ (n : ℕ). FeedsTo sink most fuel (1 + (units_of_items p.key (at_row row) + n)) (Below next) Any (flow_by (values_of p.key (at_row row)) found) a s) units
        (probed_feeds c stoods base sink runs most fuel many types costs feed Rest p carried known next row a own h there.0 there.1 there.2 low room within declared own_types told fit new distinct nulls key_over sized on_over
        (λ entry held t after b more. onward (pair_of p row entry) held t after b more (reached_pair entry)) s here (omega (arith, units, enough))))

    by_kind : (b : Bool) → p.outer ≡ b → IsLookedUp b known next p Rest a own → Fed
    by_kind false is h = inner is h
    by_kind true is h = outer_probed_feeds c stoods base sink runs most fuel many types costs feed Rest p is carried known next row a own h there.0 there.1 there.2 low room within declared own_types told fit new distinct nulls (may is) key_over sized on_over
        Reached reached_pair reached_row onward s here

    pub looked_up_feeds : IsLookedUp p.outer known next p Rest a own → whole ≤ fuel → FeedsTo sink most fuel whole (Below next) Any (flow_by (values_of p.key (at_row row)) work) a s
    looked_up_feeds h enough = by_kind p.outer refl h enough

-- what is innermost feeds what this sink places of a row's values, within so many units of them
abbrev pub FeedsEnd : (c : Cells) → (stoods : List Stood) → (base : ℕ) → (sink : FlowSink) → (most fuel many : ℕ) → (types : List ValType) → (End : List Known → (next : ℕ) → Statement → List ValType → Type 0) → (snk : Sink) → (turn : List Val → ℕ) → Type 0
FeedsEnd c stoods base sink most fuel many types End snk turn =
    (N next : ℕ) (known : List Known) (row : List Val) (a : Statement) (own : List ValType) (s : LowState) → 1 ≤ N → N ≤ fuel → base ≤ next → next + length own ≤ many → AreWithin next known → AreDeclared types known → AreOwn types next own → End known next a own →
    AllByRecursion (IsItemAt N row) (sink_values snk) → AllByRecursion HasKind (sink_values snk) → CanSink snk → ((vs : List Val) → values_of (sink_values snk) (at_row row) ≡ Ok vs → 1 + turn vs ≤ N) → Here c stoods many known row s →
    FeedsTo sink most fuel N (Below next) Any (fed (built_of stoods) [] snk row) a s

module _ (c : Cells) (stoods : List Stood) (base : ℕ) (sink : FlowSink) (runs : Runs c stoods base sink) (most fuel many : ℕ) (types : List ValType) (End : List Known → (next : ℕ) → Statement → List ValType → Type 0) (snk : Sink) (turn : List Val → ℕ)
    (ends : FeedsEnd c stoods base sink most fuel many types End snk turn) where
  abbrev tables : List (List (List Val))
  tables = built_of stoods

  abbrev units : List Operator → List Val → ℕ
  units operators row = cost_to (sink_values snk) turn tables operators row

  pub carried_to_feeds : (operators : List Operator) (carried known : List Known) (next : ℕ) (row : List Val) (a : Statement) (own : List ValType) (s : LowState) → 1 + units operators row ≤ fuel → base ≤ next → next + length own ≤ many →
      map (λ (k : Known). k.expression) known ≡ map (λ (k : Known). k.expression) carried → AreWithin next known → AreDeclared types known → AreOwn types next own → IsCarriedTo End known next operators a own → CanCarry carried operators snk → AreApart carried operators →
      AreServed stoods operators → AreFit row carried → IsNullAt row operators → Here c stoods many known row s →
      FeedsTo sink most fuel (1 + units operators row) (Below next) Any (fed tables operators snk row) a s
  carried_to_feeds [] carried known next row a own s enough low room told within declared own_types is can apart served fit nulls here =
      ends (1 + units [] row) next known row a own s (omega arith) enough low room within declared own_types is
      (items_at carried row (1 + units [] row) (sink_values snk) fit (omega arith) can.0) (have_kinds carried (sink_values snk) can.0) can.1
      (λ vs come. let same = value_units (values_of (sink_values snk) (at_row row)) turn vs come in omega (arith, same)) here
  carried_to_feeds (filter cs ∷ operators) carried known next row a own s enough low room told within declared own_types is can apart served fit nulls here =
      filtered_feeds c stoods base sink runs most fuel many types (units operators row) next known row cs (λ after b more. IsCarriedTo End known after operators b more) (fed tables operators snk row) a own s enough low room within own_types is carried fit can.0 here
      (λ t after b more passed now rest further room' types' enough'.
      carried_to_feeds operators carried known after row b more t enough' (omega (arith, low, further)) room' told (within_wider next after known further within) declared types' rest can.1 apart served fit nulls now)
  carried_to_feeds (probe p ∷ operators) carried known next row a own s enough low room told within declared own_types is can apart served fit nulls here =
      looked_up_feeds c stoods base sink runs most fuel many types (units operators) (fed tables operators snk) (λ held after b more. IsCarriedTo End held after operators b more) p carried known next row a own served.0 low room within declared own_types told fit apart.0 apart.1 nulls.0 can.1.3
      can.0 can.1.2 can.2 (λ other. IsNullAt other operators) (λ entry. pair_null p row entry carried operators apart.2 nulls.1) nulls.1
      (λ other held t after b more null told' within' declared' fit' now rest further room' types' enough'.
      carried_to_feeds operators (map anywhere p.kept ++ carried) held after other b more t enough' (omega (arith, low, further)) room' told' within' declared' types' rest can.3 apart.2 served.1 fit' null now)
      s here is enough

-- ---- rows that go to a sink
-- a table is entered within the texts of a row's key
abbrev pub sink_turn : Sink → List Val → ℕ
sink_turn snk values = text_octets (sink_key snk values)

pub same_cost : (all : List (List (List Val))) (operators : List Operator) (snk : Sink) (row : List Val) → cost_to (sink_values snk) (sink_turn snk) all operators row ≡ cost all operators snk row
same_cost all [] snk row = refl
same_cost all (filter cs ∷ operators) snk row = ap (λ (n : ℕ). units_of_all cs (at_row row) + where_passed (passes cs (at_row row)) n) (same_cost all operators snk row)
same_cost all (probe p ∷ operators) snk row =
    ap (λ (costs : List Val → ℕ). units_of_items p.key (at_row row) + by_values (values_of p.key (at_row row))
    (λ key. text_octets key + spend (met_cost costs p row key) (in_slot (keyed (length p.key)) (slot key) (get_or all p.table [])) + alone_cost costs p row key (get_or all p.table [])))
    (fun_ext (same_cost all operators snk))

pub carried_feeds : (c : Cells) (stoods : List Stood) (base : ℕ) (sink : FlowSink) (runs : Runs c stoods base sink) (most fuel many : ℕ) (types : List ValType) (snk : Sink) → FeedsEnd c stoods base sink most fuel many types (IsSunk snk) snk (sink_turn snk) →
    (operators : List Operator) (carried known : List Known) (next : ℕ) (row : List Val) (a : Statement) (own : List ValType) (s : LowState) → 1 + cost (built_of stoods) operators snk row ≤ fuel → base ≤ next → next + length own ≤ many →
    map (λ (k : Known). k.expression) known ≡ map (λ (k : Known). k.expression) carried → AreWithin next known → AreDeclared types known → AreOwn types next own → IsCarriedTo (IsSunk snk) known next operators a own → CanCarry carried operators snk → AreApart carried operators →
    AreServed stoods operators → AreFit row carried → IsNullAt row operators → Here c stoods many known row s →
    FeedsTo sink most fuel (1 + cost (built_of stoods) operators snk row) (Below next) Any (fed (built_of stoods) operators snk row) a s
carried_feeds c stoods base sink runs most fuel many types snk sunk operators carried known next row a own s enough low room told within declared own_types is can apart served fit nulls here =
    let same = same_cost (built_of stoods) operators snk row in
    subst (λ (n : ℕ). FeedsTo sink most fuel (1 + n) (Below next) Any (fed (built_of stoods) operators snk row) a s) same
    (carried_to_feeds c stoods base sink runs most fuel many types (IsSunk snk) snk (sink_turn snk) sunk operators carried known next row a own s (omega (arith, same, enough)) low room told within declared own_types is can apart served fit nulls here)
