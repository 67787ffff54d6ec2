-- What values, conjuncts and a lookup feed from a row, with the rest within them.
use Rattle.std.proofs.Common.{◌≡◌, ◌≢◌, ℕ, suc, ◌+◌, ◌*◌, ◌<◌, ◌≤◌, if◌then◌else◌, Bool, true, inr, Option, Some, List, [], ◌∷◌, ◌++◌, drop, get_or, length, length-append, map, take, Result, Ok, slice_get, refl, sym, ap, ap₂, ◌∙◌, subst, arith}
use Rattle.std.proofs.lemmas.List.{map-append}
use Rattle.std.proofs.lemmas.Option.{slice_get_within}
use Rattle.std.specs.List.{AllByRecursion}
use Rattle.qw_types.specs.Kind.{type_kind}
use Rattle.qw_types.specs.ValueOrder.{is_same_row}
use Rattle.qw_types.specs.declared.code.Code.{Code}
use Rattle.qw_types.specs.declared.kind.Kind.{Kind}
use Rattle.qw_types.specs.declared.value.Val.{Val}
use Rattle.qw_types.specs.declared.value.Val.TheVariants as val
use Rattle.qw_module.specs.declared.instruction.ValType.{ValType}
use Rattle.qw_layout.specs.Hash.{slot}
use Rattle.qw_layout.specs.Row.{entry_size}
use Rattle.qw_map.proofs.AreaLemmas.{all-append}
use Rattle.qw_meaning.specs.Flow.{Flow, values_of}
use Rattle.qw_scalar.specs.Columns.{HasColumns, HoldsIn}
use Rattle.qw_scalar.specs.Conjuncts.{passes}
use Rattle.qw_scalar.specs.Evaluation.{value_of, at_row}
use Rattle.qw_scalar.specs.Expression.{Condition, Expression}
use Rattle.qw_scalar.specs.Typing.{HasKind, kind_of}
use Rattle.qw_scalar.specs.Units.{units, units_of, units_of_all, units_of_items}
use Rattle.qw_scalar.proofs.UnitsLemmas.{most_each}
use Rattle.qw_low.specs.Syntax.{Statement, seq}
use Rattle.qw_low.specs.State.{Part, Value, Cells, LowState}
use Rattle.qw_low.specs.Meaning.{meaning}
use Rattle.qw_low.specs.Size.{size}
use Rattle.qw_low.specs.Raising.{Kept}
use Rattle.qw_low.proofs.LessKnown.{seen}
use Rattle.qw_low.proofs.Promises.{Ends-more}
use Rattle.qw_low.proofs.Results.{at_least}
use Rattle.qw_expr.specs.Cells.{DeclaresValue, Holds}
use Rattle.qw_expr.specs.Computes.{Known, AreHeld, AreDeclared}
use Rattle.qw_feed.specs.Cells.{Source, Supplies, AllSupply, AllUse, HasCells, Uses, kinds_of}
use Rattle.qw_feed.specs.Feeds.{Any, Sink as FlowSink, FeedsTo, flow_by, flow_over, spend, where_true}
use Rattle.qw_feed.specs.Frames.{Below, Keeps}
use Rattle.qw_feed.specs.Rows.{Row, address}
use Rattle.qw_feed.specs.Stages.{Item, Among, items_block, outs_of}
use Rattle.qw_feed.proofs.FeedRules.{feeds_less, feeds_weaker, own_then}
use Rattle.qw_feed.proofs.Frames.{Never, below-less}
use Rattle.qw_feed.proofs.InnerFeeds.{items_feed}
use Rattle.qw_table.specs.Joins.{HasJoinEntry, keyed, probe_types, sources_of, where_equal, where_values}
use Rattle.qw_table.specs.Keys.{text_octets}
use Rattle.qw_table.specs.Tables.{IsTable, in_slot}
use Rattle.qw_table.specs.declared.key.Field.{Field}
use Rattle.qw_table.proofs.JoinFeeds.{slot-low}
use Rattle.qw_physical.specs.Courses.{by_values, met, met_cost, pair_of, where_passed}
use Rattle.qw_physical.specs.Physical.{Probe}
use Rattle.qw_physical.specs.declared.pipeline.ReadColumn.{ReadColumn}
use Rattle.qw_operator.specs.Carries.{IsFiltered, IsProbed, all_moved, directory, entry_types, known_entry}
use Rattle.qw_operator.specs.Emitted.{AreComputed}
use Rattle.qw_operator.specs.Takes.{AreSized, IsTestOver, IsValueOver, anywhere}
use Rattle.qw_operator.proofs.EntryReads.{cells_behind, entry_declared, entry_many, entry_told, entry_within, reads_end}
use Rattle.qw_operator.proofs.Filters.{Runs, Here, base_high, conjuncts_feed, here_keeps, here_kept, old_low}
use Rattle.qw_leaves.specs.Leaves.{HasLeaves}
use Rattle.qw_leaves.proofs.Agreement.{value_at}
use Rattle.qw_leaves.proofs.LeafLemmas.{conditions_columns, leaves_columns}
use Rattle.qw_operator.proofs.KnownLeaves.{AreFit, Fits, take_leaves, takes_leaves}
use Rattle.qw_operator.proofs.LookupFeeds.{lookup_feeds, spend_has}
use Rattle.qw_operator.proofs.PairRows.{AreAt, AreDistinct, AreNew, AreStored, kept_fit, pair_at, pair_fits, pair_held, same_told}
use Rattle.qw_operator.proofs.Fronts.{all_more}
use Rattle.qw_leaves.proofs.LeafLists.{all_back}
use Rattle.qw_operator.proofs.Promised.{AreHigh, AreOwn, IsItemAt, IsTestAt, blocks_moved, first_own_types, items_high, items_kinds, items_promised, items_use, kinds_moved, rest_own_types, values_come, values_in}
use Rattle.qw_operator.proofs.Seen.{AreWithin, Longer, StandsIn, less_keeps, longer_back, longer_keeps, longer_kept, longer_same, stands_later, stands_more, within_wider}
use Rattle.qw_operator.proofs.Served.{Serves, slot_met, slot_spent, table_placed}
use Rattle.qw_operator.proofs.Stood.{Stood, ArePlaced, StandsTable, EntryOf, built_of, entry_later}

-- ---- what is supplied
pub supply_map : (Text Text' : Part → ℕ → List ℕ → Type 0) (locals : List Value) (os : List Source) (vs : List Val) → ((p : Part) (o : ℕ) (octets : List ℕ) → Text p o octets → Text' p o octets) → AllSupply Text locals os vs → AllSupply Text' locals os vs
supply_map Text Text' locals [] [] also h = tt
supply_map Text Text' locals [] (v ∷ vs) also h = absurd h
supply_map Text Text' locals (o ∷ os) [] also h = absurd h
supply_map Text Text' locals (o ∷ os) (v ∷ vs) also h = ((one v h.0.0, h.0.1), supply_map Text Text' locals os vs also h.1)
  where
    one : (v : Val) → Supplies Text locals o.cell v → Supplies Text' locals o.cell v
    one val.Null h = h
    one (val.Num z) h = h
    one (val.Date d) h = h
    one (val.Text t) h = (h.0, h.1, h.2, h.3, h.4, also h.0 h.1 t h.5, h.6)

-- ---- an element of a list
pub one_of : {X : Type 0} (P : X → Type 0) (done : List X) (x : X) (left : List X) → AllByRecursion P (done ++ x ∷ left) → P x
one_of P done x left all = (all_back P done (x ∷ left) all).0

pub items_many : (known : List Known) (next : ℕ) (es : List Expression) (gs : List Item) (own : List ValType) → AreComputed known next es gs own → length gs ≡ length es
items_many known next [] [] own are = refl
items_many known next [] (g ∷ gs) own are = absurd are
items_many known next (e ∷ es) [] own are = absurd are
items_many known next (e ∷ es) (g ∷ gs) own are = ap suc (items_many known (next + length are.1) es gs are.2 are.6)

pub moved_many : (gs : List Item) → length (outs_of (all_moved gs)) ≡ length gs
moved_many [] = refl
moved_many (g ∷ gs) = ap suc (moved_many gs)

pub sources_many : (fs : List Field) → length (sources_of fs) ≡ length fs
sources_many [] = refl
sources_many (f ∷ fs) = ap suc (sources_many fs)

-- ---- what a row makes of conjuncts and items, of what is known
pub tests_at : (carried : List Known) (row : List Val) (N : ℕ) (cs : List Condition) → AreFit row carried → 1 + units_of_all cs (at_row row) ≤ N → AllByRecursion (IsTestOver carried) cs → AllByRecursion (IsTestAt N row) cs
tests_at carried row N cs fit enough over = both cs over (most_each (λ (c : Condition). units_of c (at_row row)) (units_of_all cs (at_row row)) cs (omega arith))
  where
    both : (ds : List Condition) → AllByRecursion (IsTestOver carried) ds → AllByRecursion (λ c. units_of c (at_row row) ≤ units_of_all cs (at_row row)) ds → AllByRecursion (IsTestAt N row) ds
    both [] over less = tt
    both (d ∷ ds) over less = (
      (conditions_columns (Fits row) (HoldsIn row) (λ i t h. h.0) d (take_leaves (Fits row) carried fit d over.0.1), let one = less.0 in omega (arith, one, enough)),
      both ds over.1 less.1,
    )

pub items_at : (carried : List Known) (row : List Val) (N : ℕ) (es : List Expression) → AreFit row carried → 1 + units_of_items es (at_row row) ≤ N → AllByRecursion (IsValueOver carried) es → AllByRecursion (IsItemAt N row) es
items_at carried row N es fit enough over = both es over (most_each (λ (e : Expression). units e (at_row row)) (units_of_items es (at_row row)) es (omega arith))
  where
    both : (ds : List Expression) → AllByRecursion (IsValueOver carried) ds → AllByRecursion (λ e. units e (at_row row) ≤ units_of_items es (at_row row)) ds → AllByRecursion (IsItemAt N row) ds
    both [] over less = tt
    both (d ∷ ds) over less = (
      record {
        typed = over.0.0.0;
        columns = leaves_columns (Fits row) (HoldsIn row) (λ i t h. h.0) d (takes_leaves (Fits row) carried fit d over.0.1);
        fits = takes_leaves (Fits row) carried fit d over.0.1;
        enough = let one = less.0 in omega (arith, one, enough);
      },
      both ds over.1 less.1,
    )

pub have_kinds : (carried : List Known) (es : List Expression) → AllByRecursion (IsValueOver carried) es → AllByRecursion HasKind es
have_kinds carried es over = all_more (IsValueOver carried) HasKind es (λ e one. one.0.1) over

-- ---- units
pub value_units : (r : Result (List Val) Code) (f : List Val → ℕ) (vs : List Val) → r ≡ Ok vs → by_values r f ≡ f vs
value_units r f vs is = ap (λ (q : Result (List Val) Code). by_values q f) is

pub passed_units : (r : Result Bool Code) (n : ℕ) → r ≡ Ok true → where_passed r n ≡ n
passed_units r n is = ap (λ (q : Result Bool Code). where_passed q n) is

pub met_units : (costs : List Val → ℕ) (p : Probe) (row key entry : List Val) → is_same_row key (take (length p.key) entry) ≡ true →
    met_cost costs p row key entry ≡ text_octets key + (units_of_all p.on (at_row (pair_of p row entry)) + where_passed (passes p.on (at_row (pair_of p row entry))) (costs (pair_of p row entry)))
met_units costs p row key entry is =
    ap (λ (b : Bool). text_octets key + (if b then units_of_all p.on (at_row (pair_of p row entry)) + where_passed (passes p.on (at_row (pair_of p row entry))) (costs (pair_of p row entry)) else 0)) is

-- ---- a table that is looked up by the values of a key
abbrev pub kept_kinds : Probe → List (Option Kind)
kept_kinds p = map (λ (d : ReadColumn). let k : Option Kind = Some (type_kind d.ty) in k) p.kept

pub record KeyedTable (c : Cells) (p : Probe) (st : Stood) (key : List Field) (t : LowState) : Type 0 where
  pub key_many : length key ≡ length p.key
  pub fields_many : st.fields ≡ length key
  pub kinds_there : kinds_of (sources_of st.cells) ≡ kinds_of (sources_of key) ++ kept_kinds p
  pub placed : (j : ℕ) → j < 1024 → ArePlaced (keyed (length p.key)) st.chains j
  pub table_there : IsTable (HasJoinEntry (StandsIn c t) (kinds_of (sources_of st.cells)) (length key)) (keyed (length key)) (entry_size 0 (length st.cells) 0) st.part st.offset st.front st.chains st.entries t.cells t.own

pub keyed_table : (c : Cells) (p : Probe) (known : List Known) (next : ℕ) (items : List Item) (own : List ValType) (key : List Field) → AreComputed known next p.key items own → outs_of (all_moved items) ≡ sources_of key → (st : Stood) → Serves p st → (t : LowState) → StandsTable c p.table st t → KeyedTable c p st key t
keyed_table c p known next items own key computed key_is st serves t stood = record {
  key_many = many;
  fields_many = serves.fields ∙ sym many;
  kinds_there = serves.kinds ∙ ap (λ (ks : List (Option Kind)). ks ++ kept_kinds p) (sym kinds);
  placed = subst (λ (n : ℕ). (j : ℕ) → j < 1024 → ArePlaced (keyed n) st.chains j) serves.fields
      (table_placed (EntryOf c t st.cells st.fields) (keyed st.fields) (entry_size 0 (length st.cells) 0) st.part st.offset st.front st.chains st.entries t.cells t.own stood.table);
  table_there = subst (λ (n : ℕ). IsTable (HasJoinEntry (StandsIn c t) (kinds_of (sources_of st.cells)) n) (keyed n) (entry_size 0 (length st.cells) 0) st.part st.offset st.front st.chains st.entries t.cells t.own) (serves.fields ∙ sym many) stood.table;
}
  where
    many : length key ≡ length p.key
    many = sym (sources_many key) ∙ (ap (λ (os : List Source). length os) (sym key_is) ∙ (moved_many items ∙ items_many known next p.key items own computed))

    kinds : kinds_of (sources_of key) ≡ map kind_of p.key
    kinds = ap kinds_of (sym key_is) ∙ (kinds_moved items ∙ items_kinds known next p.key items own computed)

module _ (c : Cells) (stoods : List Stood) (base : ℕ) (sink : FlowSink) (runs : Runs c stoods base sink) (most fuel many : ℕ) (types : List ValType) where
  abbrev built : List (List (List Val))
  built = built_of stoods

  -- ---- values by which what follows feeds
  pub values_feed : (N next : ℕ) (known : List Known) (row : List Val) (es : List Expression) (items : List Item) (own : List ValType) (work : List Val → Flow (List Val)) (rest : Statement) (s : LowState) → 1 ≤ N → N ≤ fuel → base ≤ next → next + length own ≤ many →
      AreWithin next known → AreDeclared types known → AreOwn types next own → AreComputed known next es items own → AllByRecursion (IsItemAt N row) es → AllByRecursion HasKind es → Here c stoods many known row s →
      ((vs : List Val) (t : LowState) → values_of es (at_row row) ≡ Ok vs → Kept next s t → AllSupply (StandsIn c s) t.locals (outs_of (all_moved items)) vs → FeedsTo sink most fuel N (Below next) Any (work vs) rest t) →
      FeedsTo sink most fuel N (Below next) Any (flow_by (values_of es (at_row row)) work) (seq (items_block items) rest) s
  values_feed N next known row es items own work rest s some enough low room within declared own_types are at kinds here onward =
      let same = values_come es row in
      let Held : LowState → Type 0 = λ u. Here c stoods many known row u × Longer u s in
      let five = base_high c stoods base sink runs in
      let high : AreHigh items = items_high known types next es items own (omega (arith, five, low)) within are kinds declared own_types in
      subst (λ (b : Statement). FeedsTo sink most fuel N (Below next) Any (flow_by (values_of es (at_row row)) work) (seq b rest) s) (blocks_moved items)
      (subst (λ (q : Result (List Val) Code). FeedsTo sink most fuel N (Below next) Any (flow_by q work) (seq (items_block (all_moved items)) rest) s) same
      (items_feed sink most fuel next (Below next) (old_low c stoods base sink runs next low) (λ rows t u kept. runs.kept next rows t u low kept) N many some
      next (omega arith) Held (λ t u kept held. (here_kept c stoods base sink runs many next known row t u low within kept held.0, longer_back next s t u kept held.1)) (StandsIn c s)
      Any (all_moved items) (values_in es row) work rest s
      (items_promised known c row most fuel N many enough s Held (λ u held. (held.0.held, held.0.less, held.1)) next next es items own (omega arith) room are at high)
      (here, longer_same s) here.long
      (λ vs t is kept supplied. onward vs t (sym same ∙ is) kept supplied)))

  -- ---- conjuncts, and within them the rest
  pub filtered_feeds : (later next : ℕ) (known : List Known) (row : List Val) (cs : List Condition) (Rest : (next : ℕ) → Statement → List ValType → Type 0) (f : Flow (List Val)) (a : Statement) (own : List ValType) (s : LowState) →
      1 + (units_of_all cs (at_row row) + where_passed (passes cs (at_row row)) later) ≤ fuel → base ≤ next → next + length own ≤ many → AreWithin next known → AreOwn types next own → IsFiltered known next cs Rest a own → (carried : List Known) → AreFit row carried → AllByRecursion (IsTestOver carried) cs →
      Here c stoods many known row s →
      ((t : LowState) (after : ℕ) (b : Statement) (more : List ValType) → passes cs (at_row row) ≡ Ok true → Here c stoods many known row t → Rest after b more → next ≤ after → after + length more ≤ many → AreOwn types after more → 1 + later ≤ fuel → FeedsTo sink most fuel (1 + later) (Below after) Any f b t) →
      FeedsTo sink most fuel (1 + (units_of_all cs (at_row row) + where_passed (passes cs (at_row row)) later)) (Below next) Any (flow_by (passes cs (at_row row)) (where_true f)) a s
  filtered_feeds later next known row cs Rest f a own s enough low room within own_types h carried fit over here onward =
      let N : ℕ = 1 + (units_of_all cs (at_row row) + where_passed (passes cs (at_row row)) later) in
      let after : ℕ = next + length h.tests_own in
      let all : length own ≡ length h.tests_own + length h.rest_own = ap (λ (o : List ValType). length o) h.own_is ∙ length-append h.tests_own h.rest_own in
      subst (λ (b : Statement). FeedsTo sink most fuel N (Below next) Any (flow_by (passes cs (at_row row)) (where_true f)) b s) (sym h.is)
      (conjuncts_feed c stoods base sink runs most fuel many N next (omega arith) enough low known within row h.tests h.ends cs h.tests_own f h.rest s (omega (arith, room, all)) h.decided
      (tests_at carried row N cs fit (omega arith) over) here
      (λ t now kept is.
      let less = passed_units (passes cs (at_row row)) later is in
      feeds_weaker sink most fuel (1 + later) N (Below after) (Below next) Any Any f h.rest t (omega (arith, less)) (λ i old. below-less next after i (omega arith) old) (λ u keeps any. tt)
      (onward t after h.rest h.rest_own is now h.onward (omega arith) (omega (arith, room, all)) (rest_own_types types next own h.tests_own h.rest_own h.own_is own_types) (omega (arith, less, enough)))))

  -- ---- a lookup, and within it the rest
  module _ (costs : List Val → ℕ) (feed : List Val → Flow (List Val)) (Rest : List Known → (next : ℕ) → Statement → List ValType → Type 0) (p : Probe) (carried known : List Known) (next : ℕ) (row : List Val) (a : Statement) (own : List ValType)
      (h : IsProbed known next p Rest a own) (st : Stood) (there : slice_get stoods p.table ≡ Some st) (serves : Serves p st) (low : base ≤ next) (room : next + length own ≤ many) (within : AreWithin next known) (declared : AreDeclared types known)
      (own_types : AreOwn types next own) (told : map (λ (k : Known). k.expression) known ≡ map (λ (k : Known). k.expression) carried) (fit : AreFit row carried) (new : AreNew carried p.kept) (distinct : AreDistinct p.kept)
      (nulls : AllByRecursion (λ (d : ReadColumn). value_at row d.number ≡ val.Null) p.kept) (key_over : AllByRecursion (IsValueOver carried) p.key) (sized : AreSized p.kept) (on_over : AllByRecursion (IsTestOver (map anywhere p.kept ++ carried)) p.on)
      (onward : (entry : List Val) (held : List Known) (t : LowState) (after : ℕ) (b : Statement) (more : List ValType) → map (λ (k : Known). k.expression) held ≡ map (λ (k : Known). k.expression) (map anywhere p.kept ++ carried) → AreWithin after held →
      AreDeclared types held → AreFit (pair_of p row entry) (map anywhere p.kept ++ carried) → Here c stoods many held (pair_of p row entry) t → Rest held after b more → next ≤ after → after + length more ≤ many → AreOwn types after more →
      1 + costs (pair_of p row entry) ≤ fuel → FeedsTo sink most fuel (1 + costs (pair_of p row entry)) (Below after) Any (feed (pair_of p row entry)) b t) where
    -- ---- the locals: those of the key, the lookup's own, those of the entry's cells, and the rest's
    abbrev free : ℕ
    free = next + length h.key_own

    abbrev first_cell : ℕ
    first_cell = free + 14

    abbrev last : ℕ
    last = first_cell + 3 * length p.kept

    own_many : length own ≡ length h.key_own + (14 + (3 * length p.kept + length h.rest_own))
    own_many =
        let one = ap (λ (o : List ValType). length o) h.own_is in
        let two = length-append h.key_own (probe_types ++ (entry_types p.kept ++ h.rest_own)) in
        let three = length-append probe_types (entry_types p.kept ++ h.rest_own) in
        let four = length-append (entry_types p.kept) h.rest_own in
        let five = entry_many p.kept in
        omega (arith, one, two, three, four, five)

    key_types : AreOwn types next h.key_own
    key_types = first_own_types types next own h.key_own (probe_types ++ (entry_types p.kept ++ h.rest_own)) h.own_is own_types

    later_types : AreOwn types first_cell (entry_types p.kept ++ h.rest_own)
    later_types = rest_own_types types free (probe_types ++ (entry_types p.kept ++ h.rest_own)) probe_types (entry_types p.kept ++ h.rest_own) refl
        (rest_own_types types next own h.key_own (probe_types ++ (entry_types p.kept ++ h.rest_own)) h.own_is own_types)

    rest_types : AreOwn types last h.rest_own
    rest_types = subst (λ (n : ℕ). AreOwn types (first_cell + n) h.rest_own) (entry_many p.kept) (rest_own_types types first_cell (entry_types p.kept ++ h.rest_own) (entry_types p.kept) h.rest_own refl later_types)

    five : 5 ≤ next
    five = let high = base_high c stoods base sink runs in omega (arith, high, low)

    -- ---- what is known of a row with an entry
    abbrev held : List Known
    held = known_entry first_cell p.kept ++ known

    held_told : map (λ (k : Known). k.expression) held ≡ map (λ (k : Known). k.expression) (map anywhere p.kept ++ carried)
    held_told = map-append (λ (k : Known). k.expression) (known_entry first_cell p.kept) known
        ∙ (ap₂ (λ (x y : List Expression). x ++ y) (entry_told first_cell p.kept) told ∙ sym (map-append (λ (k : Known). k.expression) (map anywhere p.kept) carried))

    held_within : AreWithin last held
    held_within = all-append (λ (k : Known). Uses (Among last) k.operand.cell) (known_entry first_cell p.kept) known
        (entry_within first_cell last p.kept (omega (arith, five)) (omega arith)) (within_wider next last known (omega arith) within)

    held_declared : AreDeclared types held
    held_declared = all-append (λ (k : Known). DeclaresValue types k.operand) (known_entry first_cell p.kept) known
        (entry_declared types first_cell p.kept (first_own_types types first_cell (entry_types p.kept ++ h.rest_own) (entry_types p.kept) h.rest_own refl later_types)) declared

    known_new : AreNew known p.kept
    known_new = same_told (λ e. HasColumns (λ i t. AllByRecursion (λ (d : ReadColumn). i ≢ d.number) p.kept) e) known carried told new

    -- ---- an entry is met
    module _ (key : List Val) (t : LowState) (here : Here c stoods many known row t) where
      abbrev units_met : List Val → ℕ
      units_met entry = met_cost costs p row key entry

      abbrev inner : List Val → Flow (List Val)
      inner entry = flow_by (passes p.on (at_row (pair_of p row entry))) (where_true (feed (pair_of p row entry)))

      module _ (e : Row) (w : LowState) (stored : AreStored p.kept (drop (length p.key) e.values)) (leads : slice_get w.locals (free + 4) ≡ Some (address e)) (keeps : Keeps (Below free) sink.Spared t w)
          (has : EntryOf c t st.cells st.fields w.cells e.part e.offset e.values) (same : is_same_row key (take (length p.key) e.values) ≡ true) (enough : 1 + units_met e.values ≤ fuel) where
        abbrev pair : List Val
        pair = pair_of p row e.values

        abbrev M : ℕ
        M = 1 + (units_of_all p.on (at_row pair) + where_passed (passes p.on (at_row pair)) (costs pair))

        least : M ≤ 1 + units_met e.values
        least = let is = met_units costs p row key e.values same in omega (arith, is)

        here_w : Here c stoods many known row w
        here_w = here_keeps c stoods base sink runs many free known row t w (omega (arith, low)) (within_wider next free known (omega arith) within) keeps here

        pair_row : AreAt pair p.kept (drop (length p.key) e.values)
        pair_row = pair_at p row e.values distinct nulls stored

        cells_there : HasCells (StandsIn c w) w.cells e.part (e.offset + (24 + 16 * length p.key)) (drop (length p.key) e.values)
        cells_there =
            let place : e.offset + 24 + 16 * length p.key ≡ e.offset + (24 + 16 * length p.key) = omega arith in
            subst (λ (at : ℕ). HasCells (StandsIn c w) w.cells e.part at (drop (length p.key) e.values)) place
            (cells_behind (StandsIn c w) w.cells e.part (e.offset + 24) (length p.key) e.values
            (entry_later c t w st.cells st.fields w.cells e.part e.offset e.values (longer_keeps (Below free) sink.Spared t w keeps) has).0.1)

        pair_fit : AreFit pair (map anywhere p.kept ++ carried)
        pair_fit = all-append (λ (k : Known). HasLeaves (Fits pair) k.expression) (map anywhere p.kept) carried
            (kept_fit pair p.kept (drop (length p.key) e.values) sized stored pair_row) (pair_fits p row e.values carried new fit)

        here_pair : (u : LowState) → Kept first_cell w u → AreHeld (known_entry first_cell p.kept) pair (seen c u) → Here c stoods many held pair u
        here_pair u kept read =
            let now : Here c stoods many known row u = here_kept c stoods base sink runs many first_cell known row w u (omega (arith, low)) (within_wider next first_cell known (omega arith) within) kept here_w in
            record {
              less = now.less;
              held = all-append (λ (k : Known). (v : Val) × (value_of k.expression (at_row pair) ≡ Ok v) × Holds k.operand v (seen c u)) (known_entry first_cell p.kept) known read (pair_held p row e.values known (seen c u) known_new now.held);
              stand = now.stand;
              long = now.long;
            }

        Read : LowState → Type 0
        Read u = AreHeld (known_entry first_cell p.kept) pair (seen c u)

        pub met_feeds : FeedsTo sink most fuel (1 + units_met e.values) (Below first_cell) Any (inner e.values) (seq h.reads h.rest) w
        unfolding Read
        met_feeds =
            let long = here_w.long in
            feeds_weaker sink most fuel M (1 + units_met e.values) (Below first_cell) (Below first_cell) Any Any (inner e.values) (seq h.reads h.rest) w least (λ i old. old) (λ u keeps any. tt)
            (own_then sink most fuel first_cell (Below first_cell) (old_low c stoods base sink runs first_cell (omega (arith, low))) (λ rows x y kept. runs.kept first_cell rows x y (omega (arith, low)) kept) M first_cell Read Any (inner e.values) h.reads h.rest w (omega arith)
            (Ends-more (λ u. Kept first_cell w u × Read u) Never (λ code. ⊥) (size h.reads) (size h.reads * M) (meaning most fuel h.reads w) (at_least (size h.reads) M (omega arith))
            (reads_end c pair most fuel p.kept (24 + 16 * length p.key) (free + 4) first_cell h.reads (drop (length p.key) e.values) e.part e.offset w h.reading (omega (arith, five)) (omega arith) sized stored pair_row here_w.less leads cells_there
            (omega (arith, room, own_many, long))))
            (λ u kept read.
            feeds_less sink most fuel M (Below last) (Below first_cell) Any (inner e.values) h.rest u (λ i old. below-less first_cell last i (omega arith) old)
            (filtered_feeds (costs pair) last held pair p.on (Rest held) (feed pair) h.rest h.rest_own u (omega (arith, least, enough)) (omega (arith, low)) (omega (arith, room, own_many)) held_within rest_types h.filtered (map anywhere p.kept ++ carried) pair_fit on_over
            (here_pair u kept read)
            (λ x after b more passed now rest further room' types' enough'. onward e.values held x after b more held_told (within_wider last after held further held_within) held_declared pair_fit now rest (omega (arith, further)) room' types' enough'))))

      -- ---- all entries that have the key
      abbrev es : List Row
      es = st.chains (slot key)

      abbrev fields : ℕ
      fields = length h.key

      stood : StandsTable c p.table st t
      stood = here.stand p.table st there

      found : KeyedTable c p st h.key t
      found = keyed_table c p known next h.items h.key_own h.key h.computed h.key_is st serves t stood

      pub looked_up : (N : ℕ) → N ≤ fuel → 1 + (text_octets key + spend (λ (e : Row). units_met e.values) es) ≤ N → AllSupply (StandsIn c t) t.locals (sources_of h.key) key → AllUse (Among free) (sources_of h.key) →
          FeedsTo sink most fuel N (Below next) Any (where_values (flow_over (met feed p row key) (get_or built p.table [])) key) h.look_up t
      looked_up N enough bound supplied uses =
          let long = here.long in
          let high = runs.high in
          let inside = slice_get_within stoods p.table st there in
          subst (λ (f : Flow (List Val)). FeedsTo sink most fuel N (Below next) Any (where_values f key) h.look_up t) (sym (slot_met p row key stoods st there found.placed feed fields found.key_many))
          (feeds_less sink most fuel N (Below free) (Below next) Any (where_values (flow_over (where_equal fields inner key) es) key) h.look_up t (λ i old. below-less next free i (omega arith) old)
          (lookup_feeds (StandsIn c t) st.cells h.key (kept_kinds p) found.kinds_there sink most fuel free (Below free) (Below first_cell) (λ i among. inr among) (old_low c stoods base sink runs free (omega (arith, low))) (λ i old. below-less free first_cell i (omega arith) old)
          (inr (omega (arith, five), omega arith)) (λ rows x y kept. runs.kept free rows x y (omega (arith, low)) kept) (seq h.reads h.rest) inner units_met
          st.part st.offset st.front st.chains st.entries key t (runs.tables_spared p.table st there)
          (λ w keeps q at octets text. stands_more c w q at octets (less_keeps c (Below free) sink.Spared t w runs.seen_spared keeps here.less) (stands_later c t w q at octets (longer_keeps (Below free) sink.Spared t w keeps) text))
          (λ entry. omega arith) (omega (arith, bound, enough)) uses supplied found.table_there
          (λ e done left w at leads keeps has same.
          let all = spend_has (λ (d : Row). units_met d.values) done e left in
          let within_all : units_met e.values ≤ spend (λ (d : Row). units_met d.values) es = subst (λ (l : List Row). units_met e.values ≤ spend (λ (d : Row). units_met d.values) l) (sym at) all in
          met_feeds e w
          (one_of (λ (d : Row). AreStored p.kept (drop (length p.key) d.values)) done e left (subst (AllByRecursion (λ (d : Row). AreStored p.kept (drop (length p.key) d.values))) at (serves.stored (slot key) (slot-low key))))
          leads keeps (subst (λ (n : ℕ). HasJoinEntry (StandsIn c t) (kinds_of (sources_of st.cells)) n w.cells e.part e.offset e.values) (sym found.fields_many) has)
          (subst (λ (n : ℕ). is_same_row key (take n e.values) ≡ true) found.key_many same) (omega (arith, within_all, bound, enough)))
          (directory p.table) h.look_up h.probes N (omega (arith, inside, high, low)) stood.at bound enough (omega (arith, room, own_many, long))))

    pub probed_feeds : (s : LowState) → Here c stoods many known row s →
        1 + (units_of_items p.key (at_row row) + by_values (values_of p.key (at_row row)) (λ key. text_octets key + spend (met_cost costs p row key) (in_slot (keyed (length p.key)) (slot key) (get_or built p.table [])))) ≤ fuel →
        FeedsTo sink most fuel (1 + (units_of_items p.key (at_row row) + by_values (values_of p.key (at_row row)) (λ key. text_octets key + spend (met_cost costs p row key) (in_slot (keyed (length p.key)) (slot key) (get_or built p.table []))))) (Below next) Any
        (flow_by (values_of p.key (at_row row)) (λ key. where_values (flow_over (met feed p row key) (get_or built p.table [])) key)) a s
    probed_feeds s here enough =
        let spent : List Val → ℕ = λ key. text_octets key + spend (met_cost costs p row key) (in_slot (keyed (length p.key)) (slot key) (get_or built p.table [])) in
        let N : ℕ = 1 + (units_of_items p.key (at_row row) + by_values (values_of p.key (at_row row)) spent) in
        let work : List Val → Flow (List Val) = λ key. where_values (flow_over (met feed p row key) (get_or built p.table [])) key in
        let high : AreHigh h.items = items_high known types next p.key h.items h.key_own five within h.computed (have_kinds carried p.key key_over) declared key_types in
        subst (λ (b : Statement). FeedsTo sink most fuel N (Below next) Any (flow_by (values_of p.key (at_row row)) work) b s) (sym h.is)
        (values_feed N next known row p.key h.items h.key_own work h.look_up s (omega arith) enough low (omega (arith, room, own_many)) within declared key_types h.computed (items_at carried row N p.key fit (omega arith) key_over) (have_kinds carried p.key key_over) here
        (λ key t come kept supplied.
        let now : Here c stoods many known row t = here_kept c stoods base sink runs many next known row s t low within kept here in
        let same = value_units (values_of p.key (at_row row)) spent key come in
        let of_chain = slot_spent p row key stoods st there (let at = found key t now in at.placed) (met_cost costs p row key) in
        looked_up key t now N enough (omega (arith, same, of_chain))
        (subst (λ (os : List Source). AllSupply (StandsIn c t) t.locals os key) h.key_is
        (supply_map (StandsIn c s) (StandsIn c t) t.locals (outs_of (all_moved h.items)) key (λ q at octets. stands_later c s t q at octets (longer_kept next s t kept)) supplied))
        (subst (AllUse (Among free)) h.key_is (items_use known next free p.key h.items h.key_own (omega arith) h.computed high))))
