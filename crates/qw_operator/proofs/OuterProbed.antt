-- What an outer lookup feeds from a row (ISO/IEC 9075:1992, 7.5): the row with each entry that it meets, or the row alone, with nulls at the columns
-- that entries keep.
use Rattle.std.proofs.Common.{◌≡◌, ◌≢◌, ℕ, ◌+◌, ◌*◌, ◌<◌, ◌≤◌, if◌then◌else◌, not, inr, Bool, true, false, Option, Some, None, List, [], ◌∷◌, ◌++◌, drop, get_or, length, length-append, length-set, map, take, Result, Ok, slice_get, slice_set, refl, sym, ap, ap₂, ◌∙◌, subst, arith}
use Rattle.std.proofs.lemmas.List.{append-nil, map-append}
use Rattle.std.proofs.lemmas.Option.{slice_get_within}
use Rattle.std.specs.List.{AllByRecursion}
use Rattle.qw_types.specs.ValueOrder.{is_same_row}
use Rattle.qw_types.specs.declared.code.Code.{Code}
use Rattle.qw_types.specs.declared.value.Val.{Val}
use Rattle.qw_types.specs.declared.value.Val.TheVariants as val
use Rattle.qw_module.specs.declared.instruction.ValType.{ValType}
use Rattle.qw_layout.specs.Hash.{slot}
use Rattle.qw_map.proofs.AreaLemmas.{all-append}
use Rattle.qw_map.proofs.TurnFacts.{slice_get-set_same, slice_get-set_other}
use Rattle.qw_meaning.specs.Flow.{Flow, values_of}
use Rattle.qw_scalar.specs.Conjuncts.{passes}
use Rattle.qw_scalar.specs.Evaluation.{value_of, at_row}
use Rattle.qw_scalar.specs.Expression.{Expression}
use Rattle.qw_scalar.specs.Columns.{HasColumns}
use Rattle.qw_scalar.specs.Units.{units_of_all, units_of_items}
use Rattle.qw_low.specs.declared.cell.Cell.{Cell}
use Rattle.qw_low.specs.Syntax.{Statement, seq}
use Rattle.qw_low.specs.State.{Number, Cells, LowState}
use Rattle.qw_low.specs.Meaning.{meaning}
use Rattle.qw_low.specs.Size.{size}
use Rattle.qw_low.specs.Promise.{Ends}
use Rattle.qw_low.specs.Raising.{Kept}
use Rattle.qw_low.proofs.LessKnown.{seen}
use Rattle.qw_low.proofs.Promises.{Ends-more, Ends-weaker, assign_ends}
use Rattle.qw_low.proofs.Results.{Kept-one, at_least}
use Rattle.qw_expr.specs.Cells.{DeclaresValue, Holds}
use Rattle.qw_expr.specs.Computes.{Known, AreHeld, AreDeclared}
use Rattle.qw_feed.specs.Cells.{Source, AllSupply, AllUse, HasCells, Uses, UsesNull, kinds_of}
use Rattle.qw_feed.specs.Feeds.{Any, Sink as FlowSink, Tells, FedTo, FeedsTo, flow_by, flow_over, nothing, spend, where_true}
use Rattle.qw_feed.specs.Frames.{Below, But, Keeps}
use Rattle.qw_feed.specs.Room.{i32}
use Rattle.qw_feed.specs.Rows.{Row, address}
use Rattle.qw_feed.specs.Stages.{Among, outs_of, tests_block}
use Rattle.qw_feed.proofs.FeedRules.{feeds_less, feeds_weaker, own_then}
use Rattle.qw_feed.proofs.Frames.{Never, Kept-less, below-less}
use Rattle.qw_table.specs.Joins.{HasJoinEntry, keyed, sources_of, where_equal, where_values}
use Rattle.qw_table.specs.Keys.{text_octets}
use Rattle.qw_table.specs.Outer.{Tried, goes_on, or_alone, outer_types, stands_alone}
use Rattle.qw_table.specs.Tables.{in_slot, values_of as row_values}
use Rattle.qw_table.proofs.JoinFeeds.{slot-low}
use Rattle.qw_table.proofs.OuterFeeds.{outer_feeds}
use Rattle.qw_physical.specs.Courses.{alone_cost, by_values, is_alone, met, met_cost, pair_of, where_passed}
use Rattle.qw_physical.specs.Physical.{Probe}
use Rattle.qw_physical.specs.declared.pipeline.ReadColumn.{ReadColumn}
use Rattle.qw_operator.specs.Carries.{IsOuterProbed, all_moved, clear_block, directory, entry_types, known_entry}
use Rattle.qw_operator.specs.Takes.{AreSized, IsTestOver, IsValueOver, anywhere}
use Rattle.qw_operator.proofs.CarriedFeeds.{KeyedTable, have_kinds, items_at, kept_kinds, keyed_table, met_units, one_of, passed_units, supply_map, tests_at, value_units, values_feed}
use Rattle.qw_operator.proofs.EntryReads.{cells_behind, entry_declared, entry_many, entry_told, entry_within, reads_end}
use Rattle.qw_operator.proofs.Filters.{Runs, Here, base_high, conjuncts_then, here_keeps, here_kept, keeps_kept, old_low, stand_keeps}
use Rattle.qw_leaves.specs.Leaves.{HasLeaves}
use Rattle.qw_leaves.proofs.Agreement.{value_at}
use Rattle.qw_operator.proofs.KnownLeaves.{AreFit, Fits}
use Rattle.qw_operator.proofs.LookupFeeds.{spend_has}
use Rattle.qw_operator.proofs.NullEntries.{clear_ends, null_fit}
use Rattle.qw_operator.proofs.PairRows.{AreAt, AreDistinct, AreNew, AreStored, kept_fit, pair_at, pair_fits, pair_held, same_told}
use Rattle.qw_operator.proofs.Promised.{AreHigh, AreOwn, first_own_types, items_high, items_use, rest_own_types}
use Rattle.qw_operator.proofs.Seen.{AreWithin, StandsIn, held_later, less_keeps, longer_keeps, longer_kept, stands_later, stands_more, within_wider}
use Rattle.qw_operator.proofs.Served.{Serves, slot_alone, slot_met, slot_spent}
use Rattle.qw_operator.proofs.Stood.{Stood, StandsTable, EntryOf, built_of, entry_later}

-- ---- locals that are used
uses_map : (P Q : ℕ → Type 0) (c : Cell) → ((i : ℕ) → P i → Q i) → Uses P c → Uses Q c
uses_map P Q c also u = (also c.value u.0, also c.length u.1, null_map c.null u.2)
  where
    null_map : (null : Option ℕ) → UsesNull P null → UsesNull Q null
    null_map None h = tt
    null_map (Some x) h = also x h

all_use : (P Q : ℕ → Type 0) (known : List Known) → ((i : ℕ) → P i → Q i) → AllByRecursion (λ (k : Known). Uses P k.operand.cell) known → AllByRecursion (λ (k : Known). Uses Q k.operand.cell) known
all_use P Q [] also h = tt
all_use P Q (k ∷ known) also h = (uses_map P Q k.operand.cell also h.0, all_use P Q known also h.1)

entry_uses : (least free : ℕ) (columns : List ReadColumn) → least ≤ free → AllByRecursion (λ (k : Known). Uses (λ i. least ≤ i) k.operand.cell) (known_entry free columns)
entry_uses least free [] le = tt
entry_uses least free (c ∷ columns) le = ((omega (arith, le), omega (arith, le), null_uses (not c.not_null)), entry_uses least (free + 3) columns (omega (arith, le)))
  where
    null_uses : (b : Bool) → UsesNull (λ i. least ≤ i) (if b then Some free else None)
    null_uses true = le
    null_uses false = tt

module _ (c : Cells) (stoods : List Stood) (base : ℕ) (sink : FlowSink) (runs : Runs c stoods base sink) (most fuel many : ℕ) (types : List ValType) where
  abbrev built : List (List (List Val))
  built = built_of stoods

  module _ (costs : List Val → ℕ) (feed : List Val → Flow (List Val)) (Rest : List Known → (next : ℕ) → Statement → List ValType → Type 0) (p : Probe) (outer : p.outer ≡ true) (carried known : List Known) (next : ℕ) (row : List Val) (a : Statement) (own : List ValType)
      (h : IsOuterProbed known next p Rest a own) (st : Stood) (there : slice_get stoods p.table ≡ Some st) (serves : Serves p st) (low : base ≤ next) (room : next + length own ≤ many) (within : AreWithin next known) (declared : AreDeclared types known)
      (own_types : AreOwn types next own) (told : map (λ (k : Known). k.expression) known ≡ map (λ (k : Known). k.expression) carried) (fit : AreFit row carried) (new : AreNew carried p.kept) (distinct : AreDistinct p.kept)
      (nulls : AllByRecursion (λ (d : ReadColumn). value_at row d.number ≡ val.Null) p.kept) (may : AllByRecursion (λ (d : ReadColumn). d.not_null ≡ false) p.kept) (key_over : AllByRecursion (IsValueOver carried) p.key) (sized : AreSized p.kept)
      (on_over : AllByRecursion (IsTestOver (map anywhere p.kept ++ carried)) p.on)
      (Reached : List Val → Type 0) (reached_pair : (entry : List Val) → Reached (pair_of p row entry)) (reached_row : Reached row)
      (onward : (other : List Val) (held : List Known) (t : LowState) (after : ℕ) (b : Statement) (more : List ValType) → Reached other → map (λ (k : Known). k.expression) held ≡ map (λ (k : Known). k.expression) (map anywhere p.kept ++ carried) → AreWithin after held →
      AreDeclared types held → AreFit other (map anywhere p.kept ++ carried) → Here c stoods many held other t → Rest held after b more → next ≤ after → after + length more ≤ many → AreOwn types after more →
      1 + costs other ≤ fuel → FeedsTo sink most fuel (1 + costs other) (Below after) Any (feed other) b t) where
    -- ---- the locals: those of the key, the lookup's own, those of the entry's cells, those of the conjuncts, and the rest's
    abbrev free : ℕ
    free = next + length h.key_own

    -- which says that the row goes on
    abbrev g : ℕ
    g = free + 2

    abbrev first_cell : ℕ
    first_cell = free + 17

    abbrev last : ℕ
    last = first_cell + 3 * length p.kept

    abbrev after : ℕ
    after = last + length h.tests_own

    abbrev behind : List ValType
    behind = h.tests_own ++ h.rest_own

    own_many : length own ≡ length h.key_own + (17 + (3 * length p.kept + (length h.tests_own + length h.rest_own)))
    own_many =
        let one = ap (λ (o : List ValType). length o) h.own_is in
        let two = length-append h.key_own (outer_types ++ (entry_types p.kept ++ behind)) in
        let three = length-append outer_types (entry_types p.kept ++ behind) in
        let four = length-append (entry_types p.kept) behind in
        let five = length-append h.tests_own h.rest_own in
        let six = entry_many p.kept in
        omega (arith, one, two, three, four, five, six)

    key_types : AreOwn types next h.key_own
    key_types = first_own_types types next own h.key_own (outer_types ++ (entry_types p.kept ++ behind)) h.own_is own_types

    later_types : AreOwn types first_cell (entry_types p.kept ++ behind)
    later_types = rest_own_types types free (outer_types ++ (entry_types p.kept ++ behind)) outer_types (entry_types p.kept ++ behind) refl
        (rest_own_types types next own h.key_own (outer_types ++ (entry_types p.kept ++ behind)) h.own_is own_types)

    behind_types : AreOwn types last behind
    behind_types = subst (λ (n : ℕ). AreOwn types (first_cell + n) behind) (entry_many p.kept) (rest_own_types types first_cell (entry_types p.kept ++ behind) (entry_types p.kept) behind refl later_types)

    rest_types : AreOwn types after h.rest_own
    rest_types = rest_own_types types last behind h.tests_own h.rest_own refl behind_types

    five : 5 ≤ next
    five = let high = base_high c stoods base sink runs in omega (arith, high, low)

    pub Aside : ℕ → Type 0
    Aside = But g (Below first_cell)

    -- ---- what is known of a row with an entry, and of the row alone
    abbrev held : List Known
    held = known_entry first_cell p.kept ++ known

    held_told : map (λ (k : Known). k.expression) held ≡ map (λ (k : Known). k.expression) (map anywhere p.kept ++ carried)
    held_told = map-append (λ (k : Known). k.expression) (known_entry first_cell p.kept) known
        ∙ (ap₂ (λ (x y : List Expression). x ++ y) (entry_told first_cell p.kept) told ∙ sym (map-append (λ (k : Known). k.expression) (map anywhere p.kept) carried))

    held_within : AreWithin last held
    held_within = all-append (λ (k : Known). Uses (Among last) k.operand.cell) (known_entry first_cell p.kept) known
        (entry_within first_cell last p.kept (omega (arith, five)) (omega arith)) (within_wider next last known (omega arith) within)

    -- it isn't where g is
    held_aside : AllByRecursion (λ (k : Known). Uses (λ i. i ≢ g) k.operand.cell) held
    held_aside = all-append (λ (k : Known). Uses (λ i. i ≢ g) k.operand.cell) (known_entry first_cell p.kept) known
        (all_use (λ i. first_cell ≤ i) (λ i. i ≢ g) (known_entry first_cell p.kept) (λ i high is. omega (arith, high, is)) (entry_uses first_cell first_cell p.kept (omega arith)))
        (all_use (Among next) (λ i. i ≢ g) known (λ i among is. let under = among.1 in omega (arith, under, is)) within)

    held_declared : AreDeclared types held
    held_declared = all-append (λ (k : Known). DeclaresValue types k.operand) (known_entry first_cell p.kept) known
        (entry_declared types first_cell p.kept (first_own_types types first_cell (entry_types p.kept ++ behind) (entry_types p.kept) behind refl later_types)) declared

    known_new : AreNew known p.kept
    known_new = same_told (λ e. HasColumns (λ i t. AllByRecursion (λ (d : ReadColumn). i ≢ d.number) p.kept) e) known carried told new

    row_fit : AreFit row (map anywhere p.kept ++ carried)
    row_fit = all-append (λ (k : Known). HasLeaves (Fits row) k.expression) (map anywhere p.kept) carried (null_fit row p.kept sized may nulls) fit

    -- what follows, by what is known of a row
    follows : (other : List Val) (t : LowState) → Reached other → AreFit other (map anywhere p.kept ++ carried) → Here c stoods many held other t → 1 + costs other ≤ fuel → (N : ℕ) → 1 + costs other ≤ N → FeedsTo sink most fuel N (Below first_cell) Any (feed other) h.rest t
    follows other t reached fit' here enough N le =
        feeds_weaker sink most fuel (1 + costs other) N (Below after) (Below first_cell) Any Any (feed other) h.rest t le (λ i old. below-less first_cell after i (omega arith) old) (λ u keeps any. tt)
        (onward other held t after h.rest h.rest_own reached held_told (within_wider last after held (omega arith) held_within) held_declared fit' here h.onward (omega arith) (omega (arith, room, own_many)) rest_types enough)

    -- ---- of a row whose key is known
    module _ (key : List Val) (t : LowState) (here : Here c stoods many known row t) where
      abbrev units_met : List Val → ℕ
      units_met entry = met_cost costs p row key entry

      abbrev passed : List Val → Result Bool Code
      passed entry = passes p.on (at_row (pair_of p row entry))

      here_at : (w : LowState) → Keeps (Below free) sink.Spared t w → Here c stoods many known row w
      here_at w keeps = here_keeps c stoods base sink runs many free known row t w (omega (arith, low)) (within_wider next free known (omega arith) within) keeps here

      -- the row alone
      clears : (N : ℕ) → 1 ≤ N → (w : LowState) → Keeps (Below free) sink.Spared t w → Ends (size (clear_block first_cell p.kept) * N) (λ u. Kept (free + 8) w u × Here c stoods many held row u) Never (λ code. ⊥) (meaning most fuel (clear_block first_cell p.kept) w)
      clears N some w keeps =
          let here_w = here_at w keeps in
          let long = here_w.long in
          let n : ℕ = size (clear_block first_cell p.kept) in
          Ends-weaker n (n * N) (λ u. Kept first_cell w u × AreHeld (known_entry first_cell p.kept) row (seen c u)) (λ u. Kept (free + 8) w u × Here c stoods many held row u) Never Never (λ code. ⊥) (λ code. ⊥) (meaning most fuel (clear_block first_cell p.kept) w) (at_least n N some)
          (λ u done.
          let now : Here c stoods many known row u = here_kept c stoods base sink runs many first_cell known row w u (omega (arith, low)) (within_wider next first_cell known (omega arith) within) done.0 here_w in (
            Kept-less (free + 8) first_cell w u (omega arith) done.0,
            record {
              less = now.less;
              held = all-append (λ (k : Known). (v : Val) × (value_of k.expression (at_row row) ≡ Ok v) × Holds k.operand v (seen c u)) (known_entry first_cell p.kept) known done.1 now.held;
              stand = now.stand;
              long = now.long;
            },
          )) (λ u x. x) (λ code x. x)
          (clear_ends c row most fuel p.kept first_cell w may nulls (omega (arith, room, own_many, long)))

      -- ---- an entry is met
      module _ (e : Row) (stored : AreStored p.kept (drop (length p.key) e.values)) (same : is_same_row key (take (length p.key) e.values) ≡ true) (enough : 1 + units_met e.values ≤ fuel) where
        abbrev pair : List Val
        pair = pair_of p row e.values

        abbrev M : ℕ
        M = 1 + units_met e.values

        abbrev Done : LowState → Type 0
        Done u = Here c stoods many held pair u

        within_units : 1 + (units_of_all p.on (at_row pair) + where_passed (passes p.on (at_row pair)) (costs pair)) ≤ M
        within_units = let is = met_units costs p row key e.values same in omega (arith, is)

        pair_row : AreAt pair p.kept (drop (length p.key) e.values)
        pair_row = pair_at p row e.values distinct nulls stored

        pair_fit : AreFit pair (map anywhere p.kept ++ carried)
        pair_fit = all-append (λ (k : Known). HasLeaves (Fits pair) k.expression) (map anywhere p.kept) carried
            (kept_fit pair p.kept (drop (length p.key) e.values) sized stored pair_row) (pair_fits p row e.values carried new fit)

        pub goes_feeds : (x : LowState) → passed e.values ≡ Ok true → Done x → FeedsTo sink most fuel M (Below first_cell) Any (feed pair) h.rest x
        goes_feeds x is now =
            let all = passed_units (passes p.on (at_row pair)) (costs pair) is in
            follows pair x (reached_pair e.values) pair_fit now (omega (arith, all, within_units, enough)) M (omega (arith, all, within_units))

        module _ (w : LowState) (leads : slice_get w.locals (free + 7) ≡ Some (address e)) (g_is : slice_get w.locals g ≡ Some (Number 0)) (keeps : Keeps (Below free) sink.Spared t w) (has : EntryOf c t st.cells st.fields w.cells e.part e.offset e.values) where
          here_w : Here c stoods many known row w
          here_w = here_at w keeps

          cells_there : HasCells (StandsIn c w) w.cells e.part (e.offset + (24 + 16 * length p.key)) (drop (length p.key) e.values)
          cells_there =
              let place : e.offset + 24 + 16 * length p.key ≡ e.offset + (24 + 16 * length p.key) = omega arith in
              subst (λ (at : ℕ). HasCells (StandsIn c w) w.cells e.part at (drop (length p.key) e.values)) place
              (cells_behind (StandsIn c w) w.cells e.part (e.offset + 24) (length p.key) e.values
              (entry_later c t w st.cells st.fields w.cells e.part e.offset e.values (longer_keeps (Below free) sink.Spared t w keeps) has).0.1)

          here_pair : (u : LowState) → Kept first_cell w u → AreHeld (known_entry first_cell p.kept) pair (seen c u) → Done u
          here_pair u kept read =
              let now : Here c stoods many known row u = here_kept c stoods base sink runs many first_cell known row w u (omega (arith, low)) (within_wider next first_cell known (omega arith) within) kept here_w in
              record {
                less = now.less;
                held = all-append (λ (k : Known). (v : Val) × (value_of k.expression (at_row pair) ≡ Ok v) × Holds k.operand v (seen c u)) (known_entry first_cell p.kept) known read (pair_held p row e.values known (seen c u) known_new now.held);
                stand = now.stand;
                long = now.long;
              }

          Read : LowState → Type 0
          Read u = AreHeld (known_entry first_cell p.kept) pair (seen c u)

          -- local g is set, where nothing else is
          abbrev set : LowState → LowState
          set u = record u { locals = slice_set u.locals g (Number 1) }

          done_set : (u : LowState) → Done u → Done (set u)
          done_set u now =
              let kept : Kept free u (set u) = Kept-less free g u (set u) (omega arith) (Kept-one u g (Number 1)) in
              record {
                less = now.less;
                held = held_later c (λ i. i ≢ g) u (set u) (longer_kept free u (set u) kept) (λ i other. slice_get-set_other u.locals g i (Number 1) other) held pair held_aside now.held;
                stand = stand_keeps c stoods base sink runs free u (set u) (omega (arith, low)) (keeps_kept c stoods base sink runs free u (set u) (omega (arith, low)) kept) now.stand;
                long = let all = length-set u.locals g (Number 1) in let long = now.long in omega (arith, all, long);
              }

          keeps_set : (u : LowState) → Keeps Aside sink.Spared u (set u)
          unfolding Aside
          keeps_set u = record {
            many = length-set u.locals g (Number 1);
            locals = λ i old. slice_get-set_other u.locals g i (Number 1) old.1;
            own = λ k size is. is;
            columns = refl;
            limit = refl;
            refused = refl;
            mapped = λ k x y. refl;
            cells = λ k x y spared. refl;
          }

          -- the pair goes on
          goes : (Then : LowState → Type 0) (u : LowState) → g < length u.locals → Then (set u) → FeedsTo sink most fuel M Aside Then nothing (goes_on g) u
          goes Then u long holds so_far has' room' =
              let kept : Kept free u (set u) = Kept-less free g u (set u) (omega arith) (Kept-one u g (Number 1)) in
              Ends-more (FedTo sink Aside Then nothing so_far u) Never (Tells []) 2 (2 * M) (meaning most fuel (goes_on g) u) (at_least 2 M (omega arith))
              (assign_ends (FedTo sink Aside Then nothing so_far u) Never (Tells []) most fuel g (i32 1) (Number 1) u refl long
              (record { none = refl; keeps = keeps_set u; has = subst (λ (rows : List (List Val)). sink.Has rows (set u)) (sym (append-nil so_far)) (runs.kept free so_far u (set u) (omega (arith, low)) kept has'); after = holds }))

          aside_low : (n : ℕ) → first_cell ≤ n → (i : ℕ) → Aside i → i < n
          unfolding Aside
          aside_low n le i old = let under = old_low c stoods base sink runs first_cell (omega (arith, low)) i old.0 in omega (arith, under, le)

          pub try_feeds : FeedsTo sink most fuel M Aside (Tried g Done (passed e.values)) (flow_by (passed e.values) (where_true nothing)) (seq h.reads (tests_block h.tests (goes_on g))) w
          unfolding Read
          try_feeds =
              let long = here_w.long in
              own_then sink most fuel first_cell Aside (aside_low first_cell (omega arith)) (λ rows x y kept. runs.kept first_cell rows x y (omega (arith, low)) kept) M first_cell Read (Tried g Done (passed e.values)) (flow_by (passed e.values) (where_true nothing))
              h.reads (tests_block h.tests (goes_on g)) w (omega arith)
              (Ends-more (λ u. Kept first_cell w u × Read u) Never (λ code. ⊥) (size h.reads) (size h.reads * M) (meaning most fuel h.reads w) (at_least (size h.reads) M (omega arith))
              (reads_end c pair most fuel p.kept (24 + 16 * length p.key) (free + 7) first_cell h.reads (drop (length p.key) e.values) e.part e.offset w h.reading (omega (arith, five)) (omega arith) sized stored pair_row here_w.less leads cells_there
              (omega (arith, room, own_many, long))))
              (λ u kept read.
              conjuncts_then c stoods base sink runs most fuel many M last (omega arith) enough (omega (arith, low)) held held_within pair Aside (aside_low last (omega arith)) (Tried g Done (passed e.values)) h.tests h.ends p.on h.tests_own nothing (goes_on g) u
              (omega (arith, room, own_many)) h.decided (tests_at (map anywhere p.kept ++ carried) pair M p.on pair_fit (omega (arith, within_units)) on_over) (here_pair u kept read)
              (λ x now kept' is.
              let long_x = now.long in
              goes (Tried g Done (passed e.values)) x (omega (arith, room, own_many, long_x))
              (subst (λ (r : Result Bool Code). Tried g Done r (set x)) (sym is) (slice_get-set_same x.locals g (Number 1) (omega (arith, room, own_many, long_x)), done_set x now)))
              (λ x kept' is. subst (λ (r : Result Bool Code). Tried g Done r x) (sym is) (kept'.below g (omega arith) ∙ (kept.below g (omega arith) ∙ g_is))))

      -- ---- all entries that have the key
      abbrev es : List Row
      es = st.chains (slot key)

      abbrev fields : ℕ
      fields = length h.key

      stood : StandsTable c p.table st t
      stood = here.stand p.table st there

      found : KeyedTable c p st h.key t
      found = keyed_table c p known next h.items h.key_own h.key h.computed h.key_is st serves t stood

      stored_at : (e : Row) (done left : List Row) → es ≡ done ++ e ∷ left → AreStored p.kept (drop (length p.key) e.values)
      stored_at e done left at = one_of (λ (d : Row). AreStored p.kept (drop (length p.key) d.values)) done e left (subst (AllByRecursion (λ (d : Row). AreStored p.kept (drop (length p.key) d.values))) at (serves.stored (slot key) (slot-low key)))

      spent_at : (e : Row) (done left : List Row) → es ≡ done ++ e ∷ left → units_met e.values ≤ spend (λ (d : Row). units_met d.values) es
      spent_at e done left at =
          let all = spend_has (λ (d : Row). units_met d.values) done e left in
          subst (λ (l : List Row). units_met e.values ≤ spend (λ (d : Row). units_met d.values) l) (sym at) all

      abbrev alone : Bool
      alone = stands_alone fields passed key (row_values es)

      alone_is : is_alone p row key (get_or built p.table []) ≡ alone
      alone_is = slot_alone p row key stoods st there found.placed outer fields found.key_many

      pub looked_up : (N : ℕ) → N ≤ fuel → 2 + (text_octets key + spend (λ (e : Row). units_met e.values) es + (if alone then costs row else 0)) ≤ N → AllSupply (StandsIn c t) t.locals (sources_of h.key) key → AllUse (Among free) (sources_of h.key) →
          FeedsTo sink most fuel N (Below next) Any (if is_alone p row key (get_or built p.table []) then feed row else where_values (flow_over (met feed p row key) (get_or built p.table [])) key) h.look_up t
      unfolding Aside
      looked_up N enough bound supplied uses =
          let long = here.long in
          let high = runs.high in
          let inside = slice_get_within stoods p.table st there in
          let lone : alone ≡ true → 2 + costs row ≤ N = λ is. let all = ap (λ (b : Bool). if b then costs row else 0) is in omega (arith, all, bound) in
          subst (λ (b : Bool). FeedsTo sink most fuel N (Below next) Any (if b then feed row else where_values (flow_over (met feed p row key) (get_or built p.table [])) key) h.look_up t) (sym alone_is)
          (subst (λ (f : Flow (List Val)). FeedsTo sink most fuel N (Below next) Any (if alone then feed row else where_values f key) h.look_up t) (sym (slot_met p row key stoods st there found.placed feed fields found.key_many))
          (feeds_less sink most fuel N (Below free) (Below next) Any (or_alone alone (feed row) (flow_over (where_equal fields (λ v. flow_by (passed v) (where_true (feed (pair_of p row v)))) key) es) key) h.look_up t (λ i old. below-less next free i (omega arith) old)
          (outer_feeds (StandsIn c t) st.cells h.key (kept_kinds p) found.kinds_there sink most fuel free (Below free) (Below first_cell) Aside (λ i among. inr among) (old_low c stoods base sink runs free (omega (arith, low))) (λ i old. below-less free first_cell i (omega arith) old)
          (λ i from to. inr (omega (arith, five, from), omega (arith, to))) (λ i old other. (old, other)) (λ rows x y kept. runs.kept free rows x y (omega (arith, low)) kept)
          (seq h.reads (tests_block h.tests (goes_on g))) (clear_block first_cell p.kept) h.rest passed (λ v. feed (pair_of p row v)) units_met (feed row) (costs row)
          st.part st.offset st.front st.chains st.entries key t (runs.tables_spared p.table st there)
          (λ w keeps q at octets text. stands_more c w q at octets (less_keeps c (Below free) sink.Spared t w runs.seen_spared keeps here.less) (stands_later c t w q at octets (longer_keeps (Below free) sink.Spared t w keeps) text))
          (λ entry. omega arith) (omega (arith, bound, enough)) uses supplied found.table_there
          (λ e u. Here c stoods many held (pair_of p row e.values) u) (λ u. Here c stoods many held row u)
          (λ e done left w at leads g_is keeps has same.
          let within_all = spent_at e done left at in
          try_feeds e (stored_at e done left at) (subst (λ (n : ℕ). is_same_row key (take n e.values) ≡ true) found.key_many same) (omega (arith, within_all, bound, enough)) w leads g_is keeps
          (subst (λ (n : ℕ). HasJoinEntry (StandsIn c t) (kinds_of (sources_of st.cells)) n w.cells e.part e.offset e.values) (sym found.fields_many) has))
          (λ e done left w at keeps same is now.
          let within_all = spent_at e done left at in
          goes_feeds e (stored_at e done left at) (subst (λ (n : ℕ). is_same_row key (take n e.values) ≡ true) found.key_many same) (omega (arith, within_all, bound, enough)) w is now)
          (λ w is keeps. clears (1 + costs row) (omega arith) w keeps)
          (λ w is keeps now. let fits_in = lone is in follows row w reached_row row_fit now (omega (arith, fits_in, enough)) (1 + costs row) (omega arith))
          (directory p.table) h.look_up h.probes N (omega (arith, inside, high, low)) stood.at bound enough (omega (arith, room, own_many, long)))))

    pub outer_probed_feeds : (s : LowState) → Here c stoods many known row s →
        1 + (units_of_items p.key (at_row row) + by_values (values_of p.key (at_row row)) (λ key. text_octets key + spend (met_cost costs p row key) (in_slot (keyed (length p.key)) (slot key) (get_or built p.table [])) + alone_cost costs p row key (get_or built p.table []))) ≤ fuel →
        FeedsTo sink most fuel (1 + (units_of_items p.key (at_row row) + by_values (values_of p.key (at_row row)) (λ key. text_octets key + spend (met_cost costs p row key) (in_slot (keyed (length p.key)) (slot key) (get_or built p.table [])) + alone_cost costs p row key (get_or built p.table [])))) (Below next) Any
        (flow_by (values_of p.key (at_row row)) (λ key. if is_alone p row key (get_or built p.table []) then feed row else where_values (flow_over (met feed p row key) (get_or built p.table [])) key)) a s
    outer_probed_feeds s here enough =
        let entries : List (List Val) = get_or built p.table [] in
        let spent : List Val → ℕ = λ key. text_octets key + spend (met_cost costs p row key) (in_slot (keyed (length p.key)) (slot key) entries) + alone_cost costs p row key entries in
        let N : ℕ = 1 + (units_of_items p.key (at_row row) + by_values (values_of p.key (at_row row)) spent) in
        let work : List Val → Flow (List Val) = λ key. if is_alone p row key entries then feed row else where_values (flow_over (met feed p row key) entries) key in
        let high : AreHigh h.items = items_high known types next p.key h.items h.key_own five within h.computed (have_kinds carried p.key key_over) declared key_types in
        subst (λ (b : Statement). FeedsTo sink most fuel N (Below next) Any (flow_by (values_of p.key (at_row row)) work) b s) (sym h.is)
        (values_feed c stoods base sink runs most fuel many types N next known row p.key h.items h.key_own work h.look_up s (omega arith) enough low (omega (arith, room, own_many)) within declared key_types h.computed (items_at carried row N p.key fit (omega arith) key_over) (have_kinds carried p.key key_over) here
        (λ key t come kept supplied.
        let now : Here c stoods many known row t = here_kept c stoods base sink runs many next known row s t low within kept here in
        let same = value_units (values_of p.key (at_row row)) spent key come in
        let of_chain = slot_spent p row key stoods st there (let at = found key t now in at.placed) (met_cost costs p row key) in
        let lone : alone_cost costs p row key entries ≡ 1 + (if alone key t now then costs row else 0) =
        ap (λ (b : Bool). if b then 1 + (if is_alone p row key entries then costs row else 0) else 0) outer ∙ ap (λ (b : Bool). 1 + (if b then costs row else 0)) (alone_is key t now) in
        looked_up key t now N enough (omega (arith, same, of_chain, lone))
        (subst (λ (os : List Source). AllSupply (StandsIn c t) t.locals os key) h.key_is
        (supply_map (StandsIn c s) (StandsIn c t) t.locals (outs_of (all_moved h.items)) key (λ q at octets. stands_later c s t q at octets (longer_kept next s t kept)) supplied))
        (subst (AllUse (Among free)) h.key_is (items_use known next free p.key h.items h.key_own (omega arith) h.computed high))))
