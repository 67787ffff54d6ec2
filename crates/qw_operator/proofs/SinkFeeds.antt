-- The two sinks: what a row's block feeds the result, and a table that is built.
use Rattle.std.proofs.Common.{◌≡◌, ℕ, zero, suc, ◌+◌, ◌*◌, ◌<◌, ◌≤◌, inl, inr, IsTrue, Option, Some, None, List, [], ◌∷◌, ◌++◌, length, length-append, map, take, Ok, refl, sym, ap, ap₂, ◌∙◌, subst, ⊎_elim, arith}
use Rattle.std.proofs.lemmas.List.{length-map}
use Rattle.std.specs.List.{AllByRecursion}
use Rattle.qw_linear.specs.Memory.{page}
use Rattle.qw_types.specs.declared.kind.Kind.{Kind}
use Rattle.qw_types.specs.declared.kind.Kind.TheVariants as kind
use Rattle.qw_types.specs.declared.value.Val.{Val}
use Rattle.qw_module.specs.declared.instruction.ValType.{ValType}
use Rattle.qw_layout.specs.Row.{entry_size}
use Rattle.qw_meaning.specs.Flow.{Flow, values_of}
use Rattle.qw_scalar.specs.Evaluation.{at_row}
use Rattle.qw_scalar.specs.Expression.{Expression}
use Rattle.qw_scalar.specs.Typing.{HasKind, has_kind, kind_of}
use Rattle.qw_low.specs.Syntax.{Statement}
use Rattle.qw_low.specs.State.{Own, Cells, LowState}
use Rattle.qw_low.specs.Meaning.{meaning}
use Rattle.qw_low.specs.Size.{size}
use Rattle.qw_low.specs.Raising.{Kept}
use Rattle.qw_low.proofs.LessKnown.{IsLess}
use Rattle.qw_low.proofs.Promises.{Ends-weaker}
use Rattle.qw_expr.specs.Computes.{Known, AreDeclared}
use Rattle.qw_feed.specs.Cells.{Source, AllSupply, AllUse, HasRow, cells_block, kinds_of}
use Rattle.qw_feed.specs.Feeds.{Any, Sink as FlowSink, FedTo, FeedsTo, Tells, one_row}
use Rattle.qw_feed.specs.Frames.{pos, Before, Below, From}
use Rattle.qw_feed.specs.Rows.{Fills, push_block, rows_sink}
use Rattle.qw_feed.specs.Stages.{Item, Among, outs_of}
use Rattle.qw_feed.proofs.CellFills.{cells_fill, row-same}
use Rattle.qw_feed.proofs.FeedRules.{feeds_less}
use Rattle.qw_feed.proofs.Frames.{Never, below-less}
use Rattle.qw_feed.proofs.PushFeeds.{push_feeds, rows_kept}
use Rattle.qw_table.specs.Joins.{Builds, HasJoinEntry, build_types, keyed, sources_of, where_values}
use Rattle.qw_table.specs.Keys.{AreHeld, text_octets}
use Rattle.qw_table.specs.Tables.{HasTable, table_sink}
use Rattle.qw_table.specs.declared.key.Field.{Field}
use Rattle.qw_table.proofs.Chains.{table_kept}
use Rattle.qw_table.proofs.JoinFeeds.{builds_feed}
use Rattle.qw_table.proofs.ProbeFeeds.{supplied_held}
use Rattle.qw_physical.specs.Courses.{fed, placed, sink_key, sink_values}
use Rattle.qw_physical.specs.Physical.{Build, build, select}
use Rattle.qw_operator.specs.Carries.{IsBuilt, IsSelected, all_moved, directory}
use Rattle.qw_operator.proofs.CarriedFeeds.{items_many, moved_many, sources_many, supply_map, values_feed}
use Rattle.qw_operator.proofs.Filters.{Runs, Here, base_high}
use Rattle.qw_operator.proofs.Promised.{AreHigh, AreOwn, IsItemAt, cells_moved, first_own_types, items_high, items_kinds, items_use, kinds_moved}
use Rattle.qw_operator.proofs.Seen.{AreWithin, LiesIn, StandsIn, less_kept, longer_keeps, longer_kept, stands_later, stands_lies, stands_more}
use Rattle.qw_operator.proofs.Stood.{Stood, EntryOf, building_sink, has_later}

-- ---- the result
high_use : (gs : List Item) → AreHigh gs → AllUse (λ i. 5 ≤ i) (outs_of (all_moved gs))
high_use [] high = tt
high_use (g ∷ gs) high = ((high.0.0, high.0.1, high.0.2), high_use gs high.1)

module _ (c : Cells) (stoods : List Stood) (base : ℕ) (most fuel many : ℕ) (types : List ValType) (items : List Expression) (rows_base u before : ℕ) (May : List (List Val) → Type 0) (beginnings : (rows more : List (List Val)) → May (rows ++ more) → May rows)
    (small : 8 + 16 * length items + u ≤ page) (enough : (rows : List (List Val)) → May rows → before + length rows * (8 + 16 * length items) + 2 * u < (most + 1) * u) where
  abbrev pub RowOf : Cells → (part offset : ℕ) → List Val → Type 0
  RowOf = HasRow (LiesIn c) (map kind_of items)

  abbrev pub selecting_sink : FlowSink
  selecting_sink = rows_sink RowOf (8 + 16 * length items) rows_base u before May beginnings

  kinds_long : length (map kind_of items) ≡ length items
  kinds_long = length-map items kind_of

  row_same : (d d' : Cells) (k o : ℕ) (values : List Val) → ((a b : ℕ) → o + 8 ≤ a → a + b ≤ o + (8 + 16 * length items) → d' (Own k) a b ≡ d (Own k) a b) → RowOf d k o values → RowOf d' k o values
  row_same d d' k o values same has = row-same (LiesIn c) (map kind_of items) d d' k o values (λ a b from to. same a b from (omega (arith, to, kinds_long))) has

  pub selecting_kept : (n : ℕ) (rows : List (List Val)) (s t : LowState) → 5 ≤ n → Kept n s t → selecting_sink.Has rows s → selecting_sink.Has rows t
  selecting_kept n rows s t low kept has = rows_kept RowOf (8 + 16 * length items) (omega arith) row_same rows_base u before small most fuel n low rows s t kept has

  -- the cells of items fill a row
  fills : (gs : List Item) (vs : List Val) (t : LowState) → kinds_of (outs_of (all_moved gs)) ≡ map kind_of items → AreHigh gs → AllSupply (LiesIn c) t.locals (outs_of (all_moved gs)) vs →
      Fills RowOf (8 + 16 * length items) rows_base most fuel vs (cells_block 8 (outs_of gs)) t
  fills gs vs t there high supplied =
      let os : List Source = outs_of (all_moved gs) in
      subst (λ (b : Statement). Fills RowOf (8 + 16 * length items) rows_base most fuel vs b t) (cells_moved gs 8)
      (subst (λ (n : ℕ). Fills RowOf (8 + 16 * n) rows_base most fuel vs (cells_block 8 os) t) kinds_long
      (subst (λ (ks : List (Option Kind)). Fills (HasRow (LiesIn c) ks) (8 + 16 * length ks) rows_base most fuel vs (cells_block 8 os) t) there
      (cells_fill (LiesIn c) os rows_base most fuel vs t (high_use gs high) supplied)))

  module _ (runs : Runs c stoods base selecting_sink) (built : List (List (List Val))) where
    pub select_sunk : (N next : ℕ) (known : List Known) (row : List Val) (a : Statement) (own : List ValType) (s : LowState) → 1 ≤ N → N ≤ fuel → base ≤ next → next + length own ≤ many → AreWithin next known → AreDeclared types known → AreOwn types next own → IsSelected known next items a own →
        AllByRecursion (IsItemAt N row) items → AllByRecursion HasKind items → Here c stoods many known row s → FeedsTo selecting_sink most fuel N (Below next) Any (fed built [] (select items) row) a s
    select_sunk N next known row a own s some fueled low room within declared own_types is at kinds here =
        let five = base_high c stoods base selecting_sink runs in
        let long = here.long in
        let high : AreHigh is.made = items_high known types next items is.made own (omega (arith, five, low)) within is.computed kinds declared own_types in
        let there : kinds_of (outs_of (all_moved is.made)) ≡ map kind_of items = kinds_moved is.made ∙ items_kinds known next items is.made own is.computed in
        subst (λ (b : Statement). FeedsTo selecting_sink most fuel N (Below next) Any (fed built [] (select items) row) b s) (sym is.is)
        (values_feed c stoods base selecting_sink runs most fuel many types N next known row items is.made own (placed (select items)) (push_block (8 + 16 * length items) (cells_block 8 (outs_of is.made))) s some fueled low room within declared own_types is.computed at kinds here
        (λ vs t come kept supplied.
        feeds_less selecting_sink most fuel N (From 5) (Below next) Any (one_row vs) (push_block (8 + 16 * length items) (cells_block 8 (outs_of is.made))) t (λ i old. ⊎_elim (λ z. inl z) (λ g. inr g.0) old)
        (push_feeds RowOf (8 + 16 * length items) (omega arith) row_same rows_base u before small most fuel May beginnings enough N some vs t (cells_block 8 (outs_of is.made)) (let same = kept.many in omega (arith, same, long, five, low, room))
        (fills is.made vs t there high (supply_map (StandsIn c s) (LiesIn c) t.locals (outs_of (all_moved is.made)) vs (λ q off octets. stands_lies c s q off octets) supplied)))))

-- ---- a table that is built
-- fields of these expressions' kinds, wherever they are
abbrev pub kind_or : Option Kind → Kind
kind_or None = kind.Date
kind_or (Some k) = k

abbrev pub fields_of : List Expression → List Field
fields_of [] = []
fields_of (e ∷ es) = record { cell = record { value = 0; length = 0; null = None }; kind = kind_or (kind_of e) } ∷ fields_of es

some_kind : (k : Option Kind) → IsTrue (has_kind k) → (let r : Option Kind = Some (kind_or k) in r) ≡ k
some_kind None some = absurd cc
some_kind (Some k) some = refl

pub fields_kinds : (es : List Expression) → AllByRecursion HasKind es → kinds_of (sources_of (fields_of es)) ≡ map kind_of es
fields_kinds [] kinds = refl
fields_kinds (e ∷ es) kinds = ap₂ (λ (k : Option Kind) (ks : List (Option Kind)). k ∷ ks) (some_kind (kind_of e) kinds.0) (fields_kinds es kinds.1)

pub fields_many : (es : List Expression) → length (fields_of es) ≡ length es
fields_many [] = refl
fields_many (e ∷ es) = ap suc (fields_many es)

held_taken : (n : ℕ) (fs : List Field) (vs : List Val) (s : LowState) → AreHeld fs vs s → AreHeld (take n fs) (take n vs) s
held_taken zero fs vs s held = tt
held_taken (suc n) [] [] s held = tt
held_taken (suc n) [] (v ∷ vs) s held = absurd held
held_taken (suc n) (f ∷ fs) [] s held = absurd held
held_taken (suc n) (f ∷ fs) (v ∷ vs) s held = (held.0, held_taken n fs vs s held.1)

-- a table's sink depends on the kinds of its cells alone
abbrev pub TableOf : (c : Cells) → (kinds : List (Option Kind)) → (many fields k o d u before : ℕ) → (May : List (List Val) → Type 0) → ((rows more : List (List Val)) → May (rows ++ more) → May rows) → FlowSink
TableOf c kinds many fields k o d u before May beginnings = record {
  Spared = Before (pos k o);
  Has = λ entries s. HasTable (HasJoinEntry (StandsIn c s) kinds fields) (keyed fields) (entry_size 0 many 0) k o d u before entries s;
  May = May;
  beginnings = beginnings;
}

module _ (c : Cells) (stoods : List Stood) (base : ℕ) (most fuel many : ℕ) (types : List ValType) (b : Build) (k o u before : ℕ) (May : List (List Val) → Type 0) (beginnings : (rows more : List (List Val)) → May (rows ++ more) → May rows)
    (low_d : directory b.table < base) (small : entry_size 0 (length (fields_of (sink_values (build b)))) 0 + u ≤ page)
    (enough : (entries : List (List Val)) → May entries → before + length entries * entry_size 0 (length (fields_of (sink_values (build b)))) 0 + 2 * u < (most + 1) * u) where
  abbrev values : List Expression
  values = sink_values (build b)

  abbrev pub table_cells : List Field
  table_cells = fields_of (sink_values (build b))

  abbrev pub entering_sink : FlowSink
  entering_sink = building_sink c table_cells (length b.key) k o (directory b.table) u before May beginnings

  pub entering_kept : (n : ℕ) (rows : List (List Val)) (s t : LowState) → base ≤ n → Kept n s t → entering_sink.Has rows s → entering_sink.Has rows t
  entering_kept n rows s t low kept has =
      has_later c s t table_cells (length b.key) k o (directory b.table) u before rows (longer_kept n s t kept)
      (table_kept (EntryOf c s table_cells (length b.key)) (keyed (length b.key)) (entry_size 0 (length table_cells) 0) k o (directory b.table) u before n rows s t (omega (arith, low_d, low)) (omega (arith, low_d, low)) kept has)

  -- with the cells that were emitted
  module _ (cells : List Field) (alike : length cells ≡ length table_cells) (a : Statement) (free : ℕ) (builds : Builds (directory b.table) (take (length b.key) cells) cells free a) (behind : base ≤ free) where
    emitted_feeds : (N : ℕ) (vs : List Val) (t : LowState) → 1 + text_octets (take (length b.key) vs) ≤ N → N ≤ fuel → IsLess c t.cells → AllUse (Among free) (sources_of cells) → AllSupply (StandsIn c t) t.locals (sources_of cells) vs → free + 5 ≤ length t.locals →
        FeedsTo (building_sink c cells (length b.key) k o (directory b.table) u before May beginnings) most fuel N (Below free) Any (where_values (one_row vs) (take (length b.key) vs)) a t
    emitted_feeds N vs t units turns less uses supplied room so_far has may =
        let wide : ℕ = entry_size 0 (length cells) 0 in
        let size_is : wide ≡ entry_size 0 (length table_cells) 0 = ap (λ (n : ℕ). entry_size 0 n 0) alike in
        let f : Flow (List Val) = where_values (one_row vs) (take (length b.key) vs) in
        let fixed : FlowSink = table_sink (EntryOf c t cells (length b.key)) (keyed (length b.key)) wide k o (directory b.table) u before May beginnings in
        let held : AreHeld cells vs t = supplied_held (StandsIn c t) t (λ q at octets text. (stands_more c t q at octets less text).0) cells vs supplied in
        Ends-weaker (size a * N) (size a * N) (FedTo fixed (Below free) Any f so_far t) (FedTo (building_sink c cells (length b.key) k o (directory b.table) u before May beginnings) (Below free) Any f so_far t) Never Never (Tells f.codes) (Tells f.codes)
        (meaning most fuel a t) (omega arith)
        (λ w fed. record {
          none = fed.none;
          keeps = fed.keeps;
          has = has_later c t w cells (length b.key) k o (directory b.table) u before (so_far ++ f.rows) (longer_keeps (Below free) (Before (pos k o)) t w fed.keeps) fed.has;
          after = fed.after;
        })
        (λ w x. x) (λ code x. x)
        (builds_feed (StandsIn c t) cells (length b.key) (directory b.table) (take (length b.key) cells) free a builds k o u before most fuel N May beginnings (take (length b.key) vs) vs t (omega arith) (omega (arith, low_d, behind)) (omega (arith, small, size_is))
        (λ entries may'. subst (λ (n : ℕ). before + length entries * n + 2 * u < (most + 1) * u) (sym size_is) (enough entries may')) units turns (held_taken (length b.key) cells vs t held) refl uses supplied room so_far has may)

  module _ (runs : Runs c stoods base entering_sink) (built : List (List (List Val))) where
    pub build_sunk : (N next : ℕ) (known : List Known) (row : List Val) (a : Statement) (own : List ValType) (s : LowState) → 1 ≤ N → N ≤ fuel → base ≤ next → next + length own ≤ many → AreWithin next known → AreDeclared types known → AreOwn types next own → IsBuilt known next b a own →
        AllByRecursion (IsItemAt N row) values → AllByRecursion HasKind values → ((vs : List Val) → values_of values (at_row row) ≡ Ok vs → 1 + text_octets (sink_key (build b) vs) ≤ N) → Here c stoods many known row s →
        FeedsTo entering_sink most fuel N (Below next) Any (fed built [] (build b) row) a s
    build_sunk N next known row a own s some fueled low room within declared own_types is at kinds units here =
        let five = base_high c stoods base entering_sink runs in
        let long = here.long in
        let own_many : length own ≡ length is.items_own + 5 = ap (λ (l : List ValType). length l) is.own_is ∙ length-append is.items_own build_types in
        let free : ℕ = next + length is.items_own in
        let item_types : AreOwn types next is.items_own = first_own_types types next own is.items_own build_types is.own_is own_types in
        let high : AreHigh is.items = items_high known types next values is.items is.items_own (omega (arith, five, low)) within is.computed kinds declared item_types in
        let there : kinds_of (sources_of is.cells) ≡ kinds_of (sources_of table_cells) =
        ap kinds_of (sym is.cells_are) ∙ (kinds_moved is.items ∙ (items_kinds known next values is.items is.items_own is.computed ∙ sym (fields_kinds values kinds))) in
        let count : length is.cells ≡ length table_cells =
        sym (sources_many is.cells) ∙ (ap (λ (os : List Source). length os) (sym is.cells_are) ∙ (moved_many is.items ∙ (items_many known next values is.items is.items_own is.computed ∙ sym (fields_many values)))) in
        subst (λ (c' : Statement). FeedsTo entering_sink most fuel N (Below next) Any (fed built [] (build b) row) c' s) (sym is.is)
        (values_feed c stoods base entering_sink runs most fuel many types N next known row values is.items is.items_own (placed (build b)) is.enter s some fueled low (omega (arith, room, own_many)) within declared item_types is.computed at kinds here
        (λ vs t come kept supplied.
        let five_kept = kept.many in
        feeds_less entering_sink most fuel N (Below free) (Below next) Any (where_values (one_row vs) (take (length b.key) vs)) is.enter t (λ i old. below-less next free i (omega arith) old)
        (subst (λ (ks : List (Option Kind)). FeedsTo (TableOf c ks (length table_cells) (length b.key) k o (directory b.table) u before May beginnings) most fuel N (Below free) Any (where_values (one_row vs) (take (length b.key) vs)) is.enter t) there
        (subst (λ (n : ℕ). FeedsTo (TableOf c (kinds_of (sources_of is.cells)) n (length b.key) k o (directory b.table) u before May beginnings) most fuel N (Below free) Any (where_values (one_row vs) (take (length b.key) vs)) is.enter t) count
        (emitted_feeds is.cells count is.enter free is.builds (omega (arith, low)) N vs t (units vs come) fueled (less_kept c next s t kept here.less)
        (subst (AllUse (Among free)) is.cells_are (items_use known next free values is.items is.items_own (omega arith) is.computed high))
        (subst (λ (os : List Source). AllSupply (StandsIn c t) t.locals os vs) is.cells_are (supply_map (StandsIn c s) (StandsIn c t) t.locals (outs_of (all_moved is.items)) vs (λ q at' octets. stands_later c s t q at' octets (longer_kept next s t kept)) supplied))
        (omega (arith, five_kept, long, room, own_many)))))))
