-- The blocks of a pipeline's row are typed.
use Rattle.std.proofs.Common.{◌≡◌, ℕ, zero, suc, ◌+◌, ◌*◌, ◌^◌, ◌<◌, inl, inr, if◌then◌else◌, Bool, true, false, Option, Some, None, List, [], ◌∷◌, ◌++◌, length, length-append, map, take, slice_get, refl, sym, ap, ◌∙◌, subst, arith}
use Rattle.std.proofs.lemmas.List.{append-nil, length-map}
use Rattle.std.specs.List.{AllByRecursion}
use Rattle.qw_types.specs.Kind.{type_kind}
use Rattle.qw_types.specs.declared.kind.Kind.{Kind}
use Rattle.qw_types.specs.declared.kind.Kind.TheVariants as kind
use Rattle.qw_layout.specs.Row.{entry_size}
use Rattle.qw_map.proofs.AreaLemmas.{all-append}
use Rattle.qw_module.specs.declared.instruction.ValType.{ValType}
use Rattle.qw_module.specs.declared.instruction.ValType.TheVariants.{I32, I64}
use Rattle.qw_scalar.specs.Expression.{Condition, Expression}
use Rattle.qw_low.specs.declared.cell.Cell.{Cell}
use Rattle.qw_low.specs.Syntax.{Expression as LowExpression, Statement, seq}
use Rattle.qw_low.specs.Typing.{HasType, IsTyped}
use Rattle.qw_expr.specs.Cells.{DeclaresKind, DeclaresNull, DeclaresValue}
use Rattle.qw_expr.specs.Computes.{Known, AreDeclared}
use Rattle.qw_read.specs.NullTests.{sure_reader, test_types}
use Rattle.qw_read.specs.Reading.{DeclaresBases, known_of, operand_of}
use Rattle.qw_read.specs.declared.reader.Reader.{Reader}
use Rattle.qw_feed.specs.Cells.{Source, cell_block, cells_block, plain_block}
use Rattle.qw_feed.specs.Room.{room_block}
use Rattle.qw_feed.specs.Rows.{push_block}
use Rattle.qw_feed.specs.Stages.{Item, Test, items_block, outs_of, tests_block}
use Rattle.qw_table.specs.Entries.{Declares, cell_types}
use Rattle.qw_table.specs.Joins.{Builds, build_types, guarded, probe_types, sources_of, sure, unless_null}
use Rattle.qw_table.specs.Keys as keys
use Rattle.qw_table.specs.Keys.{slot_types}
use Rattle.qw_table.specs.Outer.{goes_on, outer_types}
use Rattle.qw_table.specs.Tables.{enter_block, insert_block}
use Rattle.qw_table.specs.declared.key.Field.{Field}
use Rattle.qw_table.proofs.JoinTyped.{probes_typed}
use Rattle.qw_table.proofs.OuterTyped.{outer_typed}
use Rattle.qw_physical.specs.Courses.{column_of}
use Rattle.qw_physical.specs.Physical.{Operator, Probe, Sink, build, filter, probe, select}
use Rattle.qw_physical.specs.declared.pipeline.ReadColumn.{ReadColumn}
use Rattle.qw_operator.specs.Carries.{IsCarriedTo, IsFiltered, IsGuardedRow, IsLookedUp, IsOuterProbed, IsProbed, IsReadRow, IsRow, IsSunk, ReadsEntry, all_moved, behind_filter, clear_block, directory, entry_types, first_filter, known_entry, moved}
use Rattle.qw_operator.specs.Emitted.{AreComputed, AreDecided, ReadsPart, known_after, last_end}
use Rattle.qw_operator.specs.Guarded.{picked, sure_where}
use Rattle.qw_operator.specs.Takes.{CanSink}
use Rattle.qw_operator.proofs.CarriedFeeds.{items_many, moved_many, sources_many}
use Rattle.qw_operator.proofs.EntryReads.{cell_three, entry_declared, entry_many}
use Rattle.qw_leaves.proofs.LeafLists.{all_back, all_front}
use Rattle.qw_operator.proofs.Promised.{AreOwn, first_own_types, rest_own_types}
use Rattle.qw_operator.proofs.Fronts.{all_more, all_take}
use Rattle.qw_operator.proofs.RowFeeds.{behind_first}
use Rattle.qw_operator.proofs.StrictLemmas.{all_picked}

-- ---- premises
-- how a reader's locals are declared
abbrev pub IsReaderDeclared : List ValType → Reader → Type 0
IsReaderDeclared types r = (slice_get types r.left ≡ Some I32) × (slice_get types r.end ≡ Some I32) × DeclaresBases types r × DeclaresValue types (operand_of r)

-- the locals that lead to the tables of lookups, and to the one that is built
abbrev pub AreLed : List ValType → List Operator → Type 0
AreLed types [] = Unit {0}
AreLed types (filter cs ∷ operators) = AreLed types operators
AreLed types (probe p ∷ operators) = (slice_get types (directory p.table) ≡ Some I32) × AreLed types operators

abbrev pub IsLed : List ValType → Sink → Type 0
IsLed types (build b) = slice_get types (directory b.table) ≡ Some I32
IsLed types (select items) = (slice_get types 3 ≡ Some I32) × (slice_get types 4 ≡ Some I64)

-- ---- sources
abbrev pub IsSourceDeclared : List ValType → Source → Type 0
IsSourceDeclared types o = DeclaresKind types o.cell o.kind × DeclaresNull types o.cell.null

moved_declared : (types : List ValType) (c : Cell) (k : Option Kind) → DeclaresKind types c k → DeclaresKind types (moved (record { cell = c; kind = k })).cell k
moved_declared types c None h = tt
moved_declared types c (Some (kind.Number s)) h = h
moved_declared types c (Some kind.Date) h = h
moved_declared types c (Some kind.Text) h = h

pub fields_declared : (types : List ValType) (fs : List Field) → AllByRecursion (IsSourceDeclared types) (sources_of fs) → keys.AreDeclared types fs
fields_declared types [] h = tt
fields_declared types (f ∷ fs) h = ((one f.kind h.0.0, null f.cell.null h.0.1), fields_declared types fs h.1)
  where
    one : (kd : Kind) → DeclaresKind types f.cell (Some kd) → keys.DeclaresKind types kd f.cell
    one (kind.Number s) is = is
    one kind.Date is = is
    one kind.Text is = is

    null : (n : Option ℕ) → DeclaresNull types n → keys.DeclaresNull types n
    null None is = is
    null (Some x) is = is

pub taken_declared : (types : List ValType) (n : ℕ) (fs : List Field) → keys.AreDeclared types fs → keys.AreDeclared types (take n fs)
taken_declared types n fs h = all_take (λ (f : Field). keys.DeclaresField types f) n fs h

-- ---- items and conjuncts
module _ (types : List ValType) where
  pub items_typed : (known : List Known) (next : ℕ) (es : List Expression) (gs : List Item) (own : List ValType) → AreDeclared types known → AreOwn types next own → AreComputed known next es gs own → IsTyped types (items_block gs)
  items_typed known next [] [] own declared own_types are = tt
  items_typed known next [] (g ∷ gs) own declared own_types are = absurd are
  items_typed known next (e ∷ es) [] own declared own_types are = absurd are
  items_typed known next (e ∷ es) (g ∷ gs) own declared own_types are = (
    (are.5.typed types declared (first_own_types types next own are.1 are.2 are.3 own_types)).0,
    items_typed known (next + length are.1) es gs are.2 declared (rest_own_types types next own are.1 are.2 are.3 own_types) are.6,
  )

  pub outs_declared : (known : List Known) (next : ℕ) (es : List Expression) (gs : List Item) (own : List ValType) → AreDeclared types known → AreOwn types next own → AreComputed known next es gs own → AllByRecursion (IsSourceDeclared types) (outs_of (all_moved gs))
  outs_declared known next [] [] own declared own_types are = tt
  outs_declared known next [] (g ∷ gs) own declared own_types are = absurd are
  outs_declared known next (e ∷ es) [] own declared own_types are = absurd are
  outs_declared known next (e ∷ es) (g ∷ gs) own declared own_types are =
      let out = (are.5.typed types declared (first_own_types types next own are.1 are.2 are.3 own_types)).1 in (
        subst (λ (o : Source). IsSourceDeclared types (moved o)) (sym are.4) (moved_declared types are.0.cell are.0.kind out.0, out.1),
        outs_declared known (next + length are.1) es gs are.2 declared (rest_own_types types next own are.1 are.2 are.3 own_types) are.6,
      )

  -- the same of outs where they are
  plain_outs : (known : List Known) (next : ℕ) (es : List Expression) (gs : List Item) (own : List ValType) → AreDeclared types known → AreOwn types next own → AreComputed known next es gs own → AllByRecursion (IsSourceDeclared types) (outs_of gs)
  plain_outs known next [] [] own declared own_types are = tt
  plain_outs known next [] (g ∷ gs) own declared own_types are = absurd are
  plain_outs known next (e ∷ es) [] own declared own_types are = absurd are
  plain_outs known next (e ∷ es) (g ∷ gs) own declared own_types are =
      let out = (are.5.typed types declared (first_own_types types next own are.1 are.2 are.3 own_types)).1 in (
        subst (IsSourceDeclared types) (sym are.4) (out.0, out.1),
        plain_outs known (next + length are.1) es gs are.2 declared (rest_own_types types next own are.1 are.2 are.3 own_types) are.6,
      )

  module _ (literals : List Known) (readers : List Reader) (declared : AreDeclared types (literals ++ map known_of readers)) (readers_declared : AllByRecursion (IsReaderDeclared types) readers) where
    take_declared : (rs : List Reader) (n : ℕ) → AreDeclared types (map known_of rs) → AreDeclared types (map known_of (take n rs))
    take_declared rs zero h = tt
    take_declared [] (suc n) h = tt
    take_declared (r ∷ rs) (suc n) h = (h.0, take_declared rs n h.1)

    after_declared : (n : ℕ) → AreDeclared types (known_after literals readers n)
    after_declared n = all-append (λ (k : Known). DeclaresValue types k.operand) literals (map known_of (take n readers)) (all_front (λ (k : Known). DeclaresValue types k.operand) literals (map known_of readers) declared)
        (take_declared readers n (all_back (λ (k : Known). DeclaresValue types k.operand) literals (map known_of readers) declared))

    pub part_typed : (done upto : ℕ) (a : Statement) → ReadsPart readers done upto a → IsTyped types a
    part_typed done upto a p =
        p.reads.typed types (all_back (IsReaderDeclared types) (take done readers) p.part (subst (AllByRecursion (IsReaderDeclared types)) (sym p.part_is) (all_take (IsReaderDeclared types) upto readers readers_declared)))

    pub decided_typed : (next done : ℕ) (ends : List ℕ) (cs : List Condition) (gs : List Test) (own : List ValType) (rest : Statement) → AreOwn types next own → AreDecided literals readers next done ends cs gs own → IsTyped types rest → IsTyped types (tests_block gs rest)
    decided_typed next done [] [] [] own rest own_types are typed = typed
    decided_typed next done (e ∷ ends) (c ∷ cs) (g ∷ gs) own rest own_types are typed =
        let d = are.3 in
        let one = d.deciding.typed types (after_declared e) (first_own_types types next own are.0 are.1 are.2 own_types) in (
          subst (IsTyped types) (sym d.block_is) (part_typed done e d.reads d.reading, one.0),
          (
            subst (λ (x : LowExpression). HasType types x I32) (sym d.out_is) one.1,
            decided_typed (next + length are.0) e ends cs gs are.1 rest (rest_own_types types next own are.0 are.1 are.2 own_types) are.4 typed,
            tt,
          ),
        )
    decided_typed next done ends cs gs own rest own_types are typed = absurd are

  -- conjuncts over what is known, and within them the rest
  pub filtered_typed : (known : List Known) (next : ℕ) (cs : List Condition) (Rest : (next : ℕ) → Statement → List ValType → Type 0) (a : Statement) (own : List ValType) → AreDeclared types known → AreOwn types next own → IsFiltered known next cs Rest a own →
      ((after : ℕ) (b : Statement) (more : List ValType) → AreOwn types after more → Rest after b more → IsTyped types b) → IsTyped types a
  filtered_typed known next cs Rest a own declared own_types h rest_typed =
      subst (IsTyped types) (sym h.is)
      (decided_typed known [] (subst (AreDeclared types) (sym (append-nil known)) declared) tt next 0 h.ends cs h.tests h.tests_own h.rest (first_own_types types next own h.tests_own h.rest_own h.own_is own_types) h.decided
      (rest_typed (next + length h.tests_own) h.rest h.rest_own (rest_own_types types next own h.tests_own h.rest_own h.own_is own_types) h.onward))

  -- ---- entries that are read
  entry_typed : (columns : List ReadColumn) (at entry free : ℕ) (a : Statement) → slice_get types entry ≡ Some I32 → AreOwn types free (entry_types columns) → ReadsEntry at entry free columns a → IsTyped types a
  entry_typed [] at entry free a leads own reads = subst (IsTyped types) (sym reads) tt
  entry_typed (c ∷ columns) at entry free a leads own reads =
      let first : List ValType = cell_types (type_kind c.ty) in
      let rest : List ValType = entry_types columns in
      let three : length first ≡ 3 = cell_three (type_kind c.ty) in
      subst (IsTyped types) (sym reads.2) (
        reads.3.typed types leads (first_own_types types free (first ++ rest) first rest refl own),
        entry_typed columns (at + 16) entry (free + 3) reads.1 leads (subst (λ (n : ℕ). AreOwn types (free + n) rest) three (rest_own_types types free (first ++ rest) first rest refl own)) reads.4,
      )

  -- ---- a lookup, and within it the rest
  pub probed_typed : (known : List Known) (next : ℕ) (p : Probe) (Rest : List Known → (next : ℕ) → Statement → List ValType → Type 0) (a : Statement) (own : List ValType) → AreDeclared types known → AreOwn types next own → slice_get types (directory p.table) ≡ Some I32 → IsProbed known next p Rest a own →
      ((held : List Known) (after : ℕ) (b : Statement) (more : List ValType) → AreDeclared types held → AreOwn types after more → Rest held after b more → IsTyped types b) → IsTyped types a
  probed_typed known next p Rest a own declared own_types led h rest_typed =
      let free : ℕ = next + length h.key_own in
      let behind : List ValType = entry_types p.kept ++ h.rest_own in
      let key_types = first_own_types types next own h.key_own (probe_types ++ behind) h.own_is own_types in
      let later = rest_own_types types next own h.key_own (probe_types ++ behind) h.own_is own_types in
      let lookup_types : AreOwn types free probe_types = first_own_types types free (probe_types ++ behind) probe_types behind refl later in
      let cells_types : AreOwn types (free + 14) behind = rest_own_types types free (probe_types ++ behind) probe_types behind refl later in
      let entry_own : AreOwn types (free + 14) (entry_types p.kept) = first_own_types types (free + 14) behind (entry_types p.kept) h.rest_own refl cells_types in
      let rest_own : AreOwn types (free + 14 + 3 * length p.kept) h.rest_own = subst (λ (n : ℕ). AreOwn types (free + 14 + n) h.rest_own) (entry_many p.kept) (rest_own_types types (free + 14) behind (entry_types p.kept) h.rest_own refl cells_types) in
      let held : List Known = known_entry (free + 14) p.kept ++ known in
      let held_declared : AreDeclared types held = all-append (λ (k : Known). DeclaresValue types k.operand) (known_entry (free + 14) p.kept) known (entry_declared types (free + 14) p.kept entry_own) declared in
      subst (IsTyped types) (sym h.is) (
        items_typed known next p.key h.items h.key_own declared key_types h.computed,
        probes_typed (directory p.table) h.key free (seq h.reads h.rest) h.look_up h.probes types (fields_declared types h.key (subst (AllByRecursion (IsSourceDeclared types)) h.key_is (outs_declared known next p.key h.items h.key_own declared key_types h.computed))) led lookup_types (
          entry_typed p.kept (24 + 16 * length p.key) (free + 4) (free + 14) h.reads (lookup_types 4 I32 refl) entry_own h.reading,
          filtered_typed held (free + 14 + 3 * length p.kept) p.on (Rest held) h.rest h.rest_own held_declared rest_own h.filtered (λ after b more more_types rest. rest_typed held after b more held_declared more_types rest),
        ),
      )

  -- the columns of a row alone
  clear_typed : (columns : List ReadColumn) (free : ℕ) → AreOwn types free (entry_types columns) → IsTyped types (clear_block free columns)
  clear_typed [] free own = tt
  clear_typed (c ∷ columns) free own =
      let first : List ValType = cell_types (type_kind c.ty) in
      let rest : List ValType = entry_types columns in (
        (I32, null_there (type_kind c.ty) free (first_own_types types free (first ++ rest) first rest refl own), (omega arith, refl)),
        clear_typed columns (free + 3) (subst (λ (n : ℕ). AreOwn types (free + n) rest) (cell_three (type_kind c.ty)) (rest_own_types types free (first ++ rest) first rest refl own)),
      )
    where
      null_there : (kd : Kind) (free : ℕ) → AreOwn types free (cell_types kd) → slice_get types free ≡ Some I32
      null_there (kind.Number s) free own = subst (λ (i : ℕ). slice_get types i ≡ Some I32) (omega arith) (own 0 I32 refl)
      null_there kind.Date free own = subst (λ (i : ℕ). slice_get types i ≡ Some I32) (omega arith) (own 0 I32 refl)
      null_there kind.Text free own = subst (λ (i : ℕ). slice_get types i ≡ Some I32) (omega arith) (own 0 I32 refl)

  -- an outer lookup, and within it the rest
  pub outer_probed_typed : (known : List Known) (next : ℕ) (p : Probe) (Rest : List Known → (next : ℕ) → Statement → List ValType → Type 0) (a : Statement) (own : List ValType) → AreDeclared types known → AreOwn types next own → slice_get types (directory p.table) ≡ Some I32 →
      IsOuterProbed known next p Rest a own → ((held : List Known) (after : ℕ) (b : Statement) (more : List ValType) → AreDeclared types held → AreOwn types after more → Rest held after b more → IsTyped types b) → IsTyped types a
  outer_probed_typed known next p Rest a own declared own_types led h rest_typed =
      let free : ℕ = next + length h.key_own in
      let last : ℕ = free + 17 + 3 * length p.kept in
      let inner : List ValType = h.tests_own ++ h.rest_own in
      let behind : List ValType = entry_types p.kept ++ inner in
      let key_types = first_own_types types next own h.key_own (outer_types ++ behind) h.own_is own_types in
      let later = rest_own_types types next own h.key_own (outer_types ++ behind) h.own_is own_types in
      let lookup_types : AreOwn types free outer_types = first_own_types types free (outer_types ++ behind) outer_types behind refl later in
      let cells_types : AreOwn types (free + 17) behind = rest_own_types types free (outer_types ++ behind) outer_types behind refl later in
      let entry_own : AreOwn types (free + 17) (entry_types p.kept) = first_own_types types (free + 17) behind (entry_types p.kept) inner refl cells_types in
      let inner_own : AreOwn types last inner = subst (λ (n : ℕ). AreOwn types (free + 17 + n) inner) (entry_many p.kept) (rest_own_types types (free + 17) behind (entry_types p.kept) inner refl cells_types) in
      let tests_own : AreOwn types last h.tests_own = first_own_types types last inner h.tests_own h.rest_own refl inner_own in
      let rest_own : AreOwn types (last + length h.tests_own) h.rest_own = rest_own_types types last inner h.tests_own h.rest_own refl inner_own in
      let held : List Known = known_entry (free + 17) p.kept ++ known in
      let held_declared : AreDeclared types held = all-append (λ (k : Known). DeclaresValue types k.operand) (known_entry (free + 17) p.kept) known (entry_declared types (free + 17) p.kept entry_own) declared in
      let going : IsTyped types (goes_on (free + 2)) = (I32, lookup_types 2 I32 refl, (omega arith, refl)) in
      subst (IsTyped types) (sym h.is) (
        items_typed known next p.key h.items h.key_own declared key_types h.computed,
        outer_typed (directory p.table) h.key free (seq h.reads (tests_block h.tests (goes_on (free + 2)))) (clear_block (free + 17) p.kept) h.rest h.look_up h.probes types
            (fields_declared types h.key (subst (AllByRecursion (IsSourceDeclared types)) h.key_is (outs_declared known next p.key h.items h.key_own declared key_types h.computed))) led lookup_types (
              entry_typed p.kept (24 + 16 * length p.key) (free + 7) (free + 17) h.reads (lookup_types 7 I32 refl) entry_own h.reading,
              decided_typed held [] (subst (AreDeclared types) (sym (append-nil held)) held_declared) tt last 0 h.ends p.on h.tests h.tests_own (goes_on (free + 2)) tests_own h.decided going,
            )
            (clear_typed p.kept (free + 17) entry_own) (rest_typed held (last + length h.tests_own) h.rest h.rest_own held_declared rest_own h.onward),
      )

  pub looked_up_typed : (known : List Known) (next : ℕ) (p : Probe) (Rest : List Known → (next : ℕ) → Statement → List ValType → Type 0) (a : Statement) (own : List ValType) → AreDeclared types known → AreOwn types next own → slice_get types (directory p.table) ≡ Some I32 →
      IsLookedUp p.outer known next p Rest a own → ((held : List Known) (after : ℕ) (b : Statement) (more : List ValType) → AreDeclared types held → AreOwn types after more → Rest held after b more → IsTyped types b) → IsTyped types a
  looked_up_typed known next p Rest a own declared own_types led h rest_typed = by_kind p.outer h
    where
      by_kind : (outer : Bool) → IsLookedUp outer known next p Rest a own → IsTyped types a
      by_kind false h = probed_typed known next p Rest a own declared own_types led h rest_typed
      by_kind true h = outer_probed_typed known next p Rest a own declared own_types led h rest_typed

  -- ---- the sinks
  module _ (free_is : slice_get types 1 ≡ Some I32) (left_is : slice_get types 2 ≡ Some I32) where
    plain_typed : (k : Option Kind) (c : Cell) (at : ℕ) → DeclaresKind types c k → IsTyped types (plain_block k c at)
    plain_typed None c at h = tt
    plain_typed (Some (kind.Number s)) c at h = (free_is, h)
    plain_typed (Some kind.Date) c at h = (free_is, h)
    plain_typed (Some kind.Text) c at h = ((free_is, h.0), (free_is, h.1))

    cell_typed : (null : Option ℕ) (at : ℕ) (plain : Statement) → DeclaresNull types null → IsTyped types plain → IsTyped types (cell_block null at plain)
    cell_typed None at plain is typed = typed
    cell_typed (Some n) at plain is typed = (is, (free_is, (omega arith, refl)), typed)

    sources_typed : (os : List Source) (at : ℕ) → AllByRecursion (IsSourceDeclared types) os → IsTyped types (cells_block at os)
    sources_typed [] at h = tt
    sources_typed (o ∷ os) at h = (cell_typed o.cell.null at (plain_block o.kind o.cell at) h.0.1 (plain_typed o.kind o.cell at h.0.0), sources_typed os (at + 16) h.1)

    room_typed : (n : ℕ) → n < 2 ^ 32 → IsTyped types (room_block n)
    room_typed n small = ((left_is, (small, refl), refl), (((omega arith, refl), free_is), (I32, left_is, (omega arith, refl))), tt)

    pushed_typed : (n : ℕ) (fill : Statement) → n < 2 ^ 32 → slice_get types 3 ≡ Some I32 → slice_get types 4 ≡ Some I64 → IsTyped types fill → IsTyped types (push_block n fill)
    pushed_typed n fill small link_is count_is typed = (
      room_typed n small,
      (
        typed,
        ((link_is, free_is), ((I32, link_is, free_is), ((I32, free_is, (free_is, (small, refl), refl)), ((I32, left_is, (left_is, (small, refl), refl)), (I64, count_is, (count_is, (omega arith, refl), refl)))))),
      ),
    )

    -- a row is entered
    entered_typed : (n d h x : ℕ) → n < 2 ^ 32 → slice_get types d ≡ Some I32 → slice_get types h ≡ Some I32 → slice_get types x ≡ Some I32 → IsTyped types (enter_block n d h x)
    entered_typed n d h x small d_is h_is x_is =
        ((x_is, (d_is, h_is, refl)), ((free_is, x_is), (((d_is, h_is, refl), free_is), ((I32, free_is, (free_is, (small, refl), refl)), (I32, left_is, (left_is, (small, refl), refl))))))

    sure_declared : (fs : List Field) → keys.AreDeclared types fs → keys.AreDeclared types (map sure fs)
    sure_declared [] h = tt
    sure_declared (f ∷ fs) h = ((one f.kind h.0.0, tt), sure_declared fs h.1)
      where
        one : (kd : Kind) → keys.DeclaresKind types kd f.cell → keys.DeclaresKind types kd (record { value = f.cell.value; length = f.cell.length; null = None })
        one (kind.Number s) h = h
        one kind.Date h = h
        one kind.Text h = h

    unless_typed : (null : Option ℕ) (a : Statement) → keys.DeclaresNull types null → IsTyped types a → IsTyped types (unless_null null a)
    unless_typed None a is typed = typed
    unless_typed (Some n) a is typed = (is, tt, typed)

    guarded_typed : (fs : List Field) (a : Statement) → keys.AreDeclared types fs → IsTyped types a → IsTyped types (guarded fs a)
    guarded_typed [] a h typed = typed
    guarded_typed (f ∷ fs) a h typed = unless_typed f.cell.null (guarded fs a) h.0.1 (guarded_typed fs a h.1 typed)

    slot_within : (free : ℕ) → AreOwn types free build_types → Declares types free slot_types
    slot_within free own zero t is = own 0 t is
    slot_within free own (suc zero) t is = own 1 t is
    slot_within free own (suc (suc zero)) t is = own 2 t is
    slot_within free own (suc (suc (suc zero))) t is = own 3 t is
    slot_within free own (suc (suc (suc (suc i)))) t is = cc

    builds_typed : (d : ℕ) (key cells : List Field) (free : ℕ) (a : Statement) → Builds d key cells free a → entry_size 0 (length cells) 0 < 2 ^ 32 → keys.AreDeclared types key → AllByRecursion (IsSourceDeclared types) (sources_of cells) → slice_get types d ≡ Some I32 → AreOwn types free build_types →
        IsTyped types a
    builds_typed d key cells free a builds small key_is cells_are d_is own =
        let n : ℕ = entry_size 0 (length cells) 0 in
        let fill : Statement = cells_block 24 (sources_of cells) in
        subst (IsTyped types) (sym builds.is) (guarded_typed key (seq builds.find (insert_block n d (free + 3) (free + 4) fill)) key_is (
          builds.finds.typed types (sure_declared key key_is) (slot_within free own),
          (room_typed n small, (sources_typed (sources_of cells) 24 cells_are, entered_typed n d (free + 3) (free + 4) small d_is (own 3 I32 refl) (own 4 I32 refl))),
        ))

    sunk_typed : (snk : Sink) (known : List Known) (next : ℕ) (a : Statement) (own : List ValType) → AreDeclared types known → AreOwn types next own → IsLed types snk → CanSink snk → IsSunk snk known next a own → IsTyped types a
    sunk_typed (build b) known next a own declared own_types led can h =
        let values : List Expression = b.key ++ map column_of b.kept in
        let item_types = first_own_types types next own h.items_own build_types h.own_is own_types in
        let sources = subst (AllByRecursion (IsSourceDeclared types)) h.cells_are (outs_declared known next values h.items h.items_own declared item_types h.computed) in
        let count : length h.cells ≡ length values = sym (sources_many h.cells) ∙ (ap (λ (os : List Source). length os) (sym h.cells_are) ∙ (moved_many h.items ∙ items_many known next values h.items h.items_own h.computed)) in
        let parts = length-append b.key (map column_of b.kept) in
        let kept = length-map b.kept column_of in
        subst (IsTyped types) (sym h.is) (
          items_typed known next values h.items h.items_own declared item_types h.computed,
          builds_typed (directory b.table) (take (length b.key) h.cells) h.cells (next + length h.items_own) h.enter h.builds (omega (arith, count, parts, kept, can.0, can.1)) (taken_declared types (length b.key) h.cells (fields_declared types h.cells sources)) sources led
              (rest_own_types types next own h.items_own build_types h.own_is own_types),
        )
    sunk_typed (select items) known next a own declared own_types led can h =
        subst (IsTyped types) (sym h.is) (
          items_typed known next items h.made own declared own_types h.computed,
          pushed_typed (8 + 16 * length items) (cells_block 8 (outs_of h.made)) (omega (arith, can)) led.0 led.1 (sources_typed (outs_of h.made) 8 (plain_outs known next items h.made own declared own_types h.computed)),
        )

    -- ---- columns behind a test of null bits
    reader_sure_declared : (f : Reader → Bool) (r : Reader) → IsReaderDeclared types r → IsReaderDeclared types (sure_where f r)
    reader_sure_declared f r h = by (f r)
      where
        by : (b : Bool) → IsReaderDeclared types (if b then sure_reader r else r)
        by true = (h.0, h.1, record { values = h.2.values; octets = h.2.octets; nulls = λ is. absurd cc }, (h.3.0, tt))
        by false = h

    all_sure_declared : (f : Reader → Bool) (readers : List Reader) → AllByRecursion (IsReaderDeclared types) readers → AllByRecursion (IsReaderDeclared types) (map (sure_where f) readers)
    all_sure_declared f [] all = tt
    all_sure_declared f (r ∷ readers) all = (reader_sure_declared f r all.0, all_sure_declared f readers all.1)

    known_sure_declared : (readers : List Reader) → AllByRecursion (IsReaderDeclared types) readers → AreDeclared types (map known_of readers)
    known_sure_declared [] all = tt
    known_sure_declared (r ∷ readers) all = (all.0.3, known_sure_declared readers all.1)

    -- ---- all operators, and a row of the scan, where what is innermost is typed
    pub led_behind : (operators : List Operator) → AreLed types operators → AreLed types (behind_filter operators)
    led_behind operators led = behind_first (AreLed types) (λ cs os rest. rest) operators led

    module _ (End : List Known → (next : ℕ) → Statement → List ValType → Type 0) (end_typed : (known : List Known) (next : ℕ) (a : Statement) (own : List ValType) → AreDeclared types known → AreOwn types next own → End known next a own → IsTyped types a) where
      pub carried_to_typed : (operators : List Operator) (known : List Known) (next : ℕ) (a : Statement) (own : List ValType) → AreDeclared types known → AreOwn types next own → AreLed types operators → IsCarriedTo End known next operators a own → IsTyped types a
      carried_to_typed [] known next a own declared own_types led h = end_typed known next a own declared own_types h
      carried_to_typed (filter cs ∷ operators) known next a own declared own_types led h =
          filtered_typed known next cs (λ after b more. IsCarriedTo End known after operators b more) a own declared own_types h (λ after b more more_types rest. carried_to_typed operators known after b more declared more_types led rest)
      carried_to_typed (probe p ∷ operators) known next a own declared own_types led h =
          looked_up_typed known next p (λ held after b more. IsCarriedTo End held after operators b more) a own declared own_types led.0 h
          (λ held after b more held_declared more_types rest. carried_to_typed operators held after b more held_declared more_types led.1 rest)

      pub read_row_typed : (literals : List Known) (readers : List Reader) (next : ℕ) (cs : List Condition) (operators : List Operator) (a : Statement) (own : List ValType) → AreDeclared types (literals ++ map known_of readers) → AllByRecursion (IsReaderDeclared types) readers → AreOwn types next own →
          AreLed types operators → IsReadRow End literals readers next cs operators a own → IsTyped types a
      read_row_typed literals readers next cs operators a own declared readers_declared own_types led h =
          subst (IsTyped types) (sym h.is)
          (decided_typed literals readers declared readers_declared next 0 h.ends cs h.tests h.tests_own (seq h.reads h.rest) (first_own_types types next own h.tests_own h.rest_own h.own_is own_types) h.decided (
            part_typed literals readers declared readers_declared (last_end 0 h.ends) (length readers) h.reads h.reading,
            carried_to_typed operators (literals ++ map known_of readers) (next + length h.tests_own) h.rest h.rest_own declared (rest_own_types types next own h.tests_own h.rest_own h.own_is own_types) led h.carried,
          ))

      -- behind a test of null bits
      guarded_row_typed : (literals : List Known) (readers : List Reader) (next : ℕ) (cs : List Condition) (operators : List Operator) (a : Statement) (own : List ValType) → AreDeclared types (literals ++ map known_of readers) → AllByRecursion (IsReaderDeclared types) readers → AreOwn types next own →
          AreLed types operators → IsGuardedRow End literals readers next cs operators a own → IsTyped types a
      guarded_row_typed literals readers next cs operators a own declared readers_declared own_types led h =
          let tested : List Reader = picked h.is_tested readers in
          let sure : List Reader = map (sure_where h.is_tested) readers in
          let sure_types = all_sure_declared h.is_tested readers readers_declared in
          let known : AreDeclared types (literals ++ map known_of sure) = all-append (λ (k : Known). DeclaresValue types k.operand) literals (map known_of sure) (all_front (λ (k : Known). DeclaresValue types k.operand) literals (map known_of readers) declared) (known_sure_declared sure sure_types) in
          let bases : AllByRecursion (λ (r : Reader). (slice_get types r.left ≡ Some I32) × (slice_get types r.end ≡ Some I32) × DeclaresBases types r) tested =
          all_more (IsReaderDeclared types) (λ (r : Reader). (slice_get types r.left ≡ Some I32) × (slice_get types r.end ≡ Some I32) × DeclaresBases types r) tested (λ r one. (one.0, one.1, one.2)) (all_picked h.is_tested (IsReaderDeclared types) readers readers_declared) in
          let test = h.tests.typed types bases (first_own_types types next own (test_types tested) h.inner_own h.own_is own_types) in
          subst (IsTyped types) (sym h.is) (
            test.0,
            (
              test.1,
              read_row_typed literals sure (next + length (test_types tested)) cs operators h.inner h.inner_own known sure_types (rest_own_types types next own (test_types tested) h.inner_own h.own_is own_types) led h.within,
              tt,
            ),
          )

      -- with a test or without
      pub row_to_typed : (literals : List Known) (readers : List Reader) (next : ℕ) (operators : List Operator) (a : Statement) (own : List ValType) → AreDeclared types (literals ++ map known_of readers) → AllByRecursion (IsReaderDeclared types) readers → AreOwn types next own →
          AreLed types operators → IsRow End literals readers next operators a own → IsTyped types a
      row_to_typed literals readers next operators a own declared readers_declared own_types led (inl h) = read_row_typed literals readers next (first_filter operators) (behind_filter operators) a own declared readers_declared own_types (led_behind operators led) h
      row_to_typed literals readers next operators a own declared readers_declared own_types led (inr h) = guarded_row_typed literals readers next (first_filter operators) (behind_filter operators) a own declared readers_declared own_types (led_behind operators led) h

    -- ---- where a sink is innermost
    pub carried_typed : (operators : List Operator) (snk : Sink) (known : List Known) (next : ℕ) (a : Statement) (own : List ValType) → AreDeclared types known → AreOwn types next own → AreLed types operators → IsLed types snk → CanSink snk → IsCarriedTo (IsSunk snk) known next operators a own → IsTyped types a
    carried_typed operators snk known next a own declared own_types led sink_led can h =
        carried_to_typed (IsSunk snk) (λ ks n b more is_known are_own sunk. sunk_typed snk ks n b more is_known are_own sink_led can sunk) operators known next a own declared own_types led h

    pub row_typed : (literals : List Known) (readers : List Reader) (next : ℕ) (operators : List Operator) (snk : Sink) (a : Statement) (own : List ValType) → AreDeclared types (literals ++ map known_of readers) → AllByRecursion (IsReaderDeclared types) readers → AreOwn types next own →
        AreLed types operators → IsLed types snk → CanSink snk → IsRow (IsSunk snk) literals readers next operators a own → IsTyped types a
    row_typed literals readers next operators snk a own declared readers_declared own_types led sink_led can h =
        row_to_typed (IsSunk snk) (λ ks n b more is_known are_own sunk. sunk_typed snk ks n b more is_known are_own sink_led can sunk) literals readers next operators a own declared readers_declared own_types led h
