-- What the block of a row feeds that begins with a test of null bits: exactly what it feeds without the test, since a row that is rejected has a null
-- where the first conjunct is unknown.
use Rattle.std.proofs.Common.{◌≡◌, ◌≢◌, inl, inr, ℕ, ◌+◌, ◌*◌, ◌≤◌, if◌then◌else◌, Bool, true, false, not, Option, Some, List, [], ◌∷◌, ◌++◌, length, length-append, append_assoc, map, Result, Ok, refl, sym, ap, ◌∙◌, subst, arith}
use Rattle.std.specs.List.{AllByRecursion}
use Rattle.qw_types.specs.Arithmetic.{◌>>=◌}
use Rattle.qw_types.specs.declared.code.Code.{Code}
use Rattle.qw_types.specs.declared.truth.Truth.{Truth}
use Rattle.qw_types.specs.declared.truth.Truth.TheVariants.{True, False, Unknown}
use Rattle.qw_types.specs.declared.value.Val.{Val}
use Rattle.qw_map.proofs.AreaLemmas.{all-append}
use Rattle.qw_module.specs.Numbers.{truth}
use Rattle.qw_module.specs.declared.instruction.ValType.{ValType}
use Rattle.qw_meaning.specs.Flow.{Flow}
use Rattle.qw_scalar.specs.Columns.{HasColumns}
use Rattle.qw_scalar.specs.Conjuncts.{passes}
use Rattle.qw_scalar.specs.Evaluation.{at_row, cell_of, chosen, truth_of}
use Rattle.qw_scalar.specs.Expression.{Condition, Expression}
use Rattle.qw_low.specs.Syntax.{Statement}
use Rattle.qw_low.specs.State.{Cells, Number, LowState}
use Rattle.qw_low.specs.Meaning.{meaning, value}
use Rattle.qw_low.specs.Promise.{Ends}
use Rattle.qw_low.specs.Raising.{Kept, Raises}
use Rattle.qw_low.specs.Size.{size}
use Rattle.qw_low.proofs.LessKnown.{seen}
use Rattle.qw_low.proofs.Promises.{Ends-weaker}
use Rattle.qw_low.proofs.Results.{at_least}
use Rattle.qw_raise.specs.Range as range
use Rattle.qw_raise.specs.Range.{IsInRange}
use Rattle.qw_raise.proofs.RangeLemmas.{column_fits}
use Rattle.qw_expr.specs.Bindings.{Knows}
use Rattle.qw_expr.specs.Cells.{DeclaresValue}
use Rattle.qw_expr.specs.Computes.{Known, AreDeclared}
use Rattle.qw_leaves.specs.Leaves.{HasLeaves}
use Rattle.qw_leaves.proofs.LeafLists.{all_back, all_front}
use Rattle.qw_read.specs.NullTests.{any_null, is_null_at, sure_reader, test_types}
use Rattle.qw_read.specs.Reading.{AreCellsIn, IsCellIn, IsThere, known_of}
use Rattle.qw_read.specs.declared.reader.Reader.{Reader}
use Rattle.qw_read.proofs.NullTestRuns.{sure_there}
use Rattle.qw_feed.specs.Cells.{Uses}
use Rattle.qw_feed.specs.Feeds.{Any, Sink as FlowSink, FeedsTo, flow_by, where_true}
use Rattle.qw_feed.specs.Frames.{Below}
use Rattle.qw_feed.specs.Stages.{Among, Test, all_true, tests_block, truth_word}
use Rattle.qw_feed.proofs.Frames.{Never, below-less}
use Rattle.qw_feed.proofs.InnerFeeds.{tests_feed}
use Rattle.qw_physical.specs.Courses.{fed, sink_values}
use Rattle.qw_physical.specs.Physical.{Operator, Sink, filter, probe}
use Rattle.qw_physical.specs.declared.pipeline.ReadColumn.{ReadColumn}
use Rattle.qw_operator.specs.Carries.{IsGuardedRow, IsRow, behind_filter, first_filter}
use Rattle.qw_operator.specs.Costs.{cost_to}
use Rattle.qw_operator.specs.Guarded.{picked, sure_where}
use Rattle.qw_operator.specs.Takes.{CanCarry, anywhere}
use Rattle.qw_operator.proofs.ColumnReads.{At, at_kept, cells_wider, low_next, there_more}
use Rattle.qw_operator.proofs.Filters.{Runs, old_low}
use Rattle.qw_operator.proofs.Fronts.{all_more}
use Rattle.qw_operator.proofs.KnownLeaves.{AreFit, Fits}
use Rattle.qw_operator.proofs.Knowing.{carry_over}
use Rattle.qw_operator.proofs.OperatorsFeed.{FeedsEnd}
use Rattle.qw_operator.proofs.PairRows.{AreApart, AreNew, IsNullAt}
use Rattle.qw_operator.proofs.Promised.{AreOwn, rest_own_types}
use Rattle.qw_operator.proofs.RowFeeds.{fed_first, read_row_feeds}
use Rattle.qw_operator.proofs.Seen.{AreWithin, within_wider}
use Rattle.qw_operator.proofs.Served.{AreServed}
use Rattle.qw_operator.proofs.Stood.{Stood, built_of}
use Rattle.qw_operator.proofs.StrictLemmas.{all_picked, null_none, picked_back}

-- ---- columns that are read without a null word
module _ (f : Reader → Bool) where
  sure_cell : (from below : ℕ) (r : Reader) → IsCellIn from below r → IsCellIn from below (sure_where f r)
  sure_cell from below r h = by (f r)
    where
      by : (b : Bool) → IsCellIn from below (if b then sure_reader r else r)
      by true = record { value = h.value; long = h.long; text = h.text; null = λ x is. absurd cc }
      by false = h

  sure_cells : (from below : ℕ) (readers : List Reader) → AreCellsIn from below readers → AreCellsIn from below (map (sure_where f) readers)
  sure_cells from below [] cells = cells
  sure_cells from below (r ∷ readers) cells = (cells.0, sure_cell from cells.0 r cells.1, sure_cells cells.0 below readers cells.2)

  sure_uses : (n : ℕ) (r : Reader) → Uses (Among n) r.cell → Uses (Among n) (sure_where f r).cell
  sure_uses n r h = by (f r)
    where
      by : (b : Bool) → Uses (Among n) (if b then sure_reader r else r).cell
      by true = (h.0, h.1, tt)
      by false = h

  sure_within : (n : ℕ) (readers : List Reader) → AreWithin n (map known_of readers) → AreWithin n (map known_of (map (sure_where f) readers))
  sure_within n [] within = tt
  sure_within n (r ∷ readers) within = (sure_uses n r within.0, sure_within n readers within.1)

  sure_value : (types : List ValType) (r : Reader) → DeclaresValue types (known_of r).operand → DeclaresValue types (known_of (sure_where f r)).operand
  sure_value types r h = by (f r)
    where
      by : (b : Bool) → DeclaresValue types (known_of (if b then sure_reader r else r)).operand
      by true = (h.0, tt)
      by false = h

  sure_values : (types : List ValType) (readers : List Reader) → AreDeclared types (map known_of readers) → AreDeclared types (map known_of (map (sure_where f) readers))
  sure_values types [] declared = tt
  sure_values types (r ∷ readers) declared = (sure_value types r declared.0, sure_values types readers declared.1)

  -- they are known as the columns that they are
  sure_name : (r : Reader) → (known_of (sure_where f r)).expression ≡ (known_of r).expression
  sure_name r = by (f r)
    where
      by : (b : Bool) → (known_of (if b then sure_reader r else r)).expression ≡ (known_of r).expression
      by true = refl
      by false = refl

  -- what holds of all names that are known
  module _ (P : Expression → Type 0) where
    named_sure : (readers : List Reader) → AllByRecursion (λ (k : Known). P k.expression) (map known_of readers) → AllByRecursion (λ (k : Known). P k.expression) (map known_of (map (sure_where f) readers))
    named_sure [] all = tt
    named_sure (r ∷ readers) all = (subst P (sym (sure_name r)) all.0, named_sure readers all.1)

    names_sure : (front literals : List Known) (readers : List Reader) → AllByRecursion (λ (k : Known). P k.expression) (front ++ (literals ++ map known_of readers)) → AllByRecursion (λ (k : Known). P k.expression) (front ++ (literals ++ map known_of (map (sure_where f) readers)))
    names_sure front literals readers all =
        let Q : Known → Type 0 = λ (k : Known). P k.expression in
        let rest = all_back Q front (literals ++ map known_of readers) all in
        all-append Q front (literals ++ map known_of (map (sure_where f) readers)) (all_front Q front (literals ++ map known_of readers) all)
        (all-append Q literals (map known_of (map (sure_where f) readers)) (all_front Q literals (map known_of readers) rest) (named_sure readers (all_back Q literals (map known_of readers) rest)))

  knows_sure : (readers : List Reader) (e : Expression) → Knows (map known_of readers) e → Knows (map known_of (map (sure_where f) readers)) e
  knows_sure [] e known = absurd known.1
  knows_sure (r ∷ readers) e (o, inl same) =
      let name : e ≡ (known_of (sure_where f r)).expression = ap (λ (k : Known). k.expression) same ∙ sym (sure_name r) in
      ((known_of (sure_where f r)).operand, inl (ap (λ (x : Expression). let k : Known = record { expression = x; operand = (known_of (sure_where f r)).operand } in k) name))
  knows_sure (r ∷ readers) e (o, inr there) = let rest = knows_sure readers e (o, there) in (rest.0, inr rest.1)

  knows_behind : (literals : List Known) (readers : List Reader) (e : Expression) → Knows (literals ++ map known_of readers) e → Knows (literals ++ map known_of (map (sure_where f) readers)) e
  knows_behind [] readers e known = knows_sure readers e known
  knows_behind (k ∷ literals) readers e (o, inl same) = (o, inl same)
  knows_behind (k ∷ literals) readers e (o, inr there) = let rest = knows_behind literals readers e (o, there) in (rest.0, inr rest.1)

  pub can_sure : (literals : List Known) (readers : List Reader) (operators : List Operator) (snk : Sink) → CanCarry (literals ++ map known_of readers) operators snk → CanCarry (literals ++ map known_of (map (sure_where f) readers)) operators snk
  can_sure literals readers operators snk can = carry_over (literals ++ map known_of readers) (literals ++ map known_of (map (sure_where f) readers)) (knows_behind literals readers) operators snk can

  -- what lookups keep is apart from them
  new_sure : (front literals : List Known) (readers : List Reader) (kept : List ReadColumn) → AreNew (front ++ (literals ++ map known_of readers)) kept → AreNew (front ++ (literals ++ map known_of (map (sure_where f) readers))) kept
  new_sure front literals readers kept new = names_sure (HasColumns (λ i t. AllByRecursion (λ (c : ReadColumn). i ≢ c.number) kept)) front literals readers new

  apart_sure : (front literals : List Known) (readers : List Reader) (operators : List Operator) → AreApart (front ++ (literals ++ map known_of readers)) operators → AreApart (front ++ (literals ++ map known_of (map (sure_where f) readers))) operators
  apart_sure front literals readers [] apart = tt
  apart_sure front literals readers (filter cs ∷ operators) apart = apart_sure front literals readers operators apart
  apart_sure front literals readers (probe p ∷ operators) apart = (
    new_sure front literals readers p.kept apart.0,
    apart.1,
    subst (λ (l : List Known). AreApart l operators) (append_assoc (map anywhere p.kept) front (literals ++ map known_of (map (sure_where f) readers)))
        (apart_sure (map anywhere p.kept ++ front) literals readers operators (subst (λ (l : List Known). AreApart l operators) (sym (append_assoc (map anywhere p.kept) front (literals ++ map known_of readers))) apart.2)),
  )

  -- they stand at a row that has no null at one that was tested
  sure_stands : (n rows : ℕ) (row : List Val) (s : LowState) (readers : List Reader) → AllByRecursion (λ (r : Reader). f r ≡ true → is_null_at row r ≡ false) readers → AllByRecursion (IsThere n rows row s) readers →
      AllByRecursion (IsThere n rows row s) (map (sure_where f) readers)
  sure_stands n rows row s [] some there = tt
  sure_stands n rows row s (r ∷ readers) some there = (by (f r) refl, sure_stands n rows row s readers some.1 there.1)
    where
      by : (b : Bool) → f r ≡ b → IsThere n rows row s (if b then sure_reader r else r)
      by true is = sure_there n rows row s r (some.0 is) there.0
      by false is = there.0

-- ---- a row whose columns stand is in their types' ranges
ranges : (n rows : ℕ) (row : List Val) (s : LowState) (readers : List Reader) → AllByRecursion (IsThere n rows row s) readers → AllByRecursion (λ (r : Reader). IsInRange row r.column r.ty) readers
ranges n rows row s readers all =
    all_more (IsThere n rows row s) (λ (r : Reader). IsInRange row r.column r.ty) readers
    (λ r h. subst (λ (v : Option Val). range.Fits r.ty (cell_of v)) (sym h.value_is) (column_fits r.ty r.not_null h.v h.sized h.stands.typed)) all

-- ---- a test that rejects
abbrev told : Bool → Truth
told true = False
told false = True

told_word : (b : Bool) → truth (not b) ≡ truth_word (told b)
told_word true = refl
told_word false = refl

rejected : (first : Condition) (others : List Condition) (row : List Val) → truth_of first (at_row row) ≡ Ok Unknown → passes (first ∷ others) (at_row row) ≡ Ok false
rejected first others row is = ap (λ (r : Result Truth Code). r >>= (λ t. chosen t (passes others (at_row row)) (let no : Result Bool Code = Ok Bool.false in no))) is

module _ (c : Cells) (stoods : List Stood) (base : ℕ) (sink : FlowSink) (runs : Runs c stoods base sink) (most fuel many : ℕ) (types : List ValType) (End : List Known → (next : ℕ) → Statement → List ValType → Type 0) (snk : Sink) (turn : List Val → ℕ)
    (ends : FeedsEnd c stoods base sink most fuel many types End snk turn)
    (count : ℕ) (literals : List Known) (readers : List Reader) (low next : ℕ) (operators : List Operator) (a : Statement) (own : List ValType) where
  abbrev known : List Known
  known = literals ++ map known_of readers

  abbrev built : List (List (List Val))
  built = built_of stoods

  abbrev units : List Val → ℕ
  units row = cost_to (sink_values snk) turn built operators row

  module _ (h : IsGuardedRow End literals readers next (first_filter operators) (behind_filter operators) a own) (base_low : base ≤ low) (room : next + length own ≤ many)
      (cells : AreCellsIn low next readers) (within : AreWithin low literals) (readers_within : AreWithin next (map known_of readers)) (declared : AreDeclared types known) (own_types : AreOwn types next own)
      (can : CanCarry known operators snk) (apart : AreApart known operators) (served : AreServed stoods operators) (row : List Val) (fit : AreFit row known) (nulls : IsNullAt row operators) where
    abbrev f : Reader → Bool
    f = h.is_tested

    abbrev tested : List Reader
    tested = picked f readers

    abbrev sure : List Reader
    sure = map (sure_where f) readers

    abbrev locals : List ValType
    locals = test_types tested

    abbrev after : ℕ
    after = next + length locals

    own_many : length own ≡ length locals + length h.inner_own
    own_many = ap (λ (o : List ValType). length o) h.own_is ∙ length-append locals h.inner_own

    within_many : next ≤ many
    within_many = omega (arith, room)

    room_after : after + length h.inner_own ≤ many
    room_after = omega (arith, room, own_many)

    after_many : after ≤ many
    after_many = omega (arith, room_after)

    abbrev IsAt : LowState → Type 0
    IsAt s = At c stoods base sink runs most fuel many count literals readers row low next base_low within_many cells within readers_within 0 s

    abbrev b : Bool
    b = any_null row tested

    le : low ≤ next
    le = low_next c stoods base sink runs most fuel many count literals readers row low next base_low within_many cells within readers_within

    -- the test
    decided : (N : ℕ) → 1 ≤ N → (t : LowState) → IsAt t → many ≤ length t.locals →
        Ends (size h.guard * N) (λ u. Kept next t u × IsAt u × (value u h.out ≡ Some (Number (truth_word (told b))))) Never (λ code. ⊥) (meaning most fuel h.guard t)
    decided N some t at long =
        let there : AllByRecursion (IsThere next count row t) tested =
        all_picked f (IsThere next count row t) readers (all_more (IsThere low count row t) (IsThere next count row t) readers (λ r one. there_more low next count row t r le one) at.there.whole) in
        let octets : length locals ≡ 2 + length tested = octet_many tested in
        Ends-weaker (size h.guard) (size h.guard * N) (λ u. Kept next t u × (value u h.out ≡ Some (Number (truth (not b))))) (λ u. Kept next t u × IsAt u × (value u h.out ≡ Some (Number (truth_word (told b))))) Never Never (λ code. ⊥) (λ code. ⊥)
        (meaning most fuel h.guard t) (at_least (size h.guard) N some)
        (λ u ends. (
          ends.0,
          at_kept c stoods base sink runs most fuel many count literals readers row low next base_low within_many cells within readers_within 0 t u ends.0 at,
          ends.1 ∙ ap (λ (k : ℕ). Some (Number k)) (told_word b),
        )) (λ u x. x) (λ code x. x)
        (h.tests.runs most fuel count row t there (omega (arith, octets, after_many, long)))
      where
        octet_many : (rs : List Reader) → length (test_types rs) ≡ 2 + length rs
        octet_many [] = refl
        octet_many (r ∷ rs) = let rest = octet_many rs in omega (arith, rest)

    -- within the test
    fed_within : b ≡ false → (s : LowState) → IsAt s → 1 + units row ≤ fuel → FeedsTo sink most fuel (1 + units row) (Below low) Any (fed built operators snk row) h.inner s
    fed_within none s at enough =
        let some : AllByRecursion (λ (r : Reader). f r ≡ true → is_null_at row r ≡ false) readers = picked_back f (λ (r : Reader). is_null_at row r ≡ false) readers (null_none row tested none) in
        let sure_cells_after : AreCellsIn low after sure = cells_wider low next after sure (omega arith) (sure_cells f low next readers cells) in
        let sure_within_after : AreWithin after (map known_of sure) = within_wider next after (map known_of sure) (omega arith) (sure_within f next readers readers_within) in
        let sure_declared : AreDeclared types (literals ++ map known_of sure) =
        all-append (λ (k : Known). DeclaresValue types k.operand) literals (map known_of sure) (all_front (λ (k : Known). DeclaresValue types k.operand) literals (map known_of readers) declared)
        (sure_values f types readers (all_back (λ (k : Known). DeclaresValue types k.operand) literals (map known_of readers) declared)) in
        read_row_feeds c stoods base sink runs most fuel many types End snk turn ends count literals sure low after operators h.inner h.inner_own h.within base_low room_after sure_cells_after within sure_within_after sure_declared
        (rest_own_types types next own locals h.inner_own h.own_is own_types) (can_sure f literals readers operators snk can) (apart_sure f [] literals readers operators apart) served row
        (names_sure f (HasLeaves (Fits row)) [] literals readers fit) nulls s
        (record {
          here = at.here;
          there = record {
            whole = sure_stands f low count row s readers some at.there.whole;
            seen_so = sure_stands f low count row (seen c s) readers some at.there.seen_so;
          };
        })
        enough

    guarded_feeds : (s : LowState) → IsAt s → 1 + units row ≤ fuel → FeedsTo sink most fuel (1 + units row) (Below low) Any (fed built operators snk row) a s
    guarded_feeds s at enough =
        let N : ℕ = 1 + units row in
        let flow : Flow (List Val) = fed built operators snk row in
        let test : Test = record { out = h.out; block = h.guard } in
        let some : 1 ≤ N = omega arith in
        subst (λ (x : Statement). FeedsTo sink most fuel N (Below low) Any flow x s) (sym h.is)
        (subst (λ (g : Flow (List Val)). FeedsTo sink most fuel N (Below low) Any g (tests_block (test ∷ []) h.inner) s) (same b refl)
        (tests_feed sink most fuel next (Below low) (λ i old. old_low c stoods base sink runs next (omega (arith, base_low, le)) i (below-less low next i le old)) (λ rows t u kept. runs.kept next rows t u (omega (arith, base_low, le)) kept) N many some (λ j t. IsAt t) Any (test ∷ []) (Ok (told b) ∷ []) flow h.inner s
        ((λ t now long. left t (decided N some t now long)), tt) at at.here.long
        (λ t kept now long is. fed_within (passed b is) t now enough)
        (λ t kept is. tt)))
      where
        left : (t : LowState) → Ends (size h.guard * (1 + units row)) (λ u. Kept next t u × IsAt u × (value u h.out ≡ Some (Number (truth_word (told b))))) Never (λ code. ⊥) (meaning most fuel h.guard t) →
            Ends (size h.guard * (1 + units row)) (λ u. Kept next t u × IsAt u × (value u h.out ≡ Some (Number (truth_word (told b))))) Never (λ code. Raises (let r : Result Truth Code = Ok (told b) in r) code) (meaning most fuel h.guard t)
        left t ends = ends

        passed : (d : Bool) → all_true (Ok (told d) ∷ []) ≡ Ok true → d ≡ false
        passed true is = absurd cc
        passed false is = refl

        same : (d : Bool) → b ≡ d → flow_by (all_true (Ok (told b) ∷ [])) (where_true (fed built operators snk row)) ≡ fed built operators snk row
        same false is = ap (λ (e : Bool). flow_by (all_true (Ok (told e) ∷ [])) (where_true (fed built operators snk row))) is
        same true is =
            let unknown : truth_of h.first (at_row row) ≡ Ok Unknown = h.unknown row (ranges low count row s readers at.there.whole) is in
            let no : passes (first_filter operators) (at_row row) ≡ Ok false = ap (λ (cs : List Condition). passes cs (at_row row)) h.cs_are ∙ rejected h.first h.others row unknown in
            ap (λ (e : Bool). flow_by (all_true (Ok (told e) ∷ [])) (where_true (fed built operators snk row))) is
            ∙ sym (fed_first built operators snk row ∙ ap (λ (q : Result Bool Code). flow_by q (where_true (fed built (behind_filter operators) snk row))) no)

  -- with a test or without
  module _ (h : IsRow End literals readers next operators a own) (base_low : base ≤ low) (room : next + length own ≤ many)
      (cells : AreCellsIn low next readers) (within : AreWithin low literals) (readers_within : AreWithin next (map known_of readers)) (declared : AreDeclared types known) (own_types : AreOwn types next own)
      (can : CanCarry known operators snk) (apart : AreApart known operators) (served : AreServed stoods operators) (row : List Val) (fit : AreFit row known) (nulls : IsNullAt row operators) (s : LowState) where
    pub many_next : next ≤ many
    many_next = omega (arith, room)

    pub row_feeds : At c stoods base sink runs most fuel many count literals readers row low next base_low many_next cells within readers_within 0 s → 1 + units row ≤ fuel →
        FeedsTo sink most fuel (1 + units row) (Below low) Any (fed built operators snk row) a s
    row_feeds at enough = by h
      where
        by : IsRow End literals readers next operators a own → FeedsTo sink most fuel (1 + units row) (Below low) Any (fed built operators snk row) a s
        by (inl read) = read_row_feeds c stoods base sink runs most fuel many types End snk turn ends count literals readers low next operators a own read base_low room cells within readers_within declared own_types can apart served row fit nulls s (record { here = at.here; there = record { whole = at.there.whole; seen_so = at.there.seen_so } }) enough
        by (inr guarded) = guarded_feeds guarded base_low room cells within readers_within declared own_types can apart served row fit nulls s (record { here = at.here; there = record { whole = at.there.whole; seen_so = at.there.seen_so } }) enough
