-- The block of a row that goes into groups as long as a local counts counts it down: what is within it sets the local nowhere, since it is typed whatever
-- the local's type is.
use Rattle.std.proofs.Common.{◌≡◌, ◌≢◌, ℕ, ◌+◌, ◌<◌, ◌≤◌, inr, Some, List, ◌++◌, map, slice_get, slice_set, refl, sym, ◌∙◌, subst, arith}
use Rattle.std.proofs.lemmas.Option.{slice_get_within}
use Rattle.std.specs.List.{AllByRecursion}
use Rattle.qw_map.proofs.AreaLemmas.{all-append}
use Rattle.qw_map.proofs.TurnFacts.{slice_get-set_same}
use Rattle.qw_module.specs.declared.instruction.ValType.{ValType}
use Rattle.qw_module.specs.declared.instruction.ValType.TheVariants.{I32, I64}
use Rattle.qw_low.specs.Syntax.{Statement}
use Rattle.qw_low.specs.Typing.{IsTyped}
use Rattle.qw_feed.specs.Stages.{items_block}
use Rattle.qw_feed.specs.Scans.{rows_block}
use Rattle.qw_limit.specs.Counting.{CountsDown, Spares}
use Rattle.qw_limit.proofs.CountedBlocks.{rows_count, spares_counts}
use Rattle.qw_limit.proofs.TypedTwice.{typed_spares}
use Rattle.qw_expr.specs.Cells.{DeclaresValue}
use Rattle.qw_expr.specs.Computes.{Known, AreDeclared}
use Rattle.qw_read.specs.Reading.{BeginsAll, DeclaresBases, known_of}
use Rattle.qw_read.specs.declared.reader.Reader.{Reader}
use Rattle.qw_table.specs.declared.key.Field.{Field}
use Rattle.qw_leaves.proofs.LeafLists.{all_back, all_front}
use Rattle.qw_physical.specs.Physical.{Operator}
use Rattle.qw_operator.specs.Carries.{IsRow, directory}
use Rattle.qw_operator.proofs.CarriedTyped.{AreLed, IsReaderDeclared, row_to_typed}
use Rattle.qw_operator.proofs.Fronts.{all_more}
use Rattle.qw_operator.proofs.PipelineFeeds.{Laid, laid_within}
use Rattle.qw_operator.proofs.Promised.{AreOwn}
use Rattle.qw_operator.proofs.Seen.{AreWithin}
use Rattle.qw_operator.specs.Grouping.{CanGroup, Group, IsGrouped}
use Rattle.qw_operator.specs.Puts.{IsGroupedWithin, IsOneGroupWithin}
use Rattle.qw_operator.specs.OneGroup.{IsOneGroup}
use Rattle.qw_operator.proofs.GroupTyped.{grouped_typed}
use Rattle.qw_operator.proofs.OneTyped.{one_typed}
use Rattle.qw_operator.proofs.PlainRows.{Follows, row_plain}
use Rattle.qw_operator.proofs.Redeclared.{known_again, led_again, own_again, readers_again, same_other}

module _ (types : List ValType) (free_is : slice_get types 1 ≡ Some I32) (left_is : slice_get types 2 ≡ Some I32) (z : ℕ) (place : (3 ≤ z) × (z ≤ 4)) (z_is : slice_get types z ≡ Some I64) where
  low_z : z < 5
  low_z = omega (arith, place.1)

  abbrev pub narrow : List ValType
  narrow = slice_set types z I32

  narrow_is : slice_get narrow z ≡ Some I32
  narrow_is = slice_get-set_same types z I32 (slice_get_within types z I64 z_is)

  same_there : (i : ℕ) → i ≢ z → slice_get narrow i ≡ slice_get types i
  same_there i other = same_other z low_z I32 types i other

  narrow_free : slice_get narrow 1 ≡ Some I32
  narrow_free = same_there 1 (λ e. omega (arith, e, place.0)) ∙ free_is

  narrow_left : slice_get narrow 2 ≡ Some I32
  narrow_left = same_there 2 (λ e. omega (arith, e, place.0)) ∙ left_is

  narrow_directory : (table : ℕ) → slice_get types (directory table) ≡ Some I32 → slice_get narrow (directory table) ≡ Some I32
  narrow_directory table is = same_there (directory table) (λ e. omega (arith, e, place.1)) ∙ is

  wide-narrow : I64 ≢ I32
  wide-narrow e = absurd cc

  both_spare : (a : Statement) → IsTyped types a → IsTyped narrow a → Spares z a
  both_spare a is also = typed_spares z types narrow I64 I32 wide-narrow z_is narrow_is same_there a is also

  -- ---- a row of the scan, and the scan, whatever is innermost
  module _ (literals : List Known) (readers : List Reader) (base left end low next : ℕ) (five : 5 ≤ base) (laid : Laid literals readers base left end low next) (declared : AreDeclared types (literals ++ map known_of readers)) (readers_declared : AllByRecursion (IsReaderDeclared types) readers) where
    literals_within : AreWithin low literals
    literals_within = laid_within literals readers base left end low next laid five

    narrow_known : AreDeclared narrow (literals ++ map known_of readers)
    narrow_known =
        let P : Known → Type 0 = λ (k : Known). DeclaresValue types k.operand in
        all-append (λ (k : Known). DeclaresValue narrow k.operand) literals (map known_of readers) (known_again z low_z I32 types low literals literals_within (all_front P literals (map known_of readers) declared))
        (known_again z low_z I32 types next (map known_of readers) laid.readers_within (all_back P literals (map known_of readers) declared))

    narrow_readers : AllByRecursion (IsReaderDeclared narrow) readers
    narrow_readers =
        let order = laid.counters in
        readers_again z low_z I32 types left end (end + 1) low next (omega (arith, five, order.0)) (omega (arith, five, order.0, order.1)) (omega (arith, five, order.0, order.1)) readers laid.counted laid.bases laid.readers_within readers_declared

    -- what leads to the columns' parts before the scan
    pub begins_spare : slice_get types 0 ≡ Some I32 → (a : Statement) → BeginsAll readers a → Spares z a
    begins_spare page_is a begins =
        let counts : (t : List ValType) → AllByRecursion (IsReaderDeclared t) readers → AllByRecursion (λ (r : Reader). (slice_get t r.end ≡ Some I32) × DeclaresBases t r) readers =
        λ t all. all_more (IsReaderDeclared t) (λ (r : Reader). (slice_get t r.end ≡ Some I32) × DeclaresBases t r) readers (λ r one. (one.1, one.2)) all in
        both_spare a (begins.typed types page_is (counts types readers_declared))
        (begins.typed narrow (same_there 0 (λ e. omega (arith, e, place.0)) ∙ page_is) (counts narrow narrow_readers))

    -- what is innermost counts down where something in its place spares the local, which is typed
    module _ (Plain Other : List Known → (next : ℕ) → Statement → List ValType → Type 0)
        (plain_of : (known : List Known) (after : ℕ) (a : Statement) (own : List ValType) → Other known after a own → (plain : Statement) × Plain known after plain own × Follows z plain a)
        (wide_typed : (known : List Known) (after : ℕ) (a : Statement) (own : List ValType) → AreDeclared types known → AreOwn types after own → Plain known after a own → IsTyped types a)
        (narrow_typed : (known : List Known) (after : ℕ) (a : Statement) (own : List ValType) → AreDeclared narrow known → AreOwn narrow after own → Plain known after a own → IsTyped narrow a) where
      pub row_counts_by : (operators : List Operator) (a : Statement) (own : List ValType) → 5 ≤ next → AreOwn types next own → AreLed types operators → IsRow Other literals readers next operators a own → CountsDown z a
      row_counts_by operators a own high own_types led h =
          let plain = row_plain z Plain Other plain_of literals readers next operators a own h in
          plain.2 (both_spare plain.0
          (row_to_typed types free_is left_is Plain wide_typed literals readers next operators plain.0 own declared readers_declared own_types led plain.1)
          (row_to_typed narrow narrow_free narrow_left Plain narrow_typed literals readers next operators plain.0 own narrow_known narrow_readers (own_again z low_z I32 types next own high own_types) (led_again z low_z I32 types operators led) plain.1))

  module _ (fields : List Field) (g : Group) (can : CanGroup g) (directory_is : slice_get types (directory g.table) ≡ Some I32) where
    -- ---- a table of groups innermost
    pub enter_spared : (known : List Known) (next : ℕ) (own : List ValType) (plain : Statement) (is : IsGrouped fields known next g plain own) → 5 ≤ next → AreWithin next known → AreDeclared types known → AreOwn types next own → Spares z is.enter
    enter_spared known next own plain is low within declared own_types =
        let spares : Spares z plain = both_spare plain (grouped_typed types free_is left_is fields known next g plain own can directory_is declared own_types is)
        (grouped_typed narrow narrow_free narrow_left fields known next g plain own can (narrow_directory g.table directory_is) (known_again z low_z I32 types next known within declared) (own_again z low_z I32 types next own low own_types) is) in
        (subst (Spares z) is.is spares).1

    plain_end : (known : List Known) (next : ℕ) (a : Statement) (own : List ValType) → IsGroupedWithin (Some z) fields known next g a own → (plain : Statement) × IsGrouped fields known next g plain own × Follows z plain a
    plain_end known next a own h = (
      h.plain,
      h.grouped,
      λ spares. (let parts = subst (Spares z) h.grouped.is spares in subst (CountsDown z) (sym h.is) (spares_counts z (items_block h.grouped.items) parts.0, inr (h.grouped.enter, refl, parts.1))),
    )

    -- ---- the one group of all rows innermost
    module _ (none : g.columns ≡ 0) where
      pub one_enter_spared : (known : List Known) (next : ℕ) (own : List ValType) (plain : Statement) (is : IsOneGroup fields known next g plain own) → 5 ≤ next → AreWithin next known → AreDeclared types known → AreOwn types next own → Spares z is.enter
      one_enter_spared known next own plain is low within declared own_types =
          let spares : Spares z plain = both_spare plain (one_typed types fields known next g plain own can none directory_is declared own_types is)
          (one_typed narrow fields known next g plain own can none (narrow_directory g.table directory_is) (known_again z low_z I32 types next known within declared) (own_again z low_z I32 types next own low own_types) is) in
          (subst (Spares z) is.is spares).1

      one_end : (known : List Known) (next : ℕ) (a : Statement) (own : List ValType) → IsOneGroupWithin (Some z) fields known next g a own → (plain : Statement) × IsOneGroup fields known next g plain own × Follows z plain a
      one_end known next a own h = (
        h.plain,
        h.grouped,
        λ spares. (let parts = subst (Spares z) h.grouped.is spares in subst (CountsDown z) (sym h.is) (spares_counts z (items_block h.grouped.items) parts.0, inr (h.grouped.enter, refl, parts.1))),
      )

    -- ---- a row of the scan, and the scan
    module _ (literals : List Known) (readers : List Reader) (base left end low next : ℕ) (five : 5 ≤ base) (laid : Laid literals readers base left end low next) (declared : AreDeclared types (literals ++ map known_of readers)) (readers_declared : AllByRecursion (IsReaderDeclared types) readers)
        (operators : List Operator) (a : Statement) (own : List ValType) (high : 5 ≤ next) (own_types : AreOwn types next own) (led : AreLed types operators) where
      left_other : left ≢ z
      left_other e = let order = laid.counters in omega (arith, e, five, order.0, place.1)

      pub row_counts : IsRow (λ known after b more. IsGroupedWithin (Some z) fields known after g b more) literals readers next operators a own → CountsDown z a
      row_counts h = row_counts_by literals readers base left end low next five laid declared readers_declared (λ known after b more. IsGrouped fields known after g b more) (λ known after b more. IsGroupedWithin (Some z) fields known after g b more) plain_end
          (λ known after b more known_declared more_types is. grouped_typed types free_is left_is fields known after g b more can directory_is known_declared more_types is)
          (λ known after b more known_declared more_types is. grouped_typed narrow narrow_free narrow_left fields known after g b more can (narrow_directory g.table directory_is) known_declared more_types is) operators a own high own_types led h

      pub scan_counts : IsRow (λ known after b more. IsGroupedWithin (Some z) fields known after g b more) literals readers next operators a own → CountsDown z (rows_block left a)
      scan_counts h = rows_count z left a left_other (row_counts h)

      pub one_row_counts : g.columns ≡ 0 → IsRow (λ known after b more. IsOneGroupWithin (Some z) fields known after g b more) literals readers next operators a own → CountsDown z a
      one_row_counts none h = row_counts_by literals readers base left end low next five laid declared readers_declared (λ known after b more. IsOneGroup fields known after g b more) (λ known after b more. IsOneGroupWithin (Some z) fields known after g b more) (one_end none)
          (λ known after b more known_declared more_types is. one_typed types fields known after g b more can none directory_is known_declared more_types is)
          (λ known after b more known_declared more_types is. one_typed narrow fields known after g b more can none (narrow_directory g.table directory_is) known_declared more_types is) operators a own high own_types led h

      pub one_scan_counts : g.columns ≡ 0 → IsRow (λ known after b more. IsOneGroupWithin (Some z) fields known after g b more) literals readers next operators a own → CountsDown z (rows_block left a)
      one_scan_counts none h = rows_count z left a left_other (one_row_counts none h)
