-- A lookup keeps columns of entries that no row of its pipeline has before.
use Rattle.std.proofs.Common.{◌≡◌, ◌∙◌, ℕ, ◌+◌, ◌/◌, nat_eq, Bool, true, false, ◌&&◌, ◌||◌, List, [], ◌∷◌, ◌++◌, length, refl, sym, ap, subst, append-nil}
use Rattle.std.specs.List.{AllByRecursion}
use Rattle.qw_types.specs.Contents.{rows_of}
use Rattle.qw_types.specs.Value.{IsSized}
use Rattle.qw_types.specs.declared.schema.ColumnType.{ColumnType}
use Rattle.qw_types.specs.declared.value.Val.{Val}
use Rattle.qw_types.specs.declared.value.Val.TheVariants.{Null}
use Rattle.qw_scalar.specs.Expression.{Condition}
use Rattle.qw_meaning.specs.From.{at_places, entry_flow}
use Rattle.qw_meaning.specs.Select.{Entry}
use Rattle.qw_meaning.proofs.FromLemmas.{cell}
use Rattle.qw_algebra.specs.Columns.{entries_below, owns}
use Rattle.qw_algebra.specs.Node.{Node, scan, filter, join, project}
use Rattle.qw_algebra.proofs.Lists.{all_append, all_map, all_more}
use Rattle.qw_rewrite.specs.Probed.{beside_keys}
use Rattle.qw_rewrite.proofs.Sifting.{IsOver, other_side, owns_join}
use Rattle.qw_pipe.specs.Pipes as pipes
use Rattle.qw_pipe.specs.Pipes.{Lookup, split, test}
use Rattle.qw_physical.specs.Physical.{Operator, filter as filter_by, probe}
use Rattle.qw_physical.specs.Reads.{is_read}
use Rattle.qw_physical.specs.Sides.{IsApart, IsNullAtKept, KeepApart, ScansNulls}
use Rattle.qw_physical.specs.Spelled.{all_spelled, kept_columns, keys_sought, spelled, spelled_steps}
use Rattle.qw_physical.specs.declared.pipeline.ReadColumn.{ReadColumn}
use Rattle.qw_physical.proofs.Building.{filter_holds}
use Rattle.qw_physical.proofs.Entries.{filtered_number}
use Rattle.qw_physical.proofs.Feeding.{steps_with, building, spelled_join}
use Rattle.qw_physical.proofs.Placed.{F, IsReady}
use Rattle.qw_physical.proofs.Reading.{either_way}

both_false : (a b : Bool) → a ≡ false → b ≡ false → (a || b) ≡ false
both_false true b h g = absurd cc
both_false false b h g = g

-- of fewer columns that are taken
keep_less : (operators : List Operator) (taken less : ℕ → Bool) → ((i : ℕ) → taken i ≡ false → less i ≡ false) → KeepApart taken operators → KeepApart less operators
keep_less [] taken less more h = tt
keep_less (filter_by conjuncts ∷ operators) taken less more h = keep_less operators taken less more h
keep_less (probe p ∷ operators) taken less more h = (
  all_more (λ (c : ReadColumn). taken c.number ≡ false) (λ (c : ReadColumn). less c.number ≡ false) p.kept (λ (c : ReadColumn) no. more c.number no) h.0,
  keep_less operators (λ i. taken i || is_read p.kept i) (λ i. less i || is_read p.kept i)
      (λ i no. let parts = either_way (taken i) (is_read p.kept i) no in both_false (less i) (is_read p.kept i) (more i parts.0) parts.1) h.1,
)

module _ (entries : List Entry) (tables : List (List (List Val))) (columns : List ReadColumn)
    (sized : AllByRecursion (λ (e : Entry). AllByRecursion (λ (c : ColumnType). IsSized c.ty) e.columns) entries) where
  abbrev lookup : Bool → Node → List Condition → List ℕ → Lookup
  lookup outer right on keys = record { entries = entries_below right; outer = outer; on = on; keys = keys }

  -- what comes behind a plan's pipeline keeps nothing of the plan's entries
  pub steps_apart : (node : Node) (next : ℕ) (more : List Operator) → IsReady entries tables columns sized node → KeepApart (owns node) more
      → KeepApart (λ i. nat_eq (split next node).last.entry (i / 64)) (spelled_steps columns (split next node).last.steps ++ more)
  steps_apart (scan entry table) next more ready h = keep_less more (owns (scan entry table)) (λ i. nat_eq entry (i / 64)) (λ i no. (either_way (nat_eq entry (i / 64)) false no).0) h
  steps_apart (filter conjuncts below) next more ready h =
      subst (KeepApart (λ i. nat_eq (split next below).last.entry (i / 64))) (steps_with columns (split next below).last.steps (test conjuncts) (filter_by conjuncts) more refl)
      (steps_apart below next (filter_by conjuncts ∷ more) ready.1 h)
  steps_apart (join outer left right on keys) next more ready h =
      let m : ℕ = next + length (split next right).builds in
      let kept : List ReadColumn = kept_columns columns (lookup outer right on keys) in
      let o : Operator = probe (record { table = m; outer = outer; key = keys_sought (lookup outer right on keys); kept = kept; on = beside_keys keys 0 on }) in
      let here : AllByRecursion (λ (c : ReadColumn). owns left c.number ≡ false) kept =
      all_more (λ (c : ReadColumn). owns right c.number ≡ true) (λ (c : ReadColumn). owns left c.number ≡ false) kept
      (λ (c : ReadColumn) t. other_side (owns left c.number) (owns right c.number) (ready.0.apart c.number) t) (filter_holds (λ (c : ReadColumn). owns right c.number) columns) in
      let later : KeepApart (λ i. owns left i || is_read kept i) more =
      keep_less more (owns (join outer left right on keys)) (λ i. owns left i || is_read kept i)
      (λ i no.
      let parts = either_way (owns left i) (owns right i) (sym (owns_join outer left right on keys i) ∙ no) in
      both_false (owns left i) (is_read kept i) parts.0 (filtered_number (owns right) columns i ∙ ap (λ (b : Bool). b && is_read columns i) parts.1)) h in
      subst (KeepApart (λ i. nat_eq (split (m + 1) left).last.entry (i / 64))) (steps_with columns (split (m + 1) left).last.steps (pipes.probe m (lookup outer right on keys)) o more refl)
      (steps_apart left (m + 1) (o ∷ more) ready.1.0 (here, later))
  steps_apart (project below items) next more ready h = absurd ready

  pub last_apart : (node : Node) (next : ℕ) → IsReady entries tables columns sized node
      → KeepApart (λ i. nat_eq (split next node).last.entry (i / 64)) (spelled_steps columns (split next node).last.steps)
  last_apart node next ready =
      subst (KeepApart (λ i. nat_eq (split next node).last.entry (i / 64))) (append-nil (spelled_steps columns (split next node).last.steps)) (steps_apart node next [] ready tt)

  pub builds_apart : (node : Node) (next : ℕ) → IsReady entries tables columns sized node → AllByRecursion IsApart (all_spelled columns next (split next node).builds)
  builds_apart (scan entry table) next ready = tt
  builds_apart (filter conjuncts below) next ready = builds_apart below next ready.1
  builds_apart (join outer left right on keys) next ready =
      let m : ℕ = next + length (split next right).builds in
      subst (AllByRecursion IsApart) (sym (spelled_join entries tables columns sized outer left right on keys next))
      (all_append IsApart (all_spelled columns next (split next right).builds) (spelled columns m (building entries tables columns sized next outer right on keys) ∷ all_spelled columns (m + 1) (split (m + 1) left).builds)
      (builds_apart right next ready.1.1) (last_apart right next ready.1.1, builds_apart left (m + 1) ready.1.0))
  builds_apart (project below items) next ready = absurd ready

  -- ---- rows that are scanned

  -- beside its entry's places a row is null
  rows_null : (node : Node) (next : ℕ) → IsReady entries tables columns sized node
      → AllByRecursion (λ row. (i : ℕ) → nat_eq (split next node).last.entry (i / 64) ≡ false → cell row i ≡ Null) (entry_flow tables (split next node).last.entry (split next node).last.table).rows
  rows_null (scan entry table) next ready =
      all_map (λ row. (i : ℕ) → nat_eq entry (i / 64) ≡ false → cell row i ≡ Null) (at_places entry) (rows_of tables table)
      (all_more (λ row. IsOver tables (F entries tables columns sized) (owns (scan entry table)) (at_places entry row)) (λ row. (i : ℕ) → nat_eq entry (i / 64) ≡ false → cell (at_places entry row) i ≡ Null)
      (rows_of tables table) (λ row over i no. over.elsewhere i (both_false (nat_eq entry (i / 64)) false no refl)) ready)
  rows_null (filter conjuncts below) next ready = rows_null below next ready.1
  rows_null (join outer left right on keys) next ready = rows_null left (next + length (split next right).builds + 1) ready.1.0
  rows_null (project below items) next ready = absurd ready

  null_kept : (operators : List Operator) (taken : ℕ → Bool) (row : List Val) → ((i : ℕ) → taken i ≡ false → cell row i ≡ Null) → KeepApart taken operators → IsNullAtKept row operators
  null_kept [] taken row null h = tt
  null_kept (filter_by conjuncts ∷ operators) taken row null h = null_kept operators taken row null h
  null_kept (probe p ∷ operators) taken row null h = (
    all_more (λ (c : ReadColumn). taken c.number ≡ false) (λ (c : ReadColumn). cell row c.number ≡ Null) p.kept (λ (c : ReadColumn) no. null c.number no) h.0,
    null_kept operators taken row null (keep_less operators (λ i. taken i || is_read p.kept i) taken (λ i no. (either_way (taken i) (is_read p.kept i) no).0) h.1),
  )

  pub last_nulls : (node : Node) (next : ℕ) → IsReady entries tables columns sized node
      → AllByRecursion (λ row. IsNullAtKept row (spelled_steps columns (split next node).last.steps)) (entry_flow tables (split next node).last.entry (split next node).last.table).rows
  last_nulls node next ready =
      let entry : ℕ = (split next node).last.entry in
      let operators : List Operator = spelled_steps columns (split next node).last.steps in
      let apart : KeepApart (λ i. nat_eq entry (i / 64)) operators = last_apart node next ready in
      all_more (λ row. (i : ℕ) → nat_eq entry (i / 64) ≡ false → cell row i ≡ Null) (λ row. IsNullAtKept row operators) (entry_flow tables entry (split next node).last.table).rows
      (λ row null. null_kept operators (λ i. nat_eq entry (i / 64)) row null apart) (rows_null node next ready)

  pub builds_nulls : (node : Node) (next : ℕ) → IsReady entries tables columns sized node → AllByRecursion (ScansNulls tables) (all_spelled columns next (split next node).builds)
  builds_nulls (scan entry table) next ready = tt
  builds_nulls (filter conjuncts below) next ready = builds_nulls below next ready.1
  builds_nulls (join outer left right on keys) next ready =
      let m : ℕ = next + length (split next right).builds in
      subst (AllByRecursion (ScansNulls tables)) (sym (spelled_join entries tables columns sized outer left right on keys next))
      (all_append (ScansNulls tables) (all_spelled columns next (split next right).builds) (spelled columns m (building entries tables columns sized next outer right on keys) ∷ all_spelled columns (m + 1) (split (m + 1) left).builds)
      (builds_nulls right next ready.1.1) (last_nulls right next ready.1.1, builds_nulls left (m + 1) ready.1.0))
  builds_nulls (project below items) next ready = absurd ready
