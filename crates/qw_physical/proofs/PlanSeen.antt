-- Each expression of a plan's pipelines names only columns of the entry that is scanned, and those that the lookups before it keep.
use Rattle.std.proofs.Common.{◌≡◌, ◌∙◌, ◌⊎◌, ℕ, ◌+◌, ◌/◌, nat_eq, Bool, true, false, not, ◌||◌, List, [], ◌∷◌, ◌++◌, length, map, inl, inr, refl, sym, subst, append-nil}
use Rattle.std.specs.List.{AllByRecursion}
use Rattle.qw_types.specs.Value.{IsSized}
use Rattle.qw_types.specs.declared.schema.ColumnType.{ColumnType}
use Rattle.qw_types.specs.declared.value.Val.{Val}
use Rattle.qw_scalar.specs.Expression.{Expression, Condition}
use Rattle.qw_leaves.proofs.ComparedLemmas.{by_compared}
use Rattle.qw_meaning.specs.Select.{Entry}
use Rattle.qw_algebra.specs.Columns.{entries_below, owns}
use Rattle.qw_algebra.specs.Node.{Node, scan, filter, join, project}
use Rattle.qw_algebra.proofs.Lists.{all_append, all_map, all_more}
use Rattle.qw_rewrite.specs.Lowest.{NamesBelow}
use Rattle.qw_rewrite.specs.Probed.{at_keys, beside_keys}
use Rattle.qw_rewrite.proofs.Sifting.{owns_join}
use Rattle.qw_pipe.specs.Pipes as pipes
use Rattle.qw_pipe.specs.Pipes.{Lookup, split, test}
use Rattle.qw_pipe.specs.Units.{operand_of}
use Rattle.qw_physical.specs.Courses.{column_of}
use Rattle.qw_physical.specs.Named.{typed_numbers}
use Rattle.qw_physical.specs.Physical.{Operator, filter as filter_by, probe}
use Rattle.qw_physical.specs.Spelled.{all_spelled, kept_columns, keys_kept, keys_sought, spelled, spelled_steps}
use Rattle.qw_physical.specs.declared.pipeline.ReadColumn.{ReadColumn}
use Rattle.qw_physical.proofs.Conjuncts.{AllConjuncts}
use Rattle.qw_physical.proofs.EqualKeys.{AllOperands, BothOperands, IsDivided, operand_has, sought}
use Rattle.qw_physical.proofs.Feeding.{steps_with, building, spelled_join}
use Rattle.qw_physical.proofs.Placed.{IsReady, keys_have}
use Rattle.qw_leaves.proofs.LeafLists.{all_pairs}
use Rattle.qw_physical.proofs.Shown.{IsAmong, IsSeen, Sees, Shows, ShowsIn, Within, all_shown_in, among_owned, columns_shown, of_entry, owned, owned_among, sees_more, shown, shows_in_more, within_left, within_owned, within_right}
use Rattle.qw_physical.proofs.Declared.{or_parts}

operands_shown : (columns : List ReadColumn) (c : Condition) → ShowsIn columns c → AllOperands (Shows columns) c
operands_shown columns = by_compared (λ c o. ShowsIn columns c → BothOperands (Shows columns) o) (λ op a b h. h) (λ c h. tt)

-- ---- a plan

module _ (entries : List Entry) (tables : List (List (List Val))) (columns : List ReadColumn)
    (sized : AllByRecursion (λ (e : Entry). AllByRecursion (λ (c : ColumnType). IsSized c.ty) e.columns) entries) where
  abbrev looked : Bool → Node → List Condition → List ℕ → Lookup
  looked outer right on keys = record { entries = entries_below right; outer = outer; on = on; keys = keys }

  abbrev Ready : Node → Type 0
  Ready node = IsReady entries tables columns sized node

  abbrev pub AreShown : Node → Type 0
  AreShown node = AllConjuncts (ShowsIn columns) node

  -- the keys of a join
  module _ (outer : Bool) (left right : Node) (on : List Condition) (keys : List ℕ) (ready : Ready (join outer left right on keys)) (shows : AllByRecursion (ShowsIn columns) on) where
    key_parts : AllByRecursion (λ c. IsDivided (owns left) (owns right) c × ShowsIn columns c) (at_keys keys 0 on)
    key_parts = all_pairs (IsDivided (owns left) (owns right)) (ShowsIn columns) (at_keys keys 0 on) ready.0.divided (keys_have entries tables columns sized (ShowsIn columns) keys 0 on shows).0

    pub key_sought_shown : AllByRecursion (Shows (owned (owns left) columns)) (keys_sought (looked outer right on keys))
    key_sought_shown =
        subst (λ (cs : List Condition). AllByRecursion (Shows (owned (owns left) columns)) (map (sought (owns right)) cs)) (sym ready.0.equal)
        (all_map (Shows (owned (owns left) columns)) (sought (owns right)) (at_keys keys 0 on)
        (all_more (λ c. IsDivided (owns left) (owns right) c × ShowsIn columns c) (λ c. Shows (owned (owns left) columns) (sought (owns right) c)) (at_keys keys 0 on)
        (λ c h. shown (owns left) columns (sought (owns right) c) h.0.left (operand_has (Shows columns) (λ i. not (owns right i)) c (operands_shown columns c h.1))) key_parts))

    pub key_kept_shown : AllByRecursion (Shows (owned (owns right) columns)) (keys_kept (looked outer right on keys))
    key_kept_shown =
        subst (λ (cs : List Condition). AllByRecursion (Shows (owned (owns right) columns)) (map (operand_of (owns right)) cs)) (sym ready.0.equal)
        (all_map (Shows (owned (owns right) columns)) (operand_of (owns right)) (at_keys keys 0 on)
        (all_more (λ c. IsDivided (owns left) (owns right) c × ShowsIn columns c) (λ c. Shows (owned (owns right) columns) (operand_of (owns right) c)) (at_keys keys 0 on)
        (λ c h. shown (owns right) columns (operand_of (owns right) c) h.0.right (operand_has (Shows columns) (owns right) c (operands_shown columns c h.1))) key_parts))

  join_within : (outer : Bool) (left right : Node) (on : List Condition) (keys : List ℕ) → Within (owned (owns (join outer left right on keys)) columns) (owned (owns right) columns ++ owned (owns left) columns)
  join_within outer left right on keys i ty h =
      let r = owned_among (owns (join outer left right on keys)) columns i ty h in
      one r.1 (or_parts (owns left i) (owns right i) (sym (owns_join outer left right on keys i) ∙ r.0))
    where
      one : IsAmong (typed_numbers columns) i ty → (owns left i ≡ true) ⊎ (owns right i ≡ true) → IsAmong (typed_numbers (owned (owns right) columns ++ owned (owns left) columns)) i ty
      one g (inl e) = within_right (owned (owns right) columns) (owned (owns left) columns) i ty (among_owned (owns left) columns i ty e g)
      one g (inr e) = within_left (owned (owns right) columns) (owned (owns left) columns) i ty (among_owned (owns right) columns i ty e g)

  pub steps_see : (node : Node) (next : ℕ) (more : List Operator) (values : List Expression) → Ready node → NamesBelow node → AreShown node → Sees (owned (owns node) columns) more values
      → Sees (of_entry (split next node).last.entry columns) (spelled_steps columns (split next node).last.steps ++ more) values
  steps_see (scan entry table) next more values ready names shows h =
      sees_more more values (owned (owns (scan entry table)) columns) (of_entry entry columns) (within_owned (owns (scan entry table)) (λ i. nat_eq entry (i / 64)) columns (λ i t. one (nat_eq entry (i / 64)) t)) h
    where
      one : (b : Bool) → (b || false) ≡ true → b ≡ true
      one true e = refl
      one false e = e
  steps_see (filter conjuncts below) next more values ready names shows h =
      subst (λ (os : List Operator). Sees (of_entry (split next below).last.entry columns) os values) (steps_with columns (split next below).last.steps (test conjuncts) (filter_by conjuncts) more refl)
      (steps_see below next (filter_by conjuncts ∷ more) values ready.1 names.1 shows.1 (all_shown_in (owns below) columns conjuncts names.0 shows.0, h))
  steps_see (join outer left right on keys) next more values ready names shows h =
      let m : ℕ = next + length (split next right).builds in
      let kept : List ReadColumn = kept_columns columns (looked outer right on keys) in
      let o : Operator = probe (record { table = m; outer = outer; key = keys_sought (looked outer right on keys); kept = kept; on = beside_keys keys 0 on }) in
      let both_sides : Within (owned (owns (join outer left right on keys)) columns) (kept ++ owned (owns left) columns) = join_within outer left right on keys in
      let others : AllByRecursion (ShowsIn (owned (owns (join outer left right on keys)) columns)) (beside_keys keys 0 on) =
      (keys_have entries tables columns sized (ShowsIn (owned (owns (join outer left right on keys)) columns)) keys 0 on (all_shown_in (owns (join outer left right on keys)) columns on names.0 shows.0)).1 in
      subst (λ (os : List Operator). Sees (of_entry (split (m + 1) left).last.entry columns) os values) (steps_with columns (split (m + 1) left).last.steps (pipes.probe m (looked outer right on keys)) o more refl)
      (steps_see left (m + 1) (o ∷ more) values ready.1.0 names.1.0 shows.1.0 (
        key_sought_shown outer left right on keys ready shows.0,
        (
          shows_in_more (owned (owns (join outer left right on keys)) columns) (kept ++ owned (owns left) columns) both_sides (beside_keys keys 0 on) others,
          sees_more more values (owned (owns (join outer left right on keys)) columns) (kept ++ owned (owns left) columns) both_sides h,
        ),
      ))
  steps_see (project below items) next more values ready names shows h = absurd ready

  -- a plan's pipeline with its values
  pub last_sees : (node : Node) (next : ℕ) (values : List Expression) → Ready node → NamesBelow node → AreShown node → AllByRecursion (Shows (owned (owns node) columns)) values
      → Sees (of_entry (split next node).last.entry columns) (spelled_steps columns (split next node).last.steps) values
  last_sees node next values ready names shows h =
      subst (λ (os : List Operator). Sees (of_entry (split next node).last.entry columns) os values) (append-nil (spelled_steps columns (split next node).last.steps)) (steps_see node next [] values ready names shows h)

  -- those that build tables
  pub builds_see : (node : Node) (next : ℕ) → Ready node → NamesBelow node → AreShown node → AllByRecursion (IsSeen columns) (all_spelled columns next (split next node).builds)
  builds_see (scan entry table) next ready names shows = tt
  builds_see (filter conjuncts below) next ready names shows = builds_see below next ready.1 names.1 shows.1
  builds_see (join outer left right on keys) next ready names shows =
      let m : ℕ = next + length (split next right).builds in
      let kept : List ReadColumn = kept_columns columns (looked outer right on keys) in
      subst (AllByRecursion (IsSeen columns)) (sym (spelled_join entries tables columns sized outer left right on keys next))
      (all_append (IsSeen columns) (all_spelled columns next (split next right).builds) (spelled columns m (building entries tables columns sized next outer right on keys) ∷ all_spelled columns (m + 1) (split (m + 1) left).builds)
      (builds_see right next ready.1.1 names.1.1 shows.1.1) (
        last_sees right next (keys_kept (looked outer right on keys) ++ map column_of kept) ready.1.1 names.1.1 shows.1.1
            (all_append (Shows (owned (owns right) columns)) (keys_kept (looked outer right on keys)) (map column_of kept) (key_kept_shown outer left right on keys ready shows.0) (columns_shown kept)),
        builds_see left (m + 1) ready.1.0 names.1.0 shows.1.0,
      ))
  builds_see (project below items) next ready names shows = absurd ready
