-- What the block of a walk promises: its runs, its types and its size.
use Rattle.std.proofs.Common.{◌≡◌, ℕ, ◌+◌, ◌<◌, ◌≤◌, List, length, Some, slice_get, refl, sym, subst, arith}
use Rattle.std.specs.List.{flat_map}
use Rattle.std.specs.List.Sorted.{IsPermutation}
use Rattle.std.proofs.lemmas.List.Sorted.{length_permutation}
use Rattle.qw_types.specs.declared.value.Val.{Val}
use Rattle.qw_layout.specs.Hash.{slot}
use Rattle.qw_meaning.specs.Flow.{Flow}
use Rattle.qw_grouped.specs.Groups.{keys}
use Rattle.qw_module.specs.declared.instruction.ValType.TheVariants.{I32}
use Rattle.qw_low.specs.Syntax.{Statement}
use Rattle.qw_low.specs.State.{Part, Cells, LowState}
use Rattle.qw_low.specs.Raising.{Kept}
use Rattle.qw_feed.specs.Feeds.{Any, Sink, FeedsTo, flow_over, spend}
use Rattle.qw_feed.specs.Frames.{pos, Keeps, Below}
use Rattle.qw_feed.specs.Rows.{Row, address}
use Rattle.qw_table.specs.Joins.{Told, tested_sink}
use Rattle.qw_table.specs.Tables.{values_of, in_slot}
use Rattle.qw_table.specs.declared.key.Field.{Field}
use Rattle.qw_table.proofs.JoinFeeds.{slot-low}
use Rattle.qw_group.specs.Groups.{HasGroup, HasGroups, group_size}
use Rattle.qw_group.specs.Walks.{AreMet, Walks, slots_down, groups_walk_block}
use Rattle.qw_group.specs.declared.group.Aggregate.{Aggregate}
use Rattle.qw_group.proofs.GroupFeeds.{group_same}
use Rattle.qw_group.proofs.GroupRuns.{values-many}
use Rattle.qw_group.proofs.WalkRuns.{standing, walk_feeds, walk_once, flow-flat, spend-flat, values-flat, slots-many, slot-few}

module _ (Text : Part → ℕ → List ℕ → Type 0) (key : List Field) (aggregates : List Aggregate) (sink : Sink) (most fuel c next : ℕ) (low : 5 ≤ c) (further : c + 1 < next) (has_kept : (rows : List (List Val)) (s t : LowState) → Kept c s t → sink.Has rows s → sink.Has rows t)
    (found : Statement) (inner : List Val → Flow (List Val)) (units : List Val → ℕ) where
  abbrev columns : ℕ
  columns = length key

  abbrev Has : List (List Val) → Cells → ℕ → ℕ → List Val → Type 0
  Has = HasGroup Text key aggregates

  abbrev wide : ℕ
  wide = group_size key aggregates

  -- each group feeds once
  pub groups_walk : (k o d u before : ℕ) (rows : List (List Val)) (s : LowState) (groups : HasGroups columns Has wide k o d u before rows s) → (5 ≤ d) × (d < c) → c + 1 < length s.locals → ((at width : ℕ) → pos k o ≤ at → at + width ≤ pos groups.part groups.offset → sink.Spared at width) → 1024 < fuel →
      length (keys columns rows) < fuel →
      ((e : Row) (t : LowState) → slice_get t.locals (c + 1) ≡ Some (address e) → Keeps (Below c) sink.Spared s t → Has rows t.cells e.part e.offset e.values → FeedsTo sink most fuel (1 + units e.values) (Below next) Any (inner e.values) found t) →
      (entries : List Row) × AreMet columns rows entries × FeedsTo sink most fuel (1025 + spend (λ (e : Row). units e.values) entries) (Below c) Any (flow_over (λ (e : Row). inner e.values) entries) (groups_walk_block d c found) s
  groups_walk k o d u before rows s groups d_low room spared slots_less keys_less met =
      let shorter : (j : ℕ) → j < 1024 → length (groups.chains j) < fuel = λ j j_low. (let same = length_permutation (values_of (groups.chains j)) (in_slot slot j (keys columns rows)) (groups.same j j_low) in let few = slot-few j (keys columns rows) in omega (arith, same, few, values-many (groups.chains j), keys_less)) in
      let fed = walk_feeds sink most fuel c next low further has_kept found inner units columns Has wide (omega arith) (group_same Text key aggregates) k o d (pos groups.part groups.offset) rows s (standing columns Has wide k o d u before rows s groups) d_low room spared slots_less shorter
      (λ e t here. met e t here.x_is here.keeps here.has_group) in
      gathered groups.chains (slots_down 1024) (slots-many 1024) (walk_once columns Has wide k o d (pos groups.part groups.offset) rows s (standing columns Has wide k o d u before rows s groups) slot-low) fed
    where
      gathered : (chains : ℕ → List Row) (js : List ℕ) → length js ≡ 1024 → IsPermutation (flat_map (λ j. values_of (chains j)) js) (keys columns rows) →
          FeedsTo sink most fuel (1 + spend (λ j. spend (λ (e : Row). units e.values) (chains j)) js) (Below c) Any (flow_over (λ j. flow_over (λ (e : Row). inner e.values) (chains j)) js) (groups_walk_block d c found) s →
          (entries : List Row) × AreMet columns rows entries × FeedsTo sink most fuel (1025 + spend (λ (e : Row). units e.values) entries) (Below c) Any (flow_over (λ (e : Row). inner e.values) entries) (groups_walk_block d c found) s
      gathered chains js many once fed =
          let entries : List Row = flat_map chains js in
          let count : 1 + spend (λ j. spend (λ (e : Row). units e.values) (chains j)) js ≡ 1025 + spend (λ (e : Row). units e.values) entries = omega (arith, spend-flat (λ (e : Row). units e.values) chains js, many) in (
            entries,
            subst (λ (l : List (List Val)). IsPermutation l (keys columns rows)) (sym (values-flat chains js)) once,
            subst (λ (f : Flow (List Val)). FeedsTo sink most fuel (1025 + spend (λ (e : Row). units e.values) entries) (Below c) Any f (groups_walk_block d c found) s) (flow-flat (λ (e : Row). inner e.values) chains js)
                (subst (λ (n : ℕ). FeedsTo sink most fuel n (Below c) Any (flow_over (λ j. flow_over (λ (e : Row). inner e.values) (chains j)) js) (groups_walk_block d c found) s) count fed),
          )

pub walks : (directory : ℕ) (key : List Field) (aggregates : List Aggregate) (c : ℕ) (found : Statement) → (5 ≤ directory) × (directory < c) → Walks directory key aggregates c found (groups_walk_block directory c found)
walks directory key aggregates c found low = record {
  runs = λ text has spared may beginnings inner units next most fuel k o u before rows s further kept groups sparing slots_less keys_less room met.
      groups_walk (Told text) key aggregates (tested_sink has spared may beginnings) most fuel c next (omega (arith, low.0, low.1)) further kept found inner units k o directory u before rows s groups low room sparing slots_less keys_less met;
  typed = λ types d_is c_is x_is typed. (
    (I32, c_is, (omega arith, refl)),
    (c_is, ((I32, c_is, (c_is, (omega arith, refl), refl)), ((x_is, (d_is, c_is, refl)), (x_is, (tt, (((omega arith, refl), typed, tt), (x_is, x_is))))))),
  );
  short = omega arith;
}
