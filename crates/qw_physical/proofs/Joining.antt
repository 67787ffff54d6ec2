-- A row that looks up a table goes on with the pairs that the join makes of it, in some order.
use Rattle.std.proofs.Common.{◌≡◌, ◌∙◌, ℕ, Bool, true, false, not, ◌&&◌, ◌||◌, if◌then◌else◌, List, [], ◌∷◌, ◌++◌, get_or, length, map, Result, Ok, Err, refl, sym, ap, ap₂, subst, append-nil, arith}
use Rattle.std.specs.List.{AllByRecursion, flat_map, list_any}
use Rattle.std.specs.List.Sorted.{IsPermutation}
use Rattle.std.proofs.lemmas.List.Sorted.{list_any-IsPermutation}
use Rattle.qw_types.specs.Arithmetic.{◌>>=◌}
use Rattle.qw_types.specs.Value.{IsSized}
use Rattle.qw_types.specs.ValueOrder.{is_same_row}
use Rattle.qw_types.specs.declared.code.Code.{Code}
use Rattle.qw_types.specs.declared.schema.ColumnType.{ColumnType}
use Rattle.qw_types.specs.declared.value.Val.{Val}
use Rattle.qw_types.specs.declared.value.Val.TheVariants.{Null}
use Rattle.qw_scalar.specs.Conjuncts.{passes}
use Rattle.qw_scalar.specs.Evaluation.{at_row}
use Rattle.qw_scalar.specs.Expression.{Condition, Expression}
use Rattle.qw_meaning.specs.Flow.{Flow, codes_given, kept, rows_given, spread, values_of}
use Rattle.qw_meaning.specs.From.{completed, merged}
use Rattle.qw_meaning.specs.Select.{Entry}
use Rattle.qw_meaning.proofs.FlowLemmas.{flat_map_twice}
use Rattle.qw_meaning.proofs.FromLemmas.{cell}
use Rattle.qw_algebra.specs.Columns.{entries_below, names_only, owns}
use Rattle.qw_algebra.specs.Node.{Node, join, node_flow}
use Rattle.qw_algebra.proofs.Flows.{same_flow}
use Rattle.qw_algebra.proofs.Lists.{all_append, all_map, all_more, all_of_any, flat_map_none}
use Rattle.qw_rewrite.specs.Probed.{all_meet, at_keys, beside_keys, found, probed_by}
use Rattle.qw_rewrite.proofs.Rows.{passes_agrees}
use Rattle.qw_rewrite.proofs.Sifting.{IsOver}
use Rattle.qw_pipe.specs.Pipes.{Lookup}
use Rattle.qw_pipe.specs.Units.{operand_of}
use Rattle.qw_feed.specs.Feeds.{flow_by, flow_over, nothing, one_row, where_true}
use Rattle.qw_table.specs.Joins.{have_values, where_values}
use Rattle.qw_physical.specs.Physical.{Build, Probe, build, probe}
use Rattle.qw_physical.specs.Courses.{column_of, fed, is_alone, isnt_failed, meets, met, placed, row_of, sink_values}
use Rattle.qw_physical.specs.Reads.{is_read}
use Rattle.qw_physical.specs.Spelled.{kept_columns, keys_kept, keys_sought}
use Rattle.qw_physical.specs.declared.pipeline.ReadColumn.{ReadColumn}
use Rattle.qw_physical.proofs.Alone.{any_flat, any_more, any_none, is_partner, with_partner, without_partner}
use Rattle.qw_physical.proofs.Entries.{columns_values, filtered_number, front_dropped, front_taken, kept_values, row_of_cell, values_append}
use Rattle.qw_physical.proofs.EntryRows.{all_filter, all_read}
use Rattle.qw_physical.proofs.EqualKeys.{AreTold, all_meets, all_told, sought}
use Rattle.qw_physical.proofs.Orders.{Alike, alike_is, alike_refl, alike_sym, alike_trans, over_permuted, spread_same, spread_twice}
use Rattle.qw_physical.proofs.Placed.{F, ReadyJoin}
use Rattle.qw_physical.proofs.Sight.{Agree, AllName, OperatorNames, Sees, merged_agree, operator_sees, sink_sees}
use Rattle.qw_physical.proofs.Through.{at_operator}

-- ---- a row that passes conjuncts or not

-- what comes of it, and the row as a clause leaves it
pub passed_on : (work : List Val → Flow (List Val)) (x : List Val) (b : Bool) (q : Result Bool Code)
    → Alike (if b then flow_by q (where_true (work x)) else nothing)
    (spread work (record {
      rows = if b then rows_given (q >>= (λ passed. Ok (if passed then x ∷ [] else []))) else [];
      codes = if b then codes_given (q >>= (λ passed. Ok (if passed then x ∷ [] else []))) else [];
    }))
passed_on work x false q = alike_refl nothing
passed_on work x true (Err code) = alike_refl (record { rows = []; codes = code ∷ [] })
passed_on work x true (Ok false) = alike_refl nothing
passed_on work x true (Ok true) = alike_is (work x) (record { rows = (work x).rows ++ []; codes = (work x).codes ++ [] })
    (same_flow (work x) (record { rows = (work x).rows ++ []; codes = (work x).codes ++ [] }) (sym (append-nil (work x).rows)) (sym (append-nil (work x).codes)))

-- ---- flows over lists of lists

over_flat : (work : List Val → Flow (List Val)) (f : List Val → Flow (List Val)) (xs : List (List Val))
    → flow_over work (flat_map (λ x. (f x).rows) xs) ≡ flow_over (λ x. flow_over work (f x).rows) xs
over_flat work f xs =
    same_flow (flow_over work (flat_map (λ x. (f x).rows) xs)) (flow_over (λ x. flow_over work (f x).rows) xs)
    (flat_map_twice (λ r. (work r).rows) (λ x. (f x).rows) xs) (flat_map_twice (λ r. (work r).codes) (λ x. (f x).rows) xs)

over_one : (work : List Val → Flow (List Val)) (entry : List Val) (b q : Bool) (made : Flow (List Val)) → work entry ≡ (if q then made else nothing)
    → flow_over work (if b then one_row entry else nothing).rows ≡ (if b && q then made else nothing)
over_one work entry true q made e =
    same_flow (flow_over work (entry ∷ [])) (work entry) (append-nil (work entry).rows) (append-nil (work entry).codes) ∙ e
over_one work entry false q made e = refl

any_one : (f : List Val → Bool) (entry : List Val) (b q : Bool) → f entry ≡ q → list_any f (if b then one_row entry else nothing).rows ≡ (b && q)
any_one f entry true q e = or_none (f entry) ∙ e
  where
    or_none : (a : Bool) → (a || false) ≡ a
    or_none true = refl
    or_none false = refl
any_one f entry false q e = refl

ands_turned : (a b c d : Bool) → (((a && b) && c) && d) ≡ (a && (b && (c && d)))
ands_turned true true c d = refl
ands_turned true false c d = refl
ands_turned false b c d = refl

over_nothing : (f : List Val → Flow (List Val)) (xs : List (List Val)) → AllByRecursion (λ x. f x ≡ nothing) xs → flow_over f xs ≡ nothing
over_nothing f xs h =
    same_flow (flow_over f xs) nothing (flat_map_none (λ x. (f x).rows) xs (all_more (λ x. f x ≡ nothing) (λ x. (f x).rows ≡ []) xs (λ x e. ap (λ (g : Flow (List Val)). g.rows) e) h))
    (flat_map_none (λ x. (f x).codes) xs (all_more (λ x. f x ≡ nothing) (λ x. (f x).codes ≡ []) xs (λ x e. ap (λ (g : Flow (List Val)). g.codes) e) h))

-- ---- columns that are kept are read

same_count : (f g : Condition → Expression) (cs : List Condition) → length (map f cs) ≡ length (map g cs)
same_count f g [] = refl
same_count f g (c ∷ cs) = omega (arith, same_count f g cs)

module _ (entries : List Entry) (tables : List (List (List Val))) (columns : List ReadColumn)
    (sized : AllByRecursion (λ (e : Entry). AllByRecursion (λ (c : ColumnType). IsSized c.ty) e.columns) entries)
    (outer : Bool) (left right : Node) (on : List Condition) (keys : List ℕ) (m : ℕ) (ready : ReadyJoin entries tables columns sized outer left right on keys) where
  abbrev Over : (ℕ → Bool) → List Val → Type 0
  Over owned row = IsOver tables (F entries tables columns sized) owned row

  abbrev lookup : Lookup
  lookup = record { entries = entries_below right; outer = outer; on = on; keys = keys }

  abbrev equalities : List Condition
  equalities = at_keys keys 0 on

  abbrev others : List Condition
  others = beside_keys keys 0 on

  abbrev kept_here : List ReadColumn
  kept_here = kept_columns columns lookup

  abbrev pub the_probe : Probe
  the_probe = record { table = m; outer = outer; key = keys_sought lookup; kept = kept_columns columns lookup; on = beside_keys keys 0 on }

  abbrev pub the_build : Build
  the_build = record { table = m; key = keys_kept lookup; kept = kept_columns columns lookup }

  -- ---- keys

  sought_are : keys_sought lookup ≡ map (sought (owns right)) equalities
  sought_are = ap (map (sought (owns right))) ready.equal

  pub kept_are : keys_kept lookup ≡ map (operand_of (owns right)) equalities
  kept_are = ap (map (operand_of (owns right))) ready.equal

  pub key_of : (l : List Val) → Over (owns left) l → AreTold l (map (sought (owns right)) equalities)
  key_of l over = all_told l (map (sought (owns right)) equalities) (ready.told (λ i. not (owns right i)) l over.fine)

  pub entry_key : (r : List Val) → Over (owns right) r → AreTold r (map (operand_of (owns right)) equalities)
  entry_key r over = all_told r (map (operand_of (owns right)) equalities) (ready.told (owns right) r over.fine)

  pub kept_count : (r : List Val) (over : Over (owns right) r) → length (entry_key r over).values ≡ length (keys_kept lookup)
  kept_count r over = (entry_key r over).count ∙ ap (λ (es : List Expression). length es) (sym kept_are)

  sought_count : (r : List Val) (over : Over (owns right) r) → length (entry_key r over).values ≡ length (keys_sought lookup)
  sought_count r over =
      (entry_key r over).count ∙ same_count (operand_of (owns right)) (sought (owns right)) equalities ∙ ap (λ (es : List Expression). length es) (sym sought_are)

  -- ---- what they see

  names_sought : AllName (is_read columns) (keys_sought lookup)
  names_sought = subst (AllName (is_read columns)) (sym sought_are) (ready.named (λ i. not (owns right i)))

  pub probe_names : OperatorNames (is_read columns) (probe the_probe)
  probe_names = (names_sought, ready.others)

  pub build_names : AllName (is_read columns) (sink_values (build the_build))
  build_names =
      all_append (λ e. names_only (is_read columns) e ≡ true) (keys_kept lookup) (map column_of kept_here) (subst (AllName (is_read columns)) (sym kept_are) (ready.named (owns right)))
      (all_map (λ e. names_only (is_read columns) e ≡ true) column_of kept_here
      (all_filter (λ (c : ReadColumn). is_read columns c.number ≡ true) (λ (c : ReadColumn). owns right c.number) columns (all_read columns)))

  -- ---- an entry, and the row that is made of it

  pub entry_is : (built : List (List (List Val))) (r : List Val) (over : Over (owns right) r)
      → fed built [] (build the_build) r ≡ where_values (one_row ((entry_key r over).values ++ kept_values kept_here r)) (entry_key r over).values
  entry_is built r over =
      let key = entry_key r over in
      let key_is : values_of (keys_kept lookup) (at_row r) ≡ Ok key.values = ap (λ (es : List Expression). values_of es (at_row r)) kept_are ∙ key.is in
      ap (λ (q : Result (List Val) Code). flow_by q (placed (build the_build)))
      (values_append (keys_kept lookup) (map column_of kept_here) (at_row r) key.values (kept_values kept_here r) key_is (columns_values kept_here r))
      ∙ ap (where_values (one_row (key.values ++ kept_values kept_here r))) (front_taken (length (keys_kept lookup)) key.values (kept_values kept_here r) (kept_count r over))

  kept_agree : (r : List Val) → Over (owns right) r → Agree (is_read columns) (row_of kept_here (kept_values kept_here r)) r
  kept_agree r over i t =
      row_of_cell kept_here r i
      ∙ ap (λ (b : Bool). if b then cell r i else Null) (filtered_number (owns right) columns i ∙ ap (λ (b : Bool). owns right i && b) t)
      ∙ one (owns right i) refl
    where
      one : (b : Bool) → owns right i ≡ b → (if b && true then cell r i else Null) ≡ cell r i
      one true e = refl
      one false e = sym (over.elsewhere i e)

  -- ---- entries that a row meets

  -- a pair that passes ON, or raises
  abbrev pub partner : (l r : List Val) → Bool
  partner l = is_partner (all_meet (owns left) (owns right) equalities l) (λ r. passes others (at_row (merged l r))) (merged l)

  meets_is : (l vs r : List Val) (over : Over (owns right) r)
      → meets the_probe l vs ((entry_key r over).values ++ kept_values kept_here r) ≡ (is_same_row vs (entry_key r over).values && isnt_failed (passes others (at_row (merged l r))))
  meets_is l vs r over =
      let ws : List Val = (entry_key r over).values in
      let kv : List Val = kept_values kept_here r in
      let agree : Agree (is_read columns) (merged l (row_of kept_here kv)) (merged l r) = merged_agree (is_read columns) l l (row_of kept_here kv) r (λ i t. refl) (kept_agree r over) in
      ap₂ (λ (k d : List Val). is_same_row vs k && isnt_failed (passes others (at_row (merged l (row_of kept_here d)))))
      (front_taken (length (keys_sought lookup)) ws kv (sought_count r over)) (front_dropped (length (keys_sought lookup)) ws kv (sought_count r over))
      ∙ ap (λ (q : Result Bool Code). is_same_row vs ws && isnt_failed q) (passes_agrees (is_read columns) (merged l (row_of kept_here kv)) (merged l r) agree others ready.others)

  entry_met : (built : List (List (List Val))) (l vs r : List Val) (over : Over (owns right) r)
      → list_any (meets the_probe l vs) (fed built [] (build the_build) r).rows
      ≡ (have_values (entry_key r over).values && (is_same_row vs (entry_key r over).values && isnt_failed (passes others (at_row (merged l r)))))
  entry_met built l vs r over =
      let ws : List Val = (entry_key r over).values in
      ap (λ (f : Flow (List Val)). list_any (meets the_probe l vs) f.rows) (entry_is built r over)
      ∙ any_one (meets the_probe l vs) (ws ++ kept_values kept_here r) (have_values ws) (is_same_row vs ws && isnt_failed (passes others (at_row (merged l r)))) (meets_is l vs r over)

  partner_is : (l r : List Val) (over_l : Over (owns left) l) (over_r : Over (owns right) r) (h : Bool) → have_values (key_of l over_l).values ≡ h
      → partner l r ≡ (h && (have_values (entry_key r over_r).values && (is_same_row (key_of l over_l).values (entry_key r over_r).values && isnt_failed (passes others (at_row (merged l r))))))
  partner_is l r over_l over_r h e =
      let vs = (key_of l over_l).values in
      let ws = (entry_key r over_r).values in
      ap (λ (b : Bool). b && isnt_failed (passes others (at_row (merged l r))))
      (all_meets (owns left) (owns right) equalities ready.divided l r vs ws (key_of l over_l).is (entry_key r over_r).is ∙ ap (λ (b : Bool). (b && have_values ws) && is_same_row vs ws) e)
      ∙ ands_turned h (have_values ws) (is_same_row vs ws) (isnt_failed (passes others (at_row (merged l r))))

  module _ (work : List Val → Flow (List Val)) (sees : Sees (is_read columns) work) where
    -- what comes of a pair
    abbrev beyond_on : (l r : List Val) → Flow (List Val)
    beyond_on l r = flow_by (passes others (at_row (merged l r))) (where_true (work (merged l r)))

    abbrev of_pair : (l r : List Val) → Flow (List Val)
    of_pair l r = if all_meet (owns left) (owns right) equalities l r then beyond_on l r else nothing

    met_is : (l vs r : List Val) (over : Over (owns right) r)
        → met work the_probe l vs ((entry_key r over).values ++ kept_values kept_here r) ≡ (if is_same_row vs (entry_key r over).values then beyond_on l r else nothing)
    met_is l vs r over =
        let ws : List Val = (entry_key r over).values in
        let kv : List Val = kept_values kept_here r in
        let agree : Agree (is_read columns) (merged l (row_of kept_here kv)) (merged l r) = merged_agree (is_read columns) l l (row_of kept_here kv) r (λ i t. refl) (kept_agree r over) in
        ap₂ (λ (k d : List Val). if is_same_row vs k then flow_by (passes others (at_row (merged l (row_of kept_here d)))) (where_true (work (merged l (row_of kept_here d)))) else nothing)
        (front_taken (length (keys_sought lookup)) ws kv (sought_count r over)) (front_dropped (length (keys_sought lookup)) ws kv (sought_count r over))
        ∙ ap₂ (λ (q : Result Bool Code) (x : Flow (List Val)). if is_same_row vs ws then flow_by q (where_true x) else nothing)
        (passes_agrees (is_read columns) (merged l (row_of kept_here kv)) (merged l r) agree others ready.others) (sees (merged l (row_of kept_here kv)) (merged l r) agree)

    at_entry : (built : List (List (List Val))) (l vs r : List Val) (over : Over (owns right) r)
        → flow_over (met work the_probe l vs) (fed built [] (build the_build) r).rows
        ≡ (if have_values (entry_key r over).values && is_same_row vs (entry_key r over).values then beyond_on l r else nothing)
    at_entry built l vs r over =
        let ws : List Val = (entry_key r over).values in
        ap (λ (f : Flow (List Val)). flow_over (met work the_probe l vs) f.rows) (entry_is built r over)
        ∙ over_one (met work the_probe l vs) (ws ++ kept_values kept_here r) (have_values ws) (is_same_row vs ws) (beyond_on l r) (met_is l vs r over)

    pair_is : (l r : List Val) (over_l : Over (owns left) l) (over_r : Over (owns right) r) (h : Bool) → have_values (key_of l over_l).values ≡ h
        → of_pair l r ≡ (if (h && have_values (entry_key r over_r).values) && is_same_row (key_of l over_l).values (entry_key r over_r).values then beyond_on l r else nothing)
    pair_is l r over_l over_r h e =
        let vs = (key_of l over_l).values in
        let ws = (entry_key r over_r).values in
        ap (λ (b : Bool). if b then beyond_on l r else nothing)
        (all_meets (owns left) (owns right) equalities ready.divided l r vs ws (key_of l over_l).is (entry_key r over_r).is
        ∙ ap (λ (b : Bool). (b && have_values ws) && is_same_row vs ws) e)

    -- ---- a row that looks up

    module _ (before built : List (List (List Val)))
        (stands : IsPermutation (flat_map (λ r. (fed before [] (build the_build) r).rows) (node_flow tables right).rows) (get_or built m [])) where
      abbrev R : List (List Val)
      R = (node_flow tables right).rows

      found_in : (l : List Val) (over : Over (owns left) l) (h : Bool) → have_values (key_of l over).values ≡ h
          → Alike (if h then flow_over (met work the_probe l (key_of l over).values) (get_or built m []) else nothing) (flow_over (of_pair l) R)
      found_in l over true e =
          let vs : List Val = (key_of l over).values in
          let at : List Val → Flow (List Val) = met work the_probe l vs in
          let all : List (List Val) = flat_map (λ r. (fed before [] (build the_build) r).rows) R in
          alike_trans (flow_over at (get_or built m [])) (flow_over at all) (flow_over (of_pair l) R)
          (alike_sym (flow_over at all) (flow_over at (get_or built m [])) (over_permuted at all (get_or built m []) stands))
          (alike_is (flow_over at all) (flow_over (of_pair l) R)
          (over_flat at (fed before [] (build the_build)) R
          ∙ spread_same (λ r. flow_over at (fed before [] (build the_build) r).rows) (of_pair l) (record { rows = R; codes = [] })
          (all_more (Over (owns right)) (λ r. flow_over at (fed before [] (build the_build) r).rows ≡ of_pair l r) R
          (λ r over_r. at_entry before l vs r over_r ∙ sym (pair_is l r over over_r true e)) ready.over_right)))
      found_in l over false e =
          alike_is nothing (flow_over (of_pair l) R)
          (sym (over_nothing (of_pair l) R (all_more (Over (owns right)) (λ r. of_pair l r ≡ nothing) R (λ r over_r. pair_is l r over over_r false e) ready.over_right)))

      -- it meets one exactly where it has a partner
      any_met : (l : List Val) (over : Over (owns left) l) (h : Bool) → have_values (key_of l over).values ≡ h
          → (h && list_any (meets the_probe l (key_of l over).values) (get_or built m [])) ≡ list_any (partner l) R
      any_met l over true e =
          let vs : List Val = (key_of l over).values in
          let all : List (List Val) = flat_map (λ r. (fed before [] (build the_build) r).rows) R in
          sym (list_any-IsPermutation (meets the_probe l vs) all (get_or built m []) stands)
          ∙ any_flat (meets the_probe l vs) (λ r. (fed before [] (build the_build) r).rows) R
          ∙ any_more (Over (owns right)) (λ r. list_any (meets the_probe l vs) (fed before [] (build the_build) r).rows) (partner l) R
          (λ r over_r. entry_met before l vs r over_r ∙ sym (partner_is l r over over_r true e)) ready.over_right
      any_met l over false e = sym (any_none (partner l) R (all_more (Over (owns right)) (λ r. partner l r ≡ false) R (λ r over_r. partner_is l r over over_r false e) ready.over_right))

      -- what comes of the pairs of a row of the left side, and what the join makes of it
      abbrev paired : List Val → Flow (List Val)
      paired l = record {
        rows = found rows_given (owns left) (owns right) equalities others l R;
        codes = found codes_given (owns left) (owns right) equalities others l R;
      }

      abbrev step : (completes : Bool) → List Val → Flow (List Val)
      step true l = completed l (paired l).rows (paired l).codes
      step false l = paired l

      abbrev pair_step : (l r : List Val) → Flow (List Val)
      pair_step l r = record {
        rows = if all_meet (owns left) (owns right) equalities l r then rows_given (kept others (merged l r)) else [];
        codes = if all_meet (owns left) (owns right) equalities l r then codes_given (kept others (merged l r)) else [];
      }

      -- with the entries that it meets
      abbrev looked_up : (l vs : List Val) → Flow (List Val)
      looked_up l vs = where_values (flow_over (met work the_probe l vs) (get_or built m [])) vs

      pairs_joined : (l : List Val) (over : Over (owns left) l) → Alike (looked_up l (key_of l over).values) (spread work (paired l))
      pairs_joined l over =
          alike_trans (looked_up l (key_of l over).values) (flow_over (of_pair l) R) (spread work (paired l)) (found_in l over (have_values (key_of l over).values) refl)
          (spread_twice (of_pair l) work (pair_step l) (record { rows = R; codes = [] })
          (all_of_any (λ r. Alike (of_pair l r) (spread work (pair_step l r))) R
          (λ r. passed_on work (merged l r) (all_meet (owns left) (owns right) equalities l r) (passes others (at_row (merged l r))))))

      goes_on : (completes : Bool) (l : List Val) (over : Over (owns left) l) (b : Bool) → list_any (partner l) R ≡ b
          → Alike (if completes && not b then work l else looked_up l (key_of l over).values) (spread work (step completes l))
      goes_on false l over b e = pairs_joined l over
      goes_on true l over true e =
          subst (λ (f : Flow (List Val)). Alike (looked_up l (key_of l over).values) (spread work f))
          (sym (with_partner (all_meet (owns left) (owns right) equalities l) (λ r. passes others (at_row (merged l r))) (merged l) l R e)) (pairs_joined l over)
      goes_on true l over false e =
          subst (λ (f : Flow (List Val)). Alike (work l) (spread work f))
          (sym (without_partner (all_meet (owns left) (owns right) equalities l) (λ r. passes others (at_row (merged l r))) (merged l) l R e))
          (alike_is (work l) (record { rows = (work l).rows ++ []; codes = (work l).codes ++ [] })
          (same_flow (work l) (record { rows = (work l).rows ++ []; codes = (work l).codes ++ [] }) (sym (append-nil (work l).rows)) (sym (append-nil (work l).codes))))

      row_joined : (l : List Val) → Over (owns left) l → Alike (at_operator built (probe the_probe) work l) (spread work (step outer l))
      row_joined l over =
          let key = key_of l over in
          let key_is : values_of (keys_sought lookup) (at_row l) ≡ Ok key.values = ap (λ (es : List Expression). values_of es (at_row l)) sought_are ∙ key.is in
          subst (λ (f : Flow (List Val)). Alike f (spread work (step outer l)))
          (sym (ap (λ (q : Result (List Val) Code). flow_by q (λ k. if is_alone the_probe l k (get_or built m []) then work l else looked_up l k)) key_is
          ∙ ap (λ (b : Bool). if outer && not b then work l else looked_up l key.values) (any_met l over (have_values key.values) refl)))
          (goes_on outer l over (list_any (partner l) R) refl)

      probed_is : (completes : Bool) (one : Flow (List Val))
          → probed_by completes (owns left) (owns right) equalities others one (node_flow tables right) ≡ spread (step completes) (record { rows = one.rows; codes = one.codes ++ (node_flow tables right).codes })
      probed_is true one = refl
      probed_is false one = refl

      join_is : (node_flow tables right).codes ≡ [] → node_flow tables (join outer left right on keys) ≡ spread (step outer) (node_flow tables left)
      join_is none =
          ready.probe ∙ probed_is outer (node_flow tables left)
          ∙ ap (λ (cs : List Code). spread (step outer) (record { rows = (node_flow tables left).rows; codes = cs }))
          (ap (λ (cs : List Code). (node_flow tables left).codes ++ cs) none ∙ append-nil (node_flow tables left).codes)

      pub joined : (node_flow tables right).codes ≡ [] → Alike (spread (at_operator built (probe the_probe) work) (node_flow tables left)) (spread work (node_flow tables (join outer left right on keys)))
      joined none =
          subst (λ (f : Flow (List Val)). Alike (spread (at_operator built (probe the_probe) work) (node_flow tables left)) (spread work f)) (sym (join_is none))
          (spread_twice (at_operator built (probe the_probe) work) work (step outer) (node_flow tables left)
          (all_more (Over (owns left)) (λ l. Alike (at_operator built (probe the_probe) work l) (spread work (step outer l))) (node_flow tables left).rows row_joined ready.over_left))

      pub probe_sees : Sees (is_read columns) (at_operator built (probe the_probe) work)
      probe_sees = operator_sees (is_read columns) built (probe the_probe) work probe_names sees

  pub build_sees : (built : List (List (List Val))) → Sees (is_read columns) (fed built [] (build the_build))
  build_sees built = sink_sees (is_read columns) built (build the_build) build_names
