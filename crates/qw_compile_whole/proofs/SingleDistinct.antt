-- Without GROUP BY DISTINCT changes nothing, and promises no less: the module of the query without it is a compiled form of the query with it (ISO/IEC 9075:1992, 7.8,
-- 7.9).
use Rattle.std.proofs.Common.{◌≡◌, ◌≤◌, ℕ, ◌+◌, ◌-◌, ◌*◌, ◌/◌, max, Bool, true, false, List, [], ◌∷◌, length, refl, sym, ap, subst, arith}
use Rattle.std.proofs.Math.Nat.{div-mul-le_self}
use Rattle.std.proofs.lemmas.Nat.{le-div, mul-le}
use Rattle.qw_types.specs.declared.code.Code.{Code}
use Rattle.qw_types.specs.declared.value.Val.{Val}
use Rattle.qw_linear.specs.Memory.{page}
use Rattle.qw_module.specs.declared.module.Module.{Module}
use Rattle.qw_map.specs.Layout.{Layout, row_size}
use Rattle.qw_meaning.specs.Flow.{Flow}
use Rattle.qw_meaning.specs.Outcome.{ended, flow}
use Rattle.qw_grouped.specs.Grouped.{Grouped, IsGrouped, front}
use Rattle.qw_grouped.specs.Groups.{behind_front, once}
use Rattle.qw_grouped.specs.Whole.{Whole, grouped}
use Rattle.qw_promise.specs.Compiled.{IsCompiled}
use Rattle.qw_pipe.specs.General.{general_hashing}
use Rattle.qw_pipe.specs.Octets.{greatest_entry}
use Rattle.qw_compile.specs.PlannedQueries.{kept_by, placed}
use Rattle.qw_compile.proofs.Greatest.{greatest_small}
use Rattle.qw_whole.specs.GroupTables.{distinct_octets, distinct_size, distinct_units, group_size}
use Rattle.qw_whole.specs.WholePromises.{body_rows, body_units, pages_for, planned_rows, promise_of_whole, taken, taken_by_body, whole_pages, whole_units}
use Rattle.qw_whole.proofs.EntrySizes.{group_small}
use Rattle.qw_compile_whole.proofs.CompiledMore.{compiled_more}
use Rattle.qw_compile_whole.proofs.OneDistinct.{one_distinct}

-- ---- the outcome
-- of what came to the query, whether an exception was raised or not
same_ended : (query : Grouped) (before : Flow (List Val)) (codes : List Code) → before.codes ≡ codes → length query.columns ≡ 0 → ended (behind_front query before).rows (behind_front query before).codes ≡ ended (once (behind_front query before).rows) (behind_front query before).codes
same_ended query before [] none alone =
    let unraised : record { rows = before.rows; codes = [] } ≡ before = ap (λ (cs : List Code). let f : Flow (List Val) = record { rows = before.rows; codes = cs } in f) (sym none) in
    let rows_same : once (behind_front query before).rows ≡ (behind_front query before).rows = subst (λ (f : Flow (List Val)). once (behind_front query f).rows ≡ (behind_front query f).rows) unraised (one_distinct query before.rows alone) in
    ap (λ (rs : List (List Val)). ended rs (behind_front query before).codes) (sym rows_same)
same_ended query before (c ∷ cs) raised alone =
    subst (λ (f : Flow (List Val)). ended (behind_front query f).rows (behind_front query f).codes ≡ ended (once (behind_front query f).rows) (behind_front query f).codes)
    (ap (λ (ds : List Code). let f : Flow (List Val) = record { rows = before.rows; codes = ds } in f) (sym raised)) refl

-- ---- the pages
quotient_more : (a b d e : ℕ) → a ≤ b → 1 ≤ e → e ≤ d → a / d ≤ b / e
quotient_more a b d e less some low = le-div (a / d) b e (omega (arith, some)) (omega (arith, mul-le (a / d) e (a / d) d (omega arith) low, div-mul-le_self a d, less))

module _ (query : Grouped) (whole : IsGrouped query) (alone : length query.columns ≡ 0) where
  abbrev once_asked : Whole
  once_asked = record { body = grouped query; distinct = true }

  abbrev plainly : Whole
  plainly = record { body = grouped query; distinct = false }

  few_stored : (tables : List (List (List Val))) → max (row_size (length query.items)) (taken (record { body = grouped query; distinct = true }) tables).greatest ≤ 24216
  few_stored tables = low (row_size (length (front query).items)) (greatest_entry (kept_by (front query)) (placed (front query))) (group_size query) (length query.items) (greatest_small (front query) whole.front) (group_small query whole) whole.few_items
    where
      low : (r e g q : ℕ) → max r e ≤ 24216 → g ≤ 16408 → q ≤ 512 → max (8 + 16 * q) (max (24 + 16 * (q + 0) + 32 * 0) (max g e)) ≤ 24216
      low r e g q a b d = omega (arith, a, b, d)

  pages_more : (tables : List (List (List Val))) → whole_pages (record { body = grouped query; distinct = false }) tables ≤ whole_pages (record { body = grouped query; distinct = true }) tables
  pages_more tables =
      subst (λ (rs : List (List Val)). whole_pages plainly tables ≤ pages_for (taken once_asked tables) (length rs) (length query.items)) (sym (one_distinct query (planned_rows (front query) tables) alone))
      (let t = taken_by_body (grouped query) tables in
      let more = distinct_octets (length query.items) (body_rows (grouped query) tables) in
      let r = length (body_rows (grouped query) tables) * row_size (length query.items) in
      let w = max (row_size (length query.items)) t.greatest in
      let v = max (row_size (length query.items)) (taken once_asked tables).greatest in
      let fits = few_stored tables in
      let quotients = quotient_more (t.octets + r) ((t.octets + more) + r) (page - w) (page - v) (omega arith) (omega (arith, fits)) (lower (row_size (length query.items)) t.greatest (distinct_size (length query.items))) in
      omega (arith, quotients))
    where
      lower : (s g d : ℕ) → page - max s (max d g) ≤ page - max s g
      lower s g d = omega arith

  -- ---- the instructions
  units_more : (tables : List (List (List Val))) → whole_units (record { body = grouped query; distinct = false }) tables ≤ whole_units (record { body = grouped query; distinct = true }) tables
  units_more tables =
      more (body_units (grouped query) tables) (distinct_units general_hashing (body_rows (grouped query) tables)) (length (body_rows (grouped query) tables)) (length (once (body_rows (grouped query) tables)))
      (ap (λ (rs : List (List Val)). length rs) (one_distinct query (planned_rows (front query) tables) alone))
    where
      more : (b d r s : ℕ) → s ≡ r → b + r ≤ (b + d) + s
      more b d r s same = omega (arith, same)

  pub single_distinct : (layout : Layout) (m : Module) → IsCompiled (promise_of_whole (record { body = grouped query; distinct = false })) layout m → IsCompiled (promise_of_whole (record { body = grouped query; distinct = true })) layout m
  single_distinct layout m h =
      compiled_more (promise_of_whole plainly) (promise_of_whole once_asked) layout m refl refl
      (λ tables of. same_ended query (flow (front query) tables) (flow (front query) tables).codes refl alone)
      (λ tables of. units_more tables)
      (λ tables of. pages_more tables) h

  -- with DISTINCT or without
  pub single_asked : (distinct : Bool) (layout : Layout) (m : Module) → IsCompiled (promise_of_whole (record { body = grouped query; distinct = false })) layout m → IsCompiled (promise_of_whole (record { body = grouped query; distinct = distinct })) layout m
  single_asked false layout m h = h
  single_asked true layout m h = single_distinct layout m h
