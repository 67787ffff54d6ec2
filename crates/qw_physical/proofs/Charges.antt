-- What a row costs at the operators of a pipeline, when it is known what each row that comes out of them costs: bounds of what is fed and of its cost.
-- Where costs are left out (`counted` is false) it is the sum over the rows that come out. A row that an outer probe has go on by itself is one of them.
use Rattle.std.proofs.Common.{◌≡◌, ◌∙◌, ℕ, ◌+◌, ◌≤◌, Bool, true, false, not, ◌&&◌, if◌then◌else◌, List, [], ◌∷◌, ◌++◌, ◌==◌, drop, get_or, length, take, Result, Ok, Err, refl, sym, ap, ap₂, subst, arith}
use Rattle.std.specs.List.{filter as filter_list, list_any}
use Rattle.qw_types.specs.ValueOrder.{is_same_row}
use Rattle.qw_types.specs.declared.code.Code.{Code}
use Rattle.qw_types.specs.declared.value.Val.{Val}
use Rattle.qw_layout.specs.Hash.{slot}
use Rattle.qw_scalar.specs.Conjuncts.{passes}
use Rattle.qw_scalar.specs.Evaluation.{at_row}
use Rattle.qw_scalar.specs.Expression.{Condition}
use Rattle.qw_scalar.specs.Units.{units_of_all, units_of_items}
use Rattle.qw_meaning.specs.Flow.{Flow, values_of}
use Rattle.qw_rewrite.proofs.Rows.{NamesOnly, passes_agrees}
use Rattle.qw_feed.specs.Feeds.{flow_by, flow_over, nothing, spend, where_true}
use Rattle.qw_table.specs.Joins.{have_values, keyed, where_values}
use Rattle.qw_table.specs.Keys.{text_octets}
use Rattle.qw_table.specs.Tables.{in_slot}
use Rattle.qw_physical.specs.Courses.{alone_cost, by_values, cost, fed, is_alone, meets, met, met_cost, pair_of, placed, row_of, sink_key, sink_values, where_passed}
use Rattle.qw_physical.specs.Physical.{Operator, Probe, Sink, filter, probe}
use Rattle.qw_physical.proofs.Alone.{alone_is, any_same}
use Rattle.qw_physical.proofs.Sight.{Agree, AllName, meets_sees, merged_agree, values_agree}
use Rattle.qw_physical.proofs.SeenUnits.{conjuncts_agree, items_agree}
use Rattle.qw_physical.proofs.Totals.{spend_is, total, total_filter, total_flat, total_less, total_plus, total_same, both_less}
use Rattle.qw_physical.proofs.Alikeness.{by_values_same}

abbrev pub count : (counted : Bool) → ℕ → ℕ
count true n = n
count false n = 0

-- of an entry, where its key is equal to the row's
abbrev pub matched : (counted : Bool) → (List Val → ℕ) → Probe → (row key entry : List Val) → ℕ
matched counted after p row key entry =
    if is_same_row key (take (length p.key) entry)
    then count counted (units_of_all p.on (at_row (pair_of p row entry))) + where_passed (passes p.on (at_row (pair_of p row entry))) (after (pair_of p row entry))
    else 0

-- of the row itself, where a probe is outer
abbrev pub alone_charge : (counted : Bool) → (List Val → ℕ) → Probe → (entries : List (List Val)) → (row key : List Val) → ℕ
alone_charge counted after p entries row key = if p.outer then count counted 1 + (if is_alone p row key entries then after row else 0) else 0

abbrev pub keyed_charge : (counted : Bool) → (List Val → ℕ) → Probe → (entries : List (List Val)) → (row key : List Val) → ℕ
keyed_charge counted after p entries row key =
    (count counted (text_octets key + total (λ (e : List Val). 1 + text_octets key) (in_slot (keyed (length p.key)) (slot key) entries)) + total (matched counted after p row key) entries)
    + alone_charge counted after p entries row key

abbrev pub probe_charge : (counted : Bool) → (List Val → ℕ) → Probe → (entries : List (List Val)) → (row : List Val) → ℕ
probe_charge counted after p entries row =
    count counted (units_of_items p.key (at_row row)) + by_values (values_of p.key (at_row row)) (keyed_charge counted after p entries row)

abbrev pub filter_charge : (counted : Bool) → (List Val → ℕ) → List Condition → (row : List Val) → ℕ
filter_charge counted after conjuncts row = count counted (units_of_all conjuncts (at_row row)) + where_passed (passes conjuncts (at_row row)) (after row)

abbrev pub charge : (counted : Bool) → (built : List (List (List Val))) → Operator → (after : List Val → ℕ) → List Val → ℕ
charge counted built (filter conjuncts) after = filter_charge counted after conjuncts
charge counted built (probe p) after = probe_charge counted after p (get_or built p.table [])

abbrev pub charges : (counted : Bool) → (built : List (List (List Val))) → List Operator → (after : List Val → ℕ) → List Val → ℕ
charges counted built [] after = after
charges counted built (o ∷ operators) after = charge counted built o (charges counted built operators after)

pub charges_more : (counted : Bool) (built : List (List (List Val))) (operators : List Operator) (o : Operator) (after : List Val → ℕ)
    → charges counted built (operators ++ o ∷ []) after ≡ charges counted built operators (charge counted built o after)
charges_more counted built [] o after = refl
charges_more counted built (x ∷ operators) o after = ap (charge counted built x) (charges_more counted built operators o after)

-- ---- at the sink

abbrev pub sink_cost : Sink → List Val → ℕ
sink_cost sink row =
    units_of_items (sink_values sink) (at_row row) + by_values (values_of (sink_values sink) (at_row row)) (λ values. text_octets (sink_key sink values))

abbrev pub sink_fed : Sink → List Val → Flow (List Val)
sink_fed sink row = flow_by (values_of (sink_values sink) (at_row row)) (placed sink)

-- ---- small laws

pub where_passed_less : (r : Result Bool Code) (a b : ℕ) → a ≤ b → where_passed r a ≤ where_passed r b
where_passed_less (Ok true) a b h = h
where_passed_less (Ok false) a b h = omega arith
where_passed_less (Err code) a b h = omega arith

pub by_values_less : (r : Result (List Val) Code) (f g : List Val → ℕ) → ((values : List Val) → f values ≤ g values) → by_values r f ≤ by_values r g
by_values_less (Ok values) f g h = h values
by_values_less (Err code) f g h = omega arith

plus_less : (a b c : ℕ) → b ≤ c → a + b ≤ a + c
plus_less a b c h = omega (arith, h)

if_less : (b : Bool) (x y : ℕ) → x ≤ y → (if b then x else 0) ≤ (if b then y else 0)
if_less true x y h = h
if_less false x y h = omega arith

-- ---- the cost of a row

module _ (built : List (List (List Val))) where
  one_more : (t f m : ℕ) → f ≤ t + m → 1 + f ≤ (1 + t) + m
  one_more t f m h = omega (arith, h)

  slot_bound : (t s m n a : ℕ) → a ≤ s + m → m ≤ n → t + a ≤ (t + s) + n
  slot_bound t s m n a h g = omega (arith, h, g)

  filtered_less : (f : List Val → ℕ) (test : List Val → Bool) (xs : List (List Val)) → total f (filter_list test xs) ≤ total f xs
  filtered_less f test xs =
      subst (λ (n : ℕ). n ≤ total f xs) (sym (total_filter f test xs)) (total_less (λ x. if test x then f x else 0) f xs (λ x. one (test x) (f x)))
    where
      one : (b : Bool) (n : ℕ) → (if b then n else 0) ≤ n
      one true n = omega arith
      one false n = omega arith

  -- what is met in a slot costs no more than its entries one by one and those that are equal among all
  in_slot_less : (f m : List Val → ℕ) (t : ℕ) (test : List Val → Bool) (entries : List (List Val)) → ((e : List Val) → f e ≤ t + m e)
      → t + spend f (filter_list test entries) ≤ (t + total (λ (e : List Val). 1 + t) (filter_list test entries)) + total m entries
  in_slot_less f m t test entries h =
      let here : List (List Val) = filter_list test entries in
      let each : total (λ (e : List Val). 1 + f e) here ≤ total (λ (e : List Val). (1 + t) + m e) here = total_less (λ e. 1 + f e) (λ e. (1 + t) + m e) here (λ e. one_more t (f e) (m e) (h e)) in
      let parts : total (λ (e : List Val). (1 + t) + m e) here ≡ total (λ (e : List Val). 1 + t) here + total m here = total_plus (λ (e : List Val). 1 + t) m here in
      let spent : spend f here ≡ total (λ (e : List Val). 1 + f e) here = spend_is f here in
      slot_bound t (total (λ (e : List Val). 1 + t) here) (total m here) (total m entries) (spend f here)
      (subst (λ (n : ℕ). n ≤ total (λ (e : List Val). 1 + t) here + total m here) (sym spent) (subst (λ (n : ℕ). total (λ (e : List Val). 1 + f e) here ≤ n) parts each)) (filtered_less m test entries)

  alone_less : (o a : Bool) (x y : ℕ) → x ≤ y → (if o then 1 + (if a then x else 0) else 0) ≤ (if o then 1 + (if a then y else 0) else 0)
  alone_less true true x y h = omega (arith, h)
  alone_less true false x y h = omega arith
  alone_less false a x y h = omega arith

  pub cost_less : (operators : List Operator) (sink : Sink) (row : List Val) → cost built operators sink row ≤ charges true built operators (sink_cost sink) row
  cost_less [] sink row = omega arith
  cost_less (filter conjuncts ∷ operators) sink row =
      plus_less (units_of_all conjuncts (at_row row)) (where_passed (passes conjuncts (at_row row)) (cost built operators sink row))
      (where_passed (passes conjuncts (at_row row)) (charges true built operators (sink_cost sink) row))
      (where_passed_less (passes conjuncts (at_row row)) (cost built operators sink row) (charges true built operators (sink_cost sink) row) (cost_less operators sink row))
  cost_less (probe p ∷ operators) sink row =
      let entries : List (List Val) = get_or built p.table [] in
      let before : List Val → ℕ = cost built operators sink in
      let after : List Val → ℕ = charges true built operators (sink_cost sink) in
      plus_less (units_of_items p.key (at_row row))
      (by_values (values_of p.key (at_row row)) (λ key. text_octets key + spend (met_cost before p row key) (in_slot (keyed (length p.key)) (slot key) entries) + alone_cost before p row key entries))
      (by_values (values_of p.key (at_row row)) (keyed_charge true after p entries row))
      (by_values_less (values_of p.key (at_row row)) (λ key. text_octets key + spend (met_cost before p row key) (in_slot (keyed (length p.key)) (slot key) entries) + alone_cost before p row key entries)
      (keyed_charge true after p entries row)
      (λ key. both_less (text_octets key + spend (met_cost before p row key) (in_slot (keyed (length p.key)) (slot key) entries))
      (text_octets key + total (λ (e : List Val). 1 + text_octets key) (in_slot (keyed (length p.key)) (slot key) entries) + total (matched true after p row key) entries)
      (alone_cost before p row key entries) (alone_charge true after p entries row key)
      (in_slot_less (met_cost before p row key) (matched true after p row key) (text_octets key) (λ values. keyed (length p.key) values == slot key) entries
      (λ entry. plus_less (text_octets key)
      (if is_same_row key (take (length p.key) entry)
      then units_of_all p.on (at_row (pair_of p row entry)) + where_passed (passes p.on (at_row (pair_of p row entry))) (before (pair_of p row entry))
      else 0) (matched true after p row key entry)
      (if_less (is_same_row key (take (length p.key) entry))
      (units_of_all p.on (at_row (pair_of p row entry)) + where_passed (passes p.on (at_row (pair_of p row entry))) (before (pair_of p row entry)))
      (units_of_all p.on (at_row (pair_of p row entry)) + where_passed (passes p.on (at_row (pair_of p row entry))) (after (pair_of p row entry)))
      (plus_less (units_of_all p.on (at_row (pair_of p row entry))) (where_passed (passes p.on (at_row (pair_of p row entry))) (before (pair_of p row entry)))
      (where_passed (passes p.on (at_row (pair_of p row entry))) (after (pair_of p row entry)))
      (where_passed_less (passes p.on (at_row (pair_of p row entry))) (before (pair_of p row entry)) (after (pair_of p row entry)) (cost_less operators sink (pair_of p row entry)))))))
      (alone_less p.outer (is_alone p row key entries) (before row) (after row) (cost_less operators sink row))))

  -- ---- the rows that are fed

  module _ (g : List Val → ℕ) where
    pub passed_rows : (r : Result Bool Code) (f : Flow (List Val)) → total g (flow_by r (where_true f)).rows ≡ where_passed r (total g f.rows)
    passed_rows (Ok true) f = refl
    passed_rows (Ok false) f = refl
    passed_rows (Err code) f = refl

    kept_rows : (f : Flow (List Val)) (key : List Val) → total g (where_values f key).rows ≤ total g f.rows
    kept_rows f key = one (have_values key)
      where
        one : (b : Bool) → total g (if b then f else nothing).rows ≤ total g f.rows
        one true = omega arith
        one false = omega arith

    valued_rows : (r : Result (List Val) Code) (f : List Val → Flow (List Val)) (h : List Val → ℕ) → ((values : List Val) → total g (f values).rows ≤ h values) → total g (flow_by r f).rows ≤ by_values r h
    valued_rows (Ok values) f h less = less values
    valued_rows (Err code) f h less = omega arith

    met_rows : (b : Bool) (r : Result Bool Code) (f : Flow (List Val)) (n : ℕ) → total g f.rows ≤ n
        → total g (if b then flow_by r (where_true f) else nothing).rows ≤ (if b then 0 + where_passed r n else 0)
    met_rows true (Ok true) f n h = omega (arith, h)
    met_rows true (Ok false) f n h = omega arith
    met_rows true (Err code) f n h = omega arith
    met_rows false r f n h = omega arith

    -- the row itself, or what is met
    alone_rows : (o a : Bool) (f h : Flow (List Val)) (n m : ℕ) → total g f.rows ≤ n → total g h.rows ≤ m
        → total g (if o && a then f else h).rows ≤ m + (if o then 0 + (if o && a then n else 0) else 0)
    alone_rows true true f h n m less others = omega (arith, less)
    alone_rows true false f h n m less others = omega (arith, others)
    alone_rows false a f h n m less others = omega (arith, others)

    pub fed_less : (operators : List Operator) (sink : Sink) (row : List Val) → total g (fed built operators sink row).rows ≤ charges false built operators (λ r. total g (sink_fed sink r).rows) row
    fed_less [] sink row = omega arith
    fed_less (filter conjuncts ∷ operators) sink row =
        let r : Result Bool Code = passes conjuncts (at_row row) in
        let here : total g (flow_by r (where_true (fed built operators sink row))).rows ≡ where_passed r (total g (fed built operators sink row).rows) = passed_rows r (fed built operators sink row) in
        let less = where_passed_less r (total g (fed built operators sink row).rows) (charges false built operators (λ r. total g (sink_fed sink r).rows) row) (fed_less operators sink row) in
        omega (arith, here, less)
    fed_less (probe p ∷ operators) sink row =
        let entries : List (List Val) = get_or built p.table [] in
        let after : List Val → ℕ = charges false built operators (λ r. total g (sink_fed sink r).rows) in
        let work : List Val → List Val → Flow (List Val) = met (fed built operators sink) p row in
        let by_key : List Val → Flow (List Val) = λ key. if is_alone p row key entries then fed built operators sink row else where_values (flow_over (work key) entries) key in
        let less : total g (flow_by (values_of p.key (at_row row)) by_key).rows ≤ by_values (values_of p.key (at_row row)) (keyed_charge false after p entries row) =
        valued_rows (values_of p.key (at_row row)) by_key (keyed_charge false after p entries row)
        (λ key.
        let kept = kept_rows (flow_over (work key) entries) key in
        let flat : total g (flow_over (work key) entries).rows ≡ total (λ e. total g (work key e).rows) entries = total_flat g (λ e. (work key e).rows) entries in
        let each = total_less (λ e. total g (work key e).rows) (matched false after p row key) entries
        (λ e. met_rows (is_same_row key (take (length p.key) e)) (passes p.on (at_row (pair_of p row e))) (fed built operators sink (pair_of p row e)) (after (pair_of p row e)) (fed_less operators sink (pair_of p row e))) in
        alone_rows p.outer (not (have_values key && list_any (meets p row key) entries)) (fed built operators sink row) (where_values (flow_over (work key) entries) key) (after row)
        (0 + total (matched false after p row key) entries) (fed_less operators sink row) (omega (arith, kept, flat, each))) in
        omega (arith, less)

-- ---- what a charge sees of a row

module _ (test : ℕ → Bool) where
  abbrev pub Respects : (List Val → ℕ) → Type 0
  Respects f = (r s : List Val) → Agree test r s → f r ≡ f s

  pub filter_respects : (counted : Bool) (after : List Val → ℕ) (conjuncts : List Condition) → NamesOnly test conjuncts → Respects after → Respects (filter_charge counted after conjuncts)
  filter_respects counted after conjuncts names after_respects r s h =
      rw (conjuncts_agree test r s h conjuncts names, passes_agrees test r s h conjuncts names, after_respects r s h) refl

  same_rows_agree : (r : List Val) → Agree test r r
  same_rows_agree r i t = refl

  matched_respects : (counted : Bool) (after : List Val → ℕ) (p : Probe) → NamesOnly test p.on → Respects after → (r s : List Val) → Agree test r s → (key entry : List Val)
      → matched counted after p r key entry ≡ matched counted after p s key entry
  matched_respects counted after p names after_respects r s h key entry =
      let same : Agree test (pair_of p r entry) (pair_of p s entry) = merged_agree test r s (row_of p.kept (drop (length p.key) entry)) (row_of p.kept (drop (length p.key) entry)) h (same_rows_agree (row_of p.kept (drop (length p.key) entry))) in
      rw (conjuncts_agree test (pair_of p r entry) (pair_of p s entry) same p.on names, passes_agrees test (pair_of p r entry) (pair_of p s entry) same p.on names, after_respects (pair_of p r entry) (pair_of p s entry) same) refl

  alone_respects : (counted : Bool) (after : List Val → ℕ) (p : Probe) (entries : List (List Val)) → NamesOnly test p.on → Respects after → (r s : List Val) → Agree test r s → (key : List Val)
      → alone_charge counted after p entries r key ≡ alone_charge counted after p entries s key
  alone_respects counted after p entries names after_respects r s h key =
      ap₂ (λ (a : Bool) (n : ℕ). if p.outer then count counted 1 + (if a then n else 0) else 0)
      (alone_is p p r s key entries entries refl (any_same (meets p r key) (meets p s key) entries (meets_sees test [] p key names r s h))) (after_respects r s h)

  pub probe_respects : (counted : Bool) (after : List Val → ℕ) (p : Probe) (entries : List (List Val)) → AllName test p.key → NamesOnly test p.on → Respects after → Respects (probe_charge counted after p entries)
  probe_respects counted after p entries key_names on_names after_respects r s h =
      ap₂ (λ (a : ℕ) (q : Result (List Val) Code). count counted a + by_values q (keyed_charge counted after p entries r)) (items_agree test r s h p.key key_names) (values_agree test r s h p.key key_names)
      ∙ ap (λ (n : ℕ). count counted (units_of_items p.key (at_row s)) + n)
      (by_values_same (values_of p.key (at_row s)) (keyed_charge counted after p entries r) (keyed_charge counted after p entries s)
      (λ key. ap₂ (λ (n m : ℕ). (count counted (text_octets key + total (λ (e : List Val). 1 + text_octets key) (in_slot (keyed (length p.key)) (slot key) entries)) + n) + m)
      (total_same (matched counted after p r key) (matched counted after p s key) entries (λ entry. matched_respects counted after p on_names after_respects r s h key entry))
      (alone_respects counted after p entries on_names after_respects r s h key)))

  pub cost_respects : (sink : Sink) → AllName test (sink_values sink) → Respects (sink_cost sink)
  cost_respects sink names r s h = rw (items_agree test r s h (sink_values sink) names, values_agree test r s h (sink_values sink) names) refl

  pub fed_respects : (g : List Val → ℕ) (sink : Sink) → AllName test (sink_values sink) → Respects (λ row. total g (sink_fed sink row).rows)
  fed_respects g sink names r s h = ap (λ (q : Result (List Val) Code). total g (flow_by q (placed sink)).rows) (values_agree test r s h (sink_values sink) names)
