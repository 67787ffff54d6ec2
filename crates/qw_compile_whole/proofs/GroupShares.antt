-- What rows take that go into groups, and the walk over the groups at the end, is within the units that a grouped query promises of them.
use Rattle.std.proofs.Common.{◌≡◌, ◌∙◌, ◌≤◌, ℕ, zero, suc, ◌+◌, ◌*◌, nat_eq, Bool, true, false, if◌then◌else◌, take, List, [], ◌∷◌, ◌++◌, map, length, length-append, sum_by, Result, Ok, Err, refl, sym, ap, subst, arith}
use Rattle.std.specs.List.{flat_map}
use Rattle.std.proofs.lemmas.List.Sums.{sum_by-cons}
use Rattle.qw_types.specs.Arithmetic.{◌>>=◌}
use Rattle.qw_types.specs.Value as value
use Rattle.qw_types.specs.declared.code.Code.{Code}
use Rattle.qw_types.specs.declared.value.Val.{Val}
use Rattle.qw_types.specs.declared.value.Val.TheVariants.{Null, Num, Date, Text}
use Rattle.qw_layout.specs.Hash.{slot, value_octets}
use Rattle.qw_scalar.specs.Conjuncts.{passes}
use Rattle.qw_scalar.specs.Evaluation.{at_row}
use Rattle.qw_scalar.specs.Units.{units_of_all, units_of_items}
use Rattle.qw_meaning.specs.Flow.{each, kept, rows_given, values_of}
use Rattle.qw_grouped.specs.Grouped.{Grouped, kinds_of}
use Rattle.qw_grouped.specs.Groups.{Group, function_values, group_row, groups, key_of, keys, members}
use Rattle.qw_grouped.specs.declared.set_function.SetFunctionKind.{SetFunctionKind}
use Rattle.qw_feed.specs.Feeds.{spend}
use Rattle.qw_table.specs.Keys.{text_octets}
use Rattle.qw_table.specs.Tables.{in_slot}
use Rattle.qw_pipe.specs.General.{general_hashing}
use Rattle.qw_pipe.specs.Units.{made_units, tested_units}
use Rattle.qw_physical.specs.Courses.{by_values, cost, sink_key, where_passed}
use Rattle.qw_physical.specs.Physical.{filter, select}
use Rattle.qw_group_pipeline.proofs.RowFeeds.{by_result}
use Rattle.qw_whole.specs.GroupTables.{chosen_units, group_keys, group_units, read_units, unraised}
use Rattle.qw_whole.specs.Shares.{behind_units, group_share, key_share, row_share}
use Rattle.qw_whole.proofs.GrowingTables.{met_many}
use Rattle.qw_whole.proofs.ShareLemmas.{units_told}
use Rattle.qw_compile_whole.proofs.GroupTotals.{spend_total, total, total_less, total_map, total_sum}

-- ---- keys

texts_same : (vs : List Val) → value.text_octets vs ≡ text_octets vs
texts_same [] = refl
texts_same (Null ∷ vs) = let rest = texts_same vs in omega (arith, rest)
texts_same (Num v ∷ vs) = let rest = texts_same vs in omega (arith, rest)
texts_same (Date d ∷ vs) = let rest = texts_same vs in omega (arith, rest)
texts_same (Text t ∷ vs) = ap (λ n. length t + n) (texts_same vs)

-- a hash folds all octets of texts
folded_texts : (vs : List Val) → text_octets vs ≤ length (flat_map value_octets vs)
folded_texts [] = omega arith
folded_texts (Null ∷ vs) = let rest = folded_texts vs in let all = length-append (value_octets Null) (flat_map value_octets vs) in omega (arith, rest, all)
folded_texts (Num v ∷ vs) = let rest = folded_texts vs in let all = length-append (value_octets (Num v)) (flat_map value_octets vs) in omega (arith, rest, all)
folded_texts (Date d ∷ vs) = let rest = folded_texts vs in let all = length-append (value_octets (Date d)) (flat_map value_octets vs) in omega (arith, rest, all)
folded_texts (Text t ∷ vs) = let rest = folded_texts vs in let all = length-append (value_octets (Text t)) (flat_map value_octets vs) in omega (arith, rest, all)

-- what a key takes of a table with these entries
share_of : (entries : List (List Val)) (key : List Val) → text_octets key + length (in_slot slot (slot key) entries) * (1 + text_octets key) ≤ key_share general_hashing entries key
share_of entries key =
    shared (text_octets key) (length (in_slot slot (slot key) entries) * (1 + text_octets key)) (length (flat_map value_octets key)) (length (in_slot slot (slot key) entries) * (1 + value.text_octets key))
    (sum_by (λ (other : List Val). if nat_eq (slot other) (slot key) then 1 + value.text_octets key else 0) entries)
    (folded_texts key) (ap (λ (n : ℕ). length (in_slot slot (slot key) entries) * (1 + n)) (texts_same key)) (met_many (λ (other : List Val). nat_eq (slot other) (slot key)) (1 + value.text_octets key) entries)
  where
    shared : (t p f q m : ℕ) → t ≤ f → q ≡ p → m ≡ q → t + p ≤ f + m
    shared t p f q m h e g = omega (arith, h, e, g)

-- ---- groups of a query with a grouped column

groups_are : (n : ℕ) (rows : List (List Val)) → 1 ≤ n → groups n rows ≡ map (λ (key : List Val). record { key = key; rows = members n key rows }) (keys n rows)
groups_are zero rows some = absurd (omega (arith, some))
groups_are (suc n) rows some = refl

back : (n : ℕ) (rows ks : List (List Val)) → map (λ (g : Group). g.key) (map (λ (key : List Val). record { key = key; rows = members n key rows }) ks) ≡ ks
back n rows [] = refl
back n rows (k ∷ ks) = ap (λ (l : List (List Val)). k ∷ l) (back n rows ks)

pub keys_are : (n : ℕ) (rows : List (List Val)) → 1 ≤ n → group_keys n rows ≡ keys n rows
keys_are n rows some = ap (λ (gs : List Group). map (λ (g : Group). g.key) gs) (groups_are n rows some) ∙ back n rows (keys n rows)

pub groups_many : (n : ℕ) (rows : List (List Val)) → 1 ≤ n → length (groups n rows) ≡ length (keys n rows)
groups_many n rows some = ap (λ (gs : List Group). length gs) (groups_are n rows some) ∙ long (keys n rows)
  where
    long : (ks : List (List Val)) → length (map (λ (key : List Val). let g : Group = record { key = key; rows = members n key rows } in g) ks) ≡ length ks
    long [] = refl
    long (k ∷ ks) = ap suc (long ks)

module _ (query : Grouped) (rows : List (List Val)) where
  abbrev n : ℕ
  n = length query.columns

  abbrev functions : List SetFunctionKind
  functions = kinds_of query.functions

  -- what MIN and MAX compare at a row, and what it takes in all
  abbrev pub chosen_at : List Val → ℕ
  chosen_at row = chosen_units (length query.columns) (kinds_of query.functions) row

  abbrev pub turn_at : List Val → ℕ
  turn_at row = text_octets (take (length query.columns) row)
      + length (in_slot slot (slot (key_of (length query.columns) row)) (keys (length query.columns) rows)) * (1 + text_octets (take (length query.columns) row))
      + chosen_units (length query.columns) (kinds_of query.functions) row

  -- ---- the row of a group
  values_none : (q : Result (List Val) Code) → by_values q (λ (vs : List Val). text_octets (sink_key (select query.items) vs)) ≡ 0
  values_none (Ok vs) = refl
  values_none (Err code) = refl

  made_one : (row : List Val) (r : Result Bool Code) → where_passed r (cost [] [] (select query.items) row)
      ≤ sum_by (λ (x : List Val). units_of_items query.items (at_row x)) (rows_given (r >>= (λ (passed : Bool). let q : Result (List (List Val)) Code = Ok (if passed then row ∷ [] else []) in q)) ++ [])
  made_one row (Ok true) =
      one (units_of_items query.items (at_row row)) (by_values (values_of query.items (at_row row)) (λ (vs : List Val). text_octets (sink_key (select query.items) vs))) (sum_by (λ (x : List Val). units_of_items query.items (at_row x)) (row ∷ []))
      (values_none (values_of query.items (at_row row))) (sum_by-cons (λ (x : List Val). units_of_items query.items (at_row x)) row [])
    where
      one : (u b t : ℕ) → b ≡ 0 → t ≡ u + 0 → u + b ≤ t
      one u b t e f = omega (arith, e, f)
  made_one row (Ok false) = omega arith
  made_one row (Err code) = omega arith

  behind_cost : (row : List Val) → cost [] (filter query.having ∷ []) (select query.items) row ≤ behind_units query (row ∷ [])
  behind_cost row =
      summed (tested_units query.having (row ∷ [])) (units_of_all query.having (at_row row)) (made_units query.items (each (kept query.having) (unraised (row ∷ []))).rows) (where_passed (passes query.having (at_row row)) (cost [] [] (select query.items) row))
      (sum_by-cons (λ (x : List Val). units_of_all query.having (at_row x)) row []) (made_one row (passes query.having (at_row row)))
    where
      summed : (t u m w : ℕ) → t ≡ u + 0 → w ≤ m → u + w ≤ t + m
      summed t u m w e h = omega (arith, e, h)

  pub one_less : (read : ℕ) → read ≤ read_units (kinds_of query.functions) → (key : List Val) (mine : List (List Val)) →
      read + by_result (function_values (length query.columns) (kinds_of query.functions) mine) (λ vs. cost [] (filter query.having ∷ []) (select query.items) (key ++ vs)) ≤ group_share query (record { key = key; rows = mine })
  one_less read few key mine =
      added read (read_units (kinds_of query.functions)) (by_result (function_values (length query.columns) (kinds_of query.functions) mine) (λ vs. cost [] (filter query.having ∷ []) (select query.items) (key ++ vs)))
      (behind_units query (rows_given (group_row (length query.columns) (kinds_of query.functions) (record { key = key; rows = mine })))) few (by (function_values (length query.columns) (kinds_of query.functions) mine))
    where
      added : (a b c d : ℕ) → a ≤ b → c ≤ d → a + c ≤ b + d
      added a b c d h g = omega (arith, h, g)

      by : (q : Result (List Val) Code) → by_result q (λ vs. cost [] (filter query.having ∷ []) (select query.items) (key ++ vs))
          ≤ behind_units query (rows_given (q >>= (λ (vs : List Val). let r : Result (List (List Val)) Code = Ok ((key ++ vs) ∷ []) in r)))
      by (Ok vs) = behind_cost (key ++ vs)
      by (Err code) = omega arith

  group_less : (read : ℕ) → read ≤ read_units (kinds_of query.functions) → (key : List Val) →
      read + by_result (function_values (length query.columns) (kinds_of query.functions) (members (length query.columns) key rows)) (λ vs. cost [] (filter query.having ∷ []) (select query.items) (key ++ vs))
      ≤ group_share query (record { key = key; rows = members (length query.columns) key rows })
  group_less read few key = one_less read few key (members (length query.columns) key rows)

  -- all rows are one group where there is no grouped column
  pub alone_within : length query.columns ≡ 0 → (read : ℕ) → read ≤ read_units (kinds_of query.functions) →
      read + by_result (function_values 0 (kinds_of query.functions) rows) (cost [] (filter query.having ∷ []) (select query.items)) ≤ group_units general_hashing query rows
  alone_within none read few =
      let own = one_less read few [] rows in
      let mine = subst (λ (m : ℕ). read + by_result (function_values m (kinds_of query.functions) rows) (λ vs. cost [] (filter query.having ∷ []) (select query.items) ([] ++ vs)) ≤ group_share query (record { key = []; rows = rows })) none own in
      among (read + by_result (function_values 0 (kinds_of query.functions) rows) (cost [] (filter query.having ∷ []) (select query.items))) (group_units general_hashing query rows) (length (group_keys n rows)) (sum_by (row_share general_hashing query rows) rows)
      (sum_by (group_share query) (groups n rows)) (group_share query (record { key = []; rows = rows })) mine (ap (λ (m : ℕ). sum_by (group_share query) (groups m rows)) none ∙ sum_by-cons (group_share query) (record { key = []; rows = rows }) []) (units_told general_hashing query rows)
    where
      among : (c w e r g s : ℕ) → c ≤ s → g ≡ s + 0 → w ≡ e + 1024 + r + g → c ≤ w
      among c w e r g s h f t = omega (arith, h, f, t)

  pub chosen_within : total (λ (row : List Val). chosen_units (length query.columns) (kinds_of query.functions) row) rows ≤ group_units general_hashing query rows
  chosen_within =
      let less = total_less (λ (row : List Val). chosen_units (length query.columns) (kinds_of query.functions) row) (row_share general_hashing query rows) rows (λ row. omega arith) in
      let same = total_sum (row_share general_hashing query rows) rows in
      among (total (λ (row : List Val). chosen_units (length query.columns) (kinds_of query.functions) row) rows) (group_units general_hashing query rows) (length (group_keys n rows)) (sum_by (row_share general_hashing query rows) rows)
      (sum_by (group_share query) (groups n rows)) (total (row_share general_hashing query rows) rows) less same (units_told general_hashing query rows)
    where
      among : (c w e r g t : ℕ) → c ≤ t → t ≡ r → w ≡ e + 1024 + r + g → c ≤ w
      among c w e r g t h f u = omega (arith, h, f, u)

  module _ (some : 1 ≤ length query.columns) where
    turn_share : (row : List Val) → turn_at row ≤ row_share general_hashing query rows row
    turn_share row =
        let share : text_octets (take n row) + length (in_slot slot (slot (take n row)) (keys n rows)) * (1 + text_octets (take n row)) ≤ key_share general_hashing (group_keys n rows) (take n row) =
        subst (λ (entries : List (List Val)). text_octets (take n row) + length (in_slot slot (slot (take n row)) (keys n rows)) * (1 + text_octets (take n row)) ≤ key_share general_hashing entries (take n row)) (sym (keys_are n rows some))
        (share_of (keys n rows) (take n row)) in
        added (text_octets (take n row)) (length (in_slot slot (slot (take n row)) (keys n rows)) * (1 + text_octets (take n row))) (key_share general_hashing (group_keys n rows) (take n row)) (chosen_at row) share
      where
        added : (a b s c : ℕ) → a + b ≤ s → a + b + c ≤ s + c
        added a b s c h = omega (arith, h)

    turns_share : total turn_at rows ≤ sum_by (row_share general_hashing query rows) rows
    turns_share =
        let less = total_less turn_at (row_share general_hashing query rows) rows turn_share in
        let same = total_sum (row_share general_hashing query rows) rows in
        omega (arith, less, same)

    -- ---- all
    groups_less : (read : ℕ) → read ≤ read_units (kinds_of query.functions) →
        total (λ (key : List Val). read + by_result (function_values (length query.columns) (kinds_of query.functions) (members (length query.columns) key rows)) (λ vs. cost [] (filter query.having ∷ []) (select query.items) (key ++ vs))) (keys (length query.columns) rows)
        ≤ sum_by (group_share query) (groups (length query.columns) rows)
    groups_less read few =
        let made_of : List Val → Group = λ key. record { key = key; rows = members n key rows } in
        let less = total_less (λ (key : List Val). read + by_result (function_values n functions (members n key rows)) (λ vs. cost [] (filter query.having ∷ []) (select query.items) (key ++ vs))) (λ key. group_share query (made_of key)) (keys n rows) (group_less read few) in
        let same : total (λ key. group_share query (made_of key)) (keys n rows) ≡ sum_by (group_share query) (groups n rows) =
        sym (total_map (group_share query) made_of (keys n rows)) ∙ (total_sum (group_share query) (map made_of (keys n rows)) ∙ ap (λ (gs : List Group). sum_by (group_share query) gs) (sym (groups_are n rows some))) in
        omega (arith, less, same)

    pub rows_within : total turn_at rows ≤ group_units general_hashing query rows
    rows_within =
        among (total turn_at rows) (group_units general_hashing query rows) (length (group_keys n rows)) 1024 (sum_by (row_share general_hashing query rows) rows) (sum_by (group_share query) (groups n rows)) (units_told general_hashing query rows) turns_share
      where
        among : (t w e s r g : ℕ) → w ≡ e + s + r + g → t ≤ r → t ≤ w
        among t w e s r g h k = omega (arith, h, k)

    pub groups_within : (read : ℕ) → read ≤ read_units (kinds_of query.functions) →
        1025 + spend (λ (key : List Val). read + by_result (function_values (length query.columns) (kinds_of query.functions) (members (length query.columns) key rows)) (λ vs. cost [] (filter query.having ∷ []) (select query.items) (key ++ vs))) (keys (length query.columns) rows)
        ≤ 1 + group_units general_hashing query rows
    groups_within read few =
        let works : List Val → ℕ = λ key. read + by_result (function_values (length query.columns) (kinds_of query.functions) (members (length query.columns) key rows)) (λ vs. cost [] (filter query.having ∷ []) (select query.items) (key ++ vs)) in
        among (spend works (keys n rows)) (group_units general_hashing query rows) (length (group_keys n rows)) (sum_by (row_share general_hashing query rows) rows) (sum_by (group_share query) (groups n rows)) (length (keys n rows)) (total works (keys n rows))
        (units_told general_hashing query rows) (groups_less read few) (ap (λ (l : List (List Val)). length l) (keys_are n rows some)) (spend_total works (keys n rows))
      where
        among : (c w e r g k t : ℕ) → w ≡ e + 1024 + r + g → t ≤ g → e ≡ k → c ≡ k + t → 1025 + c ≤ 1 + w
        among c w e r g k t h less many count = omega (arith, h, less, many, count)
