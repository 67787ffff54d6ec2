-- What the rows of a join's left side cost where they look up the entries that the rows of its right side left in a table, in whatever order; and that
-- this is within the units of the table. A row that an outer probe has go on by itself has no partner in the plan, where it is completed.
use Rattle.std.proofs.Common.{◌≡◌, ◌∙◌, ℕ, zero, suc, ◌+◌, ◌≤◌, ◌==◌, nat_eq, max, Bool, true, false, not, ◌&&◌, ◌||◌, if◌then◌else◌, List, [], ◌∷◌, ◌++◌, drop, length, map, sum_by, take, Result, Ok, Err, refl, sym, ap, ap₂, subst, arith, length-append}
use Rattle.std.specs.List.{AllByRecursion, filter as filter_list, flat_map, list_any}
use Rattle.std.specs.declared.cmp.Ordering.TheVariants as ordering
use Rattle.std.proofs.lemmas.List.{length-map}
use Rattle.qw_types.specs.Arithmetic.{◌>>=◌}
use Rattle.qw_types.specs.Value as value
use Rattle.qw_types.specs.ValueOrder.{is_same_row, value_order}
use Rattle.qw_types.specs.declared.code.Code.{Code}
use Rattle.qw_types.specs.declared.value.Val.{Val}
use Rattle.qw_types.specs.declared.value.Val.TheVariants.{Null, Num, Date, Text}
use Rattle.qw_layout.specs.Hash.{slot, value_octets}
use Rattle.qw_scalar.specs.Conjuncts.{passes}
use Rattle.qw_scalar.specs.Evaluation.{Environment, at_row, value_of}
use Rattle.qw_scalar.specs.Expression.{Condition, Expression}
use Rattle.qw_scalar.specs.Units.{units_of, units_of_all, units_of_items}
use Rattle.qw_leaves.proofs.ComparedLemmas.{by_compared}
use Rattle.qw_leaves.proofs.LeafLists.{all_pairs}
use Rattle.qw_meaning.specs.Flow.{Flow, codes_given, kept, rows_given, values_of}
use Rattle.qw_meaning.specs.From.{completed, merged}
use Rattle.qw_meaning.proofs.FromLemmas.{cell}
use Rattle.qw_algebra.specs.Columns.{condition_names_only, entries_below, is_of, names_only, owns}
use Rattle.qw_algebra.specs.Node.{Node, join, node_flow}
use Rattle.qw_algebra.proofs.Lists.{all_append, all_more, all_of_any}
use Rattle.qw_pipe.specs.General.{general_hashing}
use Rattle.qw_pipe.specs.Pipes.{Lookup}
use Rattle.qw_pipe.specs.Units.{entered_keys, equalities, is_entered, is_keyless, is_passed, key_kept, key_sought, meets, operand_among, operand_of, table_units, value_or_null}
use Rattle.qw_rewrite.specs.Probe.{is_eligible}
use Rattle.qw_rewrite.specs.Probed.{all_meet, at_keys, beside_keys, found, is_key, probed_by}
use Rattle.qw_rewrite.proofs.Names.{and_left, and_right}
use Rattle.qw_rewrite.proofs.Rows.{NamesOnly, passes_agrees}
use Rattle.qw_feed.specs.Feeds.{flow_by, nothing, one_row}
use Rattle.qw_table.specs.Joins.{have_values, keyed}
use Rattle.qw_table.specs.Keys.{text_octets}
use Rattle.qw_table.specs.Tables.{in_slot}
use Rattle.qw_physical.specs.Courses.{by_values, column_of, is_alone, isnt_failed, meets as meets_entry, pair_of, placed, row_of, sink_key, sink_values, where_passed}
use Rattle.qw_physical.specs.Physical.{Probe, Sink, build}
use Rattle.qw_physical.specs.Reads.{IsScaled, is_read}
use Rattle.qw_physical.specs.Spelled.{kept_columns, keys_kept, keys_sought}
use Rattle.qw_physical.specs.declared.pipeline.ReadColumn.{ReadColumn}
use Rattle.qw_physical.proofs.Alone.{any_none, none_found}
use Rattle.qw_physical.proofs.Charges.{Respects, alone_charge, count, keyed_charge, matched, probe_charge, sink_cost, sink_fed}
use Rattle.qw_physical.proofs.Sight.{Agree, AllName, merged_agree}
use Rattle.qw_physical.proofs.EntryRows.{Values, all_filter, all_read, columns_units, made_again, values_append, values_long}
use Rattle.qw_physical.proofs.Grounded.{IsKeyedJoin, IsNullBeside}
use Rattle.qw_physical.proofs.Meeting.{keys_pair, parted}
use Rattle.qw_physical.proofs.SeenUnits.{conjuncts_agree}
use Rattle.qw_physical.proofs.Partners.{met_keys, met_values}
use Rattle.qw_physical.proofs.Totals.{none_counted, sum_is, total, total_filter, total_flat, total_less, total_less_all, total_map, total_none, total_ones, total_plus, total_same, total_zero}
use Rattle.qw_physical.proofs.Entries.{columns_values, front_dropped, front_taken, kept_values, nat_is, values_append as values_joined}

-- what is known of each conjunct
abbrev pub IsKnown : List ReadColumn → Condition → Type 0
IsKnown columns c = (condition_names_only (is_read columns) c ≡ true) × IsScaled c

-- ---- conjuncts at the keys, and beside them

at_all : (Q : Condition → Type 0) (keys : List ℕ) (k : ℕ) (cs : List Condition) → AllByRecursion Q cs → AllByRecursion Q (at_keys keys k cs)
at_all Q keys k [] h = tt
at_all Q keys k (c ∷ cs) h = one (is_key keys k) (at_keys keys (k + 1) cs) (at_all Q keys (k + 1) cs h.1)
  where
    one : (b : Bool) (rest : List Condition) → AllByRecursion Q rest → AllByRecursion Q (if b then c ∷ rest else rest)
    one true rest g = (h.0, g)
    one false rest g = g

pub beside_all : (Q : Condition → Type 0) (keys : List ℕ) (k : ℕ) (cs : List Condition) → AllByRecursion Q cs → AllByRecursion Q (beside_keys keys k cs)
beside_all Q keys k [] h = tt
beside_all Q keys k (c ∷ cs) h = one (is_key keys k) (beside_keys keys (k + 1) cs) (beside_all Q keys (k + 1) cs h.1)
  where
    one : (b : Bool) (rest : List Condition) → AllByRecursion Q rest → AllByRecursion Q (if b then rest else c ∷ rest)
    one true rest g = g
    one false rest g = (h.0, g)

beside_less : (keys : List ℕ) (k : ℕ) (cs : List Condition) (env : Environment) → units_of_all (beside_keys keys k cs) env ≤ units_of_all cs env
beside_less keys k [] env = omega arith
beside_less keys k (c ∷ cs) env = one (is_key keys k) (beside_less keys (k + 1) cs env)
  where
    one : (b : Bool) → units_of_all (beside_keys keys (k + 1) cs) env ≤ units_of_all cs env
        → units_of_all (if b then beside_keys keys (k + 1) cs else c ∷ beside_keys keys (k + 1) cs) env ≤ max (units_of c env) (units_of_all cs env)
    one true h = omega (arith, h)
    one false h = omega (arith, h)

-- ---- keys

operand_names : (test side : ℕ → Bool) (c : Condition) → condition_names_only test c ≡ true → names_only test (operand_of side c) ≡ true
operand_names test side = by_compared (λ c o. condition_names_only test c ≡ true → names_only test (operand_among side o) ≡ true) (λ op x y h. one x y h (names_only side x)) (λ c h. refl)
  where
    one : (x y : Expression) → (names_only test x && names_only test y) ≡ true → (b : Bool) → names_only test (if b then x else y) ≡ true
    one x y h true = and_left (names_only test x) (names_only test y) h
    one x y h false = and_right (names_only test x) (names_only test y) h

operands_name : (test side : ℕ → Bool) (cs : List Condition) → NamesOnly test cs → AllName test (map (operand_of side) cs)
operands_name test side [] h = tt
operands_name test side (c ∷ cs) h = (operand_names test side c h.0, operands_name test side cs h.1)

-- the values of a key where none of its operands raises
key_is : (side : ℕ → Bool) (cs : List Condition) (env : Environment) (values : List Val) → values_of (map (operand_of side) cs) env ≡ Ok values
    → map (λ c. value_or_null (value_of (operand_of side c) env)) cs ≡ values
key_is side [] env values e = let none : values ≡ [] = cc in sym none
key_is side (c ∷ cs) env values e =
    let p = parted (value_of (operand_of side c) env) (values_of (map (operand_of side) cs) env) values e in
    ap₂ (λ (v : Val) (vs : List Val). v ∷ vs) (ap value_or_null p.first_is) (key_is side cs env p.tail p.rest_is) ∙ sym p.is

texts_same : (values : List Val) → value.text_octets values ≡ text_octets values
texts_same [] = refl
texts_same (Null ∷ values) = let rest = texts_same values in omega (arith, rest)
texts_same (Num v ∷ values) = let rest = texts_same values in omega (arith, rest)
texts_same (Date d ∷ values) = let rest = texts_same values in omega (arith, rest)
texts_same (Text t ∷ values) = ap (λ n. length t + n) (texts_same values)

abbrev folded : List Val → ℕ
folded key = length (flat_map value_octets key)

-- a row is entered where no value of its key is null
values_entered : (key : List Val) → have_values key ≡ is_entered key
values_entered [] = refl
values_entered (Null ∷ key) = refl
values_entered (Num v ∷ key) = values_entered key
values_entered (Date d ∷ key) = values_entered key
values_entered (Text t ∷ key) = values_entered key

-- a hash folds all octets of texts, and one more of each value
folded_texts : (values : List Val) → text_octets values + length values ≤ folded values
folded_texts [] = omega arith
folded_texts (Null ∷ values) = let rest = folded_texts values in let all = length-append (value_octets Null) (flat_map value_octets values) in omega (arith, rest, all)
folded_texts (Num v ∷ values) = let rest = folded_texts values in let all = length-append (value_octets (Num v)) (flat_map value_octets values) in omega (arith, rest, all)
folded_texts (Date d ∷ values) = let rest = folded_texts values in let all = length-append (value_octets (Date d)) (flat_map value_octets values) in omega (arith, rest, all)
folded_texts (Text t ∷ values) = let rest = folded_texts values in let all = length-append (value_octets (Text t)) (flat_map value_octets values) in omega (arith, rest, all)

-- which pays for the turn of a row by itself, where its key has a value
turn_paid : (outer : Bool) (fields t f : ℕ) → t + fields ≤ f → t + (if outer then 1 else 0) ≤ f + (if outer && nat_eq fields 0 then 1 else 0)
turn_paid false fields t f h = omega (arith, h)
turn_paid true zero t f h = omega (arith, h)
turn_paid true (suc fields) t f h = omega (arith, h)

-- ---- columns that are kept

or_cases : (a b c : Bool) → (a || b) ≡ true → (b ≡ true → c ≡ true) → (a || c) ≡ true
or_cases true b c h f = refl
or_cases false b c h f = f h

read_kept : (entries : List ℕ) (cs : List ReadColumn) (i : ℕ) → is_read cs i ≡ true → is_of entries i ≡ true → is_read (filter_list (λ (c : ReadColumn). is_of entries c.number) cs) i ≡ true
read_kept entries [] i h o = h
read_kept entries (c ∷ cs) i h o = one (is_of entries c.number) refl (λ g. read_kept entries cs i g o)
  where
    missed : is_of entries c.number ≡ false → (b : Bool) → nat_eq c.number i ≡ b → (b || is_read cs i) ≡ true → is_read cs i ≡ true
    missed e true same g =
        let wrong : is_of entries c.number ≡ true = ap (is_of entries) (nat_is c.number i same) ∙ o in
        absurd (let no : true ≡ false = sym wrong ∙ e in cc)
    missed e false same g = g

    one : (b : Bool) → is_of entries c.number ≡ b → (is_read cs i ≡ true → is_read (filter_list (λ (d : ReadColumn). is_of entries d.number) cs) i ≡ true)
        → is_read (if b then c ∷ filter_list (λ (d : ReadColumn). is_of entries d.number) cs else filter_list (λ (d : ReadColumn). is_of entries d.number) cs) i ≡ true
    one true e rest = or_cases (nat_eq c.number i) (is_read cs i) (is_read (filter_list (λ (d : ReadColumn). is_of entries d.number) cs) i) h rest
    one false e rest = rest (missed e (nat_eq c.number i) refl h)

columns_name : (test : ℕ → Bool) (cs : List ReadColumn) → AllByRecursion (λ (c : ReadColumn). test c.number ≡ true) cs → AllName test (map column_of cs)
columns_name test [] h = tt
columns_name test (c ∷ cs) h = (h.0, columns_name test cs h.1)

-- ---- small laws

count_less : (counted : Bool) (a b : ℕ) → a ≤ b → count counted a ≤ count counted b
count_less true a b h = h
count_less false a b h = omega arith

pub count_plus : (counted : Bool) (a b : ℕ) → count counted (a + b) ≡ count counted a + count counted b
count_plus true a b = refl
count_plus false a b = omega arith

pub total_count : {A : Type 0} (counted : Bool) (f : A → ℕ) (xs : List A) → total (λ x. count counted (f x)) xs ≡ count counted (total f xs)
total_count true f xs = refl
total_count false f [] = refl
total_count false f (x ∷ xs) = let rest = total_count false f xs in omega (arith, rest)

err_case : (counted : Bool) (u f s o w t : ℕ) → count counted u + 0 ≤ count counted (u + f + s + o) + (w + t)
err_case true u f s o w t = omega arith
err_case false u f s o w t = omega arith

ok_case : (counted : Bool) (u t s m a f q o w r e : ℕ) → t + e ≤ f + o → s ≤ q → m + a ≤ (count counted w + count counted e) + r
    → count counted u + ((count counted (t + s) + m) + a) ≤ count counted (u + f + q + o) + (count counted w + r)
ok_case true u t s m a f q o w r e ht hs hm = omega (arith, ht, hs, hm)
ok_case false u t s m a f q o w r e ht hs hm = omega (arith, ht, hs, hm)

-- what is met, and the row itself where it goes on alone, since nothing is met then
alone_case : (counted o a : Bool) (m w f n r : ℕ) → m ≤ count counted w + f → f ≤ r → (a ≡ true → (f ≡ 0) × (n ≤ r))
    → m + (if o then count counted 1 + (if a then n else 0) else 0) ≤ (count counted w + count counted (if o then 1 else 0)) + r
alone_case counted false a m w f n r h g k = omega (arith, h, g)
alone_case counted true false m w f n r h g k = omega (arith, h, g)
alone_case counted true true m w f n r h g k = (let none : f ≡ 0 = (k refl).0 in let less : n ≤ r = (k refl).1 in omega (arith, h, none, less))

not_true : (b : Bool) → not b ≡ true → b ≡ false
not_true true h = absurd cc
not_true false h = refl

none_of_one : (b : Bool) → (if b then 1 else 0) + 0 ≡ 0 → b ≡ false
none_of_one true h = absurd (omega (arith, h))
none_of_one false h = refl

pub less_trans : (a b c : ℕ) → a ≤ b → b ≤ c → a ≤ c
less_trans a b c h g = omega (arith, h, g)

pub is_less : (a b c : ℕ) → a ≡ b → b ≤ c → a ≤ c
is_less a b c h g = omega (arith, h, g)

pub kept_total : (after : List Val → ℕ) (cs : List Condition) (row : List Val) → total after (rows_given (kept cs row)) ≡ where_passed (passes cs (at_row row)) (after row)
kept_total after cs row = one (passes cs (at_row row))
  where
    one : (r : Result Bool Code) → total after (rows_given (r >>= (λ passed. Ok (if passed then row ∷ [] else [])))) ≡ where_passed r (after row)
    one (Ok true) = omega arith
    one (Ok false) = refl
    one (Err code) = refl

-- ---- a join

module _ (same_rows : (row other : List Val) → is_same_row row other ≡ true → row ≡ other) (same_value : (a : Val) → value_order a a ≡ ordering.Equal)
    (columns : List ReadColumn) (tables : List (List (List Val))) (number : ℕ) (outer : Bool) (left right : Node) (on : List Condition) (keys : List ℕ)
    (ground : IsKeyedJoin tables (IsKnown columns) outer left right on keys) where
  abbrev pub look : Lookup
  look = record { entries = entries_below right; outer = outer; on = on; keys = keys }

  abbrev pub building : Sink
  building = build (record { table = number; key = keys_kept look; kept = kept_columns columns look })

  abbrev pub probing : Probe
  probing = record { table = number; outer = outer; key = keys_sought look; kept = kept_columns columns look; on = beside_keys keys 0 on }

  abbrev read : ℕ → Bool
  read = is_read columns

  names_on : NamesOnly read on
  names_on = all_more (IsKnown columns) (λ c. condition_names_only read c ≡ true) on (λ c h. h.0) ground.conjuncts

  names_equal : NamesOnly read (equalities look)
  names_equal = subst (NamesOnly read) (sym ground.equalities) (at_all (λ c. condition_names_only read c ≡ true) keys 0 on names_on)

  pub names_beside : NamesOnly read (beside_keys keys 0 on)
  names_beside = beside_all (λ c. condition_names_only read c ≡ true) keys 0 on names_on

  pub names_sought : AllName read (keys_sought look)
  names_sought = operands_name read (λ i. not (is_of look.entries i)) (equalities look) names_equal

  pub names_kept : AllName read (sink_values building)
  names_kept =
      all_append (λ e. names_only read e ≡ true) (keys_kept look) (map column_of (kept_columns columns look)) (operands_name read (is_of look.entries) (equalities look) names_equal)
      (columns_name read (kept_columns columns look) (all_filter (λ (c : ReadColumn). is_read columns c.number ≡ true) (λ (c : ReadColumn). is_of look.entries c.number) columns (all_read columns)))

  scaled_equal : AllByRecursion IsScaled (equalities look)
  scaled_equal = subst (AllByRecursion IsScaled) (sym ground.equalities) (at_all IsScaled keys 0 on (all_more (IsKnown columns) IsScaled on (λ c h. h.1) ground.conjuncts))

  eligible_equal : AllByRecursion (λ c. is_eligible (owns left) (owns right) c ≡ true) (equalities look)
  eligible_equal = subst (AllByRecursion (λ c. is_eligible (owns left) (owns right) c ≡ true)) (sym ground.equalities) ground.eligible

  same_length : length (keys_sought look) ≡ length (keys_kept look)
  same_length = length-map (equalities look) (operand_of (λ i. not (is_of look.entries i))) ∙ sym (length-map (equalities look) (operand_of (is_of look.entries)))

  abbrev on_units : (l r : List Val) → ℕ
  on_units l r = if meets look (merged l r) then units_of_all on (at_row (merged l r)) else 0

  abbrev joined : (List Val → ℕ) → (l r : List Val) → ℕ
  joined after l r =
      if all_meet (owns left) (owns right) (at_keys keys 0 on) l r then where_passed (passes (beside_keys keys 0 on) (at_row (merged l r))) (after (merged l r)) else 0

  abbrev pair_bound : Bool → (List Val → ℕ) → (l r : List Val) → ℕ
  pair_bound counted after l r = count counted (on_units l r) + joined after l r

  module _ (counted : Bool) (after : List Val → ℕ) (respects : Respects read after) where
    -- an entry that a row left, where its key is equal
    module _ (l r key values : List Val) (lefts : IsNullBeside (owns left) l) (rights : IsNullBeside (owns right) r) (el : values_of (keys_sought look) (at_row l) ≡ Ok key)
        (er : values_of (sink_values building) (at_row r) ≡ Ok values) (has : have_values (take (length (keys_kept look)) values) ≡ true) where
      parts : Values (keys_kept look) (map column_of (kept_columns columns look)) (at_row r) values
      parts = values_append (keys_kept look) (map column_of (kept_columns columns look)) (at_row r) values er

      front_long : length parts.front ≡ length (keys_kept look)
      front_long = values_long (keys_kept look) (at_row r) parts.front parts.front_is

      key_taken : take (length (keys_kept look)) values ≡ parts.front
      key_taken = ap (take (length (keys_kept look))) parts.is ∙ front_taken (length (keys_kept look)) parts.front parts.back front_long

      back_dropped : drop (length (keys_sought look)) values ≡ parts.back
      back_dropped = ap (drop (length (keys_sought look))) parts.is ∙ front_dropped (length (keys_sought look)) parts.front parts.back (front_long ∙ sym same_length)

      made : Agree read (row_of (kept_columns columns look) (drop (length (keys_sought look)) values)) r
      made i t =
          ap (λ (vs : List Val). cell (row_of (kept_columns columns look) vs) i) back_dropped
          ∙ made_again (kept_columns columns look) r parts.back parts.back_is i ∙ one (owns right i) refl
        where
          null_anyway : (b : Bool) → cell r i ≡ Null → (if b then cell r i else Null) ≡ cell r i
          null_anyway true e = refl
          null_anyway false e = sym e

          one : (b : Bool) → owns right i ≡ b → (if is_read (kept_columns columns look) i then cell r i else Null) ≡ cell r i
          one true e = ap (λ (b : Bool). if b then cell r i else Null) (read_kept look.entries columns i t e)
          one false e = null_anyway (is_read (kept_columns columns look) i) (rights i e)

      same_pair : Agree read (pair_of probing l values) (merged l r)
      same_pair = merged_agree read l l (row_of (kept_columns columns look) (drop (length (keys_sought look)) values)) r (λ i t. refl) made

      matched_bound : matched counted after probing l key values ≤ pair_bound counted after l r
      matched_bound = one (is_same_row key (take (length (keys_sought look)) values)) refl
        where
          one : (b : Bool) → is_same_row key (take (length (keys_sought look)) values) ≡ b
              → (if b then count counted (units_of_all (beside_keys keys 0 on) (at_row (pair_of probing l values)))
              + where_passed (passes (beside_keys keys 0 on) (at_row (pair_of probing l values))) (after (pair_of probing l values)) else 0) ≤ pair_bound counted after l r
          one false e = omega arith
          one true e =
              let taken : take (length (keys_sought look)) values ≡ parts.front = ap (λ (n : ℕ). take n values) same_length ∙ key_taken in
              let same : key ≡ parts.front = same_rows key parts.front (subst (λ (vs : List Val). is_same_row key vs ≡ true) taken e) in
              let full : have_values key ≡ true = subst (λ (vs : List Val). have_values vs ≡ true) (key_taken ∙ sym same) has in
              let met = keys_pair same_value (owns left) (owns right) ground.apart l r lefts rights (equalities look) key eligible_equal scaled_equal el (parts.front_is ∙ ap Ok (sym same)) full in
              let all : all_meet (owns left) (owns right) (at_keys keys 0 on) l r ≡ true = subst (λ (cs : List Condition). all_meet (owns left) (owns right) cs l r ≡ true) ground.equalities met.0 in
              let meet : meets look (merged l r) ≡ true = ap is_passed met.1 in
              let here : count counted (units_of_all (beside_keys keys 0 on) (at_row (pair_of probing l values)))
              + where_passed (passes (beside_keys keys 0 on) (at_row (pair_of probing l values))) (after (pair_of probing l values))
              ≡ count counted (units_of_all (beside_keys keys 0 on) (at_row (merged l r))) + where_passed (passes (beside_keys keys 0 on) (at_row (merged l r))) (after (merged l r)) =
              rw (
                conjuncts_agree read (pair_of probing l values) (merged l r) same_pair (beside_keys keys 0 on) names_beside,
                passes_agrees read (pair_of probing l values) (merged l r) same_pair (beside_keys keys 0 on) names_beside,
                respects (pair_of probing l values) (merged l r) same_pair,
              ) refl in
              let less = count_less counted (units_of_all (beside_keys keys 0 on) (at_row (merged l r))) (units_of_all on (at_row (merged l r))) (beside_less keys 0 on (at_row (merged l r))) in
              let there : count counted (units_of_all on (at_row (merged l r))) + where_passed (passes (beside_keys keys 0 on) (at_row (merged l r))) (after (merged l r)) ≡ pair_bound counted after l r =
              ap₂ (λ (a b : Bool). count counted (if a then units_of_all on (at_row (merged l r)) else 0)
              + (if b then where_passed (passes (beside_keys keys 0 on) (at_row (merged l r))) (after (merged l r)) else 0)) (sym meet) (sym all) in
              omega (arith, here, less, there)

  -- what is summed over the entry of a row
  entry_total : (g : List Val → ℕ) (r : List Val) (n : ℕ)
      → ((values : List Val) → values_of (sink_values building) (at_row r) ≡ Ok values → have_values (take (length (keys_kept look)) values) ≡ true → g values ≤ n)
      → total g (sink_fed building r).rows ≤ n
  entry_total g r n h = one (values_of (sink_values building) (at_row r)) refl
    where
      two : (values : List Val) → values_of (sink_values building) (at_row r) ≡ Ok values → (b : Bool) → have_values (take (length (keys_kept look)) values) ≡ b
          → total g (if b then one_row values else nothing).rows ≤ n
      two values e true has = let less = h values e has in omega (arith, less)
      two values e false has = omega arith

      one : (q : Result (List Val) Code) → values_of (sink_values building) (at_row r) ≡ q → total g (flow_by q (placed building)).rows ≤ n
      one (Ok values) e = two values e (have_values (take (length (keys_kept look)) values)) refl
      one (Err code) e = omega arith

  -- an entry's key is its row's
  entry_key : (r values : List Val) → values_of (sink_values building) (at_row r) ≡ Ok values → take (length (keys_kept look)) values ≡ key_kept look r
  entry_key r values er =
      let parts = values_append (keys_kept look) (map column_of (kept_columns columns look)) (at_row r) values er in
      ap (take (length (keys_kept look))) parts.is
      ∙ front_taken (length (keys_kept look)) parts.front parts.back (values_long (keys_kept look) (at_row r) parts.front parts.front_is)
      ∙ sym (key_is (is_of look.entries) (equalities look) (at_row r) parts.front parts.front_is)

  -- of a row that is entered
  abbrev slot_units : (key r : List Val) → ℕ
  slot_units key r = if is_entered (key_kept look r) then (if nat_eq (slot (key_kept look r)) (slot key) then 1 + text_octets key else 0) else 0

  slot_bound : (key r : List Val) → total (λ (e : List Val). if keyed (length (keys_sought look)) e == slot key then 1 + text_octets key else 0) (sink_fed building r).rows ≤ slot_units key r
  slot_bound key r =
      entry_total (λ (e : List Val). if keyed (length (keys_sought look)) e == slot key then 1 + text_octets key else 0) r (slot_units key r)
      (λ values er has.
      let same : take (length (keys_sought look)) values ≡ key_kept look r = ap (λ (n : ℕ). take n values) same_length ∙ entry_key r values er in
      let present : is_entered (key_kept look r) ≡ true =
      sym (values_entered (key_kept look r)) ∙ ap have_values (sym (entry_key r values er)) ∙ has in
      let is : (if slot (take (length (keys_sought look)) values) == slot key then 1 + text_octets key else 0) ≡ slot_units key r =
      ap (λ (vs : List Val). if slot vs == slot key then 1 + text_octets key else 0) same
      ∙ ap (λ (b : Bool). if b then (if slot (key_kept look r) == slot key then 1 + text_octets key else 0) else 0) (sym present) in
      omega (arith, is))

  -- the cost of a row as an entry
  entry_cost : (r : List Val) → sink_cost building r ≤ units_of_items (keys_kept look) (at_row r) + folded (key_kept look r)
  entry_cost r = one (values_of (sink_values building) (at_row r)) refl
    where
      same : units_of_items (sink_values building) (at_row r) ≡ units_of_items (keys_kept look) (at_row r)
      same = columns_units (keys_kept look) (kept_columns columns look) (at_row r)

      one : (q : Result (List Val) Code) → values_of (sink_values building) (at_row r) ≡ q
          → units_of_items (sink_values building) (at_row r) + by_values q (λ values. text_octets (sink_key building values)) ≤ units_of_items (keys_kept look) (at_row r) + folded (key_kept look r)
      one (Ok values) e =
          let key : text_octets (take (length (keys_kept look)) values) ≡ text_octets (key_kept look r) = ap text_octets (entry_key r values e) in
          let less = folded_texts (key_kept look r) in
          omega (arith, same, key, less)
      one (Err code) e = omega (arith, same)

  abbrev L : List (List Val)
  L = (node_flow tables left).rows

  abbrev R : List (List Val)
  R = (node_flow tables right).rows

  -- of an outer lookup without a key one more
  abbrev outer_units : ℕ
  outer_units = if outer && is_keyless look then 1 else 0

  abbrev left_units : List Val → ℕ
  left_units l = units_of_items (keys_sought look) (at_row l) + folded (key_sought look l) + total (slot_units (key_sought look l)) R + outer_units

  -- what the pairs of a left row whose keys meet come to, and what the join makes of the row
  abbrev partners : List Val → Flow (List Val)
  partners l = record {
    rows = found rows_given (owns left) (owns right) (at_keys keys 0 on) (beside_keys keys 0 on) l R;
    codes = found codes_given (owns left) (owns right) (at_keys keys 0 on) (beside_keys keys 0 on) l R;
  }

  abbrev made_of : (outer : Bool) → List Val → Flow (List Val)
  made_of false l = partners l
  made_of true l = completed l (partners l).rows (partners l).codes

  -- entries that weigh no more than what the rows of the right side leave
  abbrev pub AreLeft : List (List Val) → Type 0
  AreLeft entries = (g : List Val → ℕ) → total g entries ≤ total (λ r. total g (sink_fed building r).rows) R

  -- and no less
  abbrev pub AreAll : List (List Val) → Type 0
  AreAll entries = (g : List Val → ℕ) → total (λ r. total g (sink_fed building r).rows) R ≤ total g entries

  module _ (entries : List (List Val)) (left_by : AreLeft entries) (all_by : outer ≡ true → AreAll entries) (counted : Bool) (after : List Val → ℕ) (respects : Respects read after) where
    -- ---- a row that goes on by itself

    abbrev once_met : (l key entry : List Val) → ℕ
    once_met l key entry = if meets_entry probing l key entry then 1 else 0

    abbrev is_partner : (l r : List Val) → Bool
    is_partner l r = all_meet (owns left) (owns right) (at_keys keys 0 on) l r && isnt_failed (passes (beside_keys keys 0 on) (at_row (merged l r)))

    -- a row of the right side whose keys meet left an entry, which isn't met: so the pair fails the others of ON
    no_partner : (l r key : List Val) → IsNullBeside (owns left) l → IsNullBeside (owns right) r → values_of (keys_sought look) (at_row l) ≡ Ok key
        → (have_values key ≡ true → total (once_met l key) (sink_fed building r).rows ≡ 0) → is_partner l r ≡ false
    no_partner l r key lefts rights el unfed = one (all_meet (owns left) (owns right) (at_keys keys 0 on) l r) refl
      where
        one : (b : Bool) → all_meet (owns left) (owns right) (at_keys keys 0 on) l r ≡ b → (b && isnt_failed (passes (beside_keys keys 0 on) (at_row (merged l r)))) ≡ false
        one false e = refl
        one true e =
            let all : all_meet (owns left) (owns right) (equalities look) l r ≡ true = subst (λ (cs : List Condition). all_meet (owns left) (owns right) cs l r ≡ true) (sym ground.equalities) e in
            let found_key = met_values (owns left) (owns right) ground.apart l r (equalities look) eligible_equal all in
            let ws : List Val = found_key.0 in
            let same_keys = met_keys (owns left) (owns right) ground.apart l r (equalities look) key ws eligible_equal scaled_equal el found_key.1 all in
            let rest : List Val = kept_values (kept_columns columns look) r in
            let values : List Val = ws ++ rest in
            let er : values_of (sink_values building) (at_row r) ≡ Ok values =
            values_joined (keys_kept look) (map column_of (kept_columns columns look)) (at_row r) ws rest found_key.1 (columns_values (kept_columns columns look) r) in
            let taken : take (length (keys_kept look)) values ≡ ws = front_taken (length (keys_kept look)) ws rest (values_long (keys_kept look) (at_row r) ws found_key.1) in
            let has : have_values (take (length (keys_kept look)) values) ≡ true = ap have_values taken ∙ same_keys.1.0 in
            let fed_is : sink_fed building r ≡ one_row values =
            ap (λ (q : Result (List Val) Code). flow_by q (placed building)) er ∙ ap (λ (b : Bool). if b then one_row values else nothing) has in
            let zero : (if meets_entry probing l key values then 1 else 0) + 0 ≡ 0 = sym (ap (λ (f : Flow (List Val)). total (once_met l key) f.rows) fed_is) ∙ unfed same_keys.0 in
            let same : is_same_row key (take (length (keys_sought look)) values) ≡ true =
            ap (λ (n : ℕ). is_same_row key (take n values)) same_length ∙ ap (is_same_row key) taken ∙ same_keys.1.1 in
            let failed : isnt_failed (passes (beside_keys keys 0 on) (at_row (pair_of probing l values))) ≡ false =
            sym (ap (λ (b : Bool). b && isnt_failed (passes (beside_keys keys 0 on) (at_row (pair_of probing l values)))) same) ∙ none_of_one (meets_entry probing l key values) zero in
            ap isnt_failed (sym (passes_agrees read (pair_of probing l values) (merged l r) (same_pair counted after respects l r key values lefts rights el er has) (beside_keys keys 0 on) names_beside)) ∙ failed

    -- where no entry is met, no row of the right side left one that is
    none_left : (l key : List Val) → outer ≡ true → (have_values key && list_any (meets_entry probing l key) entries) ≡ false
        → AllByRecursion (λ r. have_values key ≡ true → total (once_met l key) (sink_fed building r).rows ≡ 0) R
    none_left l key is_outer h = one (have_values key) refl h
      where
        one : (b : Bool) → have_values key ≡ b → (b && list_any (meets_entry probing l key) entries) ≡ false
            → AllByRecursion (λ r. have_values key ≡ true → total (once_met l key) (sink_fed building r).rows ≡ 0) R
        one false e g =
            all_of_any (λ r. have_values key ≡ true → total (once_met l key) (sink_fed building r).rows ≡ 0) R (λ r t. absurd (let no : false ≡ true = sym e ∙ t in cc))
        one true e g =
            let none = none_counted (meets_entry probing l key) entries g in
            let less = all_by is_outer (once_met l key) in
            all_more (λ r. total (once_met l key) (sink_fed building r).rows ≡ 0) (λ r. have_values key ≡ true → total (once_met l key) (sink_fed building r).rows ≡ 0) R (λ r z t. z)
            (total_none (λ r. total (once_met l key) (sink_fed building r).rows) R (omega (arith, none, less)))

    -- so the join completes the row
    alone_made : (l key : List Val) → IsNullBeside (owns left) l → values_of (keys_sought look) (at_row l) ≡ Ok key → is_alone probing l key entries ≡ true
        → (total after (partners l).rows ≡ 0) × (after l ≤ total after (made_of outer l).rows)
    alone_made l key lefts el h =
        let is_outer : outer ≡ true = and_left outer (not (have_values key && list_any (meets_entry probing l key) entries)) h in
        let unmet = not_true (have_values key && list_any (meets_entry probing l key) entries) (and_right outer (not (have_values key && list_any (meets_entry probing l key) entries)) h) in
        let none : list_any (is_partner l) R ≡ false =
        any_none (is_partner l) R
        (all_more (λ r. IsNullBeside (owns right) r × (have_values key ≡ true → total (once_met l key) (sink_fed building r).rows ≡ 0)) (λ r. is_partner l r ≡ false) R
        (λ r known. no_partner l r key lefts known.0 el known.1)
        (all_pairs (IsNullBeside (owns right)) (λ r. have_values key ≡ true → total (once_met l key) (sink_fed building r).rows ≡ 0) R ground.rights (none_left l key is_outer unmet))) in
        let gone = none_found (all_meet (owns left) (owns right) (at_keys keys 0 on) l) (λ r. passes (beside_keys keys 0 on) (at_row (merged l r))) (merged l) R none in
        let made : made_of outer l ≡ record { rows = l ∷ []; codes = [] } =
        ap (λ (o : Bool). made_of o l) is_outer ∙ ap₂ (λ (rows : List (List Val)) (codes : List Code). completed l rows codes) gone.0 gone.1 in
        let all : total after (made_of outer l).rows ≡ after l + 0 = ap (λ (f : Flow (List Val)). total after f.rows) made in
        (ap (total after) gone.0, omega (arith, all))

    made_more : (l : List Val) (o : Bool) → total after (partners l).rows ≤ total after (made_of o l).rows
    made_more l false = omega arith
    made_more l true = one (partners l).rows (partners l).codes
      where
        one : (rows : List (List Val)) (codes : List Code) → total after rows ≤ total after (completed l rows codes).rows
        one [] [] = omega arith
        one [] (code ∷ codes) = omega arith
        one (row ∷ rows) codes = omega arith

    -- ---- a row

    partners_total : (l : List Val) → total (joined after l) R ≡ total after (partners l).rows
    partners_total l =
        total_same (joined after l) (λ r. total after (if all_meet (owns left) (owns right) (at_keys keys 0 on) l r then rows_given (kept (beside_keys keys 0 on) (merged l r)) else [])) R
        (λ r. one r (all_meet (owns left) (owns right) (at_keys keys 0 on) l r))
        ∙ sym (total_flat after (λ r. if all_meet (owns left) (owns right) (at_keys keys 0 on) l r then rows_given (kept (beside_keys keys 0 on) (merged l r)) else []) R)
      where
        one : (r : List Val) (b : Bool) → (if b then where_passed (passes (beside_keys keys 0 on) (at_row (merged l r))) (after (merged l r)) else 0)
            ≡ total after (if b then rows_given (kept (beside_keys keys 0 on) (merged l r)) else [])
        one r true = sym (kept_total after (beside_keys keys 0 on) (merged l r))
        one r false = refl

    pairs_total : (l : List Val) → total (pair_bound counted after l) R ≡ count counted (total (on_units l) R) + total after (partners l).rows
    pairs_total l = total_plus (λ r. count counted (on_units l r)) (joined after l) R ∙ ap₂ (λ a b. a + b) (total_count counted (on_units l) R) (partners_total l)

    left_bound : (l : List Val) → IsNullBeside (owns left) l
        → probe_charge counted after probing entries l ≤ count counted (left_units l) + (count counted (total (on_units l) R) + total after (made_of outer l).rows)
    left_bound l lefts = one (values_of (keys_sought look) (at_row l)) refl
      where
        one : (q : Result (List Val) Code) → values_of (keys_sought look) (at_row l) ≡ q
            → count counted (units_of_items (keys_sought look) (at_row l)) + by_values q (keyed_charge counted after probing entries l)
            ≤ count counted (left_units l) + (count counted (total (on_units l) R) + total after (made_of outer l).rows)
        one (Err code) e =
            err_case counted (units_of_items (keys_sought look) (at_row l)) (folded (key_sought look l)) (total (slot_units (key_sought look l)) R) outer_units
            (count counted (total (on_units l) R)) (total after (made_of outer l).rows)
        one (Ok key) e =
            let sought : key_sought look l ≡ key = key_is (λ i. not (is_of look.entries i)) (equalities look) (at_row l) key e in
            let in_one : List Val → ℕ = λ (v : List Val). if keyed (length (keys_sought look)) v == slot key then 1 + text_octets key else 0 in
            let slots : total (λ (v : List Val). 1 + text_octets key) (in_slot (keyed (length (keys_sought look))) (slot key) entries) ≤ total (slot_units key) R =
            is_less (total (λ (v : List Val). 1 + text_octets key) (in_slot (keyed (length (keys_sought look))) (slot key) entries)) (total in_one entries) (total (slot_units key) R)
            (total_filter (λ (v : List Val). 1 + text_octets key) (λ (v : List Val). keyed (length (keys_sought look)) v == slot key) entries)
            (less_trans (total in_one entries) (total (λ r. total in_one (sink_fed building r).rows) R) (total (slot_units key) R) (left_by in_one)
            (total_less (λ r. total in_one (sink_fed building r).rows) (slot_units key) R (λ r. slot_bound key r))) in
            let met : total (matched counted after probing l key) entries ≤ total (pair_bound counted after l) R =
            less_trans (total (matched counted after probing l key) entries) (total (λ r. total (matched counted after probing l key) (sink_fed building r).rows) R) (total (pair_bound counted after l) R)
            (left_by (matched counted after probing l key))
            (total_less_all (λ r. total (matched counted after probing l key) (sink_fed building r).rows) (pair_bound counted after l) R
            (all_more (IsNullBeside (owns right)) (λ r. total (matched counted after probing l key) (sink_fed building r).rows ≤ pair_bound counted after l r) R
            (λ r rights. entry_total (matched counted after probing l key) r (pair_bound counted after l r)
            (λ values er has. matched_bound counted after respects l r key values lefts rights e er has)) ground.rights)) in
            let pairs = pairs_total l in
            let fields : length key ≡ length (equalities look) =
            values_long (keys_sought look) (at_row l) key e ∙ length-map (equalities look) (operand_of (λ i. not (is_of look.entries i))) in
            let folds : text_octets key + length (equalities look) ≤ folded key = subst (λ (n : ℕ). text_octets key + n ≤ folded key) fields (folded_texts key) in
            let itself = alone_case counted outer (is_alone probing l key entries) (total (matched counted after probing l key) entries) (total (on_units l) R) (total after (partners l).rows) (after l)
            (total after (made_of outer l).rows) (omega (arith, met, pairs)) (made_more l outer) (alone_made l key lefts e) in
            subst (λ (k : List Val). count counted (units_of_items (keys_sought look) (at_row l)) + keyed_charge counted after probing entries l key
            ≤ count counted (units_of_items (keys_sought look) (at_row l) + folded k + total (slot_units k) R + outer_units) + (count counted (total (on_units l) R) + total after (made_of outer l).rows)) (sym sought)
            (ok_case counted (units_of_items (keys_sought look) (at_row l)) (text_octets key) (total (λ (v : List Val). 1 + text_octets key) (in_slot (keyed (length (keys_sought look))) (slot key) entries))
            (total (matched counted after probing l key) entries) (alone_charge counted after probing entries l key) (folded key) (total (slot_units key) R) outer_units (total (on_units l) R)
            (total after (made_of outer l).rows) (if outer then 1 else 0) (turn_paid outer (length (equalities look)) (text_octets key) (folded key) folds) slots itself)

    -- ---- all rows

    -- what a join comes to
    made_total : total (λ l. total after (made_of outer l).rows) L ≡ total after (node_flow tables (join outer left right on keys)).rows
    made_total =
        sym (total_flat after (λ l. (made_of outer l).rows) L)
        ∙ ap (total after) (sym (ap (λ (f : Flow (List Val)). f.rows) ground.probes ∙ one outer))
      where
        one : (o : Bool) → (probed_by o (owns left) (owns right) (at_keys keys 0 on) (beside_keys keys 0 on) (node_flow tables left) (node_flow tables right)).rows ≡ flat_map (λ l. (made_of o l).rows) L
        one true = refl
        one false = refl

    abbrev pub sought_units : ℕ
    sought_units = total left_units L + total (λ l. total (on_units l) R) L

    pub probes_bound : total (probe_charge counted after probing entries) L ≤ count counted sought_units + total after (node_flow tables (join outer left right on keys)).rows
    probes_bound =
        let made : List Val → ℕ = λ l. total after (made_of outer l).rows in
        let each = total_less_all (probe_charge counted after probing entries) (λ l. count counted (left_units l) + (count counted (total (on_units l) R) + made l)) L
        (all_more (IsNullBeside (owns left)) (λ l. probe_charge counted after probing entries l ≤ count counted (left_units l) + (count counted (total (on_units l) R) + made l)) L left_bound ground.lefts) in
        let parts = total_plus (λ l. count counted (left_units l)) (λ l. count counted (total (on_units l) R) + made l) L in
        let first = total_count counted left_units L in
        let rest = total_plus (λ l. count counted (total (on_units l) R)) made L in
        let second = total_count counted (λ l. total (on_units l) R) L in
        let both = count_plus counted (total left_units L) (total (λ l. total (on_units l) R) L) in
        omega (arith, each, parts, first, rest, second, both, made_total)

  -- ---- within the table's units

  abbrev in_slot_of : (key other : List Val) → ℕ
  in_slot_of key other = if nat_eq (slot other) (slot key) then 1 + value.text_octets key else 0

  abbrev entries : ℕ
  entries = length (entered_keys look R)

  table_is : table_units general_hashing look L R
      ≡ entries + (total (λ r. folded (key_kept look r)) R + total (λ l. folded (key_sought look l)) L) + 1024
      + (total (λ r. units_of_items (keys_kept look) (at_row r)) R + total (λ l. units_of_items (keys_sought look) (at_row l)) L)
      + total (λ l. total (slot_units (key_sought look l)) R) L + total (λ l. total (on_units l) R) L + (if outer && is_keyless look then length L else 0)
  table_is =
      ap₂ (λ (a b : ℕ). entries + (a + b) + 1024
      + (sum_by (λ (row : List Val). units_of_items (keys_kept look) (at_row row)) R + sum_by (λ (row : List Val). units_of_items (keys_sought look) (at_row row)) L)
      + sum_by (λ (key : List Val). sum_by (in_slot_of key) (entered_keys look R)) (map (key_sought look) L)
      + sum_by (λ (row : List Val). if meets look row then units_of_all on (at_row row) else 0) (flat_map (λ row. map (merged row) R) L) + (if outer && is_keyless look then length L else 0))
      (sum_is folded (map (key_kept look) R) ∙ total_map folded (key_kept look) R) (sum_is folded (map (key_sought look) L) ∙ total_map folded (key_sought look) L)
      ∙ ap₂ (λ (a b : ℕ). entries + (total (λ r. folded (key_kept look r)) R + total (λ l. folded (key_sought look l)) L) + 1024 + (a + b)
      + sum_by (λ (key : List Val). sum_by (in_slot_of key) (entered_keys look R)) (map (key_sought look) L)
      + sum_by (λ (row : List Val). if meets look row then units_of_all on (at_row row) else 0) (flat_map (λ row. map (merged row) R) L) + (if outer && is_keyless look then length L else 0))
      (sum_is (λ (row : List Val). units_of_items (keys_kept look) (at_row row)) R) (sum_is (λ (row : List Val). units_of_items (keys_sought look) (at_row row)) L)
      ∙ ap₂ (λ (a b : ℕ). entries + (total (λ r. folded (key_kept look r)) R + total (λ l. folded (key_sought look l)) L) + 1024
      + (total (λ r. units_of_items (keys_kept look) (at_row r)) R + total (λ l. units_of_items (keys_sought look) (at_row l)) L) + a + b + (if outer && is_keyless look then length L else 0)) slots pairs
    where
      of_key : (key : List Val) → sum_by (in_slot_of key) (entered_keys look R) ≡ total (slot_units key) R
      of_key key =
          sum_is (in_slot_of key) (entered_keys look R)
          ∙ total_filter (in_slot_of key) is_entered (map (key_kept look) R)
          ∙ total_map (λ (other : List Val). if is_entered other then in_slot_of key other else 0) (key_kept look) R
          ∙ total_same (λ r. if is_entered (key_kept look r) then in_slot_of key (key_kept look r) else 0) (slot_units key) R
          (λ r. ap (λ (n : ℕ). if is_entered (key_kept look r) then (if nat_eq (slot (key_kept look r)) (slot key) then 1 + n else 0) else 0) (texts_same key))

      slots : sum_by (λ (key : List Val). sum_by (in_slot_of key) (entered_keys look R)) (map (key_sought look) L) ≡ total (λ l. total (slot_units (key_sought look l)) R) L
      slots =
          sum_is (λ (key : List Val). sum_by (in_slot_of key) (entered_keys look R)) (map (key_sought look) L)
          ∙ total_map (λ (key : List Val). sum_by (in_slot_of key) (entered_keys look R)) (key_sought look) L
          ∙ total_same (λ l. sum_by (in_slot_of (key_sought look l)) (entered_keys look R)) (λ l. total (slot_units (key_sought look l)) R) L (λ l. of_key (key_sought look l))

      pairs : sum_by (λ (row : List Val). if meets look row then units_of_all on (at_row row) else 0) (flat_map (λ row. map (merged row) R) L) ≡ total (λ l. total (on_units l) R) L
      pairs =
          sum_is (λ (row : List Val). if meets look row then units_of_all on (at_row row) else 0) (flat_map (λ row. map (merged row) R) L)
          ∙ total_flat (λ (row : List Val). if meets look row then units_of_all on (at_row row) else 0) (λ row. map (merged row) R) L
          ∙ total_same (λ l. total (λ (row : List Val). if meets look row then units_of_all on (at_row row) else 0) (map (merged l) R)) (λ l. total (on_units l) R) L
          (λ l. total_map (λ (row : List Val). if meets look row then units_of_all on (at_row row) else 0) (merged l) R)

  pub table_bound : total (sink_cost building) R + (total left_units L + total (λ l. total (on_units l) R) L) ≤ table_units general_hashing look L R
  table_bound =
      let entry = total_less (sink_cost building) (λ r. units_of_items (keys_kept look) (at_row r) + folded (key_kept look r)) R entry_cost in
      let parts = total_plus (λ r. units_of_items (keys_kept look) (at_row r)) (λ r. folded (key_kept look r)) R in
      let first = total_plus (λ l. units_of_items (keys_sought look) (at_row l) + folded (key_sought look l) + total (slot_units (key_sought look l)) R) (λ l. outer_units) L in
      let second = total_plus (λ l. units_of_items (keys_sought look) (at_row l) + folded (key_sought look l)) (λ l. total (slot_units (key_sought look l)) R) L in
      let third = total_plus (λ l. units_of_items (keys_sought look) (at_row l)) (λ l. folded (key_sought look l)) L in
      let alone = all_outer (outer && is_keyless look) in
      omega (arith, entry, parts, first, second, third, alone, table_is)
    where
      all_outer : (o : Bool) → total (λ (l : List Val). if o then 1 else 0) L ≡ (if o then length L else 0)
      all_outer true = total_ones L
      all_outer false = total_zero L
