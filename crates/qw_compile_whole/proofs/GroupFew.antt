-- How many rows reach the groups of a query: a table has at most 1,000,000 rows, and so of two entries of FROM there are fewer than 10^18 pairs.
use Rattle.std.proofs.Common.{◌≡◌, ◌∙◌, ℕ, zero, suc, ◌+◌, ◌*◌, ◌^◌, ◌<◌, ◌≤◌, Bool, true, false, if◌then◌else◌, List, [], ◌∷◌, ◌++◌, map, length, length-append, Result, Ok, Err, sym, ap, subst, arith}
use Rattle.std.proofs.Math.Nat.{mul_assoc, pow-succ'}
use Rattle.std.proofs.lemmas.Nat.{mul-le, pow-add}
use Rattle.std.proofs.lemmas.List.{length-map}
use Rattle.std.proofs.lemmas.List.Concat.{length-flat_map}
use Rattle.std.proofs.lemmas.List.Sums.{sum_by-le}
use Rattle.std.specs.List.{AllByRecursion, flat_map}
use Rattle.qw_types.specs.Arithmetic.{◌>>=◌}
use Rattle.qw_types.specs.Contents.{rows_of}
use Rattle.qw_types.specs.declared.code.Code.{Code}
use Rattle.qw_types.specs.declared.value.Val.{Val}
use Rattle.qw_scalar.specs.Conjuncts.{passes}
use Rattle.qw_scalar.specs.Evaluation.{at_row}
use Rattle.qw_scalar.specs.Expression.{Condition, Expression}
use Rattle.qw_meaning.specs.Flow.{Flow, each, kept, rows_given, selected, values_of}
use Rattle.qw_meaning.specs.From.{at_places, behind_joins, behind_sources, completed, completed_pairs, crossed, entry_flow, from_sources, joined, merged, pairs, source_flow}
use Rattle.qw_meaning.specs.Outcome.{flow}
use Rattle.qw_meaning.specs.Select.{AreOfEntries, Entry, IsOfEntry, Joined, Source, Specification, entries_in, entries_of}
use Rattle.qw_leaves.proofs.LeafLists.{all_back, all_front}

-- ---- a clause

few_each : {A B : Type 0} (f : A → List B) (a : ℕ) (xs : List A) → ((x : A) → length (f x) ≤ a) → length (flat_map f xs) ≤ length xs * a
few_each f a xs few =
    let sums = length-flat_map f xs in
    let less = sum_by-le (λ x. length (f x)) a xs (λ k d inside. few _) in
    omega (arith, sums, less)

kept_one : (conjuncts : List Condition) (row : List Val) → length (rows_given (kept conjuncts row)) ≤ 1
kept_one conjuncts row = one (passes conjuncts (at_row row))
  where
    one : (r : Result Bool Code) → length (rows_given (r >>= (λ (passed : Bool). let q : Result (List (List Val)) Code = Ok (if passed then row ∷ [] else []) in q))) ≤ 1
    one (Ok true) = omega arith
    one (Ok false) = omega arith
    one (Err code) = omega arith

selected_one : (items : List Expression) (row : List Val) → length (rows_given (selected items row)) ≤ 1
selected_one items row = one (values_of items (at_row row))
  where
    one : (r : Result (List Val) Code) → length (rows_given (r >>= (λ (values : List Val). let q : Result (List (List Val)) Code = Ok (values ∷ []) in q))) ≤ 1
    one (Ok values) = omega arith
    one (Err code) = omega arith

-- ---- FROM

module _ (tables : List (List (List Val))) where
  entry_few : (next : ℕ) (e : Entry) → IsOfEntry tables e → length (entry_flow tables next e.table).rows ≤ 1000000
  entry_few next e of = let same = length-map (rows_of tables e.table) (at_places next) in let few = of.few in omega (arith, same, few)

  crossed_few : (one other : Flow (List Val)) (a b : ℕ) → length one.rows ≤ a → length other.rows ≤ b → length (crossed one other).rows ≤ a * b
  crossed_few one other a b h g =
      let many = few_each (λ (row : List Val). map (merged row) other.rows) b one.rows (λ row. (let same = length-map other.rows (merged row) in omega (arith, same, g))) in
      let less = mul-le (length one.rows) b a b h (omega arith) in
      omega (arith, many, less)

  power_more : (b k : ℕ) → (b * 1000000) * 1000000 ^ k ≡ b * 1000000 ^ suc k
  power_more b k = mul_assoc b 1000000 (1000000 ^ k) ∙ ap (λ (n : ℕ). b * n) (sym (pow-succ' 1000000 k))

  completed_few : (row : List Val) (passed : List (List Val)) (raised : List Code) (a : ℕ) → 1 ≤ a → length passed ≤ a → length (completed row passed raised).rows ≤ a
  completed_few row [] [] a some h = omega (arith, some)
  completed_few row [] (code ∷ codes) a some h = omega arith
  completed_few row (pair ∷ passed) codes a some h = h

  row_few : (on : List Condition) (others : List (List Val)) (row : List Val) (a : ℕ) → 1 ≤ a → length others ≤ a → length (completed_pairs on others row).rows ≤ a
  row_few on others row a some h =
      let less = few_each (λ (r : List Val). rows_given (kept on r)) 1 (map (merged row) others) (kept_one on) in
      let many = length-map others (merged row) in
      completed_few row (pairs on others row).rows (pairs on others row).codes a some (omega (arith, less, many, h))

  joined_few : (outer : Bool) (on : List Condition) (one other : Flow (List Val)) (b : ℕ) → length one.rows ≤ b → length other.rows ≤ 1000000 → length (joined outer on one other).rows ≤ b * 1000000
  joined_few false on one other b h g =
      let few = crossed_few one other b 1000000 h g in
      let less = few_each (λ (row : List Val). rows_given (kept on row)) 1 (crossed one other).rows (kept_one on) in
      omega (arith, few, less)
  joined_few true on one other b h g =
      let few = few_each (λ (row : List Val). (completed_pairs on other.rows row).rows) 1000000 one.rows (λ row. row_few on other.rows row 1000000 (omega arith) g) in
      let less = mul-le (length one.rows) 1000000 b 1000000 h (omega arith) in
      omega (arith, few, less)

  joins_few : (joins : List Joined) (next : ℕ) (before : Flow (List Val)) (b : ℕ) → length before.rows ≤ b → AllByRecursion (IsOfEntry tables) (map (λ (j : Joined). j.entry) joins) → length (behind_joins tables next before joins).rows ≤ b * 1000000 ^ length joins
  joins_few [] next before b h of = omega (arith, h)
  joins_few (j ∷ joins) next before b h of =
      let entry : Flow (List Val) = entry_flow tables next j.entry.table in
      let few : length (joined j.outer j.on before entry).rows ≤ b * 1000000 = joined_few j.outer j.on before entry b h (entry_few next j.entry of.0) in
      let rest = joins_few joins (next + 1) (joined j.outer j.on before entry) (b * 1000000) few of.1 in
      subst (λ (n : ℕ). length (behind_joins tables (next + 1) (joined j.outer j.on before entry) joins).rows ≤ n) (power_more b (length joins)) rest

  source_few : (source : Source) (first : ℕ) → AllByRecursion (IsOfEntry tables) (entries_in source) → length (source_flow tables first source).rows ≤ 1000000 ^ length (entries_in source)
  source_few source first of =
      let all = joins_few source.joins (first + 1) (entry_flow tables first source.first.table) 1000000 (entry_few first source.first of.0) of.1 in
      let many : length (map (λ (j : Joined). j.entry) source.joins) ≡ length source.joins = length-map source.joins (λ (j : Joined). j.entry) in
      subst (λ (n : ℕ). length (source_flow tables first source).rows ≤ n) (sym (pow-succ' 1000000 (length source.joins)) ∙ ap (λ (k : ℕ). 1000000 ^ suc k) (sym many)) all

  sources_few : (sources : List Source) (next : ℕ) (before : Flow (List Val)) (b : ℕ) → length before.rows ≤ b → AllByRecursion (IsOfEntry tables) (entries_of sources) → length (behind_sources tables next before sources).rows ≤ b * 1000000 ^ length (entries_of sources)
  sources_few [] next before b h of = omega (arith, h)
  sources_few (source ∷ sources) next before b h of =
      let own : ℕ = length (entries_in source) in
      let rest : ℕ = length (entries_of sources) in
      let first = source_few source next (all_front (IsOfEntry tables) (entries_in source) (entries_of sources) of) in
      let few = crossed_few before (source_flow tables next source) b (1000000 ^ own) h first in
      let all = sources_few sources (next + own) (crossed before (source_flow tables next source)) (b * 1000000 ^ own) few (all_back (IsOfEntry tables) (entries_in source) (entries_of sources) of) in
      let parts : (b * 1000000 ^ own) * 1000000 ^ rest ≡ b * 1000000 ^ length (entries_in source ++ entries_of sources) =
      mul_assoc b (1000000 ^ own) (1000000 ^ rest) ∙ (ap (λ (n : ℕ). b * n) (sym (pow-add 1000000 own rest)) ∙ ap (λ (k : ℕ). b * 1000000 ^ k) (sym (length-append (entries_in source) (entries_of sources)))) in
      subst (λ (n : ℕ). length (behind_sources tables (next + own) (crossed before (source_flow tables next source)) sources).rows ≤ n) parts all

  from_few : (sources : List Source) → AllByRecursion (IsOfEntry tables) (entries_of sources) → length (from_sources sources tables).rows ≤ 1000000 ^ length (entries_of sources)
  from_few [] of = omega arith
  from_few (source ∷ sources) of =
      let own : ℕ = length (entries_in source) in
      let first = source_few source 0 (all_front (IsOfEntry tables) (entries_in source) (entries_of sources) of) in
      let all = sources_few sources own (source_flow tables 0 source) (1000000 ^ own) first (all_back (IsOfEntry tables) (entries_in source) (entries_of sources) of) in
      subst (λ (n : ℕ). length (behind_sources tables own (source_flow tables 0 source) sources).rows ≤ n) (sym (pow-add 1000000 own (length (entries_of sources))) ∙ ap (λ (k : ℕ). 1000000 ^ k) (sym (length-append (entries_in source) (entries_of sources)))) all

-- ---- a query

-- a row that the select list makes is one of FROM's
pub rows_few : (query : Specification) (tables : List (List (List Val))) → AreOfEntries (entries_of query.sources) tables → length (flow query tables).rows ≤ 1000000 ^ length (entries_of query.sources)
rows_few query tables loaded =
    let from : List (List Val) = (from_sources query.sources tables).rows in
    let kept_rows : List (List Val) = (each (kept query.conjuncts) (from_sources query.sources tables)).rows in
    let all = from_few tables query.sources loaded in
    let where_few = few_each (λ (row : List Val). rows_given (kept query.conjuncts row)) 1 from (kept_one query.conjuncts) in
    let made_few = few_each (λ (row : List Val). rows_given (selected query.items row)) 1 kept_rows (selected_one query.items) in
    omega (arith, all, where_few, made_few)

power_few : (k : ℕ) → k ≤ 2 → 1000000 ^ k < 10 ^ 18
power_few zero h = omega arith
power_few (suc zero) h = omega arith
power_few (suc (suc zero)) h = omega arith
power_few (suc (suc (suc k))) h = absurd (omega (arith, h))

-- of at most two entries
pub pairs_few : (query : Specification) (tables : List (List (List Val))) → AreOfEntries (entries_of query.sources) tables → length (entries_of query.sources) ≤ 2 → length (flow query tables).rows < 10 ^ 18
pairs_few query tables loaded two =
    let all = rows_few query tables loaded in
    let power = power_few (length (entries_of query.sources)) two in
    omega (arith, all, power)
