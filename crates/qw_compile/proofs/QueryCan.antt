-- Each pipeline of the code takes only what is known where it is evaluated: the columns of its entry, those that lookups keep, and literals.
use Rattle.std.proofs.Common.{◌≡◌, ◌⊎◌, ◌≤◌, ◌<◌, ℕ, zero, suc, ◌+◌, ◌/◌, nat_eq, Bool, true, false, ◌||◌, ◌==◌, if◌then◌else◌, Contains, None, List, [], ◌∷◌, ◌++◌, length, map, inl, inr, refl, sym, ap, subst, arith}
use Rattle.std.specs.List.{AllByRecursion, AllZip, flat_map, list_any}
use Rattle.std.proofs.lemmas.Bool.Decides.{nat_tests}
use Rattle.std.proofs.lemmas.Option.{slice_get_within}
use Rattle.qw_meaning.specs.Select.{Entry, Specification, conjuncts_on, entries_of}
use Rattle.qw_algebra.specs.Columns.{owner}
use Rattle.qw_algebra.specs.Node.{Node}
use Rattle.qw_pipe.specs.Pipes.{pipelines}
use Rattle.qw_types.specs.Value.{IsSized, type_scale}
use Rattle.qw_types.specs.declared.value.Ty.{Ty}
use Rattle.qw_types.specs.declared.value.Ty.TheVariants as types
use Rattle.qw_scalar.specs.Expression.{Expression, Condition, number, date, text, column}
use Rattle.qw_scalar.specs.Tree.{condition_of, expression_of}
use Rattle.qw_scalar.specs.Typing.{AreTyped}
use Rattle.qw_scalar.specs.declared.expression.Cond.{Cond}
use Rattle.qw_scalar.specs.declared.expression.Expr.{Expr}
use Rattle.qw_algebra.proofs.Lists.{all_append, all_map, all_more, all_of_any}
use Rattle.qw_expr.specs.Bindings.{Knows, TakesKnown, TakeKnown}
use Rattle.qw_expr.specs.Bindings as bindings
use Rattle.qw_expr.specs.Computes.{Known}
use Rattle.qw_leaves.specs.declared.leaf.Leaf.{Leaf}
use Rattle.qw_leaves.specs.declared.leaf.Leaf.TheVariants as leaf
use Rattle.qw_map.specs.Layout.{entry_offset}
use Rattle.qw_read.specs.Constants.{known_constant, literal_of}
use Rattle.qw_read.specs.Reading.{known_of}
use Rattle.qw_read.specs.Texts.{known_texts, text_operand}
use Rattle.qw_read.specs.declared.constant.Word.{Word}
use Rattle.qw_read.specs.declared.literal.Literal.{Literal}
use Rattle.qw_read.specs.declared.reader.Reader.{Reader}
use Rattle.qw_physical.specs.Coded.{operator_of, pipeline_of, sink_of}
use Rattle.qw_physical.specs.declared.pipeline.Operator as coded_operator
use Rattle.qw_physical.specs.declared.pipeline.Operator.TheVariants as operators
use Rattle.qw_physical.specs.declared.pipeline.Pipeline as coded
use Rattle.qw_physical.specs.declared.pipeline.Sink as coded_sink
use Rattle.qw_physical.specs.declared.pipeline.Sink.TheVariants as sinks
use Rattle.qw_physical.specs.Courses.{column_of, sink_values}
use Rattle.qw_physical.specs.Named.{typed_numbers}
use Rattle.qw_physical.specs.Physical.{MayBeNull, Operator, Pipeline, Sink, build, filter as filter_by, probe, select}
use Rattle.qw_physical.specs.Typed.{IsTypedOperator, IsTypedPhysical, IsTypedSink, IsValued}
use Rattle.qw_physical.specs.declared.pipeline.ReadColumn.{ReadColumn}
use Rattle.qw_physical.specs.Follows.{FollowsPipeline}
use Rattle.qw_physical.specs.Sides.{IsPlanned, builds_of, last_of}
use Rattle.qw_physical.specs.Spelled.{all_spelled}
use Rattle.qw_physical.proofs.QueryFew.{AreSizedColumns, IsFewCourse, IsFewOf, IsFewSink, few_follows, query_builds_few, query_last_few}
use Rattle.qw_physical.proofs.QueryNulls.{nulls_follow, query_builds_nulls, query_last_nulls}
use Rattle.qw_physical.proofs.QueryScans.{ScansOne, query_builds_scan, query_last_scans, scans_follow}
use Rattle.qw_physical.proofs.QuerySeen.{builds_seen, last_seen, seen_follows}
use Rattle.qw_physical.proofs.Reading.{same_number}
use Rattle.qw_physical.proofs.Results.{in_order}
use Rattle.qw_physical.proofs.Typing.{zip_all}
use Rattle.qw_operator.specs.Takes.{AreSized, CanCarry, CanSink, IsTestOver, IsValueOver, anywhere}
use Rattle.qw_compile.specs.Literals.{constants_from, literals_from}
use Rattle.qw_leaves.specs.Leaves.{HasLeaves, HaveLeaves, OfColumn, leaves_in, leaves_within}
use Rattle.qw_leaves.proofs.LeafLists.{all_back, all_front, all_joined, all_of_each, all_pairs, all_texts}
use Rattle.qw_leaves.proofs.TreeLeaves.{has_leaves, have_leaves}
use Rattle.qw_compile.proofs.WordLemmas.{all_words, of_all}
use Rattle.qw_leaves.proofs.LeafLemmas.{column_leaves, condition_column_leaves, condition_leaves_joined, leaves_joined}
use Rattle.qw_operator.proofs.KnownLeaves.{IsKnown, take_known, takes_known}
use Rattle.qw_compile.specs.QueryLiterals.{operator_leaves, pipeline_leaves, query_texts, query_words, sink_leaves}
use Rattle.qw_compile.specs.QueryLocals.{base_start, cell_start, read_by, read_from, readers_over, text_start, word_start}
use Rattle.qw_compile.specs.QueryMade.{CanStand, literal_locals, literals_by, readers_by, texts_by, words_by}
use Rattle.qw_physical.proofs.Shown.{IsAmong, IsColumn, IsSeen, Sees, Shows, ShowsIn, Within, among_owned, at_either, none_among, of_entry, owned_among}

-- ---- what is known

-- literals are, wherever columns are
abbrev pub IsLiteralOf : List Known → Leaf → Type 0
IsLiteralOf known (leaf.Number v s) = Knows known (number v s)
IsLiteralOf known (leaf.Date d) = Knows known (date d)
IsLiteralOf known (leaf.Text t) = Knows known (text t)
IsLiteralOf known (leaf.Column i ty) = Unit {0}

abbrev pub KnowsAll : List Known → List ReadColumn → Type 0
KnowsAll known seen = (i : ℕ) (ty : Ty) → IsAmong (typed_numbers seen) i ty → Knows known (column i ty)

module _ (P : Leaf → Type 0) where
  abbrev pub Gives : List Known → Type 0
  Gives known = (l : Leaf) → P l → IsLiteralOf known l

  module _ (known : List Known) (seen : List ReadColumn) (gives : Gives known) (has : KnowsAll known seen) where
    leaf_seen : (l : Leaf) → P l → OfColumn (IsAmong (typed_numbers seen)) l → IsKnown known l
    leaf_seen (leaf.Number v s) h g = gives (leaf.Number v s) h
    leaf_seen (leaf.Date d) h g = gives (leaf.Date d) h
    leaf_seen (leaf.Text t) h g = gives (leaf.Text t) h
    leaf_seen (leaf.Column i ty) h g = has i ty g

    pub takes_seen : (e : Expression) → HasLeaves P e → Shows seen e → TakesKnown known e
    takes_seen e h g = takes_known known e (leaves_joined P (OfColumn (IsAmong (typed_numbers seen))) (IsKnown known) leaf_seen e h (column_leaves (IsAmong (typed_numbers seen)) e g))

    pub take_seen : (c : Condition) → HaveLeaves P c → ShowsIn seen c → TakeKnown known c
    take_seen c h g =
        take_known known c (condition_leaves_joined P (OfColumn (IsAmong (typed_numbers seen))) (IsKnown known) leaf_seen c h (condition_column_leaves (IsAmong (typed_numbers seen)) c g))

    values_over : (es : List Expression) → AllByRecursion IsValued es → AllByRecursion (HasLeaves P) es → AllByRecursion (Shows seen) es → AllByRecursion (IsValueOver known) es
    values_over [] v h g = tt
    values_over (e ∷ es) v h g = ((v.0, takes_seen e h.0 g.0), values_over es v.1 h.1 g.1)

    tests_over : (cs : List Condition) → AllByRecursion AreTyped cs → AllByRecursion (HaveLeaves P) cs → AllByRecursion (ShowsIn seen) cs → AllByRecursion (IsTestOver known) cs
    tests_over [] v h g = tt
    tests_over (c ∷ cs) v h g = ((v.0, take_seen c h.0 g.0), tests_over cs v.1 h.1 g.1)

  -- the leaves of a pipeline's trees
  abbrev pub OperatorLeaves : Operator → Type 0
  OperatorLeaves (filter_by cs) = AllByRecursion (HaveLeaves P) cs
  OperatorLeaves (probe p) = AllByRecursion (HasLeaves P) p.key × AllByRecursion (HaveLeaves P) p.on

  abbrev pub SinkLeaves : Sink → Type 0
  SinkLeaves (build b) = AllByRecursion (HasLeaves P) b.key
  SinkLeaves (select items) = AllByRecursion (HasLeaves P) items

-- more that is known
known_behind : (k : Known) (ks known : List Known) → bindings.IsAmong k known → bindings.IsAmong k (ks ++ known)
known_behind k [] known h = h
known_behind k (x ∷ ks) known h = inr (known_behind k ks known h)

knows_behind : (ks known : List Known) (e : Expression) → Knows known e → Knows (ks ++ known) e
knows_behind ks known e h = (h.0, known_behind (record { expression = e; operand = h.0 }) ks known h.1)

literals_more : (xs ys : List Known) → ((e : Expression) → Knows xs e → Knows ys e) → (l : Leaf) → IsLiteralOf xs l → IsLiteralOf ys l
literals_more xs ys more (leaf.Number v s) h = more (number v s) h
literals_more xs ys more (leaf.Date d) h = more (date d) h
literals_more xs ys more (leaf.Text t) h = more (text t) h
literals_more xs ys more (leaf.Column i ty) h = tt

pub literals_behind : (ks known : List Known) (l : Leaf) → IsLiteralOf known l → IsLiteralOf (ks ++ known) l
literals_behind ks known l h = literals_more known (ks ++ known) (knows_behind ks known) l h

pub knows_kept : (kept seen : List ReadColumn) (known : List Known) → KnowsAll known seen → KnowsAll (map anywhere kept ++ known) (kept ++ seen)
knows_kept [] seen known has i ty h = has i ty h
knows_kept (c ∷ kept) seen known has i ty h = one (at_either (c.number, c.ty) (typed_numbers (kept ++ seen)) (i, ty) h) (λ g. knows_kept kept seen known has i ty g)
  where
    one : IsColumn c i ty ⊎ IsAmong (typed_numbers (kept ++ seen)) i ty → (IsAmong (typed_numbers (kept ++ seen)) i ty → Knows (map anywhere kept ++ known) (column i ty))
        → Knows (map anywhere (c ∷ kept) ++ known) (column i ty)
    one (inl e) rest = subst (λ (p : ℕ × Ty). Knows (map anywhere (c ∷ kept) ++ known) (column p.0 p.1)) e ((anywhere c).operand, inl refl)
    one (inr g) rest = let r = rest g in (r.0, inr r.1)

-- ---- columns have kinds
type_fits : (ty : Ty) → IsSized ty → type_scale ty ≤ 18
type_fits types.Integer h = omega arith
type_fits (types.Decimal precision scale) h =
    let most : precision ≤ 18 = h.1 in
    let less : scale ≤ precision = h.2 in
    omega (arith, most, less)
type_fits types.Date h = omega arith
type_fits (types.Varchar limit) h = omega arith

columns_valued : (kept : List ReadColumn) → AreSized kept → AllByRecursion IsValued (map column_of kept)
columns_valued [] h = tt
columns_valued (c ∷ kept) h = ((type_fits c.ty h.0, refl), columns_valued kept h.1)

-- columns have no literals
columns_leaves : (P : Leaf → Type 0) → ((i : ℕ) (ty : Ty) → P (leaf.Column i ty)) → (kept : List ReadColumn) → AllByRecursion (HasLeaves P) (map column_of kept)
columns_leaves P any [] = tt
columns_leaves P any (c ∷ kept) = (any c.number c.ty, columns_leaves P any kept)

-- ---- a pipeline

-- Keys and kept columns are few, and those that a LEFT JOIN's entries keep may be null.
abbrev pub IsCarriable : Operator → Type 0
IsCarriable (filter_by cs) = Unit {0}
IsCarriable (probe p) = (length p.key ≤ 1000) × (length p.kept ≤ 512) × AreSized p.kept × MayBeNull (probe p)

pub record CanBeCarried (p : Pipeline) : Type 0 where
  pub operators : AllByRecursion IsCarriable p.operators
  pub sink : IsFewSink 1000 512 p.sink

carriable : (operators : List Operator) → AllByRecursion (IsFewOf 1000 512) operators → AllByRecursion MayBeNull operators → AllByRecursion IsCarriable operators
carriable [] few nulls = tt
carriable (filter_by cs ∷ operators) few nulls = (tt, carriable operators few.1 nulls.1)
carriable (probe p ∷ operators) few nulls = ((few.0.0, few.0.1, few.0.2, nulls.0), carriable operators few.1 nulls.1)

carried : (p : Pipeline) → IsFewCourse 1000 512 p → AllByRecursion MayBeNull p.operators → CanBeCarried p
carried p few nulls = record { operators = carriable p.operators few.operators nulls; sink = few.sink }

module _ (P : Leaf → Type 0) (any : (i : ℕ) (ty : Ty) → P (leaf.Column i ty)) where
  sink_can : (known : List Known) (seen : List ReadColumn) → Gives P known → KnowsAll known seen → (sink : Sink) → IsTypedSink sink → SinkLeaves P sink → CanSink sink → AllByRecursion (Shows seen) (sink_values sink)
      → AllByRecursion (IsValueOver known) (sink_values sink)
  sink_can known seen gives has (build b) typed leaves can shows =
      all_joined (IsValueOver known) b.key (map column_of b.kept)
      (values_over P known seen gives has b.key typed leaves (all_front (Shows seen) b.key (map column_of b.kept) shows))
      (values_over P known seen gives has (map column_of b.kept) (columns_valued b.kept can.2) (columns_leaves P any b.kept) (all_back (Shows seen) b.key (map column_of b.kept) shows))
  sink_can known seen gives has (select items) typed leaves can shows = values_over P known seen gives has items typed leaves shows

  pub can_carry : (operators : List Operator) (sink : Sink) (known : List Known) (seen : List ReadColumn) → Gives P known → KnowsAll known seen
      → AllByRecursion IsTypedOperator operators → IsTypedSink sink → AllByRecursion (OperatorLeaves P) operators → SinkLeaves P sink → AllByRecursion IsCarriable operators → CanSink sink
      → Sees seen operators (sink_values sink) → CanCarry known operators sink
  can_carry [] sink known seen gives has typed typed_sink leaves leaves_sink few can sees = (sink_can known seen gives has sink typed_sink leaves_sink can sees, can)
  can_carry (filter_by cs ∷ operators) sink known seen gives has typed typed_sink leaves leaves_sink few can sees =
      (tests_over P known seen gives has cs typed.0 leaves.0 sees.0, can_carry operators sink known seen gives has typed.1 typed_sink leaves.1 leaves_sink few.1 can sees.1)
  can_carry (probe p ∷ operators) sink known seen gives has typed typed_sink leaves leaves_sink few can sees =
      let all : List Known = map anywhere p.kept ++ known in
      let still : Gives P all = λ l h. literals_behind (map anywhere p.kept) known l (gives l h) in
      let more : KnowsAll all (p.kept ++ seen) = knows_kept p.kept seen known has in (
        values_over P known seen gives has p.key typed.0.0 leaves.0.0 sees.0,
        few.0,
        tests_over P all (p.kept ++ seen) still more p.on typed.0.1 leaves.0.1 sees.1.0,
        can_carry operators sink all (p.kept ++ seen) still more typed.1 typed_sink leaves.1 leaves_sink few.1 can sees.1.1,
      )

-- ---- literals are known

at_front : (k : Known) (ks : List Known) → Knows (k ∷ ks) k.expression
at_front k ks = (k.operand, inl refl)

further : (k : Known) (ks : List Known) (e : Expression) → Knows ks e → Knows (k ∷ ks) e
further k ks e h = (h.0, inr h.1)

known_front : (k : Known) (xs ys : List Known) → bindings.IsAmong k xs → bindings.IsAmong k (xs ++ ys)
known_front k [] ys h = absurd h
known_front k (x ∷ xs) ys (inl e) = inl e
known_front k (x ∷ xs) ys (inr h) = inr (known_front k xs ys h)

knows_front : (xs ys : List Known) (e : Expression) → Knows xs e → Knows (xs ++ ys) e
knows_front xs ys e h = (h.0, known_front (record { expression = e; operand = h.0 }) xs ys h.1)

texts_known : (x at : ℕ) (ts : List (List ℕ)) → AllByRecursion (λ (t : List ℕ). Knows (known_texts (literals_from x at ts) ts) (text t)) ts
texts_known x at [] = tt
texts_known x at (t ∷ ts) =
    let l : Literal = record { at = at; count = length t; cell = record { value = x; length = x + 1; null = None } } in
    let k : Known = record { expression = text t; operand = text_operand l } in
    let rest : List Known = known_texts (literals_from (x + 2) (at + length t) ts) ts in (
      at_front k rest,
      all_more (λ (u : List ℕ). Knows rest (text u)) (λ (u : List ℕ). Knows (k ∷ rest) (text u)) ts (λ u h. further k rest (text u) h) (texts_known (x + 2) (at + length t) ts),
    )

words_known : (x : ℕ) (ws : List Word) → AllByRecursion (λ (w : Word). Knows (map known_constant (constants_from x ws)) (literal_of w)) ws
words_known x [] = tt
words_known x (w ∷ ws) =
    let k : Known = known_constant (record { word = w; local = x }) in
    let rest : List Known = map known_constant (constants_from (x + 1) ws) in (
      at_front k rest,
      all_more (λ (v : Word). Knows rest (literal_of v)) (λ (v : Word). Knows (k ∷ rest) (literal_of v)) ws (λ v h. further k rest (literal_of v) h) (words_known (x + 1) ws),
    )

no_column : (l : Leaf) → OfColumn (λ i ty. Unit {0}) l
no_column (leaf.Number v s) = tt
no_column (leaf.Date d) = tt
no_column (leaf.Text t) = tt
no_column (leaf.Column i ty) = tt

contained : (P : List ℕ → Type 0) (ts : List (List ℕ)) (t : List ℕ) → AllByRecursion P ts → Contains ts t → P t
contained P [] t all (k, less, same) = absurd (omega (arith, less))
contained P (x ∷ ts) t all (zero, less, same) = subst P same all.0
contained P (x ∷ ts) t all (suc k, less, same) = contained P ts t all.1 (k, omega (arith, less), same)

-- where the texts of pipelines are among these
pub literals_known : (tables n : ℕ) (ts : List (List ℕ)) (ps : List coded.Pipeline) → AllByRecursion (Contains ts) (query_texts ps) → AllByRecursion (IsLiteralOf (literals_by tables n ts ps)) (flat_map pipeline_leaves ps)
literals_known tables n ts ps among =
    let all : List Leaf = flat_map pipeline_leaves ps in
    let texts : List Known = known_texts (texts_by tables n ts) ts in
    let words : List Known = map known_constant (words_by tables ts ps) in
    of_all (λ (t : List ℕ). Knows (texts ++ words) (text t)) (λ (w : Word). Knows (texts ++ words) (literal_of w)) (λ i ty. Unit {0}) (IsLiteralOf (texts ++ words))
    (λ t h. h) (λ v s h. h) (λ d h. h) (λ i ty h. tt) all
    (all_texts (λ (t : List ℕ). Knows (texts ++ words) (text t)) all
    (all_more (Contains ts) (λ (t : List ℕ). Knows (texts ++ words) (text t)) (query_texts ps) (λ t h. knows_front texts words (text t) (contained (λ (u : List ℕ). Knows texts (text u)) ts t (texts_known (text_start tables) (entry_offset n) ts) h)) among))
    (all_words (λ (w : Word). Knows (texts ++ words) (literal_of w)) all
    (all_more (λ (w : Word). Knows words (literal_of w)) (λ (w : Word). Knows (texts ++ words) (literal_of w)) (query_words ps) (λ w h. knows_behind texts words (literal_of w) h)
    (words_known (word_start tables (length ts)) (query_words ps))))
    (all_of_any (OfColumn (λ i ty. Unit {0})) all no_column)

-- those of a pipeline's trees
module _ (R : Leaf → Type 0) where
  conditions_have : (cs : List Cond) → AllByRecursion R (flat_map leaves_within cs) → AllByRecursion (HaveLeaves R) (map condition_of cs)
  conditions_have cs h =
      all_map (HaveLeaves R) condition_of cs
      (all_more (λ (c : Cond). AllByRecursion R (leaves_within c)) (λ (c : Cond). HaveLeaves R (condition_of c)) cs (λ c g. have_leaves R c g) (all_of_each R leaves_within cs h))

  expressions_have : (es : List Expr) → AllByRecursion R (flat_map leaves_in es) → AllByRecursion (HasLeaves R) (map expression_of es)
  expressions_have es h =
      all_map (HasLeaves R) expression_of es
      (all_more (λ (e : Expr). AllByRecursion R (leaves_in e)) (λ (e : Expr). HasLeaves R (expression_of e)) es (λ e g. has_leaves R e g) (all_of_each R leaves_in es h))

  operator_has : (o : coded_operator.Operator) → AllByRecursion R (operator_leaves o) → OperatorLeaves R (operator_of o)
  operator_has (operators.Filter conjuncts) h = conditions_have conjuncts.items h
  operator_has (operators.Probe p) h = (
    expressions_have p.key.items (all_front R (flat_map leaves_in p.key.items) (flat_map leaves_within p.on.items) h),
    conditions_have p.on.items (all_back R (flat_map leaves_in p.key.items) (flat_map leaves_within p.on.items) h),
  )

  pub operators_have : (os : List coded_operator.Operator) → AllByRecursion R (flat_map operator_leaves os) → AllByRecursion (OperatorLeaves R) (map operator_of os)
  operators_have os h =
      all_map (OperatorLeaves R) operator_of os
      (all_more (λ (o : coded_operator.Operator). AllByRecursion R (operator_leaves o)) (λ (o : coded_operator.Operator). OperatorLeaves R (operator_of o)) os operator_has (all_of_each R operator_leaves os h))

  pub sink_has : (s : coded_sink.Sink) → AllByRecursion R (sink_leaves s) → SinkLeaves R (sink_of s)
  sink_has (sinks.Build b) h = expressions_have b.key.items h
  sink_has (sinks.Select items) h = expressions_have items.items h

-- ---- columns are known

readers_know : (t b c k entry : ℕ) (columns : List ReadColumn) → KnowsAll (map known_of (readers_over entry (read_from t b c k columns))) (of_entry entry columns)
readers_know t b c k entry [] i ty h = absurd (none_among (i, ty) h)
readers_know t b c k entry (first ∷ columns) i ty h = one (nat_eq entry (first.number / 64)) h (λ g. readers_know t (b + 3) (c + 3) (k + 1) entry columns i ty g)
  where
    others : List Reader
    others = readers_over entry (read_from t (b + 3) (c + 3) (k + 1) columns)

    Rest : Type 0
    Rest = IsAmong (typed_numbers (of_entry entry columns)) i ty → Knows (map known_of others) (column i ty)

    made : Reader
    made = read_by t b c k first

    here : IsColumn first i ty ⊎ IsAmong (typed_numbers (of_entry entry columns)) i ty → Rest → Knows (known_of made ∷ map known_of others) (column i ty)
    here (inl e) rest = subst (λ (p : ℕ × Ty). Knows (known_of made ∷ map known_of others) (column p.0 p.1)) e (at_front (known_of made) (map known_of others))
    here (inr g) rest = further (known_of made) (map known_of others) (column i ty) (rest g)

    one : (q : Bool) → IsAmong (typed_numbers (if q then first ∷ of_entry entry columns else of_entry entry columns)) i ty → Rest → Knows (map known_of (if q then made ∷ others else others)) (column i ty)
    one true g rest = here (at_either (first.number, first.ty) (typed_numbers (of_entry entry columns)) (i, ty) g) rest
    one false g rest = rest g

readers_count : (t b c k entry : ℕ) (columns : List ReadColumn) → length (readers_over entry (read_from t b c k columns)) ≡ length (of_entry entry columns)
readers_count t b c k entry [] = refl
readers_count t b c k entry (first ∷ columns) = one (nat_eq entry (first.number / 64)) (readers_count t (b + 3) (c + 3) (k + 1) entry columns)
  where
    others : List Reader
    others = readers_over entry (read_from t (b + 3) (c + 3) (k + 1) columns)

    one : (q : Bool) → length others ≡ length (of_entry entry columns) → length (if q then read_by t b c k first ∷ others else others) ≡ length (if q then first ∷ of_entry entry columns else of_entry entry columns)
    one true rest = ap suc rest
    one false rest = rest

knows_all_behind : (ks known : List Known) (seen : List ReadColumn) → KnowsAll known seen → KnowsAll (ks ++ known) seen
knows_all_behind ks known seen has i ty h = knows_behind ks known (column i ty) (has i ty h)

knows_within : (known : List Known) (less more : List ReadColumn) → Within less more → KnowsAll known more → KnowsAll known less
knows_within known less more within has i ty h = has i ty (within i ty h)

within_entry : (entry : ℕ) (less more : List ReadColumn) → Within less more → Within (of_entry entry less) (of_entry entry more)
within_entry entry less more within i ty h =
    let own : ℕ → Bool = λ j. nat_eq entry (j / 64) in
    let parts = owned_among own less i ty h in
    among_owned own more i ty parts.0 (within i ty parts.1)

-- ---- pipelines of the code

few_sink : (s : Sink) → IsFewSink 1000 512 s → CanSink s
few_sink (build b) h = h
few_sink (select items) h = h

-- `kept` are columns that the pipeline may name, and `columns` those that are read, each of `kept` among them
pub can_stand : (tables : ℕ) (ts : List (List ℕ)) (ps : List coded.Pipeline) (kept columns : List ReadColumn) (p : coded.Pipeline) → Within kept columns → AllByRecursion (IsLiteralOf (literals_by tables (length columns) ts ps)) (pipeline_leaves p)
    → 1 ≤ length (of_entry p.entry columns) → IsTypedPhysical (pipeline_of p) → CanBeCarried (pipeline_of p) → IsSeen kept (pipeline_of p) → CanStand tables ts ps columns (pipeline_of p)
can_stand tables ts ps kept columns p within leaves some typed few seen =
    let L : List Known = literals_by tables (length columns) ts ps in
    let rs : List Reader = readers_over p.entry (readers_by tables ts ps columns) in
    let b : ℕ = base_start tables (literal_locals ts ps) in
    let c : ℕ = cell_start tables (literal_locals ts ps) (length columns) in
    let count = readers_count tables b c 0 p.entry columns in
    record {
      some = omega (arith, some, count);
      takes = can_carry (IsLiteralOf L) (λ i ty. tt) (map operator_of p.operators.items) (sink_of p.sink) (L ++ map known_of rs) (of_entry p.entry kept)
          (λ l h. literals_more L (L ++ map known_of rs) (knows_front L (map known_of rs)) l h)
          (knows_within (L ++ map known_of rs) (of_entry p.entry kept) (of_entry p.entry columns) (within_entry p.entry kept columns within)
          (knows_all_behind L (map known_of rs) (of_entry p.entry columns) (readers_know tables b c 0 p.entry columns)))
          typed.operators typed.sink
          (operators_have (IsLiteralOf L) p.operators.items (all_front (IsLiteralOf L) (flat_map operator_leaves p.operators.items) (sink_leaves p.sink) leaves))
          (sink_has (IsLiteralOf L) p.sink (all_back (IsLiteralOf L) (flat_map operator_leaves p.operators.items) (sink_leaves p.sink) leaves))
          few.operators (few_sink (sink_of p.sink) few.sink) seen;
    }

abbrev pub IsReadyPipeline : (kept columns : List ReadColumn) → Pipeline → Type 0
IsReadyPipeline kept columns p = (1 ≤ length (of_entry p.entry columns)) × (IsTypedPhysical p × (CanBeCarried p × IsSeen kept p))

pub all_stand : (tables : ℕ) (ts : List (List ℕ)) (ps : List coded.Pipeline) (kept columns : List ReadColumn) → AllByRecursion (Contains ts) (query_texts ps) → Within kept columns → AllByRecursion (IsReadyPipeline kept columns) (map pipeline_of ps)
    → AllByRecursion (λ (q : coded.Pipeline). CanStand tables ts ps columns (pipeline_of q)) ps
all_stand tables ts ps kept columns among within h = each ps (all_of_each (IsLiteralOf (literals_by tables (length columns) ts ps)) pipeline_leaves ps (literals_known tables (length columns) ts ps among)) h
  where
    each : (qs : List coded.Pipeline) → AllByRecursion (λ (q : coded.Pipeline). AllByRecursion (IsLiteralOf (literals_by tables (length columns) ts ps)) (pipeline_leaves q)) qs
        → AllByRecursion (IsReadyPipeline kept columns) (map pipeline_of qs) → AllByRecursion (λ (q : coded.Pipeline). CanStand tables ts ps columns (pipeline_of q)) qs
    each [] leaves g = tt
    each (q ∷ qs) leaves g = (can_stand tables ts ps kept columns q within leaves.0 g.0.0 g.0.1.0 g.0.1.1.0 g.0.1.1.1, each qs leaves.1 g.1)

-- ---- those of a query

-- each entry has a column that is read
abbrev pub HasEach : List ReadColumn → (entries : ℕ) → Type 0
HasEach columns n = (entry : ℕ) → entry < n → list_any (λ (c : ReadColumn). owner c.number == entry) columns ≡ true

nat_same : (x y : ℕ) → x ≡ y → nat_eq y x ≡ true
nat_same x y h = grind (arith, nat_tests)

same_owner : (x y : ℕ) → (x == y) ≡ true → nat_eq y x ≡ true
same_owner x y h = nat_same x y (same_number x y h)

any_some : (entry : ℕ) (columns : List ReadColumn) → list_any (λ (c : ReadColumn). owner c.number == entry) columns ≡ true → 1 ≤ length (of_entry entry columns)
any_some entry [] h = absurd cc
any_some entry (c ∷ columns) h = one (owner c.number == entry) refl h (λ g. any_some entry columns g)
  where
    rest : List ReadColumn
    rest = of_entry entry columns

    here : (q : Bool) → q ≡ true → 1 ≤ length (if q then c ∷ rest else rest)
    here true e = omega arith
    here false e = absurd cc

    later : (q : Bool) → 1 ≤ length rest → 1 ≤ length (if q then c ∷ rest else rest)
    later true g = omega arith
    later false g = g

    one : (b : Bool) → (owner c.number == entry) ≡ b → (b || list_any (λ (d : ReadColumn). owner d.number == entry) columns) ≡ true
        → (list_any (λ (d : ReadColumn). owner d.number == entry) columns ≡ true → 1 ≤ length rest) → 1 ≤ length (if nat_eq entry (c.number / 64) then c ∷ rest else rest)
    one true e g f = here (nat_eq entry (c.number / 64)) (same_owner (owner c.number) entry e)
    one false e g f = later (nat_eq entry (c.number / 64)) (f g)

scan_some : (entries : List Entry) (columns : List ReadColumn) → HasEach columns (length entries) → (p : Pipeline) → ScansOne entries p → 1 ≤ length (of_entry p.entry columns)
scan_some entries columns each p s = any_some p.entry columns (each p.entry (slice_get_within entries p.entry s.one s.stands))

-- A query's pipelines are spelled with the columns that it names, `kept`; those that are read, `columns`, are these and others. What is planned over
-- no tables at all tells of the pipelines what it tells over any.
module _ (query : Specification) (kept columns : List ReadColumn) (node : Node) (planned : IsPlanned query [] kept node)
    (on : AllByRecursion (ShowsIn kept) (conjuncts_on query.sources)) (conjuncts : AllByRecursion (ShowsIn kept) query.conjuncts) (items : AllByRecursion (Shows kept) query.items)
    (many : length kept ≤ 512) (fit : AreSizedColumns kept) where
  abbrev entries : List Entry
  entries = entries_of query.sources

  abbrev IsFewNull : Pipeline → Type 0
  IsFewNull p = IsFewCourse 1000 512 p × AllByRecursion MayBeNull p.operators

  abbrev IsFine : Pipeline → Type 0
  IsFine p = ScansOne entries p × (IsFewNull p × IsSeen kept p)

  spelled_fine : AllByRecursion IsFine (all_spelled kept 0 (pipelines node))
  spelled_fine =
      subst (AllByRecursion IsFine) (sym (in_order kept node))
      (all_append IsFine (builds_of kept node) (last_of kept node ∷ [])
      (all_pairs (ScansOne entries) (λ p. IsFewNull p × IsSeen kept p) (builds_of kept node) (query_builds_scan query [] kept node planned)
      (all_pairs IsFewNull (IsSeen kept) (builds_of kept node)
      (all_pairs (IsFewCourse 1000 512) (λ p. AllByRecursion MayBeNull p.operators) (builds_of kept node) (query_builds_few query [] kept node planned many fit) (query_builds_nulls query [] kept node planned))
      (builds_seen query [] kept node planned on conjuncts items)))
      ((query_last_scans query [] kept node planned, ((query_last_few query [] kept node planned many fit, query_last_nulls query [] kept node planned), last_seen query [] kept node planned on conjuncts items)), tt))

  -- so each of the code's is ready
  pub query_ready : HasEach columns (length entries) → (qs : List Pipeline) → AllZip FollowsPipeline (all_spelled kept 0 (pipelines node)) qs → AllByRecursion IsTypedPhysical qs → AllByRecursion (IsReadyPipeline kept columns) qs
  query_ready each qs follow typed =
      let fine : AllByRecursion IsFine qs =
      zip_all FollowsPipeline IsFine IsFine (λ p q z h. (scans_follow entries p q z h.0, ((few_follows 1000 512 p q z h.1.0.0, nulls_follow p q z h.1.0.1), seen_follows kept p q z h.1.1))) (all_spelled kept 0 (pipelines node)) qs follow spelled_fine in
      all_more (λ p. IsFine p × IsTypedPhysical p) (IsReadyPipeline kept columns) qs (λ p h. (scan_some entries columns each p h.0.0, (h.1, (carried p h.0.1.0.0 h.0.1.0.1, h.0.1.1))))
      (all_pairs IsFine IsTypedPhysical qs fine typed)

  -- and can stand
  pub query_stands : Within kept columns → HasEach columns (length entries) → (count : ℕ) (ts : List (List ℕ)) (ps : List coded.Pipeline) → AllByRecursion (Contains ts) (query_texts ps) → AllZip FollowsPipeline (all_spelled kept 0 (pipelines node)) (map pipeline_of ps)
      → AllByRecursion IsTypedPhysical (map pipeline_of ps) → AllByRecursion (λ (q : coded.Pipeline). CanStand count ts ps columns (pipeline_of q)) ps
  query_stands within each count ts ps among follow typed = all_stand count ts ps kept columns among within (query_ready each (map pipeline_of ps) follow typed)

  -- and scans an entry
  pub query_scans : (qs : List Pipeline) → AllZip FollowsPipeline (all_spelled kept 0 (pipelines node)) qs → AllByRecursion (ScansOne entries) qs
  query_scans qs follow =
      zip_all FollowsPipeline IsFine (ScansOne entries) (λ p q z h. scans_follow entries p q z h.0) (all_spelled kept 0 (pipelines node)) qs follow spelled_fine
