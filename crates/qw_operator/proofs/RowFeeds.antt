-- What the block of a row of the scan feeds, whatever is innermost: the conjuncts of a first filter are tested while columns are read, and then the
-- operators follow.
use Rattle.std.proofs.Common.{◌≡◌, ℕ, suc, ◌+◌, ◌*◌, ◌≤◌, Bool, List, [], ◌∷◌, ◌++◌, length, length-append, map, Result, refl, sym, ap, ◌∙◌, subst, arith}
use Rattle.std.specs.List.{AllByRecursion}
use Rattle.qw_types.specs.declared.code.Code.{Code}
use Rattle.qw_types.specs.declared.value.Val.{Val}
use Rattle.qw_module.specs.declared.instruction.ValType.{ValType}
use Rattle.qw_meaning.specs.Flow.{Flow}
use Rattle.qw_scalar.specs.Conjuncts.{passes}
use Rattle.qw_scalar.specs.Evaluation.{at_row}
use Rattle.qw_scalar.specs.Expression.{Condition, Expression}
use Rattle.qw_scalar.specs.Units.{units_of_all}
use Rattle.qw_low.specs.Syntax.{Statement, seq}
use Rattle.qw_low.specs.State.{Cells, LowState}
use Rattle.qw_low.specs.Meaning.{meaning}
use Rattle.qw_low.specs.Size.{size}
use Rattle.qw_low.specs.Raising.{Kept}
use Rattle.qw_low.proofs.Promises.{Ends-more}
use Rattle.qw_low.proofs.Results.{at_least}
use Rattle.qw_expr.specs.Computes.{Known, AreDeclared}
use Rattle.qw_read.specs.Reading.{AreCellsIn, known_of}
use Rattle.qw_read.specs.declared.reader.Reader.{Reader}
use Rattle.qw_feed.specs.Feeds.{Any, Sink as FlowSink, FeedsTo, flow_by, where_true}
use Rattle.qw_feed.specs.Frames.{Below}
use Rattle.qw_feed.specs.Stages.{Test, tests_block}
use Rattle.qw_feed.proofs.FeedRules.{feeds_weaker, own_then}
use Rattle.qw_feed.proofs.Frames.{Never, below-less}
use Rattle.qw_feed.proofs.InnerFeeds.{tests_feed}
use Rattle.qw_physical.specs.Courses.{fed, sink_values, where_passed}
use Rattle.qw_physical.specs.Physical.{Operator, Sink, filter, probe}
use Rattle.qw_operator.specs.Carries.{IsReadRow, behind_filter, first_filter}
use Rattle.qw_operator.specs.Costs.{cost_to}
use Rattle.qw_operator.specs.Emitted.{AreDecided, known_after, last_end}
use Rattle.qw_operator.specs.Takes.{CanCarry, IsTestOver}
use Rattle.qw_operator.proofs.CarriedFeeds.{passed_units, tests_at}
use Rattle.qw_operator.proofs.OperatorsFeed.{FeedsEnd, carried_to_feeds}
use Rattle.qw_operator.proofs.ColumnReads.{At, after_within, at_kept, low_next, part_ends}
use Rattle.qw_operator.proofs.Filters.{Runs, Here, old_low}
use Rattle.qw_operator.proofs.KnownLeaves.{AreFit}
use Rattle.qw_operator.proofs.PairRows.{AreApart, IsNullAt}
use Rattle.qw_operator.proofs.Promised.{AreOwn, rest_own_types, tests_promised, truths_of, truths_pass}
use Rattle.qw_operator.proofs.ReadParts.{read_at, read_last, take_all}
use Rattle.qw_operator.proofs.Seen.{AreWithin, held_more, within_wider}
use Rattle.qw_operator.proofs.Served.{AreServed}
use Rattle.qw_operator.proofs.Stood.{Stood, built_of}

-- ---- a filter that comes first
pub fed_first : (built : List (List (List Val))) (operators : List Operator) (snk : Sink) (row : List Val) → fed built operators snk row ≡ flow_by (passes (first_filter operators) (at_row row)) (where_true (fed built (behind_filter operators) snk row))
fed_first built [] snk row = refl
fed_first built (filter cs ∷ operators) snk row = refl
fed_first built (probe p ∷ operators) snk row = refl

cost_first : (values : List Expression) (turn : List Val → ℕ) (built : List (List (List Val))) (operators : List Operator) (row : List Val) →
    cost_to values turn built operators row ≡ units_of_all (first_filter operators) (at_row row) + where_passed (passes (first_filter operators) (at_row row)) (cost_to values turn built (behind_filter operators) row)
cost_first values turn built [] row = let all : cost_to values turn built [] row ≡ 0 + cost_to values turn built [] row = omega arith in all
cost_first values turn built (filter cs ∷ operators) row = refl
cost_first values turn built (probe p ∷ operators) row = let all : cost_to values turn built (probe p ∷ operators) row ≡ 0 + cost_to values turn built (probe p ∷ operators) row = omega arith in all

can_first : (known : List Known) (operators : List Operator) (snk : Sink) → CanCarry known operators snk → AllByRecursion (IsTestOver known) (first_filter operators) × CanCarry known (behind_filter operators) snk
can_first known [] snk can = (tt, can)
can_first known (filter cs ∷ operators) snk can = (can.0, can.1)
can_first known (probe p ∷ operators) snk can = (tt, can)

-- what holds of all operators and doesn't ask for filters holds behind it
pub behind_first : (P : List Operator → Type 0) → ((cs : List Condition) (operators : List Operator) → P (filter cs ∷ operators) → P operators) → (operators : List Operator) → P operators → P (behind_filter operators)
behind_first P past [] holds = holds
behind_first P past (filter cs ∷ operators) holds = past cs operators holds
behind_first P past (probe p ∷ operators) holds = holds

many_ends : (literals : List Known) (readers : List Reader) (next done : ℕ) (es : List ℕ) (ds : List Condition) (gs : List Test) (own : List ValType) → AreDecided literals readers next done es ds gs own → length es ≡ length gs
many_ends literals readers next done [] [] [] own are = refl
many_ends literals readers next done (e ∷ es) (d ∷ ds) (g ∷ gs) own are = ap suc (many_ends literals readers (next + length are.0) e es ds gs are.1 are.4)
many_ends literals readers next done es ds gs own are = absurd are

module _ (c : Cells) (stoods : List Stood) (base : ℕ) (sink : FlowSink) (runs : Runs c stoods base sink) (most fuel many : ℕ) (types : List ValType) (End : List Known → (next : ℕ) → Statement → List ValType → Type 0) (snk : Sink) (turn : List Val → ℕ)
    (ends : FeedsEnd c stoods base sink most fuel many types End snk turn)
    (count : ℕ) (literals : List Known) (readers : List Reader) (low next : ℕ) (operators : List Operator) (a : Statement) (own : List ValType) (h : IsReadRow End literals readers next (first_filter operators) (behind_filter operators) a own) (base_low : base ≤ low) (room : next + length own ≤ many)
    (cells : AreCellsIn low next readers) (within : AreWithin low literals) (readers_within : AreWithin next (map known_of readers)) (declared : AreDeclared types (literals ++ map known_of readers)) (own_types : AreOwn types next own)
    (can : CanCarry (literals ++ map known_of readers) operators snk) (apart : AreApart (literals ++ map known_of readers) operators) (served : AreServed stoods operators) where
  abbrev known : List Known
  known = literals ++ map known_of readers

  abbrev built : List (List (List Val))
  built = built_of stoods

  abbrev units : List Operator → List Val → ℕ
  units os row = cost_to (sink_values snk) turn built os row

  abbrev cs : List Condition
  cs = first_filter operators

  abbrev later : List Operator
  later = behind_filter operators

  own_many : length own ≡ length h.tests_own + length h.rest_own
  own_many = ap (λ (o : List ValType). length o) h.own_is ∙ length-append h.tests_own h.rest_own

  module _ (row : List Val) (fit : AreFit row known) (nulls : IsNullAt row operators) where
    pub within_many : next ≤ many
    within_many = omega (arith, room)

    abbrev IsAt : ℕ → LowState → Type 0
    IsAt e s = At c stoods base sink runs most fuel many count literals readers row low next base_low within_many cells within readers_within e s

    pub read_row_feeds : (s : LowState) → IsAt 0 s → 1 + units operators row ≤ fuel → FeedsTo sink most fuel (1 + units operators row) (Below low) Any (fed built operators snk row) a s
    read_row_feeds s at enough =
        let f : Flow (List Val) = fed built later snk row in
        let rest_cost : ℕ = units later row in
        let N : ℕ = 1 + (units_of_all cs (at_row row) + where_passed (passes cs (at_row row)) rest_cost) in
        let N_is : 1 + units operators row ≡ N = ap (λ (n : ℕ). 1 + n) (cost_first (sink_values snk) turn built operators row) in
        let within_fuel : N ≤ fuel = omega (arith, N_is, enough) in
        let same = truths_pass cs row in
        let stage : ℕ → ℕ = λ j. read_at 0 h.ends (length readers) j in
        let last : stage (length h.tests) ≡ last_end 0 h.ends = ap stage (sym (many_ends literals readers next 0 h.ends cs h.tests h.tests_own h.decided)) ∙ read_last 0 h.ends (length readers) in
        let some : 1 ≤ N = omega arith in
        let le = low_next c stoods base sink runs most fuel many count literals readers row low next base_low within_many cells within readers_within in
        let after : ℕ = next + length h.tests_own in
        subst (λ (n : ℕ). FeedsTo sink most fuel n (Below low) Any (fed built operators snk row) a s) (sym N_is)
        (subst (λ (g : Flow (List Val)). FeedsTo sink most fuel N (Below low) Any g a s) (sym (fed_first built operators snk row))
        (subst (λ (b : Statement). FeedsTo sink most fuel N (Below low) Any (flow_by (passes cs (at_row row)) (where_true f)) b s) (sym h.is)
        (subst (λ (q : Result Bool Code). FeedsTo sink most fuel N (Below low) Any (flow_by q (where_true f)) (tests_block h.tests (seq h.reads h.rest)) s) same
        (tests_feed sink most fuel low (Below low) (old_low c stoods base sink runs low base_low) (λ rows t u kept. runs.kept low rows t u base_low kept) N many some (λ j t. IsAt (stage j) t) Any h.tests (truths_of cs row) f (seq h.reads h.rest) s
        (tests_promised literals readers row most fuel N low next many some within_fuel le IsAt (λ e t now. held_more c t (known_after literals readers e) row now.here.less now.here.held)
        (λ e t u kept now. at_kept c stoods base sink runs most fuel many count literals readers row low next base_low within_many cells within readers_within e t u kept now)
        (λ done upto b p t now long. part_ends c stoods base sink runs most fuel many count literals readers row low next base_low within_many cells within readers_within done upto b p t now)
        (length readers) stage 0 next 0 h.ends cs h.tests h.tests_own (λ j. let place : 0 + j ≡ j = omega arith in ap stage place) (omega arith) (omega (arith, room, own_many)) h.decided
        (tests_at known row N cs fit (omega arith) (can_first known operators snk can).0))
        at at.here.long
        (λ t kept now long is.
        let less = passed_units (passes cs (at_row row)) rest_cost (sym same ∙ is) in
        own_then sink most fuel low (Below low) (old_low c stoods base sink runs low base_low) (λ rows x y kept. runs.kept low rows x y base_low kept) N low (IsAt (length readers)) Any f h.reads h.rest t (omega arith)
        (Ends-more (λ u. Kept low t u × IsAt (length readers) u) Never (λ code. ⊥) (size h.reads) (size h.reads * N) (meaning most fuel h.reads t) (at_least (size h.reads) N some)
        (part_ends c stoods base sink runs most fuel many count literals readers row low next base_low within_many cells within readers_within (last_end 0 h.ends) (length readers) h.reads h.reading t (subst (λ (e : ℕ). IsAt e t) last now)))
        (λ u kept_u all.
        feeds_weaker sink most fuel (1 + rest_cost) N (Below after) (Below low) Any Any f h.rest u (omega (arith, less)) (λ i old. below-less low after i (omega (arith, le)) old) (λ w keeps any. tt)
        (carried_to_feeds c stoods base sink runs most fuel many types End snk turn ends later known known after row h.rest h.rest_own u (omega (arith, less, within_fuel)) (omega (arith, base_low, le)) (omega (arith, room, own_many)) refl
        (known_within after (omega arith)) declared (rest_own_types types next own h.tests_own h.rest_own h.own_is own_types) h.carried (can_first known operators snk can).1 (behind_first (AreApart known) (λ ds os rest. rest) operators apart) (behind_first (AreServed stoods) (λ ds os rest. rest) operators served) fit (behind_first (IsNullAt row) (λ ds os rest. rest) operators nulls)
        (subst (λ (rs : List Reader). Here c stoods many (literals ++ map known_of rs) row u) (take_all readers) all.here))))
        (λ t kept is. tt)))))
      where
        known_within : (n : ℕ) → next ≤ n → AreWithin n known
        known_within n further = within_wider next n known further
            (subst (λ (rs : List Reader). AreWithin next (literals ++ map known_of rs)) (take_all readers) (after_within c stoods base sink runs most fuel many count literals readers row low next base_low within_many cells within readers_within (length readers)))
