-- From the places of literals and columns to where they stand in a query's statement, and how long that is.
use Rattle.std.proofs.Common.{◌≡◌, ℕ, ◌+◌, ◌*◌, ◌≤◌, eqb, Option, Some, IfSome, List, [], ◌∷◌, ◌++◌, length, map, sum_by, refl, sym, ap₂, subst, subst₂, arith}
use Rattle.std.specs.List.{AllByRecursion, IsDistinct}
use Rattle.qw_expr.specs.Computes.{Known}
use Rattle.qw_read.specs.declared.reader.Reader.{Reader}
use Rattle.qw_physical.specs.Coded.{operator_of, pipeline_of, sink_of}
use Rattle.qw_physical.specs.Named.{numbers}
use Rattle.qw_physical.specs.Physical as physical
use Rattle.qw_physical.specs.declared.pipeline.Pipeline.{Pipeline}
use Rattle.qw_physical.specs.declared.pipeline.ReadColumn.{ReadColumn}
use Rattle.qw_operator.specs.Takes.{CanCarry}
use Rattle.qw_group_pipeline.specs.Groups.{all_anywhere}
use Rattle.qw_group_pipeline.specs.declared.columns.ValueColumn.{ValueColumn}
use Rattle.qw_compile.specs.CourseSpan.{course_span}
use Rattle.qw_compile.specs.Placed.{literals_placed}
use Rattle.qw_compile.specs.QueryLiterals.{query_words}
use Rattle.qw_compile.specs.QueryLocals.{own_start}
use Rattle.qw_compile.specs.QueryMade.{CanStand, literal_locals, literals_by, readers_by}
use Rattle.qw_compile.proofs.LeavesFew.{few_words}
use Rattle.qw_compile.proofs.QueryPlaced.{literals_are}
use Rattle.qw_compile_whole.specs.GroupedLimits.{AreShortGrouped, walk_span}
use Rattle.qw_compile_whole.specs.GroupedPlaced.{CanWalk}
use Rattle.qw_compile_whole.specs.StatementAround.{ArePlacedPasses}
use Rattle.qw_compile_whole.specs.declared.statement_around.PlacedPasses.{PlacedPasses}
use Rattle.qw_compile_whole.proofs.GatheringLengths.{places_short, words_few}

pub some_of : {X : Type 0} (P : X → Type 0) (o : Option X) (x : X) → o ≡ Some x → IfSome o P → P x
some_of {X} P o x is h = subst (λ (r : Option X). IfSome r P) is h

-- ---- the last one
pub snoc_same : {A : Type 0} (xs ys : List A) (x y : A) → xs ++ x ∷ [] ≡ ys ++ y ∷ [] → (xs ≡ ys) × (x ≡ y)
snoc_same [] [] x y e = (refl, cc)
snoc_same [] (b ∷ []) x y e = absurd cc
snoc_same [] (b ∷ c ∷ ys) x y e = absurd cc
snoc_same (a ∷ []) [] x y e = absurd cc
snoc_same (a ∷ c ∷ xs) [] x y e = absurd cc
snoc_same {A} (a ∷ xs) (b ∷ ys) x y e =
    let head : a ≡ b = cc in
    let tail : xs ++ x ∷ [] ≡ ys ++ y ∷ [] = cc in
    let rest = snoc_same xs ys x y tail in
    (ap₂ (λ (z : A) (l : List A). z ∷ l) head rest.0, rest.1)

module _ (tables : ℕ) (texts : List (List ℕ)) (ps : List Pipeline) (behind : Pipeline) (columns : List ReadColumn) (m : PlacedPasses) (are : ArePlacedPasses tables texts ps behind columns m) where
  -- what holds of the places holds of where these stand
  pub placed_as : (P : List Known → List Reader → ℕ → Type 0) → P (literals_placed m.places) m.places.readers.items m.first →
      P (literals_by tables (length columns) texts (ps ++ behind ∷ [])) (readers_by tables texts (ps ++ behind ∷ []) columns) (own_start tables (literal_locals texts (ps ++ behind ∷ [])) (length columns))
  placed_as P h =
      subst (P (literals_by tables (length columns) texts (ps ++ behind ∷ [])) (readers_by tables texts (ps ++ behind ∷ []) columns)) are.first_is
      (subst₂ (λ (l : List Known) (rs : List Reader). P l rs m.first) (literals_are tables texts (ps ++ behind ∷ []) columns m.places are.are) are.are.readers h)

  pub walk_placed : (key : List ReadColumn) (values : List ValueColumn) (p : physical.Pipeline) → CanCarry (all_anywhere key values ++ literals_by tables (length columns) texts (ps ++ behind ∷ [])) p.operators p.sink → CanWalk m.places key values p
  walk_placed key values p can = subst (λ (l : List Known). CanCarry (all_anywhere key values ++ l) p.operators p.sink) (sym (literals_are tables texts (ps ++ behind ∷ []) columns m.places are.are)) can

  -- of what is behind the groups
  pub behind_placed : (key : List ReadColumn) (values : List ValueColumn) → CanCarry (all_anywhere key values ++ literals_by tables (length columns) texts (ps ++ behind ∷ [])) (pipeline_of behind).operators (pipeline_of behind).sink → CanWalk m.places key values (pipeline_of m.behind)
  behind_placed key values can = subst (λ (p : Pipeline). CanWalk m.places key values (pipeline_of p)) (sym are.behind_is) (walk_placed key values (pipeline_of behind) can)

-- the words of short pipelines are few
pub words_short : (ps : List Pipeline) (behind : Pipeline) (groups : ℕ) → AreShortGrouped ps behind groups → length (query_words (ps ++ behind ∷ [])) ≤ 4012
words_short ps behind groups short = words_few ps behind groups (length (query_words (ps ++ behind ∷ []))) short (few_words (ps ++ behind ∷ []))

-- and what is emitted of them
pub grouped_few : (tables : ℕ) (texts : List (List ℕ)) (ps : List Pipeline) (behind : Pipeline) (columns : List ReadColumn) (m : PlacedPasses) → ArePlacedPasses tables texts ps behind columns m → (keys functions : ℕ) (known : List Known) → IsDistinct eqb (numbers columns) →
    AllByRecursion (λ (q : Pipeline). CanStand tables texts (ps ++ behind ∷ []) columns (pipeline_of q)) ps → CanCarry known (map operator_of behind.operators.items) (sink_of behind.sink) → AreShortGrouped ps behind (keys + functions) → (long : ℕ) →
    long ≤ sum_by (course_span m.places.readers.items) m.pipelines.items + 356 * (keys + functions) + walk_span keys functions m.behind + 100 → long ≤ 2030000
grouped_few tables texts ps behind columns m are keys functions known once stand walks short long emitted =
    let spanned = places_short tables texts ps behind columns m.places known keys functions are.are once stand walks short in
    let few = subst₂ (λ (l : List Pipeline) (p : Pipeline). long ≤ sum_by (course_span m.places.readers.items) l + 356 * (keys + functions) + walk_span keys functions p + 100) are.pipelines_are are.behind_is emitted in
    omega (arith, spanned, few)

-- without a key
pub single_few : (tables : ℕ) (texts : List (List ℕ)) (ps : List Pipeline) (behind : Pipeline) (columns : List ReadColumn) (m : PlacedPasses) → ArePlacedPasses tables texts ps behind columns m → (functions : ℕ) (known : List Known) → IsDistinct eqb (numbers columns) →
    AllByRecursion (λ (q : Pipeline). CanStand tables texts (ps ++ behind ∷ []) columns (pipeline_of q)) ps → CanCarry known (map operator_of behind.operators.items) (sink_of behind.sink) → AreShortGrouped ps behind functions → (long : ℕ) →
    long ≤ sum_by (course_span m.places.readers.items) m.pipelines.items + 356 * functions + walk_span 0 functions m.behind + 100 → long ≤ 2030000
single_few tables texts ps behind columns m are functions known once stand makes short long emitted =
    let plain : functions ≡ 0 + functions = omega arith in
    grouped_few tables texts ps behind columns m are 0 functions known once stand makes (subst (λ (n : ℕ). AreShortGrouped ps behind n) plain short) long (omega (arith, emitted))
