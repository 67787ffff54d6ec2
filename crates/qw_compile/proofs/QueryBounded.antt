-- A pipeline of the code stays within the pages that are promised.
use Rattle.std.proofs.Common.{◌≡◌, ◌∙◌, ◌≤◌, ◌<◌, ℕ, suc, ◌+◌, ◌*◌, ◌/◌, List, [], ◌∷◌, ◌++◌, length, length-append, refl, sym, ap, ap₂, subst, append-nil, arith}
use Rattle.std.proofs.Math.Nat.{add-mul}
use Rattle.std.specs.List.{AllZip}
use Rattle.qw_types.specs.declared.value.Val.{Val}
use Rattle.qw_layout.specs.Row.{entry_size}
use Rattle.qw_meaning.specs.Flow.{Flow}
use Rattle.qw_scalar.specs.Expression.{Expression}
use Rattle.qw_scalar.specs.Same.{IsSame}
use Rattle.qw_physical.specs.Courses.{AreBuilt, pipeline_fed}
use Rattle.qw_physical.specs.Held.{held, sink_octets, sink_size}
use Rattle.qw_physical.specs.Physical.{Pipeline, Sink, build, select}
use Rattle.qw_physical.specs.Spelled.{IsSamePipeline, IsSameSink}
use Rattle.qw_physical.specs.declared.pipeline.ReadColumn.{ReadColumn}
use Rattle.qw_physical.proofs.Alikeness.{pipeline_fed_same}
use Rattle.qw_physical.proofs.Permuted.{built_in_order}
use Rattle.qw_compile.proofs.Budgets.{pages_pay, spent}
use Rattle.qw_compile.proofs.Spent.{spent_front, spent_next}

-- ---- pipelines that are the same hold as much
keys_long : (es fs : List Expression) → AllZip IsSame es fs → length es ≡ length fs
keys_long [] [] z = refl
keys_long [] (f ∷ fs) z = absurd z
keys_long (e ∷ es) [] z = absurd z
keys_long (e ∷ es) (f ∷ fs) z = ap suc (keys_long es fs z.1)

pub octets_same : (s t : Sink) → IsSameSink s t → (rows : ℕ) → sink_octets s rows ≡ sink_octets t rows
octets_same (build b) (build c) z rows = ap₂ (λ (k l : ℕ). 4096 + rows * entry_size k l 0) (keys_long b.key c.key z.key) (ap (λ (l : List ReadColumn). length l) z.kept)
octets_same (build b) (select others) z rows = absurd z
octets_same (select items) (build c) z rows = absurd z
octets_same (select items) (select others) z rows = ap (λ (k : ℕ). rows * (8 + 16 * k)) (keys_long items others z)

pub size_same : (s t : Sink) → IsSameSink s t → sink_size s ≡ sink_size t
size_same (build b) (build c) z = ap₂ (λ (k l : ℕ). entry_size k l 0) (keys_long b.key c.key z.key) (ap (λ (l : List ReadColumn). length l) z.kept)
size_same (build b) (select others) z = absurd z
size_same (select items) (build c) z = absurd z
size_same (select items) (select others) z = ap (λ (k : ℕ). 8 + 16 * k) (keys_long items others z)

pub held_same : (tables built : List (List (List Val))) (ps qs : List Pipeline) (more : List (List (List Val))) → AllZip IsSamePipeline ps qs → held tables built ps more ≡ held tables built qs more
held_same tables built [] [] more z = refl
held_same tables built [] (q ∷ qs) more z = absurd z
held_same tables built (p ∷ ps) [] more z = absurd z
held_same tables built (p ∷ ps) (q ∷ qs) [] z =
    ap (λ (f : Flow (List Val)). sink_octets p.sink (length f.rows)) (pipeline_fed_same built tables p q z.0) ∙ octets_same p.sink q.sink z.0.sink (length (pipeline_fed tables built q).rows)
held_same tables built (p ∷ ps) (q ∷ qs) (e ∷ more) z = ap₂ (λ (a b : ℕ). a + b) (octets_same p.sink q.sink z.0.sink (length e)) (held_same tables (built ++ e ∷ []) ps qs more z.1)

-- ---- pages
module _ (u S T : ℕ) (some : 0 < u) (tables : List (List (List Val))) where
  -- up to the table of this pipeline
  pub built_pays : (front : List Pipeline) (p : Pipeline) (back rest : List Pipeline) (more : List (List (List Val))) → AreBuilt tables [] front more → held tables [] (front ++ p ∷ rest) more ≤ S → length (front ++ p ∷ back) ≡ T
      → spent u (front ++ p ∷ back) (built_in_order tables [] (front ++ p ∷ back)) (suc (length front)) + 2 * u < (2 + 2 * T + S / u + 1) * u
  built_pays front p back rest more are within long =
      let one = spent_next u tables front p back [] [] more tt are in
      let all = spent_front u tables front (p ∷ back) rest p [] [] more tt are in
      let pay = pages_pay (held tables [] (front ++ p ∷ rest) more) S u T some within in
      let count : length (front ++ p ∷ back) ≡ length front + suc (length back) = length-append front (p ∷ back) in
      let parts : T * u ≡ length front * u + suc (length back) * u = ap (λ (k : ℕ). k * u) (sym long ∙ count) ∙ add-mul (length front) (suc (length back)) u in
      let next : suc (length back) * u ≡ u + length back * u = one_more (length back) in
      omega (arith, one, all, pay, parts, next)
    where
      one_more : (n : ℕ) → suc n * u ≡ u + n * u
      one_more n = omega (arith, add-mul 1 n u)

  -- and with the rows of the result
  pub last_pays : (building : List Pipeline) (last : Pipeline) (more : List (List (List Val))) → AreBuilt tables [] building more → held tables [] (building ++ last ∷ []) more ≤ S → length building ≡ T
      → (spent u building (built_in_order tables [] building) (length building) + sink_octets last.sink (length (pipeline_fed tables more last).rows)) + 2 * u < (2 + 2 * T + S / u + 1) * u
  last_pays building last more are within long =
      let all = subst (λ (l : List Pipeline). spent u l (built_in_order tables [] l) (length building) + sink_octets last.sink (length (pipeline_fed tables more last).rows) ≡ length building * u + held tables [] (building ++ last ∷ []) more) (append-nil building)
      (spent_front u tables building [] [] last [] [] more tt are) in
      let pay = pages_pay (held tables [] (building ++ last ∷ []) more) S u T some within in
      let parts : length building * u ≡ T * u = ap (λ (k : ℕ). k * u) long in
      omega (arith, all, pay, parts)
