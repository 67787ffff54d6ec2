-- By which tables lookups are served: those that earlier pipelines build, of the same columns and of keys of the same kinds.
use Rattle.std.proofs.Common.{◌≡◌, ℕ, zero, suc, ◌+◌, ◌&&◌, if◌then◌else◌, Bool, true, false, Option, Some, None, List, [], ◌∷◌, map, not, slice_get, refl, sym, ap, ap₂, ◌∙◌, subst, arith}
use Rattle.std.proofs.lemmas.Bool.{and_parts, eqb-true}
use Rattle.std.proofs.lemmas.Option.{same_Some}
use Rattle.std.specs.List.{AllByRecursion, AllZip, filter as kept_by}
use Rattle.qw_types.specs.declared.kind.Kind.{Kind}
use Rattle.qw_types.specs.declared.kind.Kind.TheVariants as kind
use Rattle.qw_scalar.specs.Expression.{Condition, Expression}
use Rattle.qw_scalar.specs.Same.{IsSame}
use Rattle.qw_scalar.specs.Typing.{kind_of}
use Rattle.qw_leaves.specs.Compared.{Compared, OfCompared, compared_in}
use Rattle.qw_algebra.specs.Columns.{is_of, names_only}
use Rattle.qw_pipe.specs.Pipes as pipes
use Rattle.qw_pipe.specs.Pipes.{LooksUp, make, test}
use Rattle.qw_pipe.specs.Units.{equalities, operand_among, operand_of}
use Rattle.qw_rewrite.specs.Probe.{are_alike, are_eligible, face, is_eligible, is_equality}
use Rattle.qw_physical.specs.Physical.{Build, Operator, Pipeline, Probe, Sink, build, filter, probe, select}
use Rattle.qw_physical.specs.Spelled.{IsSameBuild, IsSameOperator, IsSamePipeline, IsSameSink, all_spelled, kept_columns, keys_kept, spelled, spelled_sink, spelled_steps}
use Rattle.qw_physical.specs.declared.pipeline.ReadColumn.{ReadColumn}

-- an earlier pipeline builds its table
abbrev pub IsServedBy : List Pipeline → Probe → Type 0
IsServedBy front q = (f : Pipeline) × (b : Build) × (slice_get front q.table ≡ Some f) × (f.sink ≡ build b) × (q.kept ≡ b.kept) × (map kind_of q.key ≡ map kind_of b.key)

abbrev pub AreServedBy : List Pipeline → List Operator → Type 0
AreServedBy front [] = Unit {0}
AreServedBy front (filter cs ∷ operators) = AreServedBy front operators
AreServedBy front (probe q ∷ operators) = IsServedBy front q × AreServedBy front operators

-- ---- keys of one kind
-- the operands of a comparison are of one kind
abbrev pub IsAlike : Condition → Type 0
IsAlike c = OfCompared (λ op a b. kind_of a ≡ kind_of b) (compared_in c)

-- those of the keys of lookups are
abbrev pub HaveAlike : List pipes.Step → Type 0
HaveAlike [] = Unit {0}
HaveAlike (test conjuncts ∷ steps) = HaveAlike steps
HaveAlike (pipes.probe table lookup ∷ steps) = AllByRecursion IsAlike (equalities lookup) × HaveAlike steps
HaveAlike (make items ∷ steps) = HaveAlike steps

alike_kinds : (k other : Option Kind) → are_alike k other ≡ true → k ≡ other
alike_kinds None other h = absurd cc
alike_kinds (Some (kind.Number s)) (Some (kind.Number t)) h = ap (λ (n : ℕ). let k : Option Kind = Some (kind.Number n) in k) (eqb-true s t h)
alike_kinds (Some (kind.Number s)) None h = absurd cc
alike_kinds (Some (kind.Number s)) (Some kind.Date) h = absurd cc
alike_kinds (Some (kind.Number s)) (Some kind.Text) h = absurd cc
alike_kinds (Some kind.Date) None h = absurd cc
alike_kinds (Some kind.Date) (Some (kind.Number t)) h = absurd cc
alike_kinds (Some kind.Date) (Some kind.Date) h = refl
alike_kinds (Some kind.Date) (Some kind.Text) h = absurd cc
alike_kinds (Some kind.Text) None h = absurd cc
alike_kinds (Some kind.Text) (Some (kind.Number t)) h = absurd cc
alike_kinds (Some kind.Text) (Some kind.Date) h = absurd cc
alike_kinds (Some kind.Text) (Some kind.Text) h = refl

-- an equality that may be a key
pub eligible_alike : (left right : ℕ → Bool) (c : Condition) → is_eligible left right c ≡ true → IsAlike c
eligible_alike left right c h = one (compared_in c) h
  where
    one : (o : Option Compared) → are_eligible left right o ≡ true → OfCompared (λ op a b. kind_of a ≡ kind_of b) o
    one (Some k) h =
        let alike : Bool = are_alike (kind_of k.left) (kind_of k.right) in
        let parts = and_parts (is_equality k.operator) (face left right k.left k.right && alike) h in
        alike_kinds (kind_of k.left) (kind_of k.right) (and_parts (face left right k.left k.right) alike parts.1).1
    one None h = tt

chosen_alike : (p q : Bool) (a b : Expression) → kind_of a ≡ kind_of b → kind_of (if p then a else b) ≡ kind_of (if q then a else b)
chosen_alike true true a b h = refl
chosen_alike true false a b h = h
chosen_alike false true a b h = sym h
chosen_alike false false a b h = refl

operands_alike : (f g : ℕ → Bool) (c : Condition) → IsAlike c → kind_of (operand_of f c) ≡ kind_of (operand_of g c)
operands_alike f g c h = one (compared_in c) h
  where
    one : (o : Option Compared) → OfCompared (λ op a b. kind_of a ≡ kind_of b) o → kind_of (operand_among f o) ≡ kind_of (operand_among g o)
    one (Some k) h = chosen_alike (names_only f k.left) (names_only g k.left) k.left k.right h
    one None h = refl

keys_alike : (f g : ℕ → Bool) (cs : List Condition) → AllByRecursion IsAlike cs → map kind_of (map (operand_of f) cs) ≡ map kind_of (map (operand_of g) cs)
keys_alike f g [] alike = refl
keys_alike f g (c ∷ cs) alike = ap₂ (λ (k : Option Kind) (ks : List (Option Kind)). k ∷ ks) (operands_alike f g c alike.0) (keys_alike f g cs alike.1)

-- ---- as pipelines are spelled
spelled_at : (columns : List ReadColumn) (next : ℕ) (ps : List pipes.Pipeline) (t : ℕ) (p : pipes.Pipeline) → slice_get ps t ≡ Some p → slice_get (all_spelled columns next ps) t ≡ Some (spelled columns (next + t) p)
spelled_at columns next [] t p there = absurd cc
spelled_at columns next (q ∷ ps) zero p there =
    let place : next ≡ next + 0 = omega arith in
    ap (λ (n : ℕ). let o : Option Pipeline = Some (spelled columns n q) in o) place ∙ ap (λ (r : pipes.Pipeline). let o : Option Pipeline = Some (spelled columns (next + 0) r) in o) (same_Some q p there)
spelled_at columns next (q ∷ ps) (suc t) p there =
    let place : next + 1 + t ≡ next + suc t = omega arith in
    spelled_at columns (next + 1) ps t p there ∙ ap (λ (n : ℕ). let o : Option Pipeline = Some (spelled columns n p) in o) place

pub spelled_served : (columns : List ReadColumn) (next : ℕ) (before : List pipes.Pipeline) (steps : List pipes.Step) → AllByRecursion (LooksUp before) steps → HaveAlike steps → AreServedBy (all_spelled columns next before) (spelled_steps columns steps)
spelled_served columns next before [] looks alike = tt
spelled_served columns next before (test conjuncts ∷ steps) looks alike = spelled_served columns next before steps looks.1 alike
spelled_served columns next before (pipes.probe table lookup ∷ steps) looks alike =
    let p : pipes.Pipeline = looks.0.pipeline in (
      (
        spelled columns (next + table) p,
        record { table = next + table; key = keys_kept lookup; kept = kept_columns columns lookup },
        spelled_at columns next before table p looks.0.stands,
        ap (λ (target : pipes.Target). spelled_sink columns (next + table) p.steps target) looks.0.target,
        refl,
        keys_alike (λ i. not (is_of lookup.entries i)) (is_of lookup.entries) (equalities lookup) alike.0,
      ),
      spelled_served columns next before steps looks.1 alike.1,
    )
spelled_served columns next before (make items ∷ steps) looks alike = spelled_served columns next before steps looks.1 alike

-- ---- and as those that are the same
kinds_same : (es fs : List Expression) → AllZip IsSame es fs → map kind_of es ≡ map kind_of fs
kinds_same [] [] same = refl
kinds_same [] (f ∷ fs) same = absurd same
kinds_same (e ∷ es) [] same = absurd same
kinds_same (e ∷ es) (f ∷ fs) same = ap₂ (λ (k : Option Kind) (ks : List (Option Kind)). k ∷ ks) same.0.kind (kinds_same es fs same.1)

same_at : (ps qs : List Pipeline) (t : ℕ) (p : Pipeline) → AllZip IsSamePipeline ps qs → slice_get ps t ≡ Some p → (q : Pipeline) × (slice_get qs t ≡ Some q) × IsSamePipeline p q
same_at [] [] t p same there = absurd cc
same_at [] (q ∷ qs) t p same there = absurd same
same_at (x ∷ ps) [] t p same there = absurd same
same_at (x ∷ ps) (q ∷ qs) zero p same there = (q, refl, subst (λ (y : Pipeline). IsSamePipeline y q) (same_Some x p there) same.0)
same_at (x ∷ ps) (q ∷ qs) (suc t) p same there = same_at ps qs t p same.1 there

same_build : (b : Build) (s : Sink) → IsSameSink (build b) s → (d : Build) × (s ≡ build d) × IsSameBuild b d
same_build b (build d) same = (d, refl, same)
same_build b (select items) same = absurd same

pub served_same : (front others : List Pipeline) (operators same_operators : List Operator) → AllZip IsSamePipeline front others → AllZip IsSameOperator operators same_operators → AreServedBy front operators → AreServedBy others same_operators
served_same front others [] [] same zip served = tt
served_same front others [] (o ∷ os) same zip served = absurd zip
served_same front others (o ∷ operators) [] same zip served = absurd zip
served_same front others (filter cs ∷ operators) (filter ds ∷ os) same zip served = served_same front others operators os same zip.1 served
served_same front others (filter cs ∷ operators) (probe q ∷ os) same zip served = absurd zip.0
served_same front others (probe p ∷ operators) (filter ds ∷ os) same zip served = absurd zip.0
served_same front others (probe p ∷ operators) (probe q ∷ os) same zip served =
    let f : Pipeline = served.0.0 in
    let b : Build = served.0.1 in
    let other = same_at front others p.table f same served.0.2 in
    let made = same_build b other.0.sink (subst (λ (s : Sink). IsSameSink s other.0.sink) served.0.3 other.2.sink) in (
      (
        other.0,
        made.0,
        ap (λ (t : ℕ). slice_get others t) (sym zip.0.table) ∙ other.1,
        made.1,
        sym zip.0.kept ∙ (served.0.4 ∙ made.2.kept),
        sym (kinds_same p.key q.key zip.0.key) ∙ (served.0.5 ∙ kinds_same b.key made.0.key made.2.key),
      ),
      served_same front others operators os same zip.1 served.1,
    )

-- ---- kept columns are a part of all that are read
abbrev pub IsPartOf : (columns kept : List ReadColumn) → Type 0
IsPartOf columns kept = (test : ReadColumn → Bool) × (kept ≡ kept_by test columns)

abbrev pub KeepParts : List ReadColumn → List Operator → Type 0
KeepParts columns [] = Unit {0}
KeepParts columns (filter cs ∷ operators) = KeepParts columns operators
KeepParts columns (probe p ∷ operators) = IsPartOf columns p.kept × KeepParts columns operators

pub spelled_parts : (columns : List ReadColumn) (steps : List pipes.Step) → KeepParts columns (spelled_steps columns steps)
spelled_parts columns [] = tt
spelled_parts columns (test conjuncts ∷ steps) = spelled_parts columns steps
spelled_parts columns (pipes.probe table lookup ∷ steps) = ((λ (c : ReadColumn). is_of lookup.entries c.number, refl), spelled_parts columns steps)
spelled_parts columns (make items ∷ steps) = spelled_parts columns steps
