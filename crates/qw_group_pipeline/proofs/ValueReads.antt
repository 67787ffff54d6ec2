-- The reads of the values of set functions, one after another.
use Rattle.std.proofs.Common.{◌≡◌, ℕ, ◌+◌, ◌*◌, ◌≤◌, List, [], ◌∷◌, ◌++◌, length, refl, sym, ap, ◌∙◌, subst, append_assoc, append-nil, length-append, arith}
use Rattle.qw_module.specs.declared.instruction.ValType.{ValType}
use Rattle.qw_low.specs.declared.step.LowStep.{LowStep}
use Rattle.qw_low.specs.Steps.{steps_of}
use Rattle.qw_low.specs.Syntax.{Statement, seq, skip}
use Rattle.qw_expr.specs.Computes.{Known}
use Rattle.qw_expr.specs.Emits.{free_of}
use Rattle.qw_expr.specs.declared.emitter.Emitter.{Emitter}
use Rattle.qw_group.specs.Values.{ReadsValue, value_types}
use Rattle.qw_operator.proofs.Listed.{free_later}
use Rattle.qw_operator.proofs.Shortness.{steps_twice}
use Rattle.qw_group_pipeline.specs.Groups.{ReadsValues, known_values, values_types}
use Rattle.qw_group_pipeline.specs.Inner.Valued.{ReadsValued}
use Rattle.qw_group_pipeline.specs.declared.columns.ValueColumn.{ValueColumn}

pub values_many : (values : List ValueColumn) → length (values_types values) ≡ 8 * length values
values_many [] = refl
values_many (v ∷ values) =
    let rest = values_many values in
    let all = length-append (value_types v.function v.argument) (values_types values) in
    omega (arith, rest, all)

-- ---- one more
module _ (entry : ℕ) (v : ValueColumn) (b : Statement) where
  abbrev ReadsNext : (at free : ℕ) → Type 0
  ReadsNext at free = ReadsValue v.function v.argument at entry free b

  reads_more : (at free : ℕ) (values : List ValueColumn) (a : Statement) → ReadsValues at entry free values a → ReadsNext (at + 32 * length values) (free + 8 * length values) →
      (d : Statement) × ReadsValues at entry free (values ++ v ∷ []) d × (steps_of d ≡ steps_of a ++ steps_of b)
  reads_more at free [] a none one =
      let here : at + 32 * 0 ≡ at = omega arith in
      let there : free + 8 * 0 ≡ free = omega arith in (
        seq b skip,
        (b, skip, refl, subst (ReadsNext at) there (subst (λ (n : ℕ). ReadsNext n (free + 8 * 0)) here one), refl),
        append-nil (steps_of b) ∙ ap (λ (s : Statement). steps_of s ++ steps_of b) (sym none),
      )
  reads_more at free (w ∷ values) a reads one =
      let here : at + 32 * length (w ∷ values) ≡ at + 32 + 32 * length values = omega arith in
      let there : free + 8 * length (w ∷ values) ≡ free + 8 + 8 * length values = omega arith in
      let rest = reads_more (at + 32) (free + 8) values reads.1 reads.4 (subst (ReadsNext (at + 32 + 32 * length values)) there (subst (λ (n : ℕ). ReadsNext n (free + 8 * length (w ∷ values))) here one)) in (
        seq reads.0 rest.0,
        (reads.0, rest.0, refl, reads.3, rest.1),
        ap (λ (l : List LowStep). steps_of reads.0 ++ l) rest.2 ∙ (sym (append_assoc (steps_of reads.0) (steps_of reads.1) (steps_of b)) ∙ ap (λ (s : Statement). steps_of s ++ steps_of b) (sym reads.2)),
      )

types_end : (values : List ValueColumn) (v : ValueColumn) → values_types (values ++ v ∷ []) ≡ values_types values ++ value_types v.function v.argument
types_end [] v = append-nil (value_types v.function v.argument)
types_end (w ∷ values) v = ap (λ (l : List ValType). value_types w.function w.argument ++ l) (types_end values v) ∙ sym (append_assoc (value_types w.function w.argument) (values_types values) (value_types v.function v.argument))

known_end : (free : ℕ) (values : List ValueColumn) (v : ValueColumn) → known_values free (values ++ v ∷ []) ≡ known_values free values ++ known_values (free + 8 * length values) (v ∷ [])
known_end free [] v = let here : free ≡ free + 8 * 0 = omega arith in ap (λ (n : ℕ). known_values n (v ∷ [])) here
known_end free (w ∷ values) v =
    let there : free + 8 + 8 * length values ≡ free + 8 * length (w ∷ values) = omega arith in
    let rest : known_values (free + 8) (values ++ v ∷ []) ≡ known_values (free + 8) values ++ known_values (free + 8 * length (w ∷ values)) (v ∷ []) =
    known_end (free + 8) values v ∙ ap (λ (n : ℕ). known_values (free + 8) values ++ known_values n (v ∷ [])) there in
    after free w (known_values (free + 8) (values ++ v ∷ [])) (known_values (free + 8) values) (known_values (free + 8 * length (w ∷ values)) (v ∷ [])) rest
  where
    after : (n : ℕ) (d : ValueColumn) (all some more : List Known) → all ≡ some ++ more → known_values n (d ∷ []) ++ all ≡ (known_values n (d ∷ []) ++ some) ++ more
    after n d all some more same = ap (λ (l : List Known). known_values n (d ∷ []) ++ l) same ∙ sym (append_assoc (known_values n (d ∷ [])) some more)

module _ (at entry : ℕ) (values : List ValueColumn) (old mid : Emitter) (known : List Known) (h : ReadsValued at entry values old mid known) where
  pub valued_free : free_of mid ≡ free_of old + 8 * length values
  valued_free = let long = values_many values in let later = free_later old mid (values_types values) h.first_is h.own_is in omega (arith, long, later)

  pub valued_more : (v : ValueColumn) (new : Emitter) (b : Statement) (place : ℕ) (all one : List Known) → new.first ≡ mid.first → new.own.items ≡ mid.own.items ++ value_types v.function v.argument → new.block.code.items ≡ mid.block.code.items ++ steps_of b →
      place ≡ at + 32 * length values → ReadsValue v.function v.argument place entry (free_of mid) b → all ≡ known ++ one → one ≡ known_values (free_of mid) (v ∷ []) → ReadsValued at entry (values ++ v ∷ []) old new all
  valued_more v new b place all one first own code placed reads added is =
      let more = reads_more entry v b at (free_of old) values h.reads h.reading (subst (λ (n : ℕ). ReadsValue v.function v.argument n entry (free_of old + 8 * length values) b) placed (subst (λ (n : ℕ). ReadsValue v.function v.argument place entry n b) valued_free reads)) in
      record {
        first_is = first ∙ h.first_is;
        reads = more.0;
        code_is = code ∙ (ap (λ (l : List LowStep). l ++ steps_of b) h.code_is ∙ (append_assoc old.block.code.items (steps_of h.reads) (steps_of b) ∙ ap (λ (l : List LowStep). old.block.code.items ++ l) (sym more.2)));
        own_is = own ∙ (ap (λ (l : List ValType). l ++ value_types v.function v.argument) h.own_is ∙ (append_assoc old.own.items (values_types values) (value_types v.function v.argument) ∙ ap (λ (l : List ValType). old.own.items ++ l) (sym (types_end values v))));
        reading = more.1;
        known_is = added ∙ (ap (λ (l : List Known). l ++ one) h.known_is
            ∙ (ap (λ (l : List Known). known_values (free_of old) values ++ l) (is ∙ ap (λ (n : ℕ). known_values n (v ∷ [])) valued_free) ∙ sym (known_end (free_of old) values v)));
      }

-- ---- how long they are
pub value_long : (at entry free : ℕ) (values : List ValueColumn) (a : Statement) → ReadsValues at entry free values a → length (steps_of a) ≤ 320 * length values
value_long at entry free [] a none = subst (λ (s : Statement). length (steps_of s) ≤ 0) (sym none) (omega arith)
value_long at entry free (v ∷ values) a reads =
    let rest = value_long (at + 32) entry (free + 8) values reads.1 reads.4 in
    let few = reads.3.short in
    let twice = steps_twice reads.0 in
    let all = length-append (steps_of reads.0) (steps_of reads.1) in
    subst (λ (s : Statement). length (steps_of s) ≤ 320 * length (v ∷ values)) (sym reads.2) (omega (arith, rest, few, twice, all))
