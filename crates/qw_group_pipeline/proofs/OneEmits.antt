-- What is emitted for the one group of all rows, from what was emitted for its parts; and how long it is.
use Rattle.std.proofs.Common.{◌≡◌, ℕ, ◌+◌, ◌*◌, ◌≤◌, List, [], ◌++◌, length, length-append, refl, sym, ap, ◌∙◌, subst, append_assoc, arith}
use Rattle.qw_module.specs.declared.instruction.ValType.{ValType}
use Rattle.qw_low.specs.declared.step.LowStep.{LowStep}
use Rattle.qw_low.specs.Steps.{steps_of}
use Rattle.qw_low.specs.Syntax.{Statement, skip, seq}
use Rattle.qw_expr.specs.Bindings.{IsServed}
use Rattle.qw_expr.specs.Computes.{Known}
use Rattle.qw_expr.specs.Emits.{extent, free_of}
use Rattle.qw_expr.specs.declared.emitter.Emitter.{Emitter}
use Rattle.qw_physical.specs.Physical.{Operator, Sink}
use Rattle.qw_operator.specs.Takes.{CanCarry}
use Rattle.qw_group_pipeline.specs.Groups.{EmitsOneTo, ReadsValues, all_anywhere, known_group, known_values, values_types}
use Rattle.qw_group_pipeline.specs.Inner.Valued.{ReadsValued}
use Rattle.qw_group_pipeline.specs.declared.columns.ValueColumn.{ValueColumn}
use Rattle.qw_group_pipeline.proofs.GroupEmits.{group_served, group_takes}
use Rattle.qw_group_pipeline.proofs.ValueReads.{valued_free, value_long, values_many}

-- the values were read, and are known beside literals
module _ (literals : List Known) (areas : ℕ) (values : List ValueColumn) (old mid : Emitter) (some held : List Known) (v : ReadsValued 0 areas values old mid some) (held_is : held ≡ some ++ literals) where
  no_key : free_of old ≡ free_of old + 3 * 0
  no_key = omega arith

  held_now : held ≡ known_group (free_of old) [] values ++ literals
  held_now = held_is ∙ ap (λ (l : List Known). l ++ literals) (v.known_is ∙ ap (λ (n : ℕ). known_values n values) no_key)

  pub one_takes : (operators : List Operator) (sink : Sink) → CanCarry (all_anywhere [] values ++ literals) operators sink → CanCarry held operators sink
  one_takes operators sink h = subst (λ (ks : List Known). CanCarry ks operators sink) (sym held_now) (group_takes (free_of old) [] values literals operators sink h)

  pub one_served : IsServed (free_of old) literals → IsServed (free_of mid) held
  one_served h =
      let far = valued_free 0 areas values old mid some v in
      subst (IsServed (free_of mid)) (sym held_now) (group_served (free_of old) (free_of old) (free_of mid) [] values literals (omega arith) (omega (arith, far)) h)

  pub read_long : extent mid ≤ extent old + 328 * length values
  read_long =
      let code = ap (λ (l : List LowStep). length l) v.code_is ∙ length-append old.block.code.items (steps_of v.reads) in
      let own = ap (λ (l : List ValType). length l) v.own_is ∙ length-append old.own.items (values_types values) in
      let steps = value_long 0 areas (free_of old) values v.reads v.reading in
      let eight = values_many values in
      omega (arith, code, own, steps, eight)

  -- and within the reads something was emitted
  pub one_emits : (Rest : List Known → (next : ℕ) → Statement → List ValType → Type 0) (new : Emitter) (rest : Statement) (rest_own : List ValType) → new.first ≡ mid.first → new.block.code.items ≡ mid.block.code.items ++ steps_of rest → new.own.items ≡ mid.own.items ++ rest_own →
      Rest held (free_of mid) rest rest_own → EmitsOneTo Rest literals areas values old new
  one_emits Rest new rest rest_own first code own carried =
      let far = valued_free 0 areas values old mid some v in
      let last : free_of mid ≡ free_of old + 3 * 0 + 8 * length values = omega (arith, far) in
      record {
        first_is = first ∙ v.first_is;
        statement = seq skip (seq v.reads rest);
        own = values_types values ++ rest_own;
        code_is = code ∙ (ap (λ (l : List LowStep). l ++ steps_of rest) v.code_is ∙ append_assoc old.block.code.items (steps_of v.reads) (steps_of rest));
        own_is = own ∙ (ap (λ (l : List ValType). l ++ rest_own) v.own_is ∙ append_assoc old.own.items (values_types values) rest_own);
        row = record {
          key_reads = skip;
          value_reads = v.reads;
          rest = rest;
          rest_own = rest_own;
          is = refl;
          own_is = refl;
          key_reading = refl;
          value_reading = subst (λ (n : ℕ). ReadsValues 0 areas n values v.reads) no_key v.reading;
          carried = subst (λ (ks : List Known). Rest ks (free_of old + 3 * 0 + 8 * length values) rest rest_own) held_now (subst (λ (n : ℕ). Rest held n rest rest_own) last carried);
        };
      }
