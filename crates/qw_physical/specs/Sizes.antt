-- How large the trees of pipelines are, by any measure of expressions and conditions: of pipelines as they are split off a plan, and spelled out.
use Rattle.std.specs.Prelude.{ℕ, ◌+◌, Bool, not, if◌then◌else◌, List, [], ◌∷◌, Option, Some, None, slice_get, sum_by}
use Rattle.std.specs.List.{filter_map}
use Rattle.qw_scalar.specs.declared.expression.Expr.{Expr}
use Rattle.qw_scalar.specs.declared.expression.Cond.{Cond}
use Rattle.qw_scalar.specs.declared.expression.Expr.TheVariants.{Null}
use Rattle.qw_scalar.specs.Tree.{expression_of}
use Rattle.qw_leaves.specs.Compared.{ComparedTrees, trees_compared}
use Rattle.qw_algebra.specs.Columns.{is_of, names_only}
use Rattle.qw_scalar.specs.Texts.{texts_in, texts_within}
use Rattle.qw_pipe.specs.declared.pipeline.Lookup.{Lookup}
use Rattle.qw_pipe.specs.declared.pipeline.Pipeline as split
use Rattle.qw_pipe.specs.Sizes.{Measures, pipeline_weight}
use Rattle.qw_rewrite.specs.Probed.{is_key}
use Rattle.qw_physical.specs.declared.pipeline.Operator.{Operator}
use Rattle.qw_physical.specs.declared.pipeline.Operator.TheVariants as operator
use Rattle.qw_physical.specs.declared.pipeline.Pipeline.{Pipeline}
use Rattle.qw_physical.specs.declared.pipeline.Sink.{Sink}
use Rattle.qw_physical.specs.declared.pipeline.Sink.TheVariants as sink

-- ---- split off a plan
-- the conjuncts of ON at the keys, and those that are no key, the first being at position k
abbrev pub keys_in : Lookup → List Cond
keys_in lookup = filter_map (λ k. slice_get lookup.on.now k) lookup.keys.now

abbrev pub left_out : {A : Type 0} → (keys : List ℕ) → (k : ℕ) → List A → List A
left_out keys k [] = []
left_out keys k (x ∷ xs) = if is_key keys k then left_out keys (k + 1) xs else x ∷ left_out keys (k + 1) xs

abbrev pub others_in : Lookup → List Cond
others_in lookup = left_out lookup.keys.now 0 lookup.on.now

-- The conjuncts at a join's keys by a measure of their own where its table is built, of a side of columns each, and again where the table is looked
-- up, with its other conjuncts.
abbrev pub measured_by : (of_expression : Expr → ℕ) (of_condition : Cond → ℕ) (of_key : (side : ℕ → Bool) → Cond → ℕ) → Measures
measured_by of_expression of_condition of_key = record {
  of_expression = of_expression;
  of_condition = of_condition;
  of_table = λ entries on keys. sum_by (of_key (λ i. is_of entries i)) (filter_map (λ k. slice_get on k) keys);
  of_probe = λ entries on keys. sum_by (of_key (λ i. not (is_of entries i))) (filter_map (λ k. slice_get on k) keys) + sum_by of_condition (left_out keys 0 on);
}

-- whole conjuncts at both
abbrev pub split_size : (of_expression : Expr → ℕ) (of_condition : Cond → ℕ) → split.Pipeline → ℕ
split_size of_expression of_condition p = pipeline_weight (measured_by of_expression of_condition (λ side c. of_condition c)) p

-- of two expressions the first where it names only columns of a side, else the second
abbrev pub chosen : (side : ℕ → Bool) → Expr → Expr → Expr
chosen side a b = if names_only side (expression_of a) then a else b

-- of an equality the operand of a side, IN of one value being one (ISO/IEC 9075:1992, 8.2, 8.4)
abbrev pub operand_chosen : (side : ℕ → Bool) → Option ComparedTrees → Expr
operand_chosen side None = Null
operand_chosen side (Some k) = chosen side k.left k.right

abbrev pub operand_in : (side : ℕ → Bool) → Cond → Expr
operand_in side c = operand_chosen side (trees_compared c)

-- of each key its table's operand where the table is built, and the other one where it is looked up
abbrev pub by_operands : (of_expression : Expr → ℕ) (of_condition : Cond → ℕ) → Measures
by_operands of_expression of_condition = measured_by of_expression of_condition (λ side c. of_expression (operand_in side c))

-- ---- spelled out
abbrev pub operator_size : (of_expression : Expr → ℕ) (of_condition : Cond → ℕ) → Operator → ℕ
operator_size of_expression of_condition (operator.Filter conjuncts) = sum_by of_condition conjuncts.items
operator_size of_expression of_condition (operator.Probe p) = sum_by of_expression p.key.items + sum_by of_condition p.on.items

abbrev pub sink_size : (of_expression : Expr → ℕ) → Sink → ℕ
sink_size of_expression (sink.Build b) = sum_by of_expression b.key.items
sink_size of_expression (sink.Select items) = sum_by of_expression items.items

abbrev pub size : (of_expression : Expr → ℕ) (of_condition : Cond → ℕ) → Pipeline → ℕ
size of_expression of_condition p = sum_by (operator_size of_expression of_condition) p.operators.items + sink_size of_expression p.sink

-- ---- by texts, each of a weight
abbrev pub weight_in : (List ℕ → ℕ) → Expr → ℕ
weight_in weight e = sum_by weight (texts_in e)

abbrev pub weight_within : (List ℕ → ℕ) → Cond → ℕ
weight_within weight c = sum_by weight (texts_within c)
