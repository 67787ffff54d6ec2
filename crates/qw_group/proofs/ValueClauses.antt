-- What the block promises that reads a set function's value: its runs, its types and its size.
use Rattle.std.proofs.Common.{◌≡◌, ℕ, ◌+◌, ◌<◌, ◌≤◌, List, Some, slice_get, refl, ap, ◌∙◌, arith}
use Rattle.qw_types.specs.declared.kind.Kind.{Kind}
use Rattle.qw_types.specs.declared.kind.Kind.TheVariants as kind
use Rattle.qw_grouped.specs.declared.set_function.SetFunctionKind.{SetFunctionKind}
use Rattle.qw_grouped.specs.declared.set_function.SetFunctionKind.TheVariants.{CountRows, Count, Sum, Avg, Min, Max}
use Rattle.qw_module.specs.declared.instruction.ValType.{ValType}
use Rattle.qw_module.specs.declared.instruction.ValType.TheVariants.{I32, I64}
use Rattle.qw_low.specs.Syntax.{Statement}
use Rattle.qw_low.specs.Typing.{IsTyped}
use Rattle.qw_low.specs.Size.{size}
use Rattle.qw_table.specs.Entries.{Declares}
use Rattle.qw_group.specs.Values.{ReadsValue, value_types, chosen_type, read_units}
use Rattle.qw_group.specs.Inner.ValueBlocks.{where_taken, sum_known, average_known, chosen_known, value_block}
use Rattle.qw_group.proofs.AreaClauses.{first_is}
use Rattle.qw_group.proofs.SumClauses.{averages, fits-kept}
use Rattle.qw_group.proofs.ValueRuns.{value_gets}

module _ (types : List ValType) (e at f : ℕ) (e_is : slice_get types e ≡ Some I32) (null : slice_get types f ≡ Some I32) where
  taken_typed : (x : ℕ) (known : Statement) → slice_get types x ≡ Some I64 → IsTyped types known → IsTyped types (where_taken e at x f known)
  taken_typed x known x_is typed = ((x_is, e_is), ((I32, null, (x_is, refl)), (null, tt, typed)))

  module _ (flag : slice_get types (f + 3) ≡ Some I32) (value : slice_get types (f + 1) ≡ Some I64) (low : slice_get types (f + 4) ≡ Some I64) (high : slice_get types (f + 5) ≡ Some I64) (rest : slice_get types (f + 6) ≡ Some I64) (left : slice_get types (f + 7) ≡ Some I32) where
    at_of : (i j : ℕ) (t : ValType) → i ≡ j → slice_get types j ≡ Some t → slice_get types i ≡ Some t
    at_of i j t same is = ap (λ (l : ℕ). slice_get types l) same ∙ is

    high_is : slice_get types (f + 4 + 1) ≡ Some I64
    high_is = at_of (f + 4 + 1) (f + 5) I64 (omega arith) high

    sum_typed : IsTyped types (sum_known e at f)
    sum_typed = (((low, e_is), (high_is, e_is)), ((fits-kept (f + 4)).typed types low high_is, (I64, value, low)))

    average_typed : IsTyped types (average_known e at f)
    average_typed = (
      ((low, e_is), (high_is, e_is)),
      (
        (averages (f + 3) (f + 1)).typed types value flag (at_of (f + 3 + 1) (f + 4) I64 (omega arith) low) (at_of (f + 3 + 2) (f + 5) I64 (omega arith) high) (at_of (f + 3 + 3) (f + 6) I64 (omega arith) rest) (at_of (f + 3 + 4) (f + 7) I32 (omega arith) left),
        (I64, value, low),
      ),
    )

  chosen_typed : (kd : Kind) → slice_get types (f + 1) ≡ Some (chosen_type kd) → slice_get types (f + 2) ≡ Some I32 → IsTyped types (chosen_known kd e at f)
  chosen_typed (kind.Number s) value long = (value, e_is)
  chosen_typed kind.Date value long = (value, e_is)
  chosen_typed kind.Text value long = ((value, e_is), (long, e_is))

value_typed : (function : SetFunctionKind) (kd : Kind) (types : List ValType) (e at f : ℕ) → slice_get types e ≡ Some I32 → Declares types f (value_types function kd) → IsTyped types (value_block function kd e at f)
value_typed CountRows kd types e at f e_is own = (own 1 I64 refl, e_is)
value_typed Count kd types e at f e_is own = (own 1 I64 refl, e_is)
value_typed Sum kd types e at f e_is own =
    let null = first_is types (value_types Sum kd) f I32 (own 0 I32 refl) in
    taken_typed types e at f e_is null (f + 1) (sum_known e at f) (own 1 I64 refl) (sum_typed types e at f e_is null (own 3 I32 refl) (own 1 I64 refl) (own 4 I64 refl) (own 5 I64 refl) (own 6 I64 refl) (own 7 I32 refl))
value_typed Avg kd types e at f e_is own =
    let null = first_is types (value_types Avg kd) f I32 (own 0 I32 refl) in
    taken_typed types e at f e_is null (f + 1) (average_known e at f) (own 1 I64 refl) (average_typed types e at f e_is null (own 3 I32 refl) (own 1 I64 refl) (own 4 I64 refl) (own 5 I64 refl) (own 6 I64 refl) (own 7 I32 refl))
value_typed Min kd types e at f e_is own =
    let null = first_is types (value_types Min kd) f I32 (own 0 I32 refl) in
    taken_typed types e at f e_is null (f + 4) (chosen_known kd e at f) (own 4 I64 refl) (chosen_typed types e at f e_is null kd (own 1 (chosen_type kd) refl) (own 2 I32 refl))
value_typed Max kd types e at f e_is own =
    let null = first_is types (value_types Max kd) f I32 (own 0 I32 refl) in
    taken_typed types e at f e_is null (f + 4) (chosen_known kd e at f) (own 4 I64 refl) (chosen_typed types e at f e_is null kd (own 1 (chosen_type kd) refl) (own 2 I32 refl))

chosen_short : (kd : Kind) (e at f : ℕ) → size (chosen_known kd e at f) ≤ 6
chosen_short (kind.Number s) e at f = omega arith
chosen_short kind.Date e at f = omega arith
chosen_short kind.Text e at f = omega arith

value_short : (function : SetFunctionKind) (kd : Kind) (e at f : ℕ) → size (value_block function kd e at f) ≤ 160
value_short CountRows kd e at f = omega arith
value_short Count kd e at f = omega arith
value_short Sum kd e at f = omega arith
value_short Avg kd e at f = omega arith
value_short Min kd e at f = let one = chosen_short kd e at f in omega (arith, one)
value_short Max kd e at f = let one = chosen_short kd e at f in omega (arith, one)

pub reads_value : (function : SetFunctionKind) (kd : Kind) (at e f : ℕ) → e < f → ReadsValue function kd at e f (value_block function kd e at f)
reads_value function kd at e f low = record {
  runs = λ most fuel k o s values turns few e_is has room. value_gets most fuel k o e at f (1 + read_units function) (omega arith) low s e_is room values few function kd turns (omega arith) has;
  typed = λ types e_is own. value_typed function kd types e at f e_is own;
  short = value_short function kd e at f;
}
