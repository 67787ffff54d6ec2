-- What the block of a set function promises: its runs, its types and its size.
use Rattle.std.proofs.Common.{◌≡◌, ℕ, suc, ◌+◌, ◌<◌, ◌≤◌, Option, Some, None, List, slice_get, refl, sym, subst, arith}
use Rattle.qw_types.specs.declared.kind.Kind.{Kind}
use Rattle.qw_types.specs.declared.kind.Kind.TheVariants as kind
use Rattle.qw_grouped.specs.declared.set_function.SetFunctionKind.{SetFunctionKind}
use Rattle.qw_grouped.specs.declared.set_function.SetFunctionKind.TheVariants.{CountRows, Count, Sum, Avg, Min, Max}
use Rattle.qw_module.specs.declared.instruction.ValType.{ValType}
use Rattle.qw_module.specs.declared.instruction.ValType.TheVariants.{I32, I64}
use Rattle.qw_module.specs.declared.instruction.Relation.{Relation}
use Rattle.qw_module.specs.declared.instruction.Relation.TheVariants.{Gt, Lt}
use Rattle.qw_module.specs.declared.instruction.Sign.TheVariants.{Signed}
use Rattle.qw_low.specs.declared.cell.Cell.{Cell}
use Rattle.qw_low.specs.Syntax.{Statement}
use Rattle.qw_low.specs.Typing as low
use Rattle.qw_low.specs.Typing.{IsTyped}
use Rattle.qw_low.specs.Size.{size}
use Rattle.qw_text.specs.Texts.{Compares, SaysOrder, of_shorter, own_types}
use Rattle.qw_table.specs.Entries.{Declares}
use Rattle.qw_table.specs.Keys.{IsBelow, DeclaresKind, DeclaresNull}
use Rattle.qw_table.specs.Joins.{Told, unless_null}
use Rattle.qw_table.specs.declared.key.Field.{Field}
use Rattle.qw_group.specs.Areas.{Aggregates, Takes, OrdersTexts, DeclaresArgument, area_types, count_more, sum_more, plain_put, chosen_read, is_beaten, choose_more, value_more, area_block}
use Rattle.qw_group.proofs.AreaRuns.{takes_end}
use Rattle.qw_group.proofs.SumClauses.{accumulates}

pub first_is : (types own : List ValType) (n : ℕ) (t : ValType) → slice_get types (n + 0) ≡ Some t → slice_get types n ≡ Some t
first_is types own n t is = let same : n + 0 ≡ n = omega arith in subst (λ (i : ℕ). slice_get types i ≡ Some t) same is

-- ---- types
module _ (types : List ValType) (e at g : ℕ) (e_is : slice_get types e ≡ Some I32) (own : Declares types g area_types) where
  g_is : slice_get types g ≡ Some I64
  g_is = first_is types area_types g I64 (own 0 I64 refl)

  count_typed : IsTyped types (count_more e at g)
  count_typed = ((g_is, e_is), (e_is, (g_is, (omega arith, refl), refl)))

  sum_typed : (x : ℕ) → slice_get types x ≡ Some I64 → IsTyped types (sum_more e at x g)
  sum_typed x x_is =
      ((g_is, e_is), ((own 1 I64 refl, e_is), ((accumulates g x).typed types x_is g_is (own 1 I64 refl) (own 2 I64 refl), ((e_is, g_is), (e_is, own 1 I64 refl)))))

  put_typed : (kd : Kind) (c : Cell) → DeclaresKind types kd c → IsTyped types (plain_put kd c e at)
  put_typed (kind.Number s) c is = (e_is, is)
  put_typed kind.Date c is = (e_is, is)
  put_typed kind.Text c is = ((e_is, is.0), (e_is, is.1))

  order_own : (i : ℕ) (t : ValType) → slice_get own_types i ≡ Some t → slice_get types (g + 5 + i) ≡ Some t
  order_own i t is = let same : g + suc (suc (suc (suc (suc i)))) ≡ g + 5 + i = omega arith in subst (λ (j : ℕ). slice_get types j ≡ Some t) same (own (suc (suc (suc (suc (suc i))))) t is)

  read_typed : (kd : Kind) (c : Cell) (order : Statement) → DeclaresKind types kd c → (kd ≡ kind.Text → Compares of_shorter (SaysOrder (g + 7)) (record { value = g + 3; length = g + 4; null = None }) c (g + 5) order) → IsTyped types (chosen_read kd order e at g)
  read_typed (kind.Number s) c order is orders = (g_is, e_is)
  read_typed kind.Date c order is orders = (g_is, e_is)
  read_typed kind.Text c order is orders = ((own 3 I32 refl, e_is), ((own 4 I32 refl, e_is), (orders refl).typed types (own 3 I32 refl, own 4 I32 refl) is order_own))

  beaten_typed : (kd : Kind) (r : Relation) (c : Cell) → DeclaresKind types kd c → low.HasType types (is_beaten kd r c g) I32
  beaten_typed (kind.Number s) r c is = (g_is, is, refl)
  beaten_typed kind.Date r c is = (g_is, is, refl)
  beaten_typed kind.Text r c is = (own 7 I64 refl, (omega arith, refl), refl)

  choose_typed : (kd : Kind) (r : Relation) (c : Cell) (order : Statement) → DeclaresKind types kd c → (kd ≡ kind.Text → Compares of_shorter (SaysOrder (g + 7)) (record { value = g + 3; length = g + 4; null = None }) c (g + 5) order) → IsTyped types (choose_more kd r order c e at g)
  choose_typed kd r c order is orders =
      (count_typed, ((g_is, (omega arith, refl), refl), (read_typed kd c order is orders, (beaten_typed kd r c is, put_typed kd c is, tt)), put_typed kd c is))

  unless_typed : (null : Option ℕ) (a : Statement) → DeclaresNull types null → IsTyped types a → IsTyped types (unless_null null a)
  unless_typed None a is typed = typed
  unless_typed (Some n) a is typed = (is, tt, typed)

  area_typed : (function : SetFunctionKind) (order : Statement) (f : Field) → OrdersTexts function f g order → DeclaresArgument types function f → IsTyped types (area_block function order f e at g)
  area_typed CountRows order f orders is = count_typed
  area_typed Count order f orders is = unless_typed f.cell.null (count_more e at g) is count_typed
  area_typed Sum order f orders is = unless_typed f.cell.null (value_more Sum order f e at g) is.1 (count_typed, sum_typed f.cell.value is.0)
  area_typed Avg order f orders is = unless_typed f.cell.null (value_more Avg order f e at g) is.1 (count_typed, sum_typed f.cell.value is.0)
  area_typed Min order f orders is = unless_typed f.cell.null (value_more Min order f e at g) is.1 (choose_typed f.kind (Gt Signed) f.cell order is.0 (λ text. orders tt text))
  area_typed Max order f orders is = unless_typed f.cell.null (value_more Max order f e at g) is.1 (choose_typed f.kind (Lt Signed) f.cell order is.0 (λ text. orders tt text))

-- ---- sizes
unless_short : (null : Option ℕ) (a : Statement) → size (unless_null null a) ≤ 2 + size a
unless_short None a = omega arith
unless_short (Some n) a = omega arith

choose_short : (kd : Kind) (r : Relation) (c : Cell) (order : Statement) (e at g : ℕ) → (kd ≡ kind.Text → size order ≤ 62) → size (choose_more kd r order c e at g) ≤ 98
choose_short (kind.Number s) r c order e at g short = omega arith
choose_short kind.Date r c order e at g short = omega arith
choose_short kind.Text r c order e at g short = let one = short refl in omega (arith, one)

area_short : (function : SetFunctionKind) (order : Statement) (f : Field) (e at g : ℕ) → OrdersTexts function f g order → size (area_block function order f e at g) ≤ 100
area_short CountRows order f e at g orders = omega arith
area_short Count order f e at g orders = let all = unless_short f.cell.null (count_more e at g) in omega (arith, all)
area_short Sum order f e at g orders = let all = unless_short f.cell.null (value_more Sum order f e at g) in omega (arith, all)
area_short Avg order f e at g orders = let all = unless_short f.cell.null (value_more Avg order f e at g) in omega (arith, all)
area_short Min order f e at g orders =
    let all = unless_short f.cell.null (value_more Min order f e at g) in
    let one = choose_short f.kind (Gt Signed) f.cell order e at g (λ text. (orders tt text).short) in
    omega (arith, all, one)
area_short Max order f e at g orders =
    let all = unless_short f.cell.null (value_more Max order f e at g) in
    let one = choose_short f.kind (Lt Signed) f.cell order e at g (λ text. (orders tt text).short) in
    omega (arith, all, one)

pub aggregates_typed : (function : SetFunctionKind) (f : Field) (e at g : ℕ) (a : Statement) → Aggregates function f e at g a → (types : List ValType) → slice_get types e ≡ Some I32 → DeclaresArgument types function f → Declares types g area_types → IsTyped types a
aggregates_typed function f e at g a is types e_is f_is own = subst (IsTyped types) (sym is.is) (area_typed types e at g e_is own function is.order f is.orders f_is)

pub aggregates_short : (function : SetFunctionKind) (f : Field) (e at g : ℕ) (a : Statement) → Aggregates function f e at g a → size a ≤ 100
aggregates_short function f e at g a is = subst (λ (b : Statement). size b ≤ 100) (sym is.is) (area_short function is.order f e at g is.orders)

pub aggregates_take : (function : SetFunctionKind) (f : Field) (e at g : ℕ) (a : Statement) → e < g → IsBelow g f → Aggregates function f e at g a → Takes function f e at g a
aggregates_take function f e at g a e_low below is = record {
  runs = λ text most fuel n k o s values v turns few units stands gives e_is sized inside has room.
      takes_end (Told text) most fuel (1 + n) k o e at g (omega arith) turns e_low f below s values few v e_is sized inside room stands function a is (λ chooses. let unit = units chooses in omega (arith, unit)) gives has;
  typed = aggregates_typed function f e at g a is;
  short = aggregates_short function f e at g a is;
}
