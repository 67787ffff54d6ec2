-- The steps that are added for a set function.
use Rattle.std.proofs.Common.{◌≡◌, ℕ, ◌⊎◌, inl, inr, Option, Some, None, List, [], ◌∷◌, ◌++◌, refl, sym, ap, ◌∙◌, subst}
use Rattle.std.proofs.lemmas.List.{append_assoc, append-nil}
use Rattle.qw_types.specs.declared.kind.Kind.{Kind}
use Rattle.qw_types.specs.declared.kind.Kind.TheVariants as kind
use Rattle.qw_grouped.specs.declared.set_function.SetFunctionKind.{SetFunctionKind}
use Rattle.qw_grouped.specs.declared.set_function.SetFunctionKind.TheVariants.{CountRows, Count, Sum, Avg}
use Rattle.qw_module.specs.declared.instruction.ValType.TheVariants.{I64}
use Rattle.qw_module.specs.declared.instruction.MemArg.{MemArg}
use Rattle.qw_module.specs.declared.instruction.Relation.{Relation}
use Rattle.qw_module.specs.declared.instruction.Relation.TheVariants.{Ne}
use Rattle.qw_module.specs.declared.instruction.Const.TheVariants as const
use Rattle.qw_module.specs.declared.instruction.Load.TheVariants as loads
use Rattle.qw_module.specs.declared.instruction.Op.TheVariants as o
use Rattle.qw_low.specs.declared.cell.Cell.{Cell}
use Rattle.qw_low.specs.declared.step.LowStep.{LowStep}
use Rattle.qw_low.specs.declared.step.LowStep.TheVariants as step
use Rattle.qw_low.specs.Syntax.{Statement, skip}
use Rattle.qw_low.specs.Steps.{expression_steps, steps_of}
use Rattle.qw_low.specs.Translation.{unaligned}
use Rattle.qw_low.proofs.Appended.{two}
use Rattle.qw_table.specs.Joins.{unless_null}
use Rattle.qw_table.specs.Inner.GuardSteps.{open_one, close_one}
use Rattle.qw_table.specs.declared.key.Field.{Field}
use Rattle.qw_group.specs.Areas.{OrdersTexts, count_more, sum_more, plain_put, chosen_read, is_beaten, choose_more, value_more}

-- a number or a date
abbrev pub IsNumeric : Kind → Type 0
IsNumeric kd = ((d : ℕ) × (kd ≡ kind.Number d)) ⊎ (kd ≡ kind.Date)

pub read_steps : (kd : Kind) (e at g : ℕ) (access : MemArg) (old new : List LowStep) → IsNumeric kd → access ≡ unaligned at → new ≡ old ++ (step.Op (o.LocalGet e) ∷ step.Op (o.Load (loads.Full I64) access) ∷ step.Op (o.LocalSet g) ∷ []) →
    new ≡ old ++ steps_of (chosen_read kd skip e at g)
read_steps kd e at g access old new (inl one) is added =
    subst (λ (k : Kind). new ≡ old ++ steps_of (chosen_read k skip e at g)) (sym one.1) (added ∙ ap (λ (a : MemArg). old ++ (step.Op (o.LocalGet e) ∷ step.Op (o.Load (loads.Full I64) a) ∷ step.Op (o.LocalSet g) ∷ [])) is)
read_steps kd e at g access old new (inr date) is added =
    subst (λ (k : Kind). new ≡ old ++ steps_of (chosen_read k skip e at g)) (sym date) (added ∙ ap (λ (a : MemArg). old ++ (step.Op (o.LocalGet e) ∷ step.Op (o.Load (loads.Full I64) a) ∷ step.Op (o.LocalSet g) ∷ [])) is)

pub numeric_apart : (kd : Kind) → IsNumeric kd → kd ≡ kind.Text → ⊥
numeric_apart kd (inl one) text = apart (kind.Number one.0) (sym one.1 ∙ text) one.0 refl
  where
    apart : (k : Kind) → k ≡ kind.Text → (d : ℕ) → k ≡ kind.Number d → ⊥
    apart (kind.Number e) text d is = absurd cc
    apart kind.Date text d is = absurd cc
    apart kind.Text text d is = absurd cc
numeric_apart kd (inr date) text = apart kd date text
  where
    apart : (k : Kind) → k ≡ kind.Date → k ≡ kind.Text → ⊥
    apart (kind.Number e) date text = absurd cc
    apart kind.Date date text = absurd cc
    apart kind.Text date text = absurd cc

-- a choice within a choice
nested : (R B P Y : List LowStep) → (R ++ (B ++ (step.If ∷ (P ++ (step.Else ∷ step.End ∷ []))))) ++ Y ≡ R ++ (B ++ (step.If ∷ (P ++ (step.Else ∷ step.End ∷ Y))))
nested R B P Y =
    append_assoc R (B ++ (step.If ∷ (P ++ (step.Else ∷ step.End ∷ [])))) Y
    ∙ ap (λ (l : List LowStep). R ++ l) (append_assoc B (step.If ∷ (P ++ (step.Else ∷ step.End ∷ []))) Y
    ∙ ap (λ (l : List LowStep). B ++ (step.If ∷ l)) (append_assoc P (step.Else ∷ step.End ∷ []) Y))

pub choose_steps : (kd : Kind) (r : Relation) (order : Statement) (c : Cell) (e at g : ℕ) (a0 a1 a2 a3 a4 a5 a6 a7 a8 a9 : List LowStep) → a1 ≡ a0 ++ steps_of (count_more e at g) →
    a2 ≡ a1 ++ (step.Op (o.LocalGet g) ∷ step.Op (o.Const (const.I64 0)) ∷ step.Op (o.Relation I64 Ne) ∷ step.If ∷ []) → a3 ≡ a2 ++ steps_of (chosen_read kd order e at g) → a4 ≡ a3 ++ expression_steps (is_beaten kd r c g) → a5 ≡ a4 ++ step.If ∷ [] →
    a6 ≡ a5 ++ steps_of (plain_put kd c e at) → a7 ≡ a6 ++ (step.Else ∷ step.End ∷ step.Else ∷ []) → a8 ≡ a7 ++ steps_of (plain_put kd c e at) → a9 ≡ a8 ++ step.End ∷ [] → a9 ≡ a0 ++ steps_of (choose_more kd r order c e at g)
choose_steps kd r order c e at g a0 a1 a2 a3 a4 a5 a6 a7 a8 a9 h1 h2 h3 h4 h5 h6 h7 h8 h9 =
    let C = steps_of (count_more e at g) in
    let T = step.Op (o.LocalGet g) ∷ step.Op (o.Const (const.I64 0)) ∷ step.Op (o.Relation I64 Ne) ∷ step.If ∷ [] in
    let R = steps_of (chosen_read kd order e at g) in
    let B = expression_steps (is_beaten kd r c g) in
    let P = steps_of (plain_put kd c e at) in
    let E = step.Else ∷ step.End ∷ step.Else ∷ [] in
    let l7 = P ++ step.End ∷ [] in
    let l6 = E ++ l7 in
    let l5 = P ++ l6 in
    let l4 = step.If ∷ l5 in
    let l3 = B ++ l4 in
    let l2 = R ++ l3 in
    let l1 = T ++ l2 in
    two a0 a1 a9 C l1 h1 (two a1 a2 a9 T l2 h2 (two a2 a3 a9 R l3 h3 (two a3 a4 a9 B l4 h4 (two a4 a5 a9 (step.If ∷ []) l5 h5 (two a5 a6 a9 P l6 h6 (two a6 a7 a9 E l7 h7 (two a7 a8 a9 P (step.End ∷ []) h8 h9)))))))
    ∙ ap (λ (l : List LowStep). a0 ++ (C ++ (step.Op (o.LocalGet g) ∷ step.Op (o.Const (const.I64 0)) ∷ step.Op (o.Relation I64 Ne) ∷ step.If ∷ l))) (sym (nested R B P (step.Else ∷ l7)))

pub unless_steps : (null : Option ℕ) (a : Statement) (a0 a1 a2 a3 : List LowStep) → a1 ≡ a0 ++ open_one null → a2 ≡ a1 ++ steps_of a → a3 ≡ a2 ++ close_one null → a3 ≡ a0 ++ steps_of (unless_null null a)
unless_steps None a a0 a1 a2 a3 one more last = last ∙ (append-nil a2 ∙ (more ∙ ap (λ (l : List LowStep). l ++ steps_of a) (one ∙ append-nil a0)))
unless_steps (Some n) a a0 a1 a2 a3 one more last = two a0 a1 a3 (open_one (Some n)) (steps_of a ++ step.End ∷ []) one (two a1 a2 a3 (steps_of a) (step.End ∷ []) more last)

-- ---- by the function
pub count_value : (function : SetFunctionKind) (f : Field) (e at g : ℕ) (old new : List LowStep) → (function ≡ CountRows) ⊎ (function ≡ Count) → new ≡ old ++ steps_of (count_more e at g) →
    (order : Statement) × (new ≡ old ++ steps_of (value_more function order f e at g)) × OrdersTexts function f g order
count_value function f e at g old new (inl is) added = rw is (skip, added, λ chooses text. absurd chooses)
count_value function f e at g old new (inr is) added = rw is (skip, added, λ chooses text. absurd chooses)

pub sum_value : (function : SetFunctionKind) (f : Field) (e at g : ℕ) (old mid new : List LowStep) → (function ≡ Sum) ⊎ (function ≡ Avg) → mid ≡ old ++ steps_of (count_more e at g) → new ≡ mid ++ steps_of (sum_more e at f.cell.value g) →
    (order : Statement) × (new ≡ old ++ steps_of (value_more function order f e at g)) × OrdersTexts function f g order
sum_value function f e at g old mid new (inl is) counted added = rw is (skip, two old mid new (steps_of (count_more e at g)) (steps_of (sum_more e at f.cell.value g)) counted added, λ chooses text. absurd chooses)
sum_value function f e at g old mid new (inr is) counted added = rw is (skip, two old mid new (steps_of (count_more e at g)) (steps_of (sum_more e at f.cell.value g)) counted added, λ chooses text. absurd chooses)
