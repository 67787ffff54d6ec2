use Rattle.std.proofs.Common.{[], ◌∷◌, Some, None, refl, arith}
use Rattle.qw_module.specs.declared.instruction.ValType.TheVariants.{I32, I64}
use Rattle.qw_module.specs.declared.instruction.Op.TheVariants as o
use Rattle.qw_module.specs.declared.instruction.Const.TheVariants as const
use Rattle.qw_module.specs.declared.instruction.Binary.TheVariants.{Add}
use Rattle.qw_module.specs.Syntax.{done, op, br, if_else}
use Rattle.qw_module.specs.Typing.{within, Scope, typed-nop, typed-const, typed-binary, typed-done, typed-op, typed-unreachable, typed-block, typed-loop, typed-if_then, typed-if_else, typed-br, typed-br_if, typed-br_table, typed-return, typed-call}
use Rattle.qw_module.specs.Worked.{scope}
use Rattle.qw_module.proofs.TypedParts.{parts}
use Rattle.qw_module.proofs.worked_laws.typed_sequences.Goals as goal

-- in a block of a result, and in one without
abbrev inner : Scope
inner = within scope (I32 ∷ [])

abbrev empty : Scope
empty = within scope []

pub returns-clause-stopped : goal.returns-clause-stopped
returns-clause-stopped c = typed-unreachable scope _ [] (I64 ∷ I64 ∷ []) (I64 ∷ []) (typed-op scope (o.Binary I64 Add) done (I64 ∷ I64 ∷ []) (I64 ∷ []) (I64 ∷ []) (typed-binary scope [] I64 Add) (typed-done scope (I64 ∷ [])))

pub returns-clause-block : goal.returns-clause-block
returns-clause-block c = typed-block scope (Some I32) (op (o.Const (const.I32 7)) done) done [] (I32 ∷ []) (typed-op inner (o.Const (const.I32 7)) done [] (I32 ∷ []) (I32 ∷ []) (typed-const inner [] (const.I32 7) (omega arith)) (typed-done inner (I32 ∷ []))) (typed-done scope (I32 ∷ []))

pub returns-clause-begun_again : goal.returns-clause-begun_again
returns-clause-begun_again c = typed-loop scope (Some I32) (br 0 done) done [] (I32 ∷ []) (typed-br empty 0 done [] [] (I32 ∷ []) (I32 ∷ []) refl (typed-done empty (I32 ∷ []))) (typed-done scope (I32 ∷ []))

pub returns-clause-if_then : goal.returns-clause-if_then
returns-clause-if_then c = typed-if_then scope (op o.Nop done) done [] [] (typed-op empty o.Nop done [] [] [] (typed-nop empty []) (typed-done empty [])) (typed-done scope [])

pub returns-clause-if_else : goal.returns-clause-if_else
returns-clause-if_else c = typed-if_else scope None done done done [] [] (typed-done empty []) (typed-done empty []) (typed-done scope [])

pub returns-clause-if_without_its_other_result : goal.returns-clause-if_without_its_other_result
returns-clause-if_without_its_other_result c = λ before after typed. let p = parts scope (if_else (Some I32) (op (o.Const (const.I32 7)) done) done done) before after typed in let e = parts inner done [] (I32 ∷ []) p.3 in cc

pub returns-clause-branch : goal.returns-clause-branch
returns-clause-branch c = typed-br scope 0 _ [] [] (I64 ∷ I64 ∷ []) (I64 ∷ []) refl (typed-op scope (o.Binary I64 Add) done (I64 ∷ I64 ∷ []) (I64 ∷ []) (I64 ∷ []) (typed-binary scope [] I64 Add) (typed-done scope (I64 ∷ [])))

pub returns-clause-choice : goal.returns-clause-choice
returns-clause-choice c = typed-br_if scope 0 done [] [] [] refl (typed-done scope [])

pub returns-clause-table : goal.returns-clause-table
returns-clause-table c = typed-br_table empty (1 ∷ []) 0 done [] [] (I64 ∷ []) (I64 ∷ []) (refl, tt) refl (typed-done empty (I64 ∷ []))

pub returns-clause-returned : goal.returns-clause-returned
returns-clause-returned c = typed-return scope done (I32 ∷ []) [] [] (typed-done scope [])

pub returns-clause-called : goal.returns-clause-called
returns-clause-called c = typed-call scope 0 _ done [] (I64 ∷ []) refl (typed-done scope (I64 ∷ []))
