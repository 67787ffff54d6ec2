use Rattle.std.proofs.Common.{[], ◌∷◌, refl, arith}
use Rattle.qw_module.specs.declared.instruction.ValType.TheVariants.{I32, I64}
use Rattle.qw_module.specs.declared.instruction.Sign.TheVariants.{Signed, Unsigned}
use Rattle.qw_module.specs.declared.instruction.Const.TheVariants as const
use Rattle.qw_module.specs.declared.instruction.Unary.TheVariants.{Clz}
use Rattle.qw_module.specs.declared.instruction.Binary.TheVariants.{Add}
use Rattle.qw_module.specs.declared.instruction.Division.TheVariants.{Div}
use Rattle.qw_module.specs.declared.instruction.Relation.TheVariants.{Lt}
use Rattle.qw_module.specs.declared.instruction.Conversion.TheVariants.{Extend}
use Rattle.qw_module.specs.declared.instruction.Load.TheVariants as load
use Rattle.qw_module.specs.declared.instruction.Store.TheVariants as store_of
use Rattle.qw_module.specs.Typing.{typed-drop, typed-select, typed-local_get, typed-local_set, typed-local_tee, typed-global_get, typed-global_set, typed-const, typed-unary, typed-binary, typed-division, typed-eqz, typed-relation, typed-convert, typed-load, typed-store, typed-size, typed-grow}
use Rattle.qw_module.specs.Worked.{scope}
use Rattle.qw_module.proofs.worked_laws.typed_operators.Goals as goal

pub returns-clause-dropped : goal.returns-clause-dropped
returns-clause-dropped c = typed-drop scope (I32 ∷ []) I64

pub returns-clause-selected : goal.returns-clause-selected
returns-clause-selected c = typed-select scope [] I64

pub returns-clause-local_get : goal.returns-clause-local_get
returns-clause-local_get c = typed-local_get scope [] 1 I64 refl

pub returns-clause-local_set : goal.returns-clause-local_set
returns-clause-local_set c = typed-local_set scope [] 1 I64 refl

pub returns-clause-local_tee : goal.returns-clause-local_tee
returns-clause-local_tee c = typed-local_tee scope [] 0 I32 refl

pub returns-clause-global_get : goal.returns-clause-global_get
returns-clause-global_get c = typed-global_get scope [] 1 _ refl

pub returns-clause-global_set : goal.returns-clause-global_set
returns-clause-global_set c = typed-global_set scope [] 0 _ refl refl

pub returns-clause-constant : goal.returns-clause-constant
returns-clause-constant c = typed-const scope [] (const.I32 4294967295) (omega arith)

pub returns-clause-unary : goal.returns-clause-unary
returns-clause-unary c = typed-unary scope [] I64 Clz

pub returns-clause-binary : goal.returns-clause-binary
returns-clause-binary c = typed-binary scope [] I64 Add

pub returns-clause-division : goal.returns-clause-division
returns-clause-division c = typed-division scope [] I32 (Div Signed)

pub returns-clause-eqz : goal.returns-clause-eqz
returns-clause-eqz c = typed-eqz scope [] I64

pub returns-clause-relation : goal.returns-clause-relation
returns-clause-relation c = typed-relation scope [] I64 (Lt Signed)

pub returns-clause-convert : goal.returns-clause-convert
returns-clause-convert c = typed-convert scope [] (Extend Signed)

pub returns-clause-load : goal.returns-clause-load
returns-clause-load c = typed-load scope [] (load.I64From32 Signed) (record { align = 2; offset = 9 }) (omega arith) (omega arith)

pub returns-clause-load_of_an_octet : goal.returns-clause-load_of_an_octet
returns-clause-load_of_an_octet c = typed-load scope [] (load.From8 I64 Unsigned) (record { align = 0; offset = 9 }) (omega arith) (omega arith)

pub returns-clause-store : goal.returns-clause-store
returns-clause-store c = typed-store scope [] (store_of.Full I64) (record { align = 3; offset = 9 }) (omega arith) (omega arith)

pub returns-clause-size : goal.returns-clause-size
returns-clause-size c = typed-size scope [] (omega arith)

pub returns-clause-growth : goal.returns-clause-growth
returns-clause-growth c = typed-grow scope [] (omega arith)
