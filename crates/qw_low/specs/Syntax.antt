-- The syntax of Low: expressions, which neither read memory nor stop, and statements. Locals are named by their indices, and
-- operators are those of WebAssembly (Core Specification 1.0, 2.4).
use Rattle.std.specs.Prelude.{ℕ}
use Rattle.qw_module.specs.declared.instruction.ValType.{ValType}
use Rattle.qw_module.specs.declared.instruction.Const.{Const}
use Rattle.qw_module.specs.declared.instruction.Unary.{Unary}
use Rattle.qw_module.specs.declared.instruction.Binary.{Binary}
use Rattle.qw_module.specs.declared.instruction.Division.{Division}
use Rattle.qw_module.specs.declared.instruction.Relation.{Relation}
use Rattle.qw_module.specs.declared.instruction.Conversion.{Conversion}
use Rattle.qw_module.specs.declared.instruction.Load.{Load}
use Rattle.qw_module.specs.declared.instruction.Store.{Store}

-- `is_zero` is the standard's test (2.4.1, itestop), and may be of an address; `advance` is an address so many octets further on, and
-- `retreat` one so many octets back.
pub data Expression : Type 0 where
  constant_of : Const → Expression
  local : ℕ → Expression
  unop : ValType → Unary → Expression → Expression
  binop : ValType → Binary → Expression → Expression → Expression
  divop : ValType → Division → Expression → Expression → Expression
  is_zero : ValType → Expression → Expression
  relop : ValType → Relation → Expression → Expression → Expression
  cvtop : Conversion → Expression → Expression
  advance : (address octets : Expression) → Expression
  retreat : (address octets : Expression) → Expression

-- `conditional` takes its first statement unless the expression is 0. `request` asks for so many pages, and leaves the address
-- of what is granted in a local; where it is refused, 3 is raised. `exit` ends the run.
pub data Statement : Type 0 where
  skip : Statement
  seq : (first second : Statement) → Statement
  assign : (to : ℕ) → Expression → Statement
  load : (to : ℕ) → Load → (offset : ℕ) → (address : Expression) → Statement
  store : Store → (offset : ℕ) → (address stored : Expression) → Statement
  conditional : Expression → (first second : Statement) → Statement
  while : Expression → (body : Statement) → Statement
  request : (pages : Expression) → (to : ℕ) → Statement
  raise : (code : ℕ) → Statement
  exit : Statement
