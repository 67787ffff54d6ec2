-- Mirrors `operate` of operators.rt: what it asks for, and what it does.
use Rattle.std.specs.Prelude.{◌≡◌, ℕ, ◌+◌, ◌*◌, ◌<◌, ◌≤◌, ◌^◌, nat_le, Bool, true, false, List, length, slice_index}
use Rattle.std.specs.Bool.{MatchBool}
use Rattle.qw_module.specs.declared.instruction.ValType.{ValType}
use Rattle.qw_module.specs.declared.instruction.ValType.TheVariants.{I32}
use Rattle.qw_module.specs.declared.instruction.Op.{Op}
use Rattle.qw_module.specs.declared.instruction.Op.TheVariants.{Nop, Drop, Select, LocalGet, LocalSet, LocalTee, GlobalGet, GlobalSet, Eqz, Convert, MemorySize, MemoryGrow}
use Rattle.qw_module.specs.declared.instruction.Op.TheVariants as o
use Rattle.qw_machine.specs.declared.operators.Operated.{Operated}
use Rattle.qw_machine.specs.declared.operators.Operated.TheVariants.{Ran, Grew, Refused, Trapped}
use Rattle.qw_module.specs.declared.trap.Trap.TheVariants as trap
use Rattle.qw_module.specs.Numbers.{values_of, converts_from}
use Rattle.qw_linear.specs.Memory.{most_pages, number_at, with_number, grown_by, pages_of}
use Rattle.qw_module.specs.Execution.{refusal}
use Rattle.qw_module.specs.Step.{OpWant, Stuck', Leaves, Sets, Reads, Writes, Sizes, Requests, Fails'}

-- one or two operands of these types on top, the last one first
abbrev pub HasTop : ValType → List ℕ → Type 0
HasTop t operands = (0 < length operands) × (slice_index operands 0 < values_of t)

abbrev pub HasTopTwo : ValType → List ℕ → Type 0
HasTopTwo t operands = (1 < length operands) × (slice_index operands 0 < values_of t) × (slice_index operands 1 < values_of t)

-- There are the operands that an operator takes, values of their types where it reads them by these, and the local or global
-- that it names.
abbrev pub CanOperate : Op → (globals operands locals : List ℕ) → Type 0
CanOperate Nop globals operands locals = Unit {0}
CanOperate Drop globals operands locals = 0 < length operands
CanOperate Select globals operands locals = 2 < length operands
CanOperate (LocalGet x) globals operands locals = x < length locals
CanOperate (LocalSet x) globals operands locals = (0 < length operands) × (x < length locals)
CanOperate (LocalTee x) globals operands locals = (0 < length operands) × (x < length locals)
CanOperate (GlobalGet x) globals operands locals = x < length globals
CanOperate (GlobalSet x) globals operands locals = (0 < length operands) × (x < length globals)
CanOperate (o.Const n) globals operands locals = Unit {0}
CanOperate (o.Unary t u) globals operands locals = HasTop t operands
CanOperate (o.Binary t b) globals operands locals = HasTopTwo t operands
CanOperate (o.Division t d) globals operands locals = HasTopTwo t operands
CanOperate (Eqz t) globals operands locals = HasTop t operands
CanOperate (o.Relation t r) globals operands locals = HasTopTwo t operands
CanOperate (Convert v) globals operands locals = HasTop (converts_from v) operands
CanOperate (o.Load l arg) globals operands locals = HasTop I32 operands
CanOperate (o.Store s arg) globals operands locals = (1 < length operands) × (slice_index operands 1 < 2 ^ 32)
CanOperate MemorySize globals operands locals = Unit {0}
CanOperate MemoryGrow globals operands locals = HasTop I32 operands

-- operands, globals, locals and memory, before or after
pub record Held : Type 0 where
  pub operands : List ℕ
  pub globals : List ℕ
  pub locals : List ℕ
  pub memory : List ℕ

-- What an operator wanted was done, where so many pages may be had: it went on, with these after it; or a request was granted or
-- refused, and it went on; or it trapped, and nothing was written.
abbrev pub IsDone : OpWant → (before : Held) → (spare : ℕ) → Operated → (after : Held) → Type 0
IsDone Stuck' before spare answer after = ⊥
IsDone (Leaves operands locals) before spare answer after =
    (answer ≡ Ran) × (after ≡ record { operands = operands; globals = before.globals; locals = locals; memory = before.memory })
IsDone (Sets operands globals) before spare answer after =
    (answer ≡ Ran) × (after ≡ record { operands = operands; globals = globals; locals = before.locals; memory = before.memory })
IsDone (Reads address width make) before spare answer after =
    MatchBool (nat_le (address + width) (length before.memory))
    ((answer ≡ Ran) × (after ≡ record { operands = make (number_at before.memory address width); globals = before.globals; locals = before.locals; memory = before.memory })
    × (number_at before.memory address width < 2 ^ (8 * width)))
    ((answer ≡ Trapped trap.OutOfBounds) × (after.memory ≡ before.memory))
IsDone (Writes address width value operands) before spare answer after =
    MatchBool (nat_le (address + width) (length before.memory))
    ((answer ≡ Ran) × (after ≡ record { operands = operands; globals = before.globals; locals = before.locals; memory = with_number before.memory address width value }))
    ((answer ≡ Trapped trap.OutOfBounds) × (after.memory ≡ before.memory))
IsDone (Sizes make) before spare answer after =
    (answer ≡ Ran) × (after ≡ record { operands = make (pages_of before.memory); globals = before.globals; locals = before.locals; memory = before.memory })
    × (pages_of before.memory < 2 ^ 32)
IsDone (Requests pages make) before spare answer after =
    MatchBool (nat_le pages spare)
    ((answer ≡ Grew (pages_of before.memory) pages) × (after ≡ record { operands = make (pages_of before.memory); globals = before.globals; locals = before.locals; memory = grown_by pages before.memory })
    × (pages_of before.memory + pages ≤ most_pages))
    ((answer ≡ Refused pages) × (after ≡ record { operands = make refusal; globals = before.globals; locals = before.locals; memory = before.memory }))
IsDone (Fails' why) before spare answer after = (answer ≡ Trapped why) × (after.memory ≡ before.memory)

-- what an access came to, by whether it lies in the memory
abbrev pub accessed : Bool → Operated
accessed true = Ran
accessed false = Trapped trap.OutOfBounds
