-- Execution as a relation (WebAssembly Core Specification 1.0, 4.4). Operators of one group share a rule. An instruction that
-- may go several ways has a rule for each.
use Rattle.std.specs.Prelude.{◌≡◌, ◌≢◌, ℕ, zero, suc, ◌+◌, ◌-◌, ◌^◌, ◌⊎◌, ◌<◌, ◌≤◌, ◌==◌, nat_le, true, false, if◌then◌else◌, Bool, List, [], ◌∷◌, ◌++◌, length, take, drop, reverse, replicate, unwrap_or, Option, Some, None, Ok, Err, slice_get, slice_set}
use Rattle.qw_module.specs.declared.instruction.ValType.{ValType}
use Rattle.qw_module.specs.declared.instruction.Op.TheVariants.{Nop, Drop, Select, LocalGet, LocalSet, LocalTee, GlobalGet, GlobalSet, Eqz, Convert, MemorySize, MemoryGrow}
use Rattle.qw_module.specs.declared.instruction.Op.TheVariants as o
use Rattle.qw_module.specs.declared.instruction.Const.{Const}
use Rattle.qw_module.specs.declared.instruction.Unary.{Unary}
use Rattle.qw_module.specs.declared.instruction.Binary.{Binary}
use Rattle.qw_module.specs.declared.instruction.Division.{Division}
use Rattle.qw_module.specs.declared.instruction.Relation.{Relation}
use Rattle.qw_module.specs.declared.instruction.Conversion.{Conversion}
use Rattle.qw_module.specs.declared.instruction.Load.{Load}
use Rattle.qw_module.specs.declared.instruction.Store as instruction
use Rattle.qw_module.specs.declared.instruction.MemArg.{MemArg}
use Rattle.qw_module.specs.declared.trap.Trap.{Trap}
use Rattle.qw_module.specs.declared.trap.Trap.TheVariants as trap
use Rattle.qw_module.specs.Syntax.{Code, done, op, unreachable, block, loop, if_then, if_else, br, br_if, br_table, return, call}
use Rattle.qw_module.specs.Numbers.{constant, unary, binary, division, truth, relation, converted, load_width, loaded_value, store_width}
use Rattle.qw_linear.specs.Memory.{most_pages, number_at, with_number, grown_by, cleared, pages_of}

-- A function of a module's own, as it is called (4.2.6): how many operands it takes, how many locals follow them, how many
-- results it leaves, and its code.
pub record Closure : Type 0 where
  pub params : ℕ
  pub declared : ℕ
  pub results : ℕ
  pub body : Code

-- what a function is (4.2.6): one of the host's, of which there are `raise` and `pages`, or one of a module's own
pub data Callee : Type 0 where
  host_raise : Callee
  host_pages : Callee
  own : Closure → Callee

-- What functions and globals are (4.2.3), by their indices: those of the one module that runs.
pub record Store : Type 0 where
  pub functions : List Callee
  pub globals : List ℕ

-- What awaits the end of the sequence that runs (4.2.12, 4.2.13, "Evaluation Contexts", written
-- from the innermost out). A label has the code that a branch to it goes on with, how many operands
-- the branch takes there, the operands below, and the code after the label's end. A frame has its
-- caller's locals, its number of results, and the operands and the code of the caller. The outermost function's caller is
-- the host, and has no frame here.
pub data Context : Type 0 where
  label : (target : Code) → (arity : ℕ) → (below : List ℕ) → (after : Code) → Context
  frame : (locals : List ℕ) → (arity : ℕ) → (below : List ℕ) → (after : Code) → Context

-- An instance's own part of a configuration (4.2.13): the store, the code that runs, the operands
-- above the innermost label, the last one first, the locals of the innermost frame, and what awaits.
pub record Config : Type 0 where
  pub store : Store
  pub code : Code
  pub operands : List ℕ
  pub locals : List ℕ
  pub contexts : List Context

-- where a step leads
pub data State : Type 0 where
  Running : Config → State
  Returned : State
  Raised : (code : ℕ) → State
  Trapped : (why : Trap) → State

-- an instance has ended where it doesn't run
abbrev pub IsOver : State → Type 0
IsOver (Running c) = ⊥
IsOver Returned = Unit {0}
IsOver (Raised code) = Unit {0}
IsOver (Trapped why) = Unit {0}

-- What a step does outside the instance: an access, a growth, which is granted or refused, or a call of one of the imported
-- functions `pages`, which is granted so many pages from one on or refused, and `raise` (4.4.7, "Host Functions").
pub data Event : Type 0 where
  Silent : Event
  Loads : (address width : ℕ) → Event
  Stores : (address width : ℕ) → Event
  Grows : (pages : ℕ) → (granted : Bool) → Event
  AsksHost : (pages : ℕ) → (first : Option ℕ) → Event
  Raises : (code : ℕ) → Event
  Traps : (why : Trap) → Event

-- how many pages a step adds to a memory: of those that the host gave only where they are the memory's next ones
abbrev pub pages_gained : List ℕ → Event → ℕ
pages_gained m (Grows pages true) = pages
pages_gained m (AsksHost pages (Some first)) = if first == pages_of m then pages else 0
pages_gained m _ = 0

-- So many pages from one on can be given of a memory: those that it has, or its next ones.
abbrev pub IsPlaceIn : List ℕ → (first pages : ℕ) → Type 0
IsPlaceIn m first pages = (first + pages ≤ most_pages) × ((first ≡ pages_of m) ⊎ (first + pages ≤ pages_of m))

-- how many results a block's type has (2.3.2)
abbrev pub arity_of : Option ValType → ℕ
arity_of None = 0
arity_of (Some type) = 1

-- Leaving what is finished, as part of the step before: a label's end leaves its operands on those below
-- (4.4.6), a frame's end its results on the caller's (4.4.7), and the end of the last is the return.
abbrev pub settled : Store → List Context → Code → List ℕ → List ℕ → State
settled store [] done operands locals = Returned
settled store (label target arity below after ∷ contexts) done operands locals =
    settled store contexts after (operands ++ below) locals
settled store (frame outer arity below after ∷ contexts) done operands locals =
    settled store contexts after (operands ++ below) outer
settled store contexts code operands locals =
    Running (record { store = store; code = code; operands = operands; locals = locals; contexts = contexts })

-- A branch to the label of an index, counted from the innermost: the operands that the label takes stay,
-- those between are dropped, and the label's target goes on (4.4.5, br). None where there is no such label in
-- the frame, or too few operands.
abbrev pub branched : Store → ℕ → List Context → List ℕ → List ℕ → Option State
branched store index [] operands locals = None
branched store zero (label target arity below after ∷ contexts) operands locals =
    if nat_le arity (length operands) then Some (settled store contexts target (take arity operands ++ below) locals) else None
branched store (suc index) (label target arity below after ∷ contexts) operands locals =
    branched store index contexts operands locals
branched store index (frame outer arity below after ∷ contexts) operands locals = None

-- A return: the innermost frame is left with as many operands as it has results, and its caller goes on (4.4.5, return). The
-- outermost function returns to the host. None where there are too few operands.
abbrev pub left : Store → List Context → List ℕ → Option State
left store [] operands = Some Returned
left store (label target arity below after ∷ contexts) operands = left store contexts operands
left store (frame outer arity below after ∷ contexts) operands =
    if nat_le arity (length operands) then Some (settled store contexts after (take arity operands ++ below) outer) else None

-- going on with the rest of the sequence that runs
abbrev pub goes_on : Config → Code → List ℕ → List ℕ → State
goes_on c rest operands locals = settled c.store c.contexts rest operands locals

-- entering a block whose branches go to `target` with `arity` operands, and which is followed by `rest`
abbrev pub enters : Config → Code → ℕ → Code → List ℕ → Code → State
enters c target arity inner below rest =
    settled c.store (label target arity below rest ∷ c.contexts) inner [] c.locals

-- Entering a function of the module's own: its first locals are its arguments, of which the last was the last operand, and the
-- others are 0; its code is in a label whose end is that of the function (4.4.7, "Invocation").
abbrev pub invoked : Config → Closure → Code → State
invoked c function rest =
    settled c.store
    (label done function.results [] done ∷ frame c.locals function.results (drop function.params c.operands) rest ∷ c.contexts)
    function.body [] (reverse (take function.params c.operands) ++ replicate function.declared 0)

-- with another value of a global (4.4.3, global.set)
abbrev pub with_global : Store → ℕ → ℕ → Store
with_global store x v = record { functions = store.functions; globals = slice_set store.globals x v }

-- the label that a br_table goes to: the operand's, or the default where there is none (4.4.5, br_table)
abbrev pub chosen : List ℕ → (default : ℕ) → (operand : ℕ) → ℕ
chosen labels default n = unwrap_or (slice_get labels n) default

-- the first of two operands unless the third is 0 (4.4.2, select)
abbrev pub selected : (n first second : ℕ) → ℕ
selected n first second = if n == 0 then second else first

-- where an access begins: the address operand and the offset are added without wrapping (4.4.4)
abbrev pub effective : ℕ → MemArg → ℕ
effective address arg = address + arg.offset

-- what a growth that is refused gives, and a refused request to the host: -1 (4.4.4, memory.grow)
abbrev pub refusal : ℕ
refusal = 2 ^ 32 - 1

-- Step c m e s m': the configuration c over the memory m makes a step with the event e to s over m'.
pub data Step : Config → List ℕ → Event → State → List ℕ → Type 0 where
  -- 4.4.5 and 4.4.2
  nop : (c : Config) (m : List ℕ) (rest : Code) → c.code ≡ op Nop rest → Step c m Silent (goes_on c rest c.operands c.locals) m
  unreachable_traps : (c : Config) (m : List ℕ) (rest : Code) → c.code ≡ unreachable rest →
      Step c m (Traps trap.Unreachable) (Trapped trap.Unreachable) m
  drop_operand : (c : Config) (m : List ℕ) (v : ℕ) (operands : List ℕ) (rest : Code) → c.code ≡ op Drop rest →
      c.operands ≡ v ∷ operands → Step c m Silent (goes_on c rest operands c.locals) m
  select : (c : Config) (m : List ℕ) (n y x : ℕ) (operands : List ℕ) (rest : Code) → c.code ≡ op Select rest →
      c.operands ≡ n ∷ y ∷ x ∷ operands → Step c m Silent (goes_on c rest (selected n x y ∷ operands) c.locals) m
  -- 4.4.3
  local_get : (c : Config) (m : List ℕ) (x v : ℕ) (rest : Code) → c.code ≡ op (LocalGet x) rest →
      slice_get c.locals x ≡ Some v → Step c m Silent (goes_on c rest (v ∷ c.operands) c.locals) m
  local_set : (c : Config) (m : List ℕ) (x v : ℕ) (operands : List ℕ) (rest : Code) → c.code ≡ op (LocalSet x) rest →
      c.operands ≡ v ∷ operands → x < length c.locals → Step c m Silent (goes_on c rest operands (slice_set c.locals x v)) m
  local_tee : (c : Config) (m : List ℕ) (x v : ℕ) (operands : List ℕ) (rest : Code) → c.code ≡ op (LocalTee x) rest →
      c.operands ≡ v ∷ operands → x < length c.locals → Step c m Silent (goes_on c rest c.operands (slice_set c.locals x v)) m
  global_get : (c : Config) (m : List ℕ) (x v : ℕ) (rest : Code) → c.code ≡ op (GlobalGet x) rest →
      slice_get c.store.globals x ≡ Some v → Step c m Silent (goes_on c rest (v ∷ c.operands) c.locals) m
  global_set : (c : Config) (m : List ℕ) (x v : ℕ) (operands : List ℕ) (rest : Code) → c.code ≡ op (GlobalSet x) rest →
      c.operands ≡ v ∷ operands → x < length c.store.globals →
      Step c m Silent (settled (with_global c.store x v) c.contexts rest operands c.locals) m
  -- 4.4.1
  const : (c : Config) (m : List ℕ) (n : Const) (rest : Code) → c.code ≡ op (o.Const n) rest →
      Step c m Silent (goes_on c rest (constant n ∷ c.operands) c.locals) m
  unop : (c : Config) (m : List ℕ) (t : ValType) (u : Unary) (x : ℕ) (operands : List ℕ) (rest : Code) → c.code ≡ op (o.Unary t u) rest →
      c.operands ≡ x ∷ operands → Step c m Silent (goes_on c rest (unary t u x ∷ operands) c.locals) m
  binop : (c : Config) (m : List ℕ) (t : ValType) (b : Binary) (y x : ℕ) (operands : List ℕ) (rest : Code) → c.code ≡ op (o.Binary t b) rest →
      c.operands ≡ y ∷ x ∷ operands → Step c m Silent (goes_on c rest (binary t b x y ∷ operands) c.locals) m
  divide : (c : Config) (m : List ℕ) (t : ValType) (d : Division) (y x v : ℕ) (operands : List ℕ) (rest : Code) → c.code ≡ op (o.Division t d) rest →
      c.operands ≡ y ∷ x ∷ operands → division t d x y ≡ Ok v → Step c m Silent (goes_on c rest (v ∷ operands) c.locals) m
  divide_traps : (c : Config) (m : List ℕ) (t : ValType) (d : Division) (y x : ℕ) (why : Trap) (operands : List ℕ) (rest : Code) → c.code ≡ op (o.Division t d) rest →
      c.operands ≡ y ∷ x ∷ operands → division t d x y ≡ Err why → Step c m (Traps why) (Trapped why) m
  testop : (c : Config) (m : List ℕ) (t : ValType) (x : ℕ) (operands : List ℕ) (rest : Code) → c.code ≡ op (Eqz t) rest →
      c.operands ≡ x ∷ operands → Step c m Silent (goes_on c rest (truth (x == 0) ∷ operands) c.locals) m
  relop : (c : Config) (m : List ℕ) (t : ValType) (r : Relation) (y x : ℕ) (operands : List ℕ) (rest : Code) → c.code ≡ op (o.Relation t r) rest →
      c.operands ≡ y ∷ x ∷ operands → Step c m Silent (goes_on c rest (relation t r x y ∷ operands) c.locals) m
  cvtop : (c : Config) (m : List ℕ) (v : Conversion) (x : ℕ) (operands : List ℕ) (rest : Code) → c.code ≡ op (Convert v) rest →
      c.operands ≡ x ∷ operands → Step c m Silent (goes_on c rest (converted v x ∷ operands) c.locals) m
  -- 4.4.4; outside the memory an access traps
  load : (c : Config) (m : List ℕ) (l : Load) (arg : MemArg) (address : ℕ) (operands : List ℕ) (rest : Code) →
      c.code ≡ op (o.Load l arg) rest → c.operands ≡ address ∷ operands →
      effective address arg + load_width l ≤ length m →
      Step c m (Loads (effective address arg) (load_width l))
      (goes_on c rest (loaded_value l (number_at m (effective address arg) (load_width l)) ∷ operands) c.locals) m
  load_outside : (c : Config) (m : List ℕ) (l : Load) (arg : MemArg) (address : ℕ) (operands : List ℕ) (rest : Code) →
      c.code ≡ op (o.Load l arg) rest → c.operands ≡ address ∷ operands →
      length m < effective address arg + load_width l → Step c m (Traps trap.OutOfBounds) (Trapped trap.OutOfBounds) m
  store : (c : Config) (m : List ℕ) (s : instruction.Store) (arg : MemArg) (address v : ℕ) (operands : List ℕ) (rest : Code) →
      c.code ≡ op (o.Store s arg) rest → c.operands ≡ v ∷ address ∷ operands →
      effective address arg + store_width s ≤ length m →
      Step c m (Stores (effective address arg) (store_width s)) (goes_on c rest operands c.locals)
      (with_number m (effective address arg) (store_width s) v)
  store_outside : (c : Config) (m : List ℕ) (s : instruction.Store) (arg : MemArg) (address v : ℕ) (operands : List ℕ) (rest : Code) →
      c.code ≡ op (o.Store s arg) rest → c.operands ≡ v ∷ address ∷ operands →
      length m < effective address arg + store_width s → Step c m (Traps trap.OutOfBounds) (Trapped trap.OutOfBounds) m
  memory_size : (c : Config) (m : List ℕ) (rest : Code) → c.code ≡ op MemorySize rest →
      Step c m Silent (goes_on c rest (pages_of m ∷ c.operands) c.locals) m
  -- 4.4.4 (memory.grow) and 4.5.3 ("Growing memories"): a growth may be refused even where it could be granted. In the standard
  -- one past the memory's own greatest number of pages fails too (4.2.8). There is none here: the memory is a list of octets,
  -- compiled modules are linked to a memory without one, and no growth passes 65,535 pages.
  grow_granted : (c : Config) (m : List ℕ) (pages : ℕ) (operands : List ℕ) (rest : Code) → c.code ≡ op MemoryGrow rest →
      c.operands ≡ pages ∷ operands → pages_of m + pages ≤ most_pages →
      Step c m (Grows pages true) (goes_on c rest (pages_of m ∷ operands) c.locals) (grown_by pages m)
  grow_refused : (c : Config) (m : List ℕ) (pages : ℕ) (operands : List ℕ) (rest : Code) → c.code ≡ op MemoryGrow rest →
      c.operands ≡ pages ∷ operands → Step c m (Grows pages false) (goes_on c rest (refusal ∷ operands) c.locals) m
  -- 4.4.5; a branch to a loop begins the loop again
  enter_block : (c : Config) (m : List ℕ) (result : Option ValType) (inner rest : Code) → c.code ≡ block result inner rest →
      Step c m Silent (enters c rest (arity_of result) inner c.operands rest) m
  enter_loop : (c : Config) (m : List ℕ) (result : Option ValType) (inner rest : Code) → c.code ≡ loop result inner rest →
      Step c m Silent (enters c (loop result inner rest) 0 inner c.operands rest) m
  if_true : (c : Config) (m : List ℕ) (result : Option ValType) (inner other rest : Code) (n : ℕ) (operands : List ℕ) →
      c.code ≡ if_else result inner other rest → c.operands ≡ n ∷ operands → n ≢ 0 →
      Step c m Silent (enters c rest (arity_of result) inner operands rest) m
  if_false : (c : Config) (m : List ℕ) (result : Option ValType) (inner other rest : Code) (operands : List ℕ) →
      c.code ≡ if_else result inner other rest → c.operands ≡ 0 ∷ operands →
      Step c m Silent (enters c rest (arity_of result) other operands rest) m
  -- without `else` the other sequence is empty (5.4.1)
  then_true : (c : Config) (m : List ℕ) (result : Option ValType) (inner rest : Code) (n : ℕ) (operands : List ℕ) →
      c.code ≡ if_then result inner rest → c.operands ≡ n ∷ operands → n ≢ 0 →
      Step c m Silent (enters c rest (arity_of result) inner operands rest) m
  then_false : (c : Config) (m : List ℕ) (result : Option ValType) (inner rest : Code) (operands : List ℕ) →
      c.code ≡ if_then result inner rest → c.operands ≡ 0 ∷ operands →
      Step c m Silent (enters c rest (arity_of result) done operands rest) m
  branch : (c : Config) (m : List ℕ) (index : ℕ) (rest : Code) (s : State) → c.code ≡ br index rest →
      branched c.store index c.contexts c.operands c.locals ≡ Some s → Step c m Silent s m
  branch_taken : (c : Config) (m : List ℕ) (index n : ℕ) (rest : Code) (operands : List ℕ) (s : State) → c.code ≡ br_if index rest →
      c.operands ≡ n ∷ operands → n ≢ 0 → branched c.store index c.contexts operands c.locals ≡ Some s → Step c m Silent s m
  branch_passed : (c : Config) (m : List ℕ) (index : ℕ) (rest : Code) (operands : List ℕ) → c.code ≡ br_if index rest →
      c.operands ≡ 0 ∷ operands → Step c m Silent (goes_on c rest operands c.locals) m
  branch_chosen : (c : Config) (m : List ℕ) (labels : List ℕ) (default n : ℕ) (rest : Code) (operands : List ℕ) (s : State) →
      c.code ≡ br_table labels default rest → c.operands ≡ n ∷ operands →
      branched c.store (chosen labels default n) c.contexts operands c.locals ≡ Some s → Step c m Silent s m
  leave : (c : Config) (m : List ℕ) (rest : Code) (s : State) → c.code ≡ return rest →
      left c.store c.contexts c.operands ≡ Some s → Step c m Silent s m
  -- 4.4.7; the imported function `raise` takes a code and ends the instance: in the standard's terms a trap of the host
  -- function, told apart by its code. A function of the module's own gets a frame.
  raise : (c : Config) (m : List ℕ) (index code : ℕ) (operands : List ℕ) (rest : Code) → c.code ≡ call index rest →
      slice_get c.store.functions index ≡ Some host_raise → c.operands ≡ code ∷ operands → Step c m (Raises code) (Raised code) m
  -- The imported function `pages` takes how many pages are wanted and gives the number of the first of so many neighbouring ones, whose
  -- octets are 0 then, or -1: the host chooses which, and may refuse.
  ask_granted : (c : Config) (m : List ℕ) (index pages first : ℕ) (operands : List ℕ) (rest : Code) → c.code ≡ call index rest →
      slice_get c.store.functions index ≡ Some host_pages → c.operands ≡ pages ∷ operands → IsPlaceIn m first pages →
      Step c m (AsksHost pages (Some first)) (goes_on c rest (first ∷ operands) c.locals) (cleared first pages m)
  ask_refused : (c : Config) (m : List ℕ) (index pages : ℕ) (operands : List ℕ) (rest : Code) → c.code ≡ call index rest →
      slice_get c.store.functions index ≡ Some host_pages → c.operands ≡ pages ∷ operands →
      Step c m (AsksHost pages None) (goes_on c rest (refusal ∷ operands) c.locals) m
  invoke : (c : Config) (m : List ℕ) (index : ℕ) (function : Closure) (rest : Code) → c.code ≡ call index rest →
      slice_get c.store.functions index ≡ Some (own function) → function.params ≤ length c.operands →
      Step c m Silent (invoked c function rest) m
