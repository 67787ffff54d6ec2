-- The step of `Execution`, computed: what the instruction wants of memory, and what memory answers. Which requests are granted
-- is a test of the pages asked, and where the host places a granted one a function of them.
use Rattle.std.specs.Prelude.{◌≡◌, ℕ, zero, suc, ◌+◌, ◌==◌, Bool, true, false, ◌&&◌, ◌||◌, is_some, nat_lt, nat_le, if◌then◌else◌, List, [], ◌∷◌, length, Option, Some, None, Result, Ok, Err, slice_get, slice_set}
use Rattle.qw_module.specs.declared.instruction.Op.{Op}
use Rattle.qw_module.specs.declared.instruction.Op.TheVariants.{Nop, Drop, Select, LocalGet, LocalSet, LocalTee, GlobalGet, GlobalSet, Eqz, Convert, MemorySize, MemoryGrow}
use Rattle.qw_module.specs.declared.instruction.Op.TheVariants as o
use Rattle.qw_module.specs.declared.trap.Trap.{Trap}
use Rattle.qw_module.specs.declared.trap.Trap.TheVariants as trap
use Rattle.qw_module.specs.Syntax.{Code, done, op, unreachable, block, loop, if_then, if_else, br, br_if, br_table, return, call}
use Rattle.qw_module.specs.Numbers.{constant, unary, binary, division, truth, relation, converted, load_width, loaded_value, store_width}
use Rattle.qw_linear.specs.Memory.{most_pages, number_at, with_number, grown_by, cleared, pages_of}
use Rattle.qw_module.specs.Execution.{Callee, host_raise, host_pages, own, Config, State, Raised, Trapped, Event, Silent, Loads, Stores, Grows, AsksHost, Raises, Traps, refusal, arity_of, settled, branched, left, goes_on, enters, invoked, chosen, selected, effective}

-- what an instruction wants: nothing of memory, the number at a place, a number put at a place, the number of pages, or pages,
-- whose number before a growth it goes on with, or of which the host tells the first; or it raises a code, or traps
pub data Want : Type 0 where
  Stuck : Want
  Goes : State → Want
  Asks : (address width : ℕ) → (ℕ → State) → Want
  Puts : (address width value : ℕ) → State → Want
  Measures : (ℕ → State) → Want
  AsksPages : (pages : ℕ) → (ℕ → State) → Want
  AsksPlace : (pages : ℕ) → (ℕ → State) → Want
  Signals : (code : ℕ) → Want
  Fails : (why : Trap) → Want

-- the same of an instruction that holds no other: what it leaves of operands and of locals or globals
pub data OpWant : Type 0 where
  Stuck' : OpWant
  Leaves : (operands locals : List ℕ) → OpWant
  Sets : (operands globals : List ℕ) → OpWant
  Reads : (address width : ℕ) → (ℕ → List ℕ) → OpWant
  Writes : (address width value : ℕ) → (operands : List ℕ) → OpWant
  Sizes : (ℕ → List ℕ) → OpWant
  Requests : (pages : ℕ) → (ℕ → List ℕ) → OpWant
  Fails' : (why : Trap) → OpWant

abbrev pub pushes_if_some : Option ℕ → List ℕ → List ℕ → OpWant
pushes_if_some None operands locals = Stuck'
pushes_if_some (Some v) operands locals = Leaves (v ∷ operands) locals

abbrev pub leaves_or_fails : Result ℕ Trap → List ℕ → List ℕ → OpWant
leaves_or_fails (Err why) operands locals = Fails' why
leaves_or_fails (Ok v) operands locals = Leaves (v ∷ operands) locals

abbrev pub op_wants : Op → (globals operands locals : List ℕ) → OpWant
op_wants Nop globals operands locals = Leaves operands locals
op_wants Drop globals (v ∷ operands) locals = Leaves operands locals
op_wants Select globals (n ∷ y ∷ x ∷ operands) locals = Leaves (selected n x y ∷ operands) locals
op_wants (LocalGet x) globals operands locals = pushes_if_some (slice_get locals x) operands locals
op_wants (LocalSet x) globals (v ∷ operands) locals = if nat_lt x (length locals) then Leaves operands (slice_set locals x v) else Stuck'
op_wants (LocalTee x) globals (v ∷ operands) locals = if nat_lt x (length locals) then Leaves (v ∷ operands) (slice_set locals x v) else Stuck'
op_wants (GlobalGet x) globals operands locals = pushes_if_some (slice_get globals x) operands locals
op_wants (GlobalSet x) globals (v ∷ operands) locals = if nat_lt x (length globals) then Sets operands (slice_set globals x v) else Stuck'
op_wants (o.Const n) globals operands locals = Leaves (constant n ∷ operands) locals
op_wants (o.Unary t u) globals (x ∷ operands) locals = Leaves (unary t u x ∷ operands) locals
op_wants (o.Binary t b) globals (y ∷ x ∷ operands) locals = Leaves (binary t b x y ∷ operands) locals
op_wants (o.Division t d) globals (y ∷ x ∷ operands) locals = leaves_or_fails (division t d x y) operands locals
op_wants (Eqz t) globals (x ∷ operands) locals = Leaves (truth (x == 0) ∷ operands) locals
op_wants (o.Relation t r) globals (y ∷ x ∷ operands) locals = Leaves (relation t r x y ∷ operands) locals
op_wants (Convert v) globals (x ∷ operands) locals = Leaves (converted v x ∷ operands) locals
op_wants (o.Load l arg) globals (address ∷ operands) locals =
    Reads (effective address arg) (load_width l) (λ n. loaded_value l n ∷ operands)
op_wants (o.Store s arg) globals (v ∷ address ∷ operands) locals = Writes (effective address arg) (store_width s) v operands
op_wants MemorySize globals operands locals = Sizes (λ n. n ∷ operands)
op_wants MemoryGrow globals (pages ∷ operands) locals = Requests pages (λ n. n ∷ operands)
op_wants _ globals operands locals = Stuck'

-- with the rest of the sequence
abbrev pub then_wants : OpWant → Config → Code → Want
then_wants Stuck' c rest = Stuck
then_wants (Leaves operands locals) c rest = Goes (goes_on c rest operands locals)
then_wants (Sets operands globals) c rest =
    Goes (settled (record { functions = c.store.functions; globals = globals }) c.contexts rest operands c.locals)
then_wants (Reads address width make) c rest = Asks address width (λ n. goes_on c rest (make n) c.locals)
then_wants (Writes address width value operands) c rest = Puts address width value (goes_on c rest operands c.locals)
then_wants (Sizes make) c rest = Measures (λ n. goes_on c rest (make n) c.locals)
then_wants (Requests pages make) c rest = AsksPages pages (λ n. goes_on c rest (make n) c.locals)
then_wants (Fails' why) c rest = Fails why

abbrev pub goes_if_some : Option State → Want
goes_if_some None = Stuck
goes_if_some (Some s) = Goes s

-- a choice by an operand: the first unless it is 0
abbrev pub by_operand : List ℕ → (List ℕ → Want) → (List ℕ → Want) → Want
by_operand [] other zeroth = Stuck
by_operand (zero ∷ operands) other zeroth = zeroth operands
by_operand (suc n ∷ operands) other zeroth = other operands

-- what depends on an operand otherwise
abbrev pub with_operand : List ℕ → (ℕ → List ℕ → Want) → Want
with_operand [] want = Stuck
with_operand (n ∷ operands) want = want n operands

-- what a call wants of what is called
abbrev pub call_wants : Option Callee → Config → Code → Want
call_wants None c rest = Stuck
call_wants (Some host_raise) c rest = with_operand c.operands (λ code operands. Signals code)
call_wants (Some host_pages) c rest = with_operand c.operands (λ pages operands. AsksPlace pages (λ first. goes_on c rest (first ∷ operands) c.locals))
call_wants (Some (own function)) c rest = if nat_le function.params (length c.operands) then Goes (invoked c function rest) else Stuck

abbrev pub code_wants : Code → Config → Want
code_wants done c = Stuck
code_wants (op o rest) c = then_wants (op_wants o c.store.globals c.operands c.locals) c rest
code_wants (unreachable rest) c = Fails trap.Unreachable
code_wants (block result inner rest) c = Goes (enters c rest (arity_of result) inner c.operands rest)
code_wants (loop result inner rest) c = Goes (enters c (loop result inner rest) 0 inner c.operands rest)
code_wants (if_then result inner rest) c =
    by_operand c.operands (λ operands. Goes (enters c rest (arity_of result) inner operands rest)) (λ operands. Goes (enters c rest (arity_of result) done operands rest))
code_wants (if_else result inner other rest) c =
    by_operand c.operands (λ operands. Goes (enters c rest (arity_of result) inner operands rest)) (λ operands. Goes (enters c rest (arity_of result) other operands rest))
code_wants (br index rest) c = goes_if_some (branched c.store index c.contexts c.operands c.locals)
code_wants (br_if index rest) c =
    by_operand c.operands (λ operands. goes_if_some (branched c.store index c.contexts operands c.locals)) (λ operands. Goes (goes_on c rest operands c.locals))
code_wants (br_table labels default rest) c =
    with_operand c.operands (λ n operands. goes_if_some (branched c.store (chosen labels default n) c.contexts operands c.locals))
code_wants (return rest) c = goes_if_some (left c.store c.contexts c.operands)
code_wants (call index rest) c = call_wants (slice_get c.store.functions index) c rest

abbrev pub wants : Config → Want
wants c = code_wants c.code c

-- a step: its event, where it leads, and the memory after it
pub record Next : Type 0 where
  pub event : Event
  pub state : State
  pub memory : List ℕ

-- whether so many pages from one on can be given of a memory
abbrev pub can_place : (first pages : ℕ) → List ℕ → Bool
can_place first pages m = nat_le (first + pages) most_pages && ((first == pages_of m) || nat_le (first + pages) (pages_of m))

-- what memory answers; no growth leads past the most pages that there can be
abbrev pub answered : (grants : ℕ → Bool) → (place : ℕ → ℕ) → List ℕ → Want → Option Next
answered grants place m Stuck = None
answered grants place m (Goes s) = Some (record { event = Silent; state = s; memory = m })
answered grants place m (Asks address width make) =
    if nat_le (address + width) (length m)
    then Some (record { event = Loads address width; state = make (number_at m address width); memory = m })
    else Some (record { event = Traps trap.OutOfBounds; state = Trapped trap.OutOfBounds; memory = m })
answered grants place m (Puts address width value s) =
    if nat_le (address + width) (length m)
    then Some (record { event = Stores address width; state = s; memory = with_number m address width value })
    else Some (record { event = Traps trap.OutOfBounds; state = Trapped trap.OutOfBounds; memory = m })
answered grants place m (Measures make) = Some (record { event = Silent; state = make (pages_of m); memory = m })
answered grants place m (AsksPages pages make) =
    if grants pages && nat_le (pages_of m + pages) most_pages
    then Some (record { event = Grows pages true; state = make (pages_of m); memory = grown_by pages m })
    else Some (record { event = Grows pages false; state = make refusal; memory = m })
answered grants place m (AsksPlace pages make) =
    if grants pages && can_place (place pages) pages m
    then Some (record { event = AsksHost pages (Some (place pages)); state = make (place pages); memory = cleared (place pages) pages m })
    else Some (record { event = AsksHost pages None; state = make refusal; memory = m })
answered grants place m (Signals code) = Some (record { event = Raises code; state = Raised code; memory = m })
answered grants place m (Fails why) = Some (record { event = Traps why; state = Trapped why; memory = m })

-- the step of a configuration over a memory
abbrev pub next : (grants : ℕ → Bool) → (place : ℕ → ℕ) → Config → List ℕ → Option Next
next grants place c m = answered grants place m (wants c)

-- the test and the place answer a request as the event says
abbrev pub Agrees : (ℕ → Bool) → (ℕ → ℕ) → Event → Type 0
Agrees grants place (Grows pages granted) = grants pages ≡ granted
Agrees grants place (AsksHost pages (Some first)) = (grants pages ≡ true) × (place pages ≡ first)
Agrees grants place (AsksHost pages None) = grants pages ≡ false
Agrees grants place _ = Unit {0}

-- two events answer a request alike
abbrev pub AnswerAlike : Event → Event → Type 0
AnswerAlike (Grows pages granted) (Grows other also) = granted ≡ also
AnswerAlike (Grows pages granted) (AsksHost other first) = granted ≡ is_some first
AnswerAlike (AsksHost pages first) (Grows other granted) = is_some first ≡ granted
AnswerAlike (AsksHost pages first) (AsksHost other second) = first ≡ second
AnswerAlike _ _ = Unit {0}
