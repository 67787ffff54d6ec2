-- A code of states: what tells the values of a model apart where one of them is a state.
use Rattle.std.specs.Prelude.{◌≡◌, ℕ, Bool, true, false, List, [], ◌∷◌, Option, Some, None, refl}
use Rattle.std.specs.Coded.{Coded, code_by, coded×, coded⊎, coded_ℕ, coded_bool, coded_list, coded_option}
use Rattle.std.proofs.Common.{ap, ◌∙◌}
use mathlib.Core.Logic.{◌⊎◌, inl, inr}
use Rattle.qw_module.specs.declared.instruction.Instr.{Instr}
use Rattle.qw_module.specs.declared.instruction.Instr.TheVariants as i
use Rattle.qw_module.specs.contracts.instruction.Instr as instruction
use Rattle.qw_module.specs.declared.trap.Trap.{Trap}
use Rattle.qw_module.specs.contracts.trap.Trap as trap
use Rattle.qw_module.specs.Syntax.{Code, done, op, unreachable, block, loop, if_then, if_else, br, br_if, br_table, return, call}
use Rattle.qw_module.specs.Execution.{Callee, host_raise, host_pages, own, Store, Context, label, frame, Config, State, Running, Returned, Raised, Trapped}

-- Nested code written after what it holds: its end is nothing, and an instruction stands after its rest, with the labels of a
-- br_table. The numbers of inner sequences aren't read.
abbrev Symbol : Type 0
Symbol = Option (Instr × List ℕ)

abbrev postfix : Code → List Symbol → List Symbol
postfix done more = None ∷ more
postfix (op o rest) more = postfix rest (Some (i.Op o, []) ∷ more)
postfix (unreachable rest) more = postfix rest (Some (i.Unreachable, []) ∷ more)
postfix (block result inner rest) more = postfix inner (postfix rest (Some (i.Block result 0, []) ∷ more))
postfix (loop result inner rest) more = postfix inner (postfix rest (Some (i.Loop result 0, []) ∷ more))
postfix (if_then result inner rest) more = postfix inner (postfix rest (Some (i.If result 0 None, []) ∷ more))
postfix (if_else result inner other rest) more = postfix inner (postfix other (postfix rest (Some (i.If result 0 (Some 0), []) ∷ more)))
postfix (br index rest) more = postfix rest (Some (i.Br index, []) ∷ more)
postfix (br_if index rest) more = postfix rest (Some (i.BrIf index, []) ∷ more)
postfix (br_table labels default rest) more = postfix rest (Some (i.BrTable 0 0 default, labels) ∷ more)
postfix (return rest) more = postfix rest (Some (i.Return, []) ∷ more)
postfix (call index rest) more = postfix rest (Some (i.Call index, []) ∷ more)

-- it is read back over a stack of what was read
abbrev read_one : Symbol → List Code → List Code
read_one None stack = done ∷ stack
read_one (Some (i.Op o, labels)) (rest ∷ stack) = op o rest ∷ stack
read_one (Some (i.Unreachable, labels)) (rest ∷ stack) = unreachable rest ∷ stack
read_one (Some (i.Block result body, labels)) (rest ∷ inner ∷ stack) = block result inner rest ∷ stack
read_one (Some (i.Loop result body, labels)) (rest ∷ inner ∷ stack) = loop result inner rest ∷ stack
read_one (Some (i.If result then_body None, labels)) (rest ∷ inner ∷ stack) = if_then result inner rest ∷ stack
read_one (Some (i.If result then_body (Some else_body), labels)) (rest ∷ other ∷ inner ∷ stack) = if_else result inner other rest ∷ stack
read_one (Some (i.Br index, labels)) (rest ∷ stack) = br index rest ∷ stack
read_one (Some (i.BrIf index, labels)) (rest ∷ stack) = br_if index rest ∷ stack
read_one (Some (i.BrTable first count default, labels)) (rest ∷ stack) = br_table labels default rest ∷ stack
read_one (Some (i.Return, labels)) (rest ∷ stack) = return rest ∷ stack
read_one (Some (i.Call index, labels)) (rest ∷ stack) = call index rest ∷ stack
read_one other stack = stack

abbrev read_all : List Symbol → List Code → List Code
read_all [] stack = stack
read_all (one ∷ more) stack = read_all more (read_one one stack)

abbrev top : List Code → Code
top [] = done
top (code ∷ stack) = code

pub read_all-postfix : (code : Code) (more : List Symbol) (stack : List Code) → read_all (postfix code more) stack ≡ read_all more (code ∷ stack)
read_all-postfix done more stack = refl
read_all-postfix (op o rest) more stack = read_all-postfix rest (Some (i.Op o, []) ∷ more) stack
read_all-postfix (unreachable rest) more stack = read_all-postfix rest (Some (i.Unreachable, []) ∷ more) stack
read_all-postfix (block result inner rest) more stack =
    let tail = Some (i.Block result 0, []) ∷ more in
    read_all-postfix inner (postfix rest tail) stack ∙ read_all-postfix rest tail (inner ∷ stack)
read_all-postfix (loop result inner rest) more stack =
    let tail = Some (i.Loop result 0, []) ∷ more in
    read_all-postfix inner (postfix rest tail) stack ∙ read_all-postfix rest tail (inner ∷ stack)
read_all-postfix (if_then result inner rest) more stack =
    let tail = Some (i.If result 0 None, []) ∷ more in
    read_all-postfix inner (postfix rest tail) stack ∙ read_all-postfix rest tail (inner ∷ stack)
read_all-postfix (if_else result inner other rest) more stack =
    let tail = Some (i.If result 0 (Some 0), []) ∷ more in
    read_all-postfix inner (postfix other (postfix rest tail)) stack ∙ read_all-postfix other (postfix rest tail) (inner ∷ stack)
    ∙ read_all-postfix rest tail (other ∷ inner ∷ stack)
read_all-postfix (br index rest) more stack = read_all-postfix rest (Some (i.Br index, []) ∷ more) stack
read_all-postfix (br_if index rest) more stack = read_all-postfix rest (Some (i.BrIf index, []) ∷ more) stack
read_all-postfix (br_table labels default rest) more stack = read_all-postfix rest (Some (i.BrTable 0 0 default, labels) ∷ more) stack
read_all-postfix (return rest) more stack = read_all-postfix rest (Some (i.Return, []) ∷ more) stack
read_all-postfix (call index rest) more stack = read_all-postfix rest (Some (i.Call index, []) ∷ more) stack

abbrev pub code_code : Coded Code
code_code = code_by (List Symbol) (coded_list (coded_option (coded× instruction.the_row.coded (coded_list coded_ℕ)))) (λ code. postfix code []) (λ list. top (read_all list []))
    (λ code. ap top (read_all-postfix code [] []))

-- what is called: a function of the host's, or the numbers and the code of one of a module's own
abbrev function_of : Bool ⊎ (ℕ × (ℕ × (ℕ × Code))) → Callee
function_of (inl true) = host_raise
function_of (inl false) = host_pages
function_of (inr (params, (declared, (results, body)))) = own (record { params = params; declared = declared; results = results; body = body })

abbrev numbers_of : Callee → Bool ⊎ (ℕ × (ℕ × (ℕ × Code)))
numbers_of host_raise = inl true
numbers_of host_pages = inl false
numbers_of (own f) = inr (f.params, (f.declared, (f.results, f.body)))

pub function_of-numbers_of : (callee : Callee) → function_of (numbers_of callee) ≡ callee
function_of-numbers_of host_raise = refl
function_of-numbers_of host_pages = refl
function_of-numbers_of (own f) = refl

abbrev pub callee_code : Coded Callee
callee_code = code_by (Bool ⊎ (ℕ × (ℕ × (ℕ × Code)))) (coded⊎ coded_bool (coded× coded_ℕ (coded× coded_ℕ (coded× coded_ℕ code_code))))
    numbers_of function_of function_of-numbers_of

abbrev pub store_code : Coded Store
store_code = code_by (List Callee × List ℕ) (coded× (coded_list callee_code) (coded_list coded_ℕ))
    (λ s. (s.functions, s.globals)) (λ p. record { functions = p.0; globals = p.1 }) (λ _. refl)

-- a label by its code, its number of operands, those below and the code after it; a frame by its locals and the same
abbrev Parts : Type 0
Parts = (Code ⊎ List ℕ) × (ℕ × (List ℕ × Code))

abbrev parts_of : Context → Parts
parts_of (label target arity below after) = (inl target, (arity, (below, after)))
parts_of (frame locals arity below after) = (inr locals, (arity, (below, after)))

abbrev context_of : Parts → Context
context_of (inl target, (arity, (below, after))) = label target arity below after
context_of (inr locals, (arity, (below, after))) = frame locals arity below after

pub context_of-parts_of : (context : Context) → context_of (parts_of context) ≡ context
context_of-parts_of (label target arity below after) = refl
context_of-parts_of (frame locals arity below after) = refl

abbrev pub context_code : Coded Context
context_code = code_by Parts (coded× (coded⊎ code_code (coded_list coded_ℕ)) (coded× coded_ℕ (coded× (coded_list coded_ℕ) code_code)))
    parts_of context_of context_of-parts_of

abbrev pub config_code : Coded Config
config_code = code_by (Store × (Code × (List ℕ × (List ℕ × List Context))))
    (coded× store_code (coded× code_code (coded× (coded_list coded_ℕ) (coded× (coded_list coded_ℕ) (coded_list context_code)))))
    (λ c. (c.store, (c.code, (c.operands, (c.locals, c.contexts)))))
    (λ p. record { store = p.0; code = p.1.0; operands = p.1.1.0; locals = p.1.1.1.0; contexts = p.1.1.1.1 })
    (λ _. refl)

abbrev cases : State → Config ⊎ (ℕ ⊎ Option Trap)
cases (Running c) = inl c
cases (Raised code) = inr (inl code)
cases Returned = inr (inr None)
cases (Trapped why) = inr (inr (Some why))

abbrev state : Config ⊎ (ℕ ⊎ Option Trap) → State
state (inl c) = Running c
state (inr (inl code)) = Raised code
state (inr (inr None)) = Returned
state (inr (inr (Some why))) = Trapped why

pub state-cases : (s : State) → state (cases s) ≡ s
state-cases (Running c) = refl
state-cases (Raised code) = refl
state-cases Returned = refl
state-cases (Trapped why) = refl

abbrev pub state_code : Coded State
state_code = code_by (Config ⊎ (ℕ ⊎ Option Trap)) (coded⊎ config_code (coded⊎ coded_ℕ (coded_option trap.the_row.coded))) cases state state-cases
