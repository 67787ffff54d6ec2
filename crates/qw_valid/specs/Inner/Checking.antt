-- Mirrors `Walk::advance` of walk.rt and `Checker` of checker.rt: the typing of a body, computed place by place (WebAssembly Core Specification 1.0, appendix
-- "Validation Algorithm").
use Rattle.std.specs.Prelude.{ℕ, ◌^◌, nat_lt, nat_le, Bool, true, false, ◌&&◌, if◌then◌else◌, List, [], ◌∷◌, map, reverse, Option, Some, None, slice_get}
use Rattle.std.specs.Option.{option_map, option_and_then}
use Rattle.qw_module.specs.declared.instruction.ValType.{ValType}
use Rattle.qw_module.specs.declared.instruction.ValType.TheVariants.{I32}
use Rattle.qw_module.specs.declared.instruction.Op.{Op}
use Rattle.qw_module.specs.declared.instruction.Op.TheVariants.{Nop, Drop, Select, LocalGet, LocalSet, LocalTee, GlobalGet, GlobalSet, Eqz, Convert, MemorySize, MemoryGrow}
use Rattle.qw_module.specs.declared.instruction.Op.TheVariants as o
use Rattle.qw_valid.specs.declared.walk.Opener.{Opener}
use Rattle.qw_valid.specs.declared.walk.Opener.TheVariants.{Body, Block, Loop, Then, Else}
use Rattle.qw_module.specs.Syntax.{Code, done, op, unreachable, block, loop, if_then, if_else, br, br_if, br_table, return, call}
use Rattle.qw_module.specs.Numbers.{values_of, constant, type_of_constant, converts_from, converts_to, type_of_load, load_width, type_of_store, store_width}
use Rattle.qw_module.specs.Typing.{types_of, Signature, GlobalType, Scope, scope_of}
use Rattle.qw_valid.specs.Kinds.{is_same, joined, taken_by}
use Rattle.qw_module.specs.Places.{Typing, Token, ends, else_begins, tokens_before}

-- The kinds of the operands that are known at a place, the last one first; None fits any type. Where the place is not reached, since it
-- follows what never goes on, any others may lie below them.
pub record Known : Type 0 where
  pub kinds : List (Option ValType)
  pub unbounded : Bool

-- at the beginning of a sequence, and after what never goes on
abbrev pub nothing : Known
nothing = record { kinds = []; unbounded = false }

abbrev pub anything : Known
anything = record { kinds = []; unbounded = true }

abbrev pub fits : Option ValType → ValType → Bool
fits None type = true
fits (Some known) type = is_same known type

-- an operand of a kind or a type put on
abbrev pub pushed_kind : Option ValType → Known → Known
pushed_kind kind known = record { kinds = kind ∷ known.kinds; unbounded = known.unbounded }

abbrev pub pushed : ValType → Known → Known
pushed type known = pushed_kind (Some type) known

-- one taken off where there is one, of a type or of any
abbrev pub popped_from : List (Option ValType) → Bool → ValType → Option Known
popped_from [] true type = Some anything
popped_from [] false type = None
popped_from (last ∷ kinds) unbounded type = if fits last type then Some (record { kinds = kinds; unbounded = unbounded }) else None

abbrev pub popped : ValType → Known → Option Known
popped type known = popped_from known.kinds known.unbounded type

abbrev pub any_popped_from : List (Option ValType) → Bool → Option (Option ValType × Known)
any_popped_from [] true = Some (None, anything)
any_popped_from [] false = None
any_popped_from (last ∷ kinds) unbounded = Some (last, record { kinds = kinds; unbounded = unbounded })

abbrev pub any_popped : Known → Option (Option ValType × Known)
any_popped known = any_popped_from known.kinds known.unbounded

-- several of types, the last one first
abbrev pub all_pushed : List ValType → Known → Known
all_pushed [] known = known
all_pushed (type ∷ types) known = pushed type (all_pushed types known)

abbrev pub all_popped : List ValType → Known → Option Known
all_popped [] known = Some known
all_popped (type ∷ types) known = option_and_then (all_popped types) (popped type known)

-- one or two operands of one type taken, and one put
abbrev pub one_to_one : ValType → ValType → Known → Option Known
one_to_one type result known = option_map (pushed result) (popped type known)

abbrev pub two_to_one : ValType → ValType → Known → Option Known
two_to_one type result known = option_and_then (one_to_one type result) (popped type known)

abbrev pub after_second : Option ValType → Option ValType × Known → Option Known
after_second first (second, known) = option_map (λ kind. pushed_kind kind known) (joined first second)

abbrev pub after_first : Option ValType × Known → Option Known
after_first (first, known) = option_and_then (after_second first) (any_popped known)

abbrev pub after_select : Known → Option Known
after_select known = option_and_then (λ below. option_and_then after_first (any_popped below)) (popped I32 known)

abbrev pub after_set : GlobalType → Known → Option Known
after_set global known = if global.mutable then popped global.type known else None

-- after a call: its arguments were operands, the last one first, and its results are
abbrev pub after_call : Signature → Known → Option Known
after_call signature known = option_map (all_pushed (reverse signature.results)) (all_popped (reverse signature.params) known)

abbrev pub has_memory : Scope → Bool
has_memory scope = nat_lt 0 scope.outside.memories

-- what is known after an instruction that holds no other; None where its rule doesn't allow it
abbrev pub after_op : Scope → Op → Known → Option Known
after_op scope Nop known = Some known
after_op scope Drop known = option_map (λ (p : Option ValType × Known). p.1) (any_popped known)
after_op scope Select known = after_select known
after_op scope (LocalGet x) known = option_map (λ type. pushed type known) (slice_get scope.locals x)
after_op scope (LocalSet x) known = option_and_then (λ type. popped type known) (slice_get scope.locals x)
after_op scope (LocalTee x) known = option_and_then (λ type. one_to_one type type known) (slice_get scope.locals x)
after_op scope (GlobalGet x) known = option_map (λ (g : GlobalType). pushed g.type known) (slice_get scope.outside.globals x)
after_op scope (GlobalSet x) known = option_and_then (λ g. after_set g known) (slice_get scope.outside.globals x)
after_op scope (o.Const c) known =
    if nat_lt (constant c) (values_of (type_of_constant c)) then Some (pushed (type_of_constant c) known) else None
after_op scope (o.Unary t u) known = one_to_one t t known
after_op scope (o.Binary t b) known = two_to_one t t known
after_op scope (o.Division t d) known = two_to_one t t known
after_op scope (Eqz t) known = one_to_one t I32 known
after_op scope (o.Relation t r) known = two_to_one t I32 known
after_op scope (Convert v) known = one_to_one (converts_from v) (converts_to v) known
after_op scope (o.Load l arg) known =
    if has_memory scope && nat_le (2 ^ arg.align) (load_width l) then one_to_one I32 (type_of_load l) known else None
after_op scope (o.Store s arg) known =
    if has_memory scope && nat_le (2 ^ arg.align) (store_width s) then option_and_then (popped I32) (popped (type_of_store s) known) else None
after_op scope MemorySize known = if has_memory scope then Some (pushed I32 known) else None
after_op scope MemoryGrow known = if has_memory scope then one_to_one I32 I32 known else None

-- What was begun and not ended: how, with what result, over which operands, with which other sequence to come, and what follows its end.
pub record Around : Type 0 where
  pub opener : Opener
  pub result : Option ValType
  pub below : Known
  pub other : Option Code
  pub after : Code

abbrev pub taken_in : Around → List ValType
taken_in a = taken_by a.opener a.result

-- where a check of a body is: what is known, what is around, the innermost first, and the rest of the sequence
pub record Walked : Type 0 where
  pub known : Known
  pub around : List Around
  pub rest : Code

abbrev pub walked : Known → List Around → Code → Walked
walked known around rest = record { known = known; around = around; rest = rest }

abbrev pub scope_at : Typing → List Around → Scope
scope_at f around = scope_of f.outside f.locals f.results (map taken_in around)

-- after a branch
abbrev pub after_br : Scope → ℕ → Known → Option Known
after_br scope index known = option_map (λ below. anything) (option_and_then (λ taken. all_popped taken known) (slice_get scope.labels index))

abbrev pub back : List ValType → Known → Option Known
back taken known = option_map (all_pushed taken) (all_popped taken known)

abbrev pub after_br_if : Scope → ℕ → Known → Option Known
after_br_if scope index known = option_and_then (λ taken. option_and_then (back taken) (popped I32 known)) (slice_get scope.labels index)

abbrev pub are_same : List ValType → List ValType → Bool
are_same [] [] = true
are_same (t ∷ ts) (u ∷ us) = is_same t u && are_same ts us
are_same [] (u ∷ us) = false
are_same (t ∷ ts) [] = false

abbrev pub is_there_alike : Option (List ValType) → List ValType → Bool
is_there_alike None taken = false
is_there_alike (Some found) taken = are_same found taken

-- all labels take alike
abbrev pub all_take : List (List ValType) → List ValType → List ℕ → Bool
all_take labels taken [] = true
all_take labels taken (index ∷ indices) = is_there_alike (slice_get labels index) taken && all_take labels taken indices

abbrev pub after_table : Scope → List ℕ → List ValType → Known → Option Known
after_table scope labels taken known = if all_take scope.labels taken labels then option_map (λ below. anything) (all_popped taken known) else None

abbrev pub after_br_table : Scope → List ℕ → ℕ → Known → Option Known
after_br_table scope labels default known =
    option_and_then (λ taken. option_and_then (after_table scope labels taken) (popped I32 known)) (slice_get scope.labels default)

abbrev pub after_return : Scope → Known → Option Known
after_return scope known = option_map (λ below. anything) (all_popped scope.results known)

abbrev pub after_calling : Scope → ℕ → Known → Option Known
after_calling scope index known = option_and_then (λ signature. after_call signature known) (slice_get scope.outside.functions index)

-- whether what is left are operands of these types
abbrev pub has_none : List (Option ValType) → Bool
has_none [] = true
has_none (kind ∷ kinds) = false

abbrev pub holds_of : Option Known → (Known → Bool) → Bool
holds_of None test = false
holds_of (Some known) test = test known

abbrev pub is_left : List ValType → Known → Bool
is_left results known = holds_of (all_popped results known) (λ below. has_none below.kinds)

-- the end of a sequence: its `else` begins where one is to come, and otherwise what is around it goes on
abbrev pub ended : Around → List Around → Known → Option Walked
ended a around known = if is_left (types_of a.result) known then Some (walked (all_pushed (types_of a.result) a.below) around a.after) else None

abbrev pub turned : Around → Code → List Around → Known → Option Walked
turned a other around known =
    if is_left (types_of a.result) known
    then Some (walked nothing (record { opener = Else; result = a.result; below = a.below; other = None; after = a.after } ∷ around) other) else None

abbrev pub is_none : Option ValType → Bool
is_none None = true
is_none (Some type) = false

abbrev pub then_ended : Option Code → Around → List Around → Known → Option Walked
then_ended (Some other) a around known = turned a other around known
then_ended None a around known = if is_none a.result then ended a around known else None

abbrev pub closed_by : Opener → Around → List Around → Known → Option Walked
closed_by Then a around known = then_ended a.other a around known
closed_by _ a around known = ended a around known

abbrev pub closed : List Around → Known → Option Walked
closed [] known = None
closed (a ∷ around) known = closed_by a.opener a around known

-- beginning a sequence over these operands
abbrev pub opened : Opener → Option ValType → Option Code → Code → List Around → Code → Known → Walked
opened opener result other after around inner below =
    walked nothing (record { opener = opener; result = result; below = below; other = other; after = after } ∷ around) inner

abbrev pub goes : List Around → Code → Option Known → Option Walked
goes around rest known = option_map (λ k. walked k around rest) known

-- one place more; None where it is refused
abbrev pub advanced_by : Typing → Code → Known → List Around → Option Walked
advanced_by f done known around = closed around known
advanced_by f (op o rest) known around = goes around rest (after_op (scope_at f around) o known)
advanced_by f (unreachable rest) known around = Some (walked anything around rest)
advanced_by f (block result inner rest) known around = Some (opened Block result None rest around inner known)
advanced_by f (loop result inner rest) known around = Some (opened Loop result None rest around inner known)
advanced_by f (if_then result inner rest) known around = option_map (opened Then result None rest around inner) (popped I32 known)
advanced_by f (if_else result inner other rest) known around = option_map (opened Then result (Some other) rest around inner) (popped I32 known)
advanced_by f (br index rest) known around = goes around rest (after_br (scope_at f around) index known)
advanced_by f (br_if index rest) known around = goes around rest (after_br_if (scope_at f around) index known)
advanced_by f (br_table labels default rest) known around = goes around rest (after_br_table (scope_at f around) labels default known)
advanced_by f (return rest) known around = goes around rest (after_return (scope_at f around) known)
advanced_by f (call index rest) known around = goes around rest (after_calling (scope_at f around) index known)

abbrev pub advanced : Typing → Walked → Option Walked
advanced f w = advanced_by f w.rest w.known w.around

-- the places that are to come: those of the rest of the sequence, then, for each thing around it, its end and what follows that
abbrev pub ending_by : Opener → Option Code → Code → List Token → List Token
ending_by Then (Some other) after more = else_begins ∷ tokens_before other (ends ∷ tokens_before after more)
ending_by _ _ after more = ends ∷ tokens_before after more

abbrev pub left_around : List Around → List Token
left_around [] = []
left_around (a ∷ around) = ending_by a.opener a.other a.after (left_around around)

abbrev pub tokens_left : Walked → List Token
tokens_left w = tokens_before w.rest (left_around w.around)

-- where a body of a function with this result begins
abbrev pub first_walked : Option ValType → Code → Walked
first_walked result code = walked nothing (record { opener = Body; result = result; below = nothing; other = None; after = done } ∷ []) code
