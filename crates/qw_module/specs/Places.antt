-- Where in a body a typing rule first fails. The standard has only valid and not; the place is this project's own notion: the end of
-- the shortest beginning of the body that isn't typable. Each instruction, `else` and `end` of a body is one place, from 0, as
-- in the text and in the binary format (WebAssembly Core Specification 1.0, 5.4 and 6.5).
use Rattle.std.specs.Prelude.{◌≡◌, ℕ, ◌+◌, ◌<◌, List, [], ◌∷◌, ◌++◌, length, map, reverse, take, Option, Some, None, slice_get}
use Rattle.std.specs.List.{AllByRecursion}
use Rattle.qw_module.specs.declared.instruction.ValType.{ValType}
use Rattle.qw_module.specs.declared.instruction.ValType.TheVariants.{I32}
use Rattle.qw_module.specs.declared.instruction.Op.{Op}
use Rattle.qw_module.specs.Syntax.{Code, done, op, unreachable, block, loop, if_then, if_else, br, br_if, br_table, return, call}
use Rattle.qw_module.specs.Typing.{types_of, Signature, Outside, Scope, scope_of, Takes, OpTyped}

-- what stands at one place
pub data Token : Type 0 where
  plain : Op → Token
  unreachable_here : Token
  block_begins : (result : Option ValType) → Token
  loop_begins : (result : Option ValType) → Token
  if_begins : (result : Option ValType) → Token
  else_begins : Token
  ends : Token
  branches : (label : ℕ) → Token
  branches_if : (label : ℕ) → Token
  branches_by : (labels : List ℕ) → (default : ℕ) → Token
  returns : Token
  calls : (index : ℕ) → Token

-- the places of a sequence, before what stands after it
abbrev pub tokens_before : Code → List Token → List Token
tokens_before done more = more
tokens_before (op o rest) more = plain o ∷ tokens_before rest more
tokens_before (unreachable rest) more = unreachable_here ∷ tokens_before rest more
tokens_before (block result inner rest) more = block_begins result ∷ tokens_before inner (ends ∷ tokens_before rest more)
tokens_before (loop result inner rest) more = loop_begins result ∷ tokens_before inner (ends ∷ tokens_before rest more)
tokens_before (if_then result inner rest) more = if_begins result ∷ tokens_before inner (ends ∷ tokens_before rest more)
tokens_before (if_else result inner other rest) more =
    if_begins result ∷ tokens_before inner (else_begins ∷ tokens_before other (ends ∷ tokens_before rest more))
tokens_before (br label rest) more = branches label ∷ tokens_before rest more
tokens_before (br_if label rest) more = branches_if label ∷ tokens_before rest more
tokens_before (br_table labels default rest) more = branches_by labels default ∷ tokens_before rest more
tokens_before (return rest) more = returns ∷ tokens_before rest more
tokens_before (call index rest) more = calls index ∷ tokens_before rest more

-- the places of a function's body, whose last is its `end`
abbrev pub tokens_of : Code → List Token
tokens_of code = tokens_before code (ends ∷ [])

-- What was begun and not ended yet, with the types of the operands before it: a function's body, a block, a loop, or an `if`
-- before or after its `else`.
pub data Opened : Type 0 where
  body : Opened
  in_block : Option ValType → (below : List ValType) → Opened
  in_loop : Option ValType → (below : List ValType) → Opened
  in_if : Option ValType → (below : List ValType) → Opened
  in_else : Option ValType → (below : List ValType) → Opened

-- A place: what is open there, the innermost first, and the types of the innermost sequence's operands, the last one first.
pub record Place : Type 0 where
  pub opened : List Opened
  pub types : List ValType

-- a function as the typing of its body sees it: what the module has, and the types of its locals and results
pub record Typing : Type 0 where
  pub outside : Outside
  pub locals : List ValType
  pub results : List ValType

-- what a branch to the label of what is open takes
abbrev pub taken_by : Typing → Opened → List ValType
taken_by f body = f.results
taken_by f (in_block result below) = types_of result
taken_by f (in_loop result below) = []
taken_by f (in_if result below) = types_of result
taken_by f (in_else result below) = types_of result

abbrev pub scope_in : Typing → List Opened → Scope
scope_in f opened = scope_of f.outside f.locals f.results (map (taken_by f) opened)

-- Follows f token p q: the token leads from the place p to the place q, by its typing rule (3.3). After what never goes on the
-- operands may have any types.
pub data Follows : Typing → Token → Place → Place → Type 0 where
  at_plain : (f : Typing) (opened : List Opened) (o : Op) (before after : List ValType) → OpTyped (scope_in f opened) o before after →
      Follows f (plain o) (record { opened = opened; types = before }) (record { opened = opened; types = after })
  at_unreachable : (f : Typing) (opened : List Opened) (before any : List ValType) →
      Follows f unreachable_here (record { opened = opened; types = before }) (record { opened = opened; types = any })
  at_block : (f : Typing) (opened : List Opened) (result : Option ValType) (types : List ValType) →
      Follows f (block_begins result) (record { opened = opened; types = types }) (record { opened = in_block result types ∷ opened; types = [] })
  at_loop : (f : Typing) (opened : List Opened) (result : Option ValType) (types : List ValType) →
      Follows f (loop_begins result) (record { opened = opened; types = types }) (record { opened = in_loop result types ∷ opened; types = [] })
  at_if : (f : Typing) (opened : List Opened) (result : Option ValType) (types : List ValType) →
      Follows f (if_begins result) (record { opened = opened; types = I32 ∷ types }) (record { opened = in_if result types ∷ opened; types = [] })
  at_else : (f : Typing) (opened : List Opened) (result : Option ValType) (below : List ValType) →
      Follows f else_begins (record { opened = in_if result below ∷ opened; types = types_of result }) (record { opened = in_else result below ∷ opened; types = [] })
  -- the end of an `if` without `else`, which has no result
  at_end_of_if : (f : Typing) (opened : List Opened) (below : List ValType) →
      Follows f ends (record { opened = in_if None below ∷ opened; types = [] }) (record { opened = opened; types = below })
  at_end_of_else : (f : Typing) (opened : List Opened) (result : Option ValType) (below : List ValType) →
      Follows f ends (record { opened = in_else result below ∷ opened; types = types_of result }) (record { opened = opened; types = types_of result ++ below })
  at_end_of_block : (f : Typing) (opened : List Opened) (result : Option ValType) (below : List ValType) →
      Follows f ends (record { opened = in_block result below ∷ opened; types = types_of result }) (record { opened = opened; types = types_of result ++ below })
  at_end_of_loop : (f : Typing) (opened : List Opened) (result : Option ValType) (below : List ValType) →
      Follows f ends (record { opened = in_loop result below ∷ opened; types = types_of result }) (record { opened = opened; types = types_of result ++ below })
  at_end_of_body : (f : Typing) →
      Follows f ends (record { opened = body ∷ []; types = f.results }) (record { opened = []; types = f.results })
  at_br : (f : Typing) (opened : List Opened) (label : ℕ) (taken below any : List ValType) → Takes (scope_in f opened) label taken →
      Follows f (branches label) (record { opened = opened; types = taken ++ below }) (record { opened = opened; types = any })
  at_br_if : (f : Typing) (opened : List Opened) (label : ℕ) (taken below : List ValType) → Takes (scope_in f opened) label taken →
      Follows f (branches_if label) (record { opened = opened; types = I32 ∷ taken ++ below }) (record { opened = opened; types = taken ++ below })
  at_br_table : (f : Typing) (opened : List Opened) (labels : List ℕ) (default : ℕ) (taken below any : List ValType) →
      AllByRecursion (λ label. Takes (scope_in f opened) label taken) labels → Takes (scope_in f opened) default taken →
      Follows f (branches_by labels default) (record { opened = opened; types = I32 ∷ taken ++ below }) (record { opened = opened; types = any })
  at_return : (f : Typing) (opened : List Opened) (below any : List ValType) →
      Follows f returns (record { opened = opened; types = f.results ++ below }) (record { opened = opened; types = any })
  at_call : (f : Typing) (opened : List Opened) (index : ℕ) (signature : Signature) (types : List ValType) →
      slice_get f.outside.functions index ≡ Some signature →
      Follows f (calls index) (record { opened = opened; types = reverse signature.params ++ types })
      (record { opened = opened; types = reverse signature.results ++ types })

-- the tokens lead from a place to one
abbrev pub Leads : Typing → List Token → Place → Place → Type 0
Leads f [] p q = p ≡ q
Leads f (token ∷ tokens) p q = (middle : Place) × Follows f token p middle × Leads f tokens middle q

-- where a body begins: it is open, and has no operands
abbrev pub at_start : Place
at_start = record { opened = body ∷ []; types = [] }

-- the beginning of a body is typable: each of its tokens keeps its rule, with operands of some types after what never goes on
abbrev pub IsTypable : Typing → List Token → Type 0
IsTypable f tokens = (q : Place) × Leads f tokens at_start q

-- The first place refused: all before it is typable, and with it nothing is.
pub record IsRefusedAt (f : Typing) (tokens : List Token) (at : ℕ) : Type 0 where
  pub there : at < length tokens
  pub before : IsTypable f (take at tokens)
  pub refused : ¬ IsTypable f (take (at + 1) tokens)
