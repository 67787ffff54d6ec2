-- The places of an expression in the order of its octets (WebAssembly Core Specification 1.0, 5.4): each instruction, `else` and `end` is one.
use Rattle.std.specs.Prelude.{ℕ, ◌==◌, Bool, true, false, List, [], ◌∷◌, ◌++◌, Result, Ok, Err}
use Rattle.qw_octet_grammar.specs.declared.fault.BinaryFault.{BinaryFault}
use Rattle.qw_octet_grammar.specs.declared.fault.BinaryFault.TheVariants.{NotModule}
use Rattle.qw_octet_grammar.specs.Grammar.{Next, goes_on, ends, Grammar, is, after, items, pick, settle}
use Rattle.qw_octet_grammar.specs.Numbers.{u32}
use Rattle.qw_octet_grammar.specs.Vectors.{vector}
use Rattle.qw_module.specs.declared.instruction.Instr.{Instr}
use Rattle.qw_module.specs.declared.instruction.Instr.TheVariants as i
use Rattle.qw_module.specs.Places.{Token, plain, unreachable_here, block_begins, loop_begins, if_begins, else_begins, branches, branches_if, branches_by, returns, calls}
use Rattle.qw_module.specs.Places.{ends as end_here}
use Rattle.qw_binary.specs.Types.{block_type}
use Rattle.qw_binary.specs.Instructions.{given, simple, Opener, block, loop, first, second, opener_by}

-- the place of an instruction: of one that holds sequences, the one that it begins with; of a br_table, that of one with no labels
abbrev pub token_of : Instr → Token
token_of (i.Op o) = plain o
token_of i.Unreachable = unreachable_here
token_of (i.Block result body) = block_begins result
token_of (i.Loop result body) = loop_begins result
token_of (i.If result then_body else_body) = if_begins result
token_of (i.Br label) = branches label
token_of (i.BrIf label) = branches_if label
token_of (i.BrTable from count default) = branches_by [] default
token_of i.Return = returns
token_of (i.Call index) = calls index

-- the place where a sequence begins
abbrev pub opening : Opener → Token
opening (block type) = block_begins type
opening (loop type) = loop_begins type
opening (first type) = if_begins type
opening (second type then_body) = else_begins

-- whether an `else` may end a sequence (5.4.1)
abbrev pub may_turn : Opener → Bool
may_turn (block type) = false
may_turn (loop type) = false
may_turn (first type) = true
may_turn (second type then_body) = false

-- While the places are read: those so far, and for each sequence that is open within the outermost, the innermost first, whether an
-- `else` may end it.
pub record Passed : Type 0 where
  pub places : List Token
  pub turns : List Bool

abbrev pub none_passed : Passed
none_passed = record { places = []; turns = [] }

-- one place more, after which these are open
abbrev pub then_open : Passed → Token → List Bool → Passed
then_open p token turns = record { places = p.places ++ token ∷ []; turns = turns }

abbrev pub and_then : Passed → Token → Passed
and_then p token = then_open p token p.turns

-- at an end
abbrev pub after_end : Passed → List Bool → Next Passed (List Token)
after_end p [] = ends (p.places ++ end_here ∷ [])
after_end p (turn ∷ turns) = goes_on (then_open p end_here turns)

-- at an else
abbrev pub after_else : Passed → List Bool → Result (Next Passed (List Token)) BinaryFault
after_else p [] = Err NotModule
after_else p (false ∷ turns) = Err NotModule
after_else p (true ∷ turns) = Ok (goes_on (then_open p else_begins (false ∷ turns)))

-- what stands behind a code, as in `instruction` of qw_binary
abbrev pub place : Passed → (code : ℕ) → Grammar (Next Passed (List Token))
place p code =
    pick (code == 0x0B) (is (after_end p p.turns))
    (pick (code == 0x05) (settle (after_else p p.turns))
    (given (opener_by code) (λ opener. after block_type (λ type. is (goes_on (then_open p (opening (opener type)) (may_turn (opener type) ∷ p.turns)))))
    (pick (code == 0x0E) (after (vector u32) (λ labels. after u32 (λ default. is (goes_on (and_then p (branches_by labels default))))))
    (after (simple code) (λ instruction. is (goes_on (and_then p (token_of instruction))))))))

-- the places of an expression (5.4.6)
abbrev pub places : Grammar (List Token)
places = items none_passed place
