-- Mirrors `Walk::step`: an expression read one token at a time.
use Rattle.std.specs.Prelude.{ℕ, ◌==◌, true, false, List, ◌∷◌, Result, Ok}
use Rattle.qw_octet_grammar.specs.declared.fault.BinaryFault.{BinaryFault}
use Rattle.qw_octet_grammar.specs.Grammar.{Next, goes_on, Grammar, is, after, pick}
use Rattle.qw_octet_grammar.specs.Numbers.{u32}
use Rattle.qw_octet_grammar.specs.Vectors.{vector}
use Rattle.qw_module.specs.Places.{Token, block_begins, loop_begins, if_begins, else_begins, branches_by}
use Rattle.qw_module.specs.Places.{ends as end_here}
use Rattle.qw_binary.specs.Types.{block_type}
use Rattle.qw_binary.specs.Instructions.{given, simple, opener_by}
use Rattle.qw_scan.specs.Places.{token_of, opening, Passed, then_open, and_then, after_end, after_else}

-- the token behind a code
abbrev pub token : (code : ℕ) → Grammar Token
token code =
    pick (code == 0x0B) (is end_here)
    (pick (code == 0x05) (is else_begins)
    (given (opener_by code) (λ opener. after block_type (λ type. is (opening (opener type))))
    (pick (code == 0x0E) (after (vector u32) (λ labels. after u32 (λ default. is (branches_by labels default))))
    (after (simple code) (λ instruction. is (token_of instruction))))))

-- where a token leads
abbrev pub after_token : Passed → Token → Result (Next Passed (List Token)) BinaryFault
after_token p end_here = Ok (after_end p p.turns)
after_token p else_begins = after_else p p.turns
after_token p (block_begins result) = Ok (goes_on (then_open p (block_begins result) (false ∷ p.turns)))
after_token p (loop_begins result) = Ok (goes_on (then_open p (loop_begins result) (false ∷ p.turns)))
after_token p (if_begins result) = Ok (goes_on (then_open p (if_begins result) (true ∷ p.turns)))
after_token p t = Ok (goes_on (and_then p t))
