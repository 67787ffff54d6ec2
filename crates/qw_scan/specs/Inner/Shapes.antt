-- Mirrors `Shape`: expressions read with nothing kept but which sequences are open, and whether an `else` may end each.
use Rattle.std.specs.Prelude.{ℕ, ◌==◌, Bool, true, false, List, [], ◌∷◌, reverse, Result, Ok, Err}
use Rattle.qw_octet_grammar.specs.declared.fault.BinaryFault.{BinaryFault}
use Rattle.qw_octet_grammar.specs.declared.fault.BinaryFault.TheVariants.{NotModule}
use Rattle.qw_octet_grammar.specs.Grammar.{Next, goes_on, ends, Grammar, is, after, items, pick, settle}
use Rattle.qw_octet_grammar.specs.Numbers.{u32}
use Rattle.qw_binary.specs.Types.{block_type}
use Rattle.qw_binary.specs.Instructions.{given, simple, opener_by}
use Rattle.qw_scan.specs.Places.{may_turn}
use Rattle.qw_scan.specs.Inner.Passing.{over, vector_over}
use Rattle.qw_scan.specs.declared.expression.Shape.{Shape}

abbrev pub shape_after_end : List Bool → Next (List Bool) (Unit {0})
shape_after_end [] = ends tt
shape_after_end (turn ∷ turns) = goes_on turns

abbrev pub shape_after_else : List Bool → Result (Next (List Bool) (Unit {0})) BinaryFault
shape_after_else [] = Err NotModule
shape_after_else (false ∷ turns) = Err NotModule
shape_after_else (true ∷ turns) = Ok (goes_on (false ∷ turns))

-- as `place`, without the places
abbrev pub shape : List Bool → (code : ℕ) → Grammar (Next (List Bool) (Unit {0}))
shape turns code =
    pick (code == 0x0B) (is (shape_after_end turns))
    (pick (code == 0x05) (settle (shape_after_else turns))
    (given (opener_by code) (λ opener. after block_type (λ type. is (goes_on (may_turn (opener type) ∷ turns))))
    (pick (code == 0x0E) (after (vector_over (over u32)) (λ labels. after u32 (λ default. is (goes_on turns))))
    (after (simple code) (λ instruction. is (goes_on turns))))))

abbrev pub shapes : Grammar (Unit {0})
shapes = items [] shape

abbrev pub turns_in : Shape → List Bool
turns_in s = reverse s.turns.items

-- what comes next, by whether it was the last end
abbrev pub after_code : Bool → List Bool → Next (List Bool) (Unit {0})
after_code true turns = ends tt
after_code false turns = goes_on turns
