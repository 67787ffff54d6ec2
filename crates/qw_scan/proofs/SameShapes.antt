-- An expression that is read with nothing kept of it ends where it ends, and is stuck where it is stuck.
use Rattle.std.proofs.Common.{◌≡◌, ℕ, zero, suc, Bool, true, false, List, [], ◌∷◌, length, Result, Ok, Err, refl, ap, ◌∙◌}
use Rattle.std.specs.Prelude.{◌==◌}
use Rattle.qw_octet_grammar.specs.declared.fault.BinaryFault.{BinaryFault}
use Rattle.qw_octet_grammar.specs.Grammar.{Next, goes_on, ends, settle}
use Rattle.qw_octet_grammar.specs.Reading.{◌>>=◌, chain, read}
use Rattle.qw_octet_grammar.specs.Numbers.{u32}
use Rattle.qw_octet_grammar.specs.Vectors.{vector}
use Rattle.qw_module.specs.Places.{Token, branches_by}
use Rattle.qw_binary.specs.Types.{block_type}
use Rattle.qw_binary.specs.Instructions.{simple, opener_by, expression}
use Rattle.qw_scan.specs.Places.{token_of, opening, may_turn, Passed, none_passed, then_open, and_then, after_end, after_else, place, places}
use Rattle.qw_scan.specs.Read.{mapped, passed_over}
use Rattle.qw_scan.specs.Inner.Passing.{over, vector_over}
use Rattle.qw_scan.specs.Inner.Shapes.{shape_after_end, shape_after_else, shape, shapes}
use Rattle.qw_scan.proofs.SamePassing.{over_same, vector_same}
use Rattle.qw_scan.proofs.SamePlaces.{by-pick, by-given, by-is, by-after, by-both, tokens_in, same_places}

pub numbers_same : (bytes : List ℕ) → read (vector_over (over u32)) bytes ≡ mapped passed_over (read (vector u32) bytes)
numbers_same bytes = vector_same u32 (over u32) (over_same u32) bytes

-- ---- one thing that is read

abbrev pub without_places : Next Passed (List Token) → Next (List Bool) (Unit {0})
without_places (goes_on p) = goes_on p.turns
without_places (ends found) = ends tt

end-shape : (p : Passed) (turns : List Bool) → without_places (after_end p turns) ≡ shape_after_end turns
end-shape p [] = refl
end-shape p (turn ∷ turns) = refl

else-shape : (p : Passed) (turns : List Bool) (bytes : List ℕ) → read (settle (shape_after_else turns)) bytes ≡ mapped without_places (read (settle (after_else p turns)) bytes)
unfolding read
else-shape p [] bytes = refl
else-shape p (false ∷ turns) bytes = refl
else-shape p (true ∷ turns) bytes = refl

shape-same : (p : Passed) (code : ℕ) (bytes : List ℕ) → read (shape p.turns code) bytes ≡ mapped without_places (read (place p code) bytes)
shape-same p code bytes =
    by-pick without_places bytes (code == 0x0B) _ _ _ _ (by-is without_places bytes (after_end p p.turns) (shape_after_end p.turns) (end-shape p p.turns))
    (by-pick without_places bytes (code == 0x05) _ _ _ _ (else-shape p p.turns bytes)
    (by-given without_places bytes (opener_by code) _ _ _ _
    (λ make e. by-after without_places bytes block_type _ _ (λ type rest r.
    by-is without_places rest (goes_on (then_open p (opening (make type)) (may_turn (make type) ∷ p.turns))) (goes_on (may_turn (make type) ∷ p.turns)) refl))
    (by-pick without_places bytes (code == 0x0E) _ _ _ _
    (by-both without_places bytes (vector u32) (vector_over (over u32)) passed_over _ _ (numbers_same bytes) (λ labels rest. by-after without_places rest u32 _ _ (λ default behind q.
    by-is without_places behind (goes_on (and_then p (branches_by labels default))) (goes_on p.turns) refl)))
    (by-after without_places bytes (simple code) _ _ (λ x rest r.
    by-is without_places rest (goes_on (and_then p (token_of x))) (goes_on p.turns) refl)))))

-- ---- one after another

chain-shape : (n : ℕ) (next : Next Passed (List Token)) (bytes : List ℕ) →
    chain (λ turns b. read (shape turns b)) n (without_places next) bytes ≡ mapped passed_over (chain (λ p b. read (place p b)) n next bytes)
chain-shape zero (ends found) bytes = refl
chain-shape (suc n) (ends found) bytes = refl
chain-shape zero (goes_on p) bytes = refl
chain-shape (suc n) (goes_on p) [] = refl
chain-shape (suc n) (goes_on p) (b ∷ bytes) =
    ap (λ (r : Result (Next (List Bool) (Unit {0}) × List ℕ) BinaryFault). r >>= λ y. chain (λ turns b. read (shape turns b)) n y.0 y.1) (shape-same p b bytes)
    ∙ one (read (place p b) bytes) (λ next rest. chain-shape n next rest)
  where
    one : (r : Result (Next Passed (List Token) × List ℕ) BinaryFault) →
        ((next : Next Passed (List Token)) (rest : List ℕ) → chain (λ turns b. read (shape turns b)) n (without_places next) rest ≡ mapped passed_over (chain (λ p b. read (place p b)) n next rest)) →
        (mapped without_places r >>= λ y. chain (λ turns b. read (shape turns b)) n y.0 y.1) ≡ mapped passed_over (r >>= λ y. chain (λ p b. read (place p b)) n y.0 y.1)
    one (Err fault) later = refl
    one (Ok y) later = later y.0 y.1

over-twice : {A B : Type 0} (f : A → B) (r : Result (A × List ℕ) BinaryFault) → mapped passed_over (mapped f r) ≡ mapped passed_over r
over-twice f (Ok x) = refl
over-twice f (Err fault) = refl

shapes-of-places : (bytes : List ℕ) → read shapes bytes ≡ mapped passed_over (read places bytes)
unfolding read
shapes-of-places bytes = chain-shape (suc (length bytes)) (goes_on none_passed) bytes

pub same_shapes : (bytes : List ℕ) → read shapes bytes ≡ mapped passed_over (read expression bytes)
same_shapes bytes = shapes-of-places bytes ∙ ap (mapped passed_over) (same_places bytes) ∙ over-twice tokens_in (read expression bytes)
