-- The places of an expression are those of the code that it is read as; and where an expression is stuck, its places are.
use Rattle.std.proofs.Common.{◌≡◌, ℕ, zero, suc, Bool, true, false, cond, List, [], ◌∷◌, length, Option, Some, None, Result, Ok, Err, refl, sym, ap, subst, ◌∙◌}
use Rattle.std.specs.Prelude.{◌==◌}
use Rattle.qw_octet_grammar.specs.declared.fault.BinaryFault.{BinaryFault}
use Rattle.qw_octet_grammar.specs.Grammar.{Next, goes_on, ends, Grammar, is, after, pick, settle}
use Rattle.qw_octet_grammar.specs.Reading.{◌>>=◌, chain, read}
use Rattle.qw_octet_grammar.proofs.GrammarLaws.{takes}
use Rattle.qw_octet_grammar.specs.Numbers.{u32}
use Rattle.qw_octet_grammar.specs.Vectors.{vector}
use Rattle.qw_module.specs.declared.instruction.ValType.{ValType}
use Rattle.qw_module.specs.Syntax.{Sequences, code_of}
use Rattle.qw_module.specs.Places.{Token, branches_by, tokens_of}
use Rattle.qw_binary.specs.Types.{block_type}
use Rattle.qw_binary.specs.Instructions.{given, simple, Opener, block, loop, first, Progress, at_first, with_instruction, with_table, begun, at_end, at_else, opener_by, instruction, expression}
use Rattle.qw_binary.specs.Inner.Followed.{IsFresh}
use Rattle.qw_binary.proofs.Apart.{some_is, by_cond, simple_alone}
use Rattle.qw_binary.proofs.NumberedBodies.{IsFine, IsFineNext, fine_next}
use Rattle.qw_scan.specs.Places.{token_of, opening, may_turn, Passed, then_open, and_then, after_end, place, places}
use Rattle.qw_scan.specs.Read.{mapped}
use Rattle.qw_scan.proofs.Passed.{turns_of, passed, view, viewed, alone-passed, begun-passed, table-passed, end-passed, else-passed}

-- ---- grammars that are read alike

module _ {A B : Type 0} (f : A → B) (bytes : List ℕ) where
  pub by-pick : (b : Bool) (g h : Grammar A) (g' h' : Grammar B) → read g' bytes ≡ mapped f (read g bytes) → read h' bytes ≡ mapped f (read h bytes) →
      read (pick b g' h') bytes ≡ mapped f (read (pick b g h) bytes)
  by-pick true g h g' h' one other = one
  by-pick false g h g' h' one other = other

  pub by-given : {C : Type 0} (o : Option C) (k : C → Grammar A) (g : Grammar A) (k' : C → Grammar B) (g' : Grammar B) →
      ((y : C) → o ≡ Some y → read (k' y) bytes ≡ mapped f (read (k y) bytes)) → read g' bytes ≡ mapped f (read g bytes) → read (given o k' g') bytes ≡ mapped f (read (given o k g) bytes)
  by-given (Some y) k g k' g' one other = one y refl
  by-given None k g k' g' one other = other

  pub by-is : (x : A) (y : B) → f x ≡ y → read (is y) bytes ≡ mapped f (read (is x) bytes)
  unfolding read
  by-is x y e = ap (λ (z : B). Ok (z, bytes)) (sym e)

  pub by-after : {C : Type 0} (g : Grammar C) (k : C → Grammar A) (k' : C → Grammar B) →
      ((y : C) (rest : List ℕ) → read g bytes ≡ Ok (y, rest) → read (k' y) rest ≡ mapped f (read (k y) rest)) → read (after g k') bytes ≡ mapped f (read (after g k) bytes)
  unfolding read
  by-after {C} g k k' each = one (read g bytes) refl
    where
      one : (r : Result (C × List ℕ) BinaryFault) → read g bytes ≡ r → (r >>= λ y. read (k' y.0) y.1) ≡ mapped f (r >>= λ y. read (k y.0) y.1)
      one (Ok y) e = each y.0 y.1 e
      one (Err fault) e = refl

  -- the same, where the first is read alike too
  pub by-both : {C D : Type 0} (g : Grammar C) (g' : Grammar D) (m : C → D) (k : C → Grammar A) (k' : D → Grammar B) → read g' bytes ≡ mapped m (read g bytes) →
      ((y : C) (rest : List ℕ) → read (k' (m y)) rest ≡ mapped f (read (k y) rest)) → read (after g' k') bytes ≡ mapped f (read (after g k) bytes)
  unfolding read
  by-both {C} {D} g g' m k k' alike each = ap (λ (r : Result (D × List ℕ) BinaryFault). r >>= λ y. read (k' y.0) y.1) alike ∙ one (read g bytes)
    where
      one : (r : Result (C × List ℕ) BinaryFault) → (mapped m r >>= λ y. read (k' y.0) y.1) ≡ mapped f (r >>= λ y. read (k y.0) y.1)
      one (Ok y) = each y.0 y.1
      one (Err fault) = refl

by-settle : (r : Result (Next Progress Sequences) BinaryFault) (bytes : List ℕ) → read (settle (viewed r)) bytes ≡ mapped view (read (settle r) bytes)
unfolding read
by-settle (Ok x) bytes = refl
by-settle (Err fault) bytes = refl

-- ---- one thing that is read

pub opener-fresh : (code : ℕ) (make : Option ValType → Opener) → opener_by code ≡ Some make → (type : Option ValType) → IsFresh (make type)
opener-fresh code make = at (code == 0x02) (λ type. block type) (λ type. tt) _
    (at (code == 0x03) (λ type. loop type) (λ type. tt) _
    (at (code == 0x04) (λ type. first type) (λ type. tt) _ (λ e. absurd cc)))
  where
    at : (b : Bool) (f : Option ValType → Opener) → ((type : Option ValType) → IsFresh (f type)) → (rest : Option (Option ValType → Opener)) → (rest ≡ Some make → (type : Option ValType) → IsFresh (make type))
        → cond b (Some f) rest ≡ Some make → (type : Option ValType) → IsFresh (make type)
    at b f fresh rest later = by_cond ((type : Option ValType) → IsFresh (make type)) b (Some f) rest (Some make) (λ e. subst (λ (g : Option ValType → Opener). (type : Option ValType) → IsFresh (g type)) (some_is f make e) fresh) later

abbrev going : Passed → Next Passed (List Token)
going p = goes_on p

goes : (p q : Passed) → p ≡ q → going p ≡ going q
goes p q e = ap going e

step-same : (p : Progress) (code : ℕ) (bytes : List ℕ) → IsFine p → read (place (passed p) code) bytes ≡ mapped view (read (instruction p code) bytes)
step-same p code bytes fine =
    by-pick view bytes (code == 0x0B) _ _ _ _ (by-is view bytes (at_end p.ended p.labels p.around p.now) (after_end (passed p) (turns_of p.around)) (end-passed p.ended p.labels p.around p.now fine))
    (by-pick view bytes (code == 0x05) _ _ _ _
    (subst (λ (r : Result (Next Passed (List Token)) BinaryFault). read (settle r) bytes ≡ mapped view (read (settle (at_else p p.around)) bytes)) (else-passed p p.around fine fine.around) (by-settle (at_else p p.around) bytes))
    (by-given view bytes (opener_by code) _ _ _ _
    (λ make e. by-after view bytes block_type _ _ (λ type rest r.
    by-is view rest (goes_on (begun p (make type))) (goes_on (then_open (passed p) (opening (make type)) (may_turn (make type) ∷ turns_of p.around))) (goes _ _ (begun-passed p (make type) (opener-fresh code make e type)))))
    (by-pick view bytes (code == 0x0E) _ _ _ _
    (by-after view bytes (vector u32) _ _ (λ labels rest r. by-after view rest u32 _ _ (λ default behind q.
    by-is view behind (goes_on (with_table p labels default)) (goes_on (and_then (passed p) (branches_by labels default))) (goes _ _ (table-passed p labels default fine)))))
    (by-after view bytes (simple code) _ _ (λ x rest r. let t = takes (simple code) bytes x rest r in
    by-is view rest (goes_on (with_instruction p x)) (goes_on (and_then (passed p) (token_of x))) (goes _ _ (alone-passed p x (simple_alone code x t.0 t.2))))))))

-- ---- one after another

abbrev pub tokens_in : Sequences → List Token
tokens_in body = tokens_of (code_of body)

chain-same : (n : ℕ) (next : Next Progress Sequences) (bytes : List ℕ) → IsFineNext next →
    chain (λ s b. read (place s b)) n (view next) bytes ≡ mapped tokens_in (chain (λ p b. read (instruction p b)) n next bytes)
chain-same zero (ends body) bytes fine = refl
chain-same (suc n) (ends body) bytes fine = refl
chain-same zero (goes_on p) bytes fine = refl
chain-same (suc n) (goes_on p) [] fine = refl
chain-same (suc n) (goes_on p) (b ∷ bytes) fine =
    ap (λ (r : Result (Next Passed (List Token) × List ℕ) BinaryFault). r >>= λ y. chain (λ s b. read (place s b)) n y.0 y.1) (step-same p b bytes fine)
    ∙ one (read (instruction p b) bytes) (λ next rest fine. chain-same n next rest fine) refl
  where
    one : (r : Result (Next Progress Sequences × List ℕ) BinaryFault) →
        ((next : Next Progress Sequences) (rest : List ℕ) → IsFineNext next → chain (λ s b. read (place s b)) n (view next) rest ≡ mapped tokens_in (chain (λ p b. read (instruction p b)) n next rest)) →
        read (instruction p b) bytes ≡ r → (mapped view r >>= λ y. chain (λ s b. read (place s b)) n y.0 y.1) ≡ mapped tokens_in (r >>= λ y. chain (λ p b. read (instruction p b)) n y.0 y.1)
    one (Err fault) later e = refl
    one (Ok y) later e = let t = takes (instruction p b) bytes y.0 y.1 e in later y.0 y.1 (fine_next p b y.0 t.0 fine t.2)

-- The places of an expression are read as the places of the code that it stands for; and they are stuck where it is.
pub same_places : (bytes : List ℕ) → read places bytes ≡ mapped tokens_in (read expression bytes)
unfolding read
same_places bytes = chain-same (suc (length bytes)) (goes_on at_first) bytes (record { ended = tt; around = tt; now = tt })
