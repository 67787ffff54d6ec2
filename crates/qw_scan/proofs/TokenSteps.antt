-- Reading a place is reading its token, and going where it leads.
use Rattle.std.proofs.Common.{◌≡◌, ℕ, zero, suc, Bool, true, false, List, [], ◌∷◌, ◌++◌, Option, Some, None, Result, Ok, Err, refl, sym, ap, ◌∙◌, append_assoc}
use Rattle.std.proofs.lemmas.List.{append-nil}
use Rattle.std.specs.Prelude.{◌==◌}
use Rattle.qw_octet_grammar.specs.declared.fault.BinaryFault.{BinaryFault}
use Rattle.qw_octet_grammar.specs.Grammar.{Next, goes_on, ends, Grammar, is, after, pick, settle}
use Rattle.qw_octet_grammar.specs.Reading.{◌>>=◌, chain, read}
use Rattle.qw_octet_grammar.proofs.GrammarLaws.{takes, bind_ok, ok_is}
use Rattle.qw_octet_grammar.specs.Numbers.{u32}
use Rattle.qw_octet_grammar.specs.Vectors.{vector}
use Rattle.qw_module.specs.declared.instruction.Instr.{Instr}
use Rattle.qw_module.specs.declared.instruction.Instr.TheVariants as i
use Rattle.qw_module.specs.Places.{Token, block_begins, else_begins, branches_by}
use Rattle.qw_module.specs.Places.{ends as end_here}
use Rattle.qw_binary.specs.Types.{block_type}
use Rattle.qw_binary.specs.Instructions.{given, simple, Opener, second, opener_by}
use Rattle.qw_binary.specs.Inner.Followed.{IsAlone, IsFresh}
use Rattle.qw_binary.proofs.Apart.{simple_alone}
use Rattle.qw_scan.specs.Places.{token_of, opening, may_turn, Passed, then_open, and_then, after_end, after_else, place}
use Rattle.qw_scan.specs.Inner.Tokens.{token, after_token}
use Rattle.qw_scan.proofs.SamePlaces.{opener-fresh}

-- the token here, and where it leads
abbrev pub Reads : Passed → (code : ℕ) → (bytes : List ℕ) → Next Passed (List Token) → (rest : List ℕ) → Type 0
Reads p code bytes next rest = (t : Token) × (read (token code) bytes ≡ Ok (t, rest)) × (after_token p t ≡ Ok next)

-- ---- a grammar of tokens beside one of what follows them

abbrev Leads : Passed → List ℕ → Next Passed (List Token) → List ℕ → Grammar Token → Type 0
Leads p bytes next rest g = (t : Token) × (read g bytes ≡ Ok (t, rest)) × (after_token p t ≡ Ok next)

abbrev read_as : Token → List ℕ → Result (Token × List ℕ) BinaryFault
read_as t bytes = Ok (t, bytes)

abbrev leads_to : Next Passed (List Token) → Result (Next Passed (List Token)) BinaryFault
leads_to next = Ok next

module _ (p : Passed) (next : Next Passed (List Token)) (rest : List ℕ) where
  abbrev Both : List ℕ → Grammar Token → Grammar (Next Passed (List Token)) → Type 0
  Both bytes g h = read h bytes ≡ Ok (next, rest) → Leads p bytes next rest g

  both-pick : (bytes : List ℕ) (b : Bool) (g h : Grammar Token) (g' h' : Grammar (Next Passed (List Token))) → Both bytes g g' → Both bytes h h' → Both bytes (pick b g h) (pick b g' h')
  both-pick bytes true g h g' h' one other = one
  both-pick bytes false g h g' h' one other = other

  both-given : {C : Type 0} (bytes : List ℕ) (o : Option C) (k : C → Grammar Token) (g : Grammar Token) (k' : C → Grammar (Next Passed (List Token))) (g' : Grammar (Next Passed (List Token))) →
      ((y : C) → o ≡ Some y → Both bytes (k y) (k' y)) → Both bytes g g' → Both bytes (given o k g) (given o k' g')
  both-given bytes (Some y) k g k' g' one other = one y refl
  both-given bytes None k g k' g' one other = other

  both-is : (bytes : List ℕ) (t : Token) (x : Next Passed (List Token)) → after_token p t ≡ Ok x → Both bytes (is t) (is x)
  unfolding read
  both-is bytes t x leads e =
      let q = ok_is (x, bytes) (next, rest) e in
      (t, ap (λ (b : List ℕ). read_as t b) (ap (λ z. z.1) q), leads ∙ ap (λ (n : Next Passed (List Token)). leads_to n) (ap (λ z. z.0) q))

  both-after : {C : Type 0} (bytes : List ℕ) (g : Grammar C) (k : C → Grammar Token) (k' : C → Grammar (Next Passed (List Token))) →
      ((y : C) (mid : List ℕ) → read g bytes ≡ Ok (y, mid) → Both mid (k y) (k' y)) → Both bytes (after g k) (after g k')
  unfolding read
  both-after bytes g k k' each e =
      let a = bind_ok (read g bytes) (λ y. read (k' y.0) y.1) (next, rest) e in
      let l = each a.0.0 a.0.1 a.1 a.2 in
      (l.0, ap (λ r. r >>= λ y. read (k y.0) y.1) a.1 ∙ l.1, l.2)

  both-settle : (bytes : List ℕ) (t : Token) (r : Result (Next Passed (List Token)) BinaryFault) → after_token p t ≡ r → Both bytes (is t) (settle r)
  unfolding read
  both-settle bytes t (Ok x) leads e = both-is bytes t x leads e
  both-settle bytes t (Err fault) leads e = absurd cc

opening-leads : (p : Passed) (opener : Opener) → IsFresh opener → after_token p (opening opener) ≡ Ok (goes_on (then_open p (opening opener) (may_turn opener ∷ p.turns)))
opening-leads p (second type then_body) fresh = absurd fresh
opening-leads p _ fresh = refl

alone-leads : (p : Passed) (x : Instr) → IsAlone x → after_token p (token_of x) ≡ Ok (goes_on (and_then p (token_of x)))
alone-leads p (i.Block result body) alone = absurd alone
alone-leads p (i.Loop result body) alone = absurd alone
alone-leads p (i.If result then_body else_body) alone = absurd alone
alone-leads p (i.BrTable from count default) alone = absurd alone
alone-leads p _ alone = refl

pub place_reads : (p : Passed) (code : ℕ) (bytes : List ℕ) (next : Next Passed (List Token)) (rest : List ℕ) → read (place p code) bytes ≡ Ok (next, rest) → Reads p code bytes next rest
place_reads p code bytes next rest =
    both-pick p next rest bytes (code == 0x0B) _ _ _ _ (both-is p next rest bytes end_here (after_end p p.turns) refl)
    (both-pick p next rest bytes (code == 0x05) _ _ _ _ (both-settle p next rest bytes else_begins (after_else p p.turns) refl)
    (both-given p next rest bytes (opener_by code) _ _ _ _
    (λ make e. both-after p next rest bytes block_type _ _ (λ type mid r.
    both-is p next rest mid (opening (make type)) (goes_on (then_open p (opening (make type)) (may_turn (make type) ∷ p.turns))) (opening-leads p (make type) (opener-fresh code make e type))))
    (both-pick p next rest bytes (code == 0x0E) _ _ _ _
    (both-after p next rest bytes (vector u32) _ _ (λ labels mid r. both-after p next rest mid u32 _ _ (λ default behind q.
    both-is p next rest behind (branches_by labels default) (goes_on (and_then p (branches_by labels default))) refl)))
    (both-after p next rest bytes (simple code) _ _ (λ x mid r. let t = takes (simple code) bytes x mid r in
    both-is p next rest mid (token_of x) (goes_on (and_then p (token_of x))) (alone-leads p x (simple_alone code x t.0 t.2)))))))

-- ---- the places so far are the first of all

abbrev pub places_so_far : Next Passed (List Token) → List Token
places_so_far (goes_on p) = p.places
places_so_far (ends found) = found

-- one token more
pub one_token : (p : Passed) (t : Token) (next : Next Passed (List Token)) → after_token p t ≡ Ok next → places_so_far next ≡ p.places ++ t ∷ []
one_token p end_here next e = at_end p.turns (ok_is (after_end p p.turns) next e)
  where
    at_end : (turns : List Bool) → after_end p turns ≡ next → places_so_far next ≡ p.places ++ end_here ∷ []
    at_end [] e = ap places_so_far (sym e)
    at_end (turn ∷ turns) e = ap places_so_far (sym e)
one_token p else_begins next e = at_else p.turns e
  where
    at_else : (turns : List Bool) → after_else p turns ≡ Ok next → places_so_far next ≡ p.places ++ else_begins ∷ []
    at_else [] e = absurd cc
    at_else (false ∷ turns) e = absurd cc
    at_else (true ∷ turns) e = ap places_so_far (sym (ok_is (goes_on (then_open p else_begins (false ∷ turns))) next e))
one_token p (block_begins result) next e = ap places_so_far (sym (ok_is _ next e))
one_token p _ next e = ap places_so_far (sym (ok_is _ next e))

abbrev pub places_chain : ℕ → Next Passed (List Token) → List ℕ → Result (List Token × List ℕ) BinaryFault
places_chain n next bytes = chain (λ p b. read (place p b)) n next bytes

pub all_places : (n : ℕ) (next : Next Passed (List Token)) (bytes : List ℕ) (found : List Token) (behind : List ℕ) → places_chain n next bytes ≡ Ok (found, behind) →
    (more : List Token) × (found ≡ places_so_far next ++ more)
all_places zero (ends tokens) bytes found behind e = ([], ap (λ z. z.0) (sym (ok_is (tokens, bytes) (found, behind) e)) ∙ sym (append-nil tokens))
all_places (suc n) (ends tokens) bytes found behind e = ([], ap (λ z. z.0) (sym (ok_is (tokens, bytes) (found, behind) e)) ∙ sym (append-nil tokens))
all_places zero (goes_on p) bytes found behind e = absurd cc
all_places (suc n) (goes_on p) [] found behind e = absurd cc
all_places (suc n) (goes_on p) (b ∷ bytes) found behind e =
    let a = bind_ok (read (place p b) bytes) (λ y. places_chain n y.0 y.1) (found, behind) e in
    let r = place_reads p b bytes a.0.0 a.0.1 a.1 in
    let m = all_places n a.0.0 a.0.1 found behind a.2 in
    (r.0 ∷ m.0, m.1 ∙ ap (λ (ts : List Token). ts ++ m.0) (one_token p r.0 a.0.0 r.2) ∙ append_assoc p.places (r.0 ∷ []) m.0)
