-- Where an expression is one constant, by its octets: the constant's code, its number, and the end.
use Rattle.std.proofs.Common.{◌≡◌, ℕ, zero, suc, ◌-◌, ◌<◌, ◌≤◌, Bool, false, List, [], ◌∷◌, ◌++◌, length, get_or, take, drop, Option, Some, None, Result, Ok, Err, refl, sym, ap, subst, ◌∙◌, ⊎_elim, ◌≢◌, arith}
use Rattle.std.specs.Prelude.{◌==◌, MatchOption, ok_or}
use Rattle.std.specs.List.{AllByRecursion}
use Rattle.std.proofs.lemmas.Bool.{eqb-true, ne_eqb, cases_eq}
use Rattle.qw_octet_grammar.specs.declared.fault.BinaryFault.{BinaryFault}
use Rattle.qw_octet_grammar.specs.declared.fault.BinaryFault.TheVariants.{NotModule}
use Rattle.qw_octet_grammar.specs.Grammar.{Next, goes_on, ends, is, after}
use Rattle.qw_octet_grammar.specs.Numbers.{u32}
use Rattle.qw_octet_grammar.specs.Vectors.{vector}
use Rattle.qw_octet_grammar.specs.Reading.{◌>>=◌, chain, read}
use Rattle.qw_octet_grammar.proofs.GrammarLaws.{bind_ok, ok_is}
use Rattle.qw_octet_grammar.proofs.Loops.{tail_of}
use Rattle.qw_module.specs.declared.instruction.ValType.{ValType}
use Rattle.qw_module.specs.declared.instruction.Const.{Const}
use Rattle.qw_module.specs.declared.instruction.Op.{Op}
use Rattle.qw_module.specs.declared.instruction.Op.TheVariants as o
use Rattle.qw_module.specs.declared.instruction.Instr.{Instr}
use Rattle.qw_module.specs.declared.instruction.Instr.TheVariants as i
use Rattle.qw_module.specs.Numbers.{values_of, constant, type_of_constant}
use Rattle.qw_module.specs.Validity.{IsInitial}
use Rattle.qw_module.specs.Syntax.{Sequences, Code, done, op, code_of, named_below, sequence_at, NamesBelow, IsNumbered}
use Rattle.qw_module.specs.Places.{Token, plain, else_begins, branches_by, tokens_of}
use Rattle.qw_module.specs.Places.{ends as end_here}
use Rattle.qw_binary.specs.Types.{val_type, mutability, block_type}
use Rattle.qw_binary.specs.Contents.{GlobalContents}
use Rattle.qw_binary.specs.Sections.{global_from, global}
use Rattle.qw_scan.specs.Inner.Initial.{HasInitial}
use Rattle.qw_binary.specs.Instructions.{simple, Opener, block, Progress, at_first, with_instruction, opener_by, instruction, expression}
use Rattle.qw_valid.specs.declared.operands.Refusal.{Refusal}
use Rattle.qw_valid.specs.declared.operands.Refusal.TheVariants.{IllTyped, NoMemory}
use Rattle.qw_scan.specs.Inner.Tests.{Tells}
use Rattle.qw_scan.proofs.TestLemmas.{Text, tells_ok, tells_not, tells_nothing}
use Rattle.qw_scan.specs.Places.{token_of, opening, Passed, none_passed, and_then, place, places}
use Rattle.qw_scan.specs.Read.{mapped}
use Rattle.qw_scan.specs.Inner.Tokens.{token, after_token}
use Rattle.qw_scan.proofs.Got.{got-pick, got-given, got-is, got-after}
use Rattle.qw_scan.proofs.SamePlaces.{tokens_in, same_places}
use Rattle.qw_scan.proofs.TokenSteps.{place_reads, one_token, places_chain, all_places}

-- ---- the token of a constant, and that of an end

plain_opening : (opener : Opener) (operator : Op) → opening opener ≡ plain operator → ⊥
plain_opening (block type) operator e = cc
plain_opening _ operator e = cc

end_opening : (opener : Opener) → opening opener ≡ end_here → ⊥
end_opening (block type) e = cc
end_opening _ e = cc

plain_instruction : (x : Instr) (operator : Op) → token_of x ≡ plain operator → x ≡ i.Op operator
plain_instruction (i.Op o) operator e = cc
plain_instruction _ operator e = absurd cc

end_instruction : (x : Instr) → token_of x ≡ end_here → ⊥
end_instruction (i.Op o) e = cc
end_instruction _ e = cc

abbrev read_instruction : Instr → List ℕ → Result (Instr × List ℕ) BinaryFault
read_instruction x rest = Ok (x, rest)

-- an operator's token was read as an instruction
operator_read : (code : ℕ) (operator : Op) (bytes rest : List ℕ) → read (token code) bytes ≡ Ok (plain operator, rest) → read (simple code) bytes ≡ read_instruction (i.Op operator) rest
operator_read code operator bytes rest =
    let P = read (simple code) bytes ≡ read_instruction (i.Op operator) rest in
    let t = plain operator in
    got-pick P t rest bytes (code == 0x0B) _ _ (λ _. got-is P t rest bytes end_here (λ e same. absurd cc))
    (λ _. got-pick P t rest bytes (code == 0x05) _ _ (λ _. got-is P t rest bytes else_begins (λ e same. absurd cc))
    (λ _. got-given P t rest bytes (opener_by code) _ _
    (λ make e. got-after P t rest bytes block_type _ (λ type mid r. got-is P t rest mid (opening (make type)) (λ is same. absurd (plain_opening (make type) operator is))))
    (got-pick P t rest bytes (code == 0x0E) _ _
    (λ _. got-after P t rest bytes (vector u32) _ (λ labels mid r. got-after P t rest mid u32 _ (λ default behind q. got-is P t rest behind (branches_by labels default) (λ e same. absurd cc))))
    (λ _. got-after P t rest bytes (simple code) _
    (λ x mid r. got-is P t rest mid (token_of x) (λ e same. r ∙ ap (λ (y : Instr). read_instruction y mid) (plain_instruction x operator e) ∙ ap (λ (bs : List ℕ). read_instruction (i.Op operator) bs) same))))))

-- an end's token is its code
end_read : (code : ℕ) (bytes rest : List ℕ) → read (token code) bytes ≡ Ok (end_here, rest) → (code ≡ 0x0B) × (bytes ≡ rest)
end_read code bytes rest =
    let P = (code ≡ 0x0B) × (bytes ≡ rest) in
    let t = end_here in
    got-pick P t rest bytes (code == 0x0B) _ _ (λ is. got-is P t rest bytes end_here (λ e same. (eqb-true code 0x0B is, same)))
    (λ _. got-pick P t rest bytes (code == 0x05) _ _ (λ _. got-is P t rest bytes else_begins (λ e same. absurd cc))
    (λ _. got-given P t rest bytes (opener_by code) _ _
    (λ make e. got-after P t rest bytes block_type _ (λ type mid r. got-is P t rest mid (opening (make type)) (λ is same. absurd (end_opening (make type) is))))
    (got-pick P t rest bytes (code == 0x0E) _ _
    (λ _. got-after P t rest bytes (vector u32) _ (λ labels mid r. got-after P t rest mid u32 _ (λ default behind q. got-is P t rest behind (branches_by labels default) (λ e same. absurd cc))))
    (λ _. got-after P t rest bytes (simple code) _ (λ x mid r. got-is P t rest mid (token_of x) (λ e same. absurd (end_instruction x e)))))))

-- ---- an expression of two places

abbrev ok_places : List Token → List ℕ → Result (List Token × List ℕ) BinaryFault
ok_places tokens rest = Ok (tokens, rest)

-- the first place, and those that follow
abbrev First : Passed → ℕ → (code : ℕ) → (bytes : List ℕ) → (found : List Token) → (behind : List ℕ) → Type 0
First p n code bytes found behind =
    (t : Token) × (next : Next Passed (List Token)) × (mid : List ℕ) × (more : List Token) × (read (token code) bytes ≡ Ok (t, mid)) × (after_token p t ≡ Ok next)
    × (places_chain n next mid ≡ ok_places found behind) × (found ≡ p.places ++ t ∷ more)

first_place : (p : Passed) (n code : ℕ) (bytes : List ℕ) (found : List Token) (behind : List ℕ) → places_chain (suc n) (goes_on p) (code ∷ bytes) ≡ Ok (found, behind) → First p n code bytes found behind
first_place p n code bytes found behind e =
    let a = bind_ok (read (place p code) bytes) (λ y. places_chain n y.0 y.1) (found, behind) e in
    let r = place_reads p code bytes a.0.0 a.0.1 a.1 in
    let m = all_places n a.0.0 a.0.1 found behind a.2 in
    (r.0, a.0.0, a.0.1, m.0, r.1, r.2, a.2, m.1 ∙ ap (λ (ts : List Token). ts ++ m.0) (one_token p r.0 a.0.0 r.2) ∙ same_list p.places r.0 m.0)
  where
    same_list : (before : List Token) (t : Token) (more : List Token) → (before ++ t ∷ []) ++ more ≡ before ++ t ∷ more
    same_list [] t more = refl
    same_list (x ∷ before) t more = ap (λ (ts : List Token). x ∷ ts) (same_list before t more)

abbrev next_is : Next Passed (List Token) → Result (Next Passed (List Token)) BinaryFault
next_is next = Ok next

-- the last place is an end
last_end : (operator : Op) (n : ℕ) (mid rest : List ℕ) → places_chain (suc n) (goes_on (and_then none_passed (plain operator))) mid ≡ Ok (plain operator ∷ end_here ∷ [], rest) → mid ≡ 0x0B ∷ rest
last_end operator n [] rest e = absurd cc
last_end operator n (b ∷ bytes) rest e =
    let p = and_then none_passed (plain operator) in
    let (t, next, mid, more, reads, leads, left, found) = first_place p n b bytes (plain operator ∷ end_here ∷ []) rest e in
    let is : end_here ≡ t = cc in
    let here = end_read b bytes mid (subst (λ (t : Token). read (token b) bytes ≡ Ok (t, mid)) (sym is) reads) in
    let ended : next ≡ ends (plain operator ∷ end_here ∷ []) = ok_is next _ (sym leads ∙ ap (after_token p) (sym is)) in
    let done = ok_is (plain operator ∷ end_here ∷ [], mid) (plain operator ∷ end_here ∷ [], rest)
    (sym (chain_ends n (plain operator ∷ end_here ∷ []) mid) ∙ ap (λ (r : Next Passed (List Token)). places_chain n r mid) (sym ended) ∙ left) in
    rw (here.0, here.1) (ap (λ (bs : List ℕ). 0x0B ∷ bs) (ap (λ z. z.1) done))
  where
    chain_ends : (n : ℕ) (tokens : List Token) (bytes : List ℕ) → places_chain n (ends tokens) bytes ≡ ok_places tokens bytes
    chain_ends zero tokens bytes = refl
    chain_ends (suc n) tokens bytes = refl

-- the places are those of one operator, so its octets and an end are all there is
two_places : (operator : Op) (code : ℕ) (bytes rest : List ℕ) → read places (code ∷ bytes) ≡ Ok (plain operator ∷ end_here ∷ [], rest) → read (simple code) bytes ≡ read_instruction (i.Op operator) (0x0B ∷ rest)
unfolding read
two_places operator code bytes rest e =
    let (t, next, mid, more, reads, leads, left, found) = first_place none_passed (suc (length bytes)) code bytes (plain operator ∷ end_here ∷ []) rest e in
    let is : plain operator ≡ t = cc in
    let goes : next ≡ goes_on (and_then none_passed (plain operator)) = ok_is next _ (sym leads ∙ ap (after_token none_passed) (sym is)) in
    let end = last_end operator (length bytes) mid rest (ap (λ (r : Next Passed (List Token)). places_chain (suc (length bytes)) r mid) (sym goes) ∙ left) in
    operator_read code operator bytes mid (subst (λ (t : Token). read (token code) bytes ≡ Ok (t, mid)) (sym is) reads) ∙ ap (λ (bs : List ℕ). read_instruction (i.Op operator) bs) end

-- ---- the expression

abbrev pub alone_in : Op → Sequences
alone_in operator = record { each = (i.Op operator ∷ []) ∷ []; labels = [] }

alone_code : (operator : Op) → code_of (alone_in operator) ≡ op operator done
unfolding named_below
alone_code operator = refl

alone_numbered : (operator : Op) → IsNumbered (alone_in operator)
alone_numbered operator = record { some = omega arith; lower = λ n lt. at n lt }
  where
    at : (n : ℕ) → n < 1 → AllByRecursion (NamesBelow 0 n) (sequence_at (alone_in operator) n)
    at zero lt = (tt, tt)
    at (suc n) lt = absurd (omega (arith, lt))

abbrev read_sequences : Sequences → List ℕ → Result (Sequences × List ℕ) BinaryFault
read_sequences s rest = Ok (s, rest)

-- a code of no simple instruction
no_simple : (k code : ℕ) (x : Instr) (bytes mid : List ℕ) (fault : BinaryFault) → read (simple k) bytes ≡ Err fault → read (simple code) bytes ≡ read_instruction x mid → (code == k) ≡ false
no_simple k code x bytes mid fault refused e =
    ⊎_elim (λ (is : code ≡ k). absurd (no_fault fault x mid (sym refused ∙ ap (λ (c : ℕ). read (simple c) bytes) (sym is) ∙ e))) (λ (other : code ≢ k). ne_eqb code k other) (cases_eq code k)
  where
    no_fault : (fault : BinaryFault) (x : Instr) (mid : List ℕ) → (Err fault) ≡ read_instruction x mid → ⊥
    no_fault fault x mid e = cc

abbrev next_read : Next Progress Sequences → List ℕ → Result (Next Progress Sequences × List ℕ) BinaryFault
next_read next rest = Ok (next, rest)

first_read : (code : ℕ) (operator : Op) (bytes mid : List ℕ) → read (simple code) bytes ≡ read_instruction (i.Op operator) mid →
    read (instruction at_first code) bytes ≡ next_read (goes_on (with_instruction at_first (i.Op operator))) mid
unfolding read
first_read code operator bytes mid e =
    let x = i.Op operator in
    rw (
      no_simple 0x0B code x bytes mid NotModule refl e,
      no_simple 0x05 code x bytes mid NotModule refl e,
      no_simple 0x02 code x bytes mid NotModule refl e,
      no_simple 0x03 code x bytes mid NotModule refl e,
      no_simple 0x04 code x bytes mid NotModule refl e,
      no_simple 0x0E code x bytes mid NotModule refl e,
    )
    (ap (λ r. r >>= λ y. next_read (goes_on (with_instruction at_first y.0)) y.1) e)

-- the octets of one operator and an end are an expression
operator_alone : (code : ℕ) (operator : Op) (bytes rest : List ℕ) → read (simple code) bytes ≡ read_instruction (i.Op operator) (0x0B ∷ rest) → read expression (code ∷ bytes) ≡ read_sequences (alone_in operator) rest
unfolding read
operator_alone code operator bytes rest e =
    let p = with_instruction at_first (i.Op operator) in
    ap (λ r. r >>= λ y. expression_chain (suc (length bytes)) y.0 y.1) (first_read code operator bytes (0x0B ∷ rest) e) ∙ chain_ended (length bytes) (alone_in operator) rest
  where
    expression_chain : ℕ → Next Progress Sequences → List ℕ → Result (Sequences × List ℕ) BinaryFault
    expression_chain n next bytes = chain (λ p b. read (instruction p b)) n next bytes

    chain_ended : (n : ℕ) (s : Sequences) (bytes : List ℕ) → chain (λ p b. read (instruction p b)) n (ends s) bytes ≡ read_sequences s bytes
    chain_ended zero s bytes = refl
    chain_ended (suc n) s bytes = refl

-- ---- an initial expression

abbrev pub HasType : ValType → Const → Type 0
HasType type v = (type_of_constant v ≡ type) × (constant v < values_of type)

module _ (type : ValType) (code : ℕ) (bytes : List ℕ) where
  pub is_initial : (v : Const) (behind : List ℕ) → read (simple code) bytes ≡ read_instruction (i.Op (o.Const v)) (0x0B ∷ behind) → HasType type v →
      (s : Sequences) (rest : List ℕ) → read expression (code ∷ bytes) ≡ Ok (s, rest) → IsInitial type s × (behind ≡ rest)
  is_initial v behind e typed s rest found =
      let q = ok_is (alone_in (o.Const v), behind) (s, rest) (sym (operator_alone code (o.Const v) bytes behind e) ∙ found) in
      let initial : IsInitial type (alone_in (o.Const v)) =
      record { numbered = alone_numbered (o.Const v); value = v; alone = alone_code (o.Const v); of_type = typed.0; below = typed.1 } in
      (subst (IsInitial type) (ap (λ z. z.0) q) initial, ap (λ z. z.1) q)

  pub not_initial : ((v : Const) (rest : List ℕ) → HasType type v → read (simple code) bytes ≡ read_instruction (i.Op (o.Const v)) (0x0B ∷ rest) → ⊥) →
      (s : Sequences) (rest : List ℕ) → read expression (code ∷ bytes) ≡ Ok (s, rest) → IsInitial type s → ⊥
  not_initial other s rest found initial =
      other initial.value rest (initial.of_type, initial.below)
      (two_places (o.Const initial.value) code bytes rest (same_places (code ∷ bytes) ∙ ap (mapped tokens_in) found ∙ ap (λ (c : Code). ok_places (tokens_of c) rest) initial.alone))

-- ---- by the octets of it

module _ (type : ValType) (octets : List ℕ) (long : 1 ≤ length octets) where
  abbrev code_in : ℕ
  code_in = get_or octets 0 0

  abbrev behind_in : List ℕ
  behind_in = take (length octets - 1) (drop 1 octets)

  cut : octets ≡ code_in ∷ behind_in
  cut = cut_in octets long
    where
      cut_in : (bytes : List ℕ) → 1 ≤ length bytes → bytes ≡ get_or bytes 0 0 ∷ take (length bytes - 1) (drop 1 bytes)
      cut_in [] long = absurd (omega (arith, long))
      cut_in (b ∷ bytes) long = ap (λ (bs : List ℕ). b ∷ bs) (sym (tail_of b bytes))

  abbrev ReadsConstant : Const → List ℕ → Type 0
  ReadsConstant v mid = read (simple code_in) behind_in ≡ read_instruction (i.Op (o.Const v)) mid

  whole_found : (s : Sequences) (rest : List ℕ) → read expression octets ≡ Ok (s, rest) → read expression (code_in ∷ behind_in) ≡ read_sequences s rest
  whole_found s rest e = ap (λ (bs : List ℕ). read expression bs) (sym cut) ∙ e

  none_told : ((v : Const) (rest : List ℕ) → HasType type v → ReadsConstant v (0x0B ∷ rest) → ⊥) → Tells (IsInitial type) (Err IllTyped) (read expression octets)
  none_told other = tells_not (IsInitial type) (read expression octets) (λ s rest e. not_initial type code_in behind_in other s rest (whole_found s rest e))

  pub constant_refused : (refusal : Refusal) → (refusal ≡ IllTyped → (v : Const) (rest : List ℕ) → ReadsConstant v rest → ⊥) → Tells (IsInitial type) (Err refusal) (read expression octets)
  constant_refused IllTyped none = none_told (λ v rest typed reads. none refl v (0x0B ∷ rest) reads)
  constant_refused NoMemory none = tells_nothing (IsInitial type) (read expression octets)

  constant_is : (v w : Const) (mid rest : List ℕ) → ReadsConstant v mid → ReadsConstant w rest → (v ≡ w) × (mid ≡ rest)
  constant_is v w mid rest one other =
      let q = ok_is (i.Op (o.Const v), mid) (i.Op (o.Const w), rest) (sym one ∙ other) in
      (same v w (ap (λ z. z.0) q), ap (λ z. z.1) q)
    where
      same : (v w : Const) → i.Op (o.Const v) ≡ i.Op (o.Const w) → v ≡ w
      same v w e = cc

  pub constant_mistyped : (v : Const) (mid : List ℕ) → ReadsConstant v mid → (HasType type v → ⊥) → Tells (IsInitial type) (Err IllTyped) (read expression octets)
  constant_mistyped v mid reads other =
      none_told (λ w rest typed again. other (subst (HasType type) (sym (constant_is v w mid (0x0B ∷ rest) reads again).0) typed))

  constant_unended : (v : Const) (mid : List ℕ) → ReadsConstant v mid → ((rest : List ℕ) → mid ≡ 0x0B ∷ rest → ⊥) → Tells (IsInitial type) (Err IllTyped) (read expression octets)
  constant_unended v mid reads other = none_told (λ w rest typed again. other rest (constant_is v w mid (0x0B ∷ rest) reads again).1)

  constant_ended : (v : Const) (mid : List ℕ) (behind : Text) → ReadsConstant v mid → mid ≡ 0x0B ∷ behind.now → HasType type v → Tells (IsInitial type) (Ok behind) (read expression octets)
  constant_ended v mid behind reads end typed =
      tells_ok (IsInitial type) behind (read expression octets)
      (λ s rest e. is_initial type code_in behind_in v behind.now (reads ∙ ap (λ (bs : List ℕ). read_instruction (i.Op (o.Const v)) bs) end) typed s rest (whole_found s rest e))

  pub constant_ended_or : (v : Const) (mid : List ℕ) (end : Option Text) → ReadsConstant v mid → MatchOption end ((rest : List ℕ) → mid ≢ 0x0B ∷ rest) (λ behind. mid ≡ 0x0B ∷ behind.now) → HasType type v →
      Tells (IsInitial type) (ok_or end IllTyped) (read expression octets)
  constant_ended_or v mid (Some behind) reads end typed = constant_ended v mid behind reads end typed
  constant_ended_or v mid None reads other typed = constant_unended v mid reads other

-- ---- the global round it

abbrev read_global : GlobalContents → List ℕ → Result (GlobalContents × List ℕ) BinaryFault
read_global g rest = Ok (g, rest)

of_init : (type : ValType) (mutable : Bool) (result : Result Text Refusal) (r : Result (Sequences × List ℕ) BinaryFault) →
    Tells (IsInitial type) result r → Tells HasInitial result (r >>= λ y. read_global (global_from type mutable y.0) y.1)
of_init type mutable (Ok behind) (Ok found) told = told
of_init type mutable (Err IllTyped) (Ok found) told = told
of_init type mutable (Err NoMemory) (Ok found) told = tt
of_init type mutable (Ok behind) (Err fault) told = tt
of_init type mutable (Err IllTyped) (Err fault) told = tt
of_init type mutable (Err NoMemory) (Err fault) told = tt

pub global_told : (octets mid last : List ℕ) (type : ValType) (mutable : Bool) (result : Result Text Refusal) → read val_type octets ≡ Ok (type, mid) → read mutability mid ≡ Ok (mutable, last) →
    Tells (IsInitial type) result (read expression last) → Tells HasInitial result (read global octets)
unfolding read
global_told octets mid last type mutable result one two told =
    let left : read (after mutability (λ mutable. after expression (λ init. is (global_from type mutable init)))) mid ≡ read (after expression (λ init. is (global_from type mutable init))) last =
    ap (λ r. r >>= λ y. read (after expression (λ init. is (global_from type y.0 init))) y.1) two in
    let all : read global octets ≡ read (after expression (λ init. is (global_from type mutable init))) last =
    ap (λ r. r >>= λ y. read (after mutability (λ mutable. after expression (λ init. is (global_from y.0 mutable init)))) y.1) one ∙ left in
    rw all (of_init type mutable result (read expression last) told)
