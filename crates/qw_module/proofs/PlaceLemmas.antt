-- A body's places are typable exactly where its nested code is typed, and it has one first place refused at most.
use Rattle.std.proofs.Common.{◌≡◌, ℕ, zero, suc, ◌+◌, ◌<◌, ◌≤◌, List, [], ◌∷◌, ◌++◌, length, take, reverse, Option, Some, None, slice_get, refl, sym, subst, ⊎_elim, arith}
use Rattle.std.proofs.lemmas.Bool.{cases_order}
use Rattle.std.proofs.Math.Seq.{take-length}
use Rattle.std.specs.List.{AllByRecursion}
use Rattle.qw_module.specs.declared.instruction.ValType.{ValType}
use Rattle.qw_module.specs.declared.instruction.ValType.TheVariants.{I32}
use Rattle.qw_module.specs.Syntax.{Code, done, op, unreachable, block, loop, if_then, if_else, br, br_if, br_table, return, call}
use Rattle.qw_module.specs.Typing.{types_of, Signature, Scope, within, Takes, OpTyped, Typed, typed-done, typed-op, typed-unreachable, typed-block, typed-loop, typed-if_then, typed-if_else, typed-br, typed-br_if, typed-br_table, typed-return, typed-call}
use Rattle.qw_module.specs.Places.{Token, plain, unreachable_here, block_begins, loop_begins, if_begins, else_begins, ends, branches, branches_if, branches_by, returns, calls, tokens_before, tokens_of, Opened, body, in_block, in_loop, in_if, in_else, Place, Typing, scope_in, Follows, at_plain, at_unreachable, at_block, at_loop, at_if, at_else, at_end_of_if, at_end_of_else, at_end_of_block, at_end_of_loop, at_end_of_body, at_br, at_br_if, at_br_table, at_return, at_call, Leads, at_start, IsTypable, IsRefusedAt}
use Rattle.qw_module.proofs.TypedParts.{parts}

abbrev at : List Opened → List ValType → Place
at opened types = record { opened = opened; types = types }

-- ---- from typed code to its places
pub leads : (f : Typing) (code : Code) (opened : List Opened) (before after : List ValType) → Typed (scope_in f opened) code before after →
    (more : List Token) (q : Place) → Leads f more (at opened after) q → Leads f (tokens_before code more) (at opened before) q
leads f done opened before after typed more q rest =
    subst (λ (types : List ValType). Leads f more (at opened types) q) (sym (parts (scope_in f opened) done before after typed)) rest
leads f (op o code) opened before after typed more q rest =
    let p = parts (scope_in f opened) (op o code) before after typed in
    (at opened p.0, at_plain f opened o before p.0 p.1, leads f code opened p.0 after p.2 more q rest)
leads f (unreachable code) opened before after typed more q rest =
    let p = parts (scope_in f opened) (unreachable code) before after typed in
    (at opened p.0, at_unreachable f opened before p.0, leads f code opened p.0 after p.1 more q rest)
leads f (block result inner code) opened before after typed more q rest =
    let p = parts (scope_in f opened) (block result inner code) before after typed in (
      at (in_block result before ∷ opened) [],
      at_block f opened result before,
      leads f inner (in_block result before ∷ opened) [] (types_of result) p.0 (ends ∷ tokens_before code more) q
          (at opened (types_of result ++ before), at_end_of_block f opened result before, leads f code opened (types_of result ++ before) after p.1 more q rest),
    )
leads f (loop result inner code) opened before after typed more q rest =
    let p = parts (scope_in f opened) (loop result inner code) before after typed in (
      at (in_loop result before ∷ opened) [],
      at_loop f opened result before,
      leads f inner (in_loop result before ∷ opened) [] (types_of result) p.0 (ends ∷ tokens_before code more) q
          (at opened (types_of result ++ before), at_end_of_loop f opened result before, leads f code opened (types_of result ++ before) after p.1 more q rest),
    )
leads f (if_then result inner code) opened before after typed more q rest =
    let p = parts (scope_in f opened) (if_then result inner code) before after typed in
    rw (p.1, p.2) (
      at (in_if None p.0 ∷ opened) [],
      at_if f opened None p.0,
      leads f inner (in_if None p.0 ∷ opened) [] [] p.3 (ends ∷ tokens_before code more) q
          (at opened p.0, at_end_of_if f opened p.0, leads f code opened p.0 after p.4 more q rest),
    )
leads f (if_else result inner other code) opened before after typed more q rest =
    let p = parts (scope_in f opened) (if_else result inner other code) before after typed in
    rw (p.1) (
      at (in_if result p.0 ∷ opened) [],
      at_if f opened result p.0,
      leads f inner (in_if result p.0 ∷ opened) [] (types_of result) p.2 (else_begins ∷ tokens_before other (ends ∷ tokens_before code more)) q (
        at (in_else result p.0 ∷ opened) [],
        at_else f opened result p.0,
        leads f other (in_else result p.0 ∷ opened) [] (types_of result) p.3 (ends ∷ tokens_before code more) q
            (at opened (types_of result ++ p.0), at_end_of_else f opened result p.0, leads f code opened (types_of result ++ p.0) after p.4 more q rest),
      ),
    )
leads f (br label code) opened before after typed more q rest =
    let p = parts (scope_in f opened) (br label code) before after typed in
    rw (p.4) (at opened p.2, at_br f opened label p.0 p.1 p.2 p.3, leads f code opened p.2 after p.5 more q rest)
leads f (br_if label code) opened before after typed more q rest =
    let p = parts (scope_in f opened) (br_if label code) before after typed in
    rw (p.3) (at opened (p.0 ++ p.1), at_br_if f opened label p.0 p.1 p.2, leads f code opened (p.0 ++ p.1) after p.4 more q rest)
leads f (br_table labels default code) opened before after typed more q rest =
    let p = parts (scope_in f opened) (br_table labels default code) before after typed in
    rw (p.5) (at opened p.2, at_br_table f opened labels default p.0 p.1 p.2 p.3 p.4, leads f code opened p.2 after p.6 more q rest)
leads f (return code) opened before after typed more q rest =
    let p = parts (scope_in f opened) (return code) before after typed in
    rw (p.2) (at opened p.1, at_return f opened p.0 p.1, leads f code opened p.1 after p.3 more q rest)
leads f (call index code) opened before after typed more q rest =
    let p = parts (scope_in f opened) (call index code) before after typed in
    rw (p.3) (
      at opened (reverse p.0.results ++ p.1),
      at_call f opened index p.0 p.1 p.2,
      leads f code opened (reverse p.0.results ++ p.1) after p.4 more q rest,
    )

-- ---- what a token says of the places before and after it, read from its rule
abbrev pub EndDemands : Typing → List Opened → List ValType → Place → Type 0
EndDemands f [] types q = ⊥
EndDemands f (body ∷ opened) types q = (opened ≡ []) × (types ≡ f.results) × (q ≡ at [] f.results)
EndDemands f (in_block result below ∷ opened) types q = (types ≡ types_of result) × (q ≡ at opened (types_of result ++ below))
EndDemands f (in_loop result below ∷ opened) types q = (types ≡ types_of result) × (q ≡ at opened (types_of result ++ below))
EndDemands f (in_if result below ∷ opened) types q = (result ≡ None) × (types ≡ []) × (q ≡ at opened below)
EndDemands f (in_else result below ∷ opened) types q = (types ≡ types_of result) × (q ≡ at opened (types_of result ++ below))

abbrev pub ElseDemands : Typing → List Opened → List ValType → Place → Type 0
ElseDemands f (in_if result below ∷ opened) types q = (types ≡ types_of result) × (q ≡ at (in_else result below ∷ opened) [])
ElseDemands f _ types q = ⊥

abbrev pub Demands : Typing → Token → Place → Place → Type 0
Demands f (plain o) p q = (after : List ValType) × (q ≡ at p.opened after) × OpTyped (scope_in f p.opened) o p.types after
Demands f unreachable_here p q = (any : List ValType) × (q ≡ at p.opened any)
Demands f (block_begins result) p q = q ≡ at (in_block result p.types ∷ p.opened) []
Demands f (loop_begins result) p q = q ≡ at (in_loop result p.types ∷ p.opened) []
Demands f (if_begins result) p q = (types : List ValType) × (p.types ≡ I32 ∷ types) × (q ≡ at (in_if result types ∷ p.opened) [])
Demands f else_begins p q = ElseDemands f p.opened p.types q
Demands f ends p q = EndDemands f p.opened p.types q
Demands f (branches label) p q =
    (taken below any : List ValType) × Takes (scope_in f p.opened) label taken × (p.types ≡ taken ++ below) × (q ≡ at p.opened any)
Demands f (branches_if label) p q =
    (taken below : List ValType) × Takes (scope_in f p.opened) label taken × (p.types ≡ I32 ∷ taken ++ below) × (q ≡ at p.opened (taken ++ below))
Demands f (branches_by labels default) p q =
    (taken below any : List ValType) × AllByRecursion (λ label. Takes (scope_in f p.opened) label taken) labels
    × Takes (scope_in f p.opened) default taken × (p.types ≡ I32 ∷ taken ++ below) × (q ≡ at p.opened any)
Demands f returns p q = (below any : List ValType) × (p.types ≡ f.results ++ below) × (q ≡ at p.opened any)
Demands f (calls index) p q =
    (signature : Signature) × (types : List ValType) × (slice_get f.outside.functions index ≡ Some signature)
    × (p.types ≡ reverse signature.params ++ types) × (q ≡ at p.opened (reverse signature.results ++ types))

pub demands : (f : Typing) (token : Token) (p q : Place) → Follows f token p q → Demands f token p q
demands _ _ _ _ (at_plain f opened o before after typed) = (after, refl, typed)
demands _ _ _ _ (at_unreachable f opened before any) = (any, refl)
demands _ _ _ _ (at_block f opened result types) = refl
demands _ _ _ _ (at_loop f opened result types) = refl
demands _ _ _ _ (at_if f opened result types) = (types, refl, refl)
demands _ _ _ _ (at_else f opened result below) = (refl, refl)
demands _ _ _ _ (at_end_of_if f opened below) = (refl, refl, refl)
demands _ _ _ _ (at_end_of_else f opened result below) = (refl, refl)
demands _ _ _ _ (at_end_of_block f opened result below) = (refl, refl)
demands _ _ _ _ (at_end_of_loop f opened result below) = (refl, refl)
demands _ _ _ _ (at_end_of_body f) = (refl, refl, refl)
demands _ _ _ _ (at_br f opened label taken below any found) = (taken, below, any, found, refl, refl)
demands _ _ _ _ (at_br_if f opened label taken below found) = (taken, below, found, refl, refl)
demands _ _ _ _ (at_br_table f opened labels default taken below any all found) = (taken, below, any, all, found, refl, refl)
demands _ _ _ _ (at_return f opened below any) = (below, any, refl, refl)
demands _ _ _ _ (at_call f opened index signature types found) = (signature, types, found, refl, refl)

-- ---- from places to typed code
of_types : {scope : Scope} {code : Code} {before types after : List ValType} → before ≡ types → Typed scope code types after → Typed scope code before after
of_types {scope} {code} {before} {types} {after} same typed = rw same typed

if_then-typed : (scope : Scope) (result : Option ValType) (inner rest : Code) (types before after : List ValType) → result ≡ None → before ≡ I32 ∷ types →
    Typed (within scope (types_of result)) inner [] [] → Typed scope rest types after → Typed scope (if_then result inner rest) before after
if_then-typed scope None inner rest types before after none first inner_typed rest_typed = rw first (typed-if_then scope inner rest types after inner_typed rest_typed)
if_then-typed scope (Some t) inner rest types before after none first inner_typed rest_typed = cc

abbrev Reads : Typing → List Opened → Code → List ValType → List Token → Place → Type 0
Reads f opened code before more q = (after : List ValType) × Typed (scope_in f opened) code before after × Leads f more (at opened after) q

pub reads : (f : Typing) (code : Code) (opened : List Opened) (before : List ValType) (more : List Token) (q : Place) →
    Leads f (tokens_before code more) (at opened before) q → Reads f opened code before more q
reads f done opened before more q rest = (before, typed-done (scope_in f opened) before, rest)
reads f (op o code) opened before more q (middle, follows, rest) =
    let d = demands f (plain o) (at opened before) middle follows in
    let r = reads f code opened d.0 more q (subst (λ (p : Place). Leads f (tokens_before code more) p q) d.1 rest) in
    (r.0, typed-op (scope_in f opened) o code before d.0 r.0 d.2 r.1, r.2)
reads f (unreachable code) opened before more q (middle, follows, rest) =
    let d = demands f unreachable_here (at opened before) middle follows in
    let r = reads f code opened d.0 more q (subst (λ (p : Place). Leads f (tokens_before code more) p q) d.1 rest) in
    (r.0, typed-unreachable (scope_in f opened) code before d.0 r.0 r.1, r.2)
reads f (block result inner code) opened before more q (middle, follows, rest) =
    let d = demands f (block_begins result) (at opened before) middle follows in
    let i = reads f inner (in_block result before ∷ opened) [] (ends ∷ tokens_before code more) q
    (subst (λ (p : Place). Leads f (tokens_before inner (ends ∷ tokens_before code more)) p q) d rest) in
    let e = demands f ends (at (in_block result before ∷ opened) i.0) i.2.0 i.2.1 in
    let r = reads f code opened (types_of result ++ before) more q (subst (λ (p : Place). Leads f (tokens_before code more) p q) e.1 i.2.2) in
    let inner_typed = subst (λ (types : List ValType). Typed (scope_in f (in_block result before ∷ opened)) inner [] types) e.0 i.1 in
    (r.0, typed-block (scope_in f opened) result inner code before r.0 inner_typed r.1, r.2)
reads f (loop result inner code) opened before more q (middle, follows, rest) =
    let d = demands f (loop_begins result) (at opened before) middle follows in
    let i = reads f inner (in_loop result before ∷ opened) [] (ends ∷ tokens_before code more) q
    (subst (λ (p : Place). Leads f (tokens_before inner (ends ∷ tokens_before code more)) p q) d rest) in
    let e = demands f ends (at (in_loop result before ∷ opened) i.0) i.2.0 i.2.1 in
    let r = reads f code opened (types_of result ++ before) more q (subst (λ (p : Place). Leads f (tokens_before code more) p q) e.1 i.2.2) in
    let inner_typed = subst (λ (types : List ValType). Typed (scope_in f (in_loop result before ∷ opened)) inner [] types) e.0 i.1 in
    (r.0, typed-loop (scope_in f opened) result inner code before r.0 inner_typed r.1, r.2)
reads f (if_then result inner code) opened before more q (middle, follows, rest) =
    let d = demands f (if_begins result) (at opened before) middle follows in
    let i = reads f inner (in_if result d.0 ∷ opened) [] (ends ∷ tokens_before code more) q
    (subst (λ (p : Place). Leads f (tokens_before inner (ends ∷ tokens_before code more)) p q) d.2 rest) in
    let e = demands f ends (at (in_if result d.0 ∷ opened) i.0) i.2.0 i.2.1 in
    let r = reads f code opened d.0 more q (subst (λ (p : Place). Leads f (tokens_before code more) p q) e.2 i.2.2) in
    let inner_typed = subst (λ (types : List ValType). Typed (scope_in f (in_if result d.0 ∷ opened)) inner [] types) e.1 i.1 in
    (r.0, if_then-typed (scope_in f opened) result inner code d.0 before r.0 e.0 d.1 inner_typed r.1, r.2)
reads f (if_else result inner other code) opened before more q (middle, follows, rest) =
    let d = demands f (if_begins result) (at opened before) middle follows in
    let i = reads f inner (in_if result d.0 ∷ opened) [] (else_begins ∷ tokens_before other (ends ∷ tokens_before code more)) q
    (subst (λ (p : Place). Leads f (tokens_before inner (else_begins ∷ tokens_before other (ends ∷ tokens_before code more))) p q) d.2 rest) in
    let m = demands f else_begins (at (in_if result d.0 ∷ opened) i.0) i.2.0 i.2.1 in
    let j = reads f other (in_else result d.0 ∷ opened) [] (ends ∷ tokens_before code more) q
    (subst (λ (p : Place). Leads f (tokens_before other (ends ∷ tokens_before code more)) p q) m.1 i.2.2) in
    let e = demands f ends (at (in_else result d.0 ∷ opened) j.0) j.2.0 j.2.1 in
    let r = reads f code opened (types_of result ++ d.0) more q (subst (λ (p : Place). Leads f (tokens_before code more) p q) e.1 j.2.2) in
    let inner_typed = subst (λ (types : List ValType). Typed (scope_in f (in_if result d.0 ∷ opened)) inner [] types) m.0 i.1 in
    let other_typed = subst (λ (types : List ValType). Typed (scope_in f (in_else result d.0 ∷ opened)) other [] types) e.0 j.1 in
    (r.0, of_types d.1 (typed-if_else (scope_in f opened) result inner other code d.0 r.0 inner_typed other_typed r.1), r.2)
reads f (br label code) opened before more q (middle, follows, rest) =
    let d = demands f (branches label) (at opened before) middle follows in
    let r = reads f code opened d.2 more q (subst (λ (p : Place). Leads f (tokens_before code more) p q) d.5 rest) in
    (r.0, of_types d.4 (typed-br (scope_in f opened) label code d.0 d.1 d.2 r.0 d.3 r.1), r.2)
reads f (br_if label code) opened before more q (middle, follows, rest) =
    let d = demands f (branches_if label) (at opened before) middle follows in
    let r = reads f code opened (d.0 ++ d.1) more q (subst (λ (p : Place). Leads f (tokens_before code more) p q) d.4 rest) in
    (r.0, of_types d.3 (typed-br_if (scope_in f opened) label code d.0 d.1 r.0 d.2 r.1), r.2)
reads f (br_table labels default code) opened before more q (middle, follows, rest) =
    let d = demands f (branches_by labels default) (at opened before) middle follows in
    let r = reads f code opened d.2 more q (subst (λ (p : Place). Leads f (tokens_before code more) p q) d.6 rest) in
    (r.0, of_types d.5 (typed-br_table (scope_in f opened) labels default code d.0 d.1 d.2 r.0 d.3 d.4 r.1), r.2)
reads f (return code) opened before more q (middle, follows, rest) =
    let d = demands f returns (at opened before) middle follows in
    let r = reads f code opened d.1 more q (subst (λ (p : Place). Leads f (tokens_before code more) p q) d.3 rest) in
    (r.0, of_types d.2 (typed-return (scope_in f opened) code d.0 d.1 r.0 r.1), r.2)
reads f (call index code) opened before more q (middle, follows, rest) =
    let d = demands f (calls index) (at opened before) middle follows in
    let r = reads f code opened (reverse d.0.results ++ d.1) more q (subst (λ (p : Place). Leads f (tokens_before code more) p q) d.4 rest) in
    (r.0, of_types d.3 (typed-call (scope_in f opened) index d.0 code d.1 r.0 d.2 r.1), r.2)

-- ---- whole bodies
pub typable_body : (f : Typing) (code : Code) → Typed (scope_in f (body ∷ [])) code [] f.results → IsTypable f (tokens_of code)
typable_body f code typed =
    (at [] f.results, leads f code (body ∷ []) [] f.results typed (ends ∷ []) (at [] f.results) (at [] f.results, at_end_of_body f, refl))

pub typed_body : (f : Typing) (code : Code) → IsTypable f (tokens_of code) → Typed (scope_in f (body ∷ [])) code [] f.results
typed_body f code (q, leads_there) =
    let r = reads f code (body ∷ []) [] (ends ∷ []) q leads_there in
    let e = demands f ends (at (body ∷ []) r.0) r.2.0 r.2.1 in
    subst (λ (types : List ValType). Typed (scope_in f (body ∷ [])) code [] types) e.1 r.1

-- ---- the first place refused
-- a beginning of what is typable is
shorter : (f : Typing) (tokens : List Token) (n k : ℕ) (p q : Place) → n ≤ k → Leads f (take k tokens) p q → (r : Place) × Leads f (take n tokens) p r
shorter f tokens zero k p q less leads_there = (p, refl)
shorter f [] (suc n) k p q less leads_there = (p, refl)
shorter f (token ∷ tokens) (suc n) zero p q less leads_there = absurd (omega arith)
shorter f (token ∷ tokens) (suc n) (suc k) p q less (middle, follows, rest) =
    let r = shorter f tokens n k middle q (omega arith) rest in
    (r.0, (middle, follows, r.1))

later : (f : Typing) (tokens : List Token) (n k : ℕ) → IsRefusedAt f tokens n → IsRefusedAt f tokens k → n < k → ⊥
later f tokens n k first second less =
    let there = second.before in
    first.refused (shorter f tokens (n + 1) k at_start there.0 (omega arith) there.1)

pub one_first_place : (f : Typing) (tokens : List Token) (n k : ℕ) → IsRefusedAt f tokens n → IsRefusedAt f tokens k → n ≡ k
one_first_place f tokens n k first second =
    ⊎_elim (λ same. same)
    (λ apart. ⊎_elim (λ less. absurd (later f tokens n k first second less)) (λ more. absurd (later f tokens k n second first more)) apart)
    (cases_order n k)

-- and none where all is typable
pub none_refused : (f : Typing) (tokens : List Token) (n : ℕ) → IsTypable f tokens → IsRefusedAt f tokens n → ⊥
none_refused f tokens n (q, leads_there) first =
    let within = first.there in
    first.refused (shorter f tokens (n + 1) (length tokens) at_start q (omega arith)
    (subst (λ (some : List Token). Leads f some at_start q) (sym (take-length tokens)) leads_there))
