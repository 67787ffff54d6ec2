-- The statements of a schema declare their tables, or one has the first fault; a text has one answer.
use Rattle.std.proofs.Common.{◌≡◌, ◌≢◌, ℕ, zero, suc, false, ◌<◌, ◌≤◌, List, [], ◌∷◌, ◌++◌, length, map, Ok, Err, refl, sym, ap, subst, ◌∙◌, arith, inl, inr, append_assoc}
use Rattle.std.specs.Prelude.{◌⊎◌, Contains, IsErrOf, eqb}
use Rattle.std.specs.Borrow.{Bor}
use Rattle.std.specs.List.{AllByRecursion}
use Rattle.std.proofs.lemmas.Bool.{false≢true}
use Rattle.std.proofs.lemmas.List.{append-nil, length-map, map_push}
use Rattle.std.specs.Str.{IsUtf8}
use Rattle.qw_types.specs.declared.schema.Table.{Table}
use Rattle.qw_token.specs.declared.token.Token.{Token}
use Rattle.qw_token.specs.declared.token.TokenFault.{TokenFault}
use Rattle.qw_token.specs.declared.token.TokenFault.TheVariants as token_faults
use Rattle.qw_schema.specs.Inner.Faults.{schema_fault_of}
use Rattle.qw_types.specs.Schema.{AreTables, AreDistinct}
use Rattle.qw_token.specs.Token.{Lexeme, lexemes, AreTokens, StopsAt}
use Rattle.qw_token.proofs.TokenRun.{AreTokens-unique, AreTokens-no_stop, StopsAt-unique}
use Rattle.qw_ast.specs.SchemaGrammar.{statements}
use Rattle.qw_ast.proofs.StatementLemmas.{is_no_list, lexed}
use Rattle.qw_schema.specs.declared.parse.SchemaFault.{SchemaFault}
use Rattle.qw_schema.specs.declared.parse.SchemaFault.TheVariants.{NotToken, NotGrammar, TooMany, NoMemory}
use Rattle.qw_schema.specs.declared.parse.Count.TheVariants.{Tables}
use Rattle.qw_schema.specs.Parse as parse
use Rattle.qw_schema.specs.Parse.{Declare, HasFirstFault, ReadsSchema, IsRefused}
use Rattle.qw_schema.specs.Inner.Judges.{judged_from}
use Rattle.qw_schema.proofs.JudgeLemmas.{declared_judged, fault_judged, statement_case, ok_same, err_same, ok_not_err}

-- ---- all statements

pub declare_judged : (before : List Table) (k : ℕ) (ss : List (List Lexeme)) (ts : List Table) → Declare before ss ts → judged_from before k ss ≡ Ok (before ++ ts)
declare_judged before k [] [] h = ap Ok (sym (append-nil before))
declare_judged before k [] (t ∷ ts) h = absurd h
declare_judged before k (s ∷ ss) [] h = absurd h
declare_judged before k (s ∷ ss) (t ∷ ts) h =
    rw (declared_judged before k s t h.0) (declare_judged (before ++ t ∷ []) (suc k) ss ts h.1 ∙ ap Ok (append_assoc before (t ∷ []) ts))

pub first_fault_judged : (before : List Table) (k : ℕ) (ss : List (List Lexeme)) (f : SchemaFault) → HasFirstFault before k ss f → judged_from before k ss ≡ Err f
first_fault_judged before k all f (parse.HasFirstFault.here b n s ss fault h) = rw (fault_judged b n s fault h) refl
first_fault_judged before k all f (parse.HasFirstFault.later b n s ss t fault is more) = rw (declared_judged b n s t is) (first_fault_judged (b ++ t ∷ []) (suc n) ss fault more)

-- each declares a table, or one has the first fault
abbrev StatementsCase : List Table → ℕ → List (List Lexeme) → Type 0
StatementsCase before k ss = ((ts : List Table) × Declare before ss ts) ⊎ ((f : SchemaFault) × HasFirstFault before k ss f)

statements_case : (before : List Table) (k : ℕ) (ss : List (List Lexeme)) → StatementsCase before k ss
statements_case before k [] = inl ([], tt)
statements_case before k (s ∷ ss) =
    elim (statement_case before k s) [
      | inr fault ↦ inr (fault.0, parse.HasFirstFault.here before k s ss fault.0 fault.1)
      | inl t ↦ elim (statements_case (before ++ t.0 ∷ []) (suc k) ss) [
        | inl ts ↦ inl (t.0 ∷ ts.0, (t.1, ts.1))
        | inr fault ↦ inr (fault.0, parse.HasFirstFault.later before k s ss t.0 fault.0 t.1 fault.1)
      ]
    ]

pub judged_tables : (k : ℕ) (ss : List (List Lexeme)) (tables : List Table) → judged_from [] k ss ≡ Ok tables → Declare [] ss tables
judged_tables k ss tables e =
    elim (statements_case [] k ss) [
      | inl ts ↦ subst (Declare [] ss) (ok_same (judged_from [] k ss) ts.0 tables (declare_judged [] k ss ts.0 ts.1) e) ts.1
      | inr fault ↦ absurd (ok_not_err (judged_from [] k ss) tables fault.0 e (first_fault_judged [] k ss fault.0 fault.1))
    ]

pub judged_first_fault : (k : ℕ) (ss : List (List Lexeme)) (f : SchemaFault) → judged_from [] k ss ≡ Err f → HasFirstFault [] k ss f
judged_first_fault k ss f e =
    elim (statements_case [] k ss) [
      | inl ts ↦ absurd (ok_not_err (judged_from [] k ss) ts.0 f (declare_judged [] k ss ts.0 ts.1) e)
      | inr fault ↦ subst (HasFirstFault [] k ss) (err_same (judged_from [] k ss) fault.0 f (first_fault_judged [] k ss fault.0 fault.1) e) fault.1
    ]

-- ---- the tables are those of a schema

abbrev names_in : List Table → List (List ℕ)
names_in ts = map (λ (t : Table). t.name) ts

contains_more : (x name : List ℕ) (names : List (List ℕ)) → Contains names x → Contains (name ∷ names) x
contains_more x name names h = (suc h.0, omega (arith, h.1), h.2)

all_push : (x name : List ℕ) (names : List (List ℕ)) → AllByRecursion (λ other. name ≢ other) names → name ≢ x → AllByRecursion (λ other. name ≢ other) (names ++ x ∷ [])
all_push x name [] all differ = (differ, tt)
all_push x name (n ∷ names) all differ = (all.0, all_push x name names all.1 differ)

distinct_push : (x : List ℕ) (names : List (List ℕ)) → AreDistinct names → (Contains names x → ⊥) → AreDistinct (names ++ x ∷ [])
distinct_push x [] h new = (tt, tt)
distinct_push x (name ∷ names) h new =
    (all_push x name names h.0 (λ e. new (0, omega arith, e)), distinct_push x names h.1 (λ c. new (contains_more x name names c)))

declare_distinct : (before : List Table) (ss : List (List Lexeme)) (ts : List Table) → Declare before ss ts → AreDistinct (names_in before) → AreDistinct (names_in (before ++ ts))
declare_distinct before [] [] h distinct = subst (λ x. AreDistinct (names_in x)) (sym (append-nil before)) distinct
declare_distinct before [] (t ∷ ts) h distinct = absurd h
declare_distinct before (s ∷ ss) [] h distinct = absurd h
declare_distinct before (s ∷ ss) (t ∷ ts) h distinct =
    let pushed : AreDistinct (names_in (before ++ t ∷ [])) =
    subst AreDistinct (sym (map_push (λ (t : Table). t.name) before t)) (distinct_push t.name (names_in before) distinct (λ c. h.0.single (inl c))) in
    subst (λ x. AreDistinct (names_in x)) (append_assoc before (t ∷ []) ts) (declare_distinct (before ++ t ∷ []) ss ts h.1 pushed)

pub declare_length : (before : List Table) (ss : List (List Lexeme)) (ts : List Table) → Declare before ss ts → length ts ≡ length ss
declare_length before [] [] h = refl
declare_length before [] (t ∷ ts) h = absurd h
declare_length before (s ∷ ss) [] h = absurd h
declare_length before (s ∷ ss) (t ∷ ts) h = ap suc (declare_length (before ++ t ∷ []) ss ts h.1)

pub are_tables : (ss : List (List Lexeme)) (ts : List Table) → Declare [] ss ts → 1 ≤ length ss → length ss ≤ 32 → AreTables ts
are_tables ss ts h some few =
    let count = declare_length [] ss ts h in
    record {
      some = omega (arith, count, some);
      few = omega (arith, count, few);
      distinct = declare_distinct [] ss ts h tt;
    }

-- ---- one answer

reads_judged : (text : List ℕ) (ts : List Lexeme) (tables : List Table) → AreTokens text ts → (r : ReadsSchema text tables) → judged_from [] 1 (statements ts) ≡ Ok tables
reads_judged text ts tables a r =
    ap (λ x. judged_from [] 1 (statements x)) (AreTokens-unique text ts r.tokens a r.are_tokens) ∙ declare_judged [] 1 (statements r.tokens) tables r.declare

pub ReadsSchema-unique : (text : List ℕ) (tables others : List Table) → ReadsSchema text tables → ReadsSchema text others → tables ≡ others
ReadsSchema-unique text tables others r q =
    ok_same (judged_from [] 1 (statements r.tokens)) tables others (reads_judged text r.tokens tables r.are_tokens r) (reads_judged text r.tokens others r.are_tokens q)

-- what a text is refused for where it has these tokens
abbrev ForTokens : List Lexeme → SchemaFault → Type 0
ForTokens ts f =
    ((32 < length (statements ts)) × (f ≡ TooMany 1 Tables 32))
    ⊎ (((statements ts ≡ []) × (f ≡ NotGrammar 1)) ⊎ ((length (statements ts) ≤ 32) × (judged_from [] 1 (statements ts) ≡ Err f)))

same_tokens : (text : List ℕ) (ts us : List Lexeme) (P : List Lexeme → Type 0) → AreTokens text ts → AreTokens text us → P us → P ts
same_tokens text ts us P a b h = subst P (AreTokens-unique text us ts b a) h

for_tokens : (text : List ℕ) (ts : List Lexeme) (f : SchemaFault) → AreTokens text ts → IsRefused text f → ForTokens ts f
for_tokens text ts f a (parse.not_utf8 wrong) = absurd (wrong a.utf8)
for_tokens text ts f a (parse.not_token at stops) = absurd (AreTokens-no_stop text ts at a stops)
for_tokens text ts f a (parse.too_many us b many) = inl (same_tokens text ts us (λ x. 32 < length (statements x)) a b many, refl)
for_tokens text ts f a (parse.no_statement us b none) = inr (inl (same_tokens text ts us (λ x. statements x ≡ []) a b none, refl))
for_tokens text ts f a (parse.statement us fault b few first) =
    inr (inr (
      same_tokens text ts us (λ x. length (statements x) ≤ 32) a b few,
      same_tokens text ts us (λ x. judged_from [] 1 (statements x) ≡ Err f) a b (first_fault_judged [] 1 (statements us) f first),
    ))

none_long : (ss : List (List Lexeme)) → ss ≡ [] → length ss ≡ 0
none_long ss e = ap (λ (x : List (List Lexeme)). length x) e

ok_for_none : (ss : List (List Lexeme)) → ss ≡ [] → judged_from [] 1 ss ≡ Ok []
ok_for_none ss e = ap (judged_from [] 1) e

for_tokens_unique : (ts : List Lexeme) (f g : SchemaFault) → ForTokens ts f → ForTokens ts g → f ≡ g
for_tokens_unique ts f g (inl many) (inl many') = many.1 ∙ sym many'.1
for_tokens_unique ts f g (inl many) (inr (inl none)) = absurd (omega (arith, many.0, none_long (statements ts) none.0))
for_tokens_unique ts f g (inl many) (inr (inr few)) = absurd (omega (arith, many.0, few.0))
for_tokens_unique ts f g (inr (inl none)) (inl many) = absurd (omega (arith, many.0, none_long (statements ts) none.0))
for_tokens_unique ts f g (inr (inl none)) (inr (inl none')) = none.1 ∙ sym none'.1
for_tokens_unique ts f g (inr (inl none)) (inr (inr few)) = absurd (ok_not_err (judged_from [] 1 (statements ts)) [] g (ok_for_none (statements ts) none.0) few.1)
for_tokens_unique ts f g (inr (inr few)) (inl many) = absurd (omega (arith, many.0, few.0))
for_tokens_unique ts f g (inr (inr few)) (inr (inl none)) = absurd (ok_not_err (judged_from [] 1 (statements ts)) [] f (ok_for_none (statements ts) none.0) few.1)
for_tokens_unique ts f g (inr (inr few)) (inr (inr few')) = err_same (judged_from [] 1 (statements ts)) f g few.1 few'.1

pub IsRefused-unique : (text : List ℕ) (f g : SchemaFault) → IsRefused text f → IsRefused text g → f ≡ g
IsRefused-unique text f g (parse.not_utf8 wrong) (parse.not_utf8 wrong') = refl
IsRefused-unique text f g (parse.not_utf8 wrong) (parse.not_token at stops) = absurd (wrong stops.utf8)
IsRefused-unique text f g (parse.not_utf8 wrong) (parse.too_many us b many) = absurd (wrong b.utf8)
IsRefused-unique text f g (parse.not_utf8 wrong) (parse.no_statement us b none) = absurd (wrong b.utf8)
IsRefused-unique text f g (parse.not_utf8 wrong) (parse.statement us fault b few first) = absurd (wrong b.utf8)
IsRefused-unique text f g (parse.not_token at stops) (parse.not_utf8 wrong) = absurd (wrong stops.utf8)
IsRefused-unique text f g (parse.not_token at stops) (parse.not_token at' stops') = ap NotToken (StopsAt-unique text at at' stops stops')
IsRefused-unique text f g (parse.not_token at stops) (parse.too_many us b many) = absurd (AreTokens-no_stop text us at b stops)
IsRefused-unique text f g (parse.not_token at stops) (parse.no_statement us b none) = absurd (AreTokens-no_stop text us at b stops)
IsRefused-unique text f g (parse.not_token at stops) (parse.statement us fault b few first) = absurd (AreTokens-no_stop text us at b stops)
IsRefused-unique text f g (parse.too_many us b many) other = for_tokens_unique us f g (for_tokens text us f b (parse.too_many us b many)) (for_tokens text us g b other)
IsRefused-unique text f g (parse.no_statement us b none) other = for_tokens_unique us f g (for_tokens text us f b (parse.no_statement us b none)) (for_tokens text us g b other)
IsRefused-unique text f g (parse.statement us fault b few first) other =
    for_tokens_unique us f g (for_tokens text us f b (parse.statement us fault b few first)) (for_tokens text us g b other)

pub reads_or_refused : (text : List ℕ) (tables : List Table) (f : SchemaFault) → ReadsSchema text tables → IsRefused text f → ⊥
reads_or_refused text tables f r refused =
    elim (for_tokens text r.tokens f r.are_tokens refused) [
      | inl many ↦ omega (arith, many.0, r.few)
      | inr more ↦ elim more [
        | inl none ↦ omega (arith, none_long (statements r.tokens) none.0, r.some)
        | inr few ↦ ok_not_err (judged_from [] 1 (statements r.tokens)) tables f (reads_judged text r.tokens tables r.are_tokens r) few.1
      ]
    ]

-- ---- what schema_of answers

-- a fault in the tokens refuses the text
pub tokens_refused : {T : Type 0} (text : List ℕ) (fault : TokenFault) → (IsErrOf {T = T} (Err fault) token_faults.NotUtf8 → IsUtf8 text → ⊥) → ((n : ℕ) → IsErrOf {T = T} (Err fault) (token_faults.NotToken n) → StopsAt text n) → (schema_fault_of fault ≡ NoMemory) ⊎ IsRefused text (schema_fault_of fault)
tokens_refused text token_faults.NotUtf8 u s = inr (parse.not_utf8 (u refl))
tokens_refused text (token_faults.NotToken n) u s = inr (parse.not_token n (s n refl))
tokens_refused text token_faults.NoMemory u s = inl refl

-- as many as in the text
as_many : (ss : List (Bor (List Token))) (ts : List Lexeme) → lexed ss ≡ statements ts → length (statements ts) ≡ length ss
as_many ss ts split = ap (λ (x : List (List Lexeme)). length x) (sym split) ∙ length-map ss (λ s. lexemes s.now)

pub many_refused : (text : List ℕ) (ts : List Lexeme) (ss : List (Bor (List Token))) → AreTokens text ts → lexed ss ≡ statements ts → 32 < length ss → IsRefused text (TooMany 1 Tables 32)
many_refused text ts ss a split many = parse.too_many ts a (omega (arith, as_many ss ts split, many))

pub none_refused : (text : List ℕ) (ts : List Lexeme) (ss : List (Bor (List Token))) → AreTokens text ts → lexed ss ≡ statements ts → length ss ≤ 0 → IsRefused text (NotGrammar 1)
none_refused text ts ss a split none = parse.no_statement ts a (sym split ∙ ap lexed (is_no_list ss none))

pub fault_refused : (text : List ℕ) (ts : List Lexeme) (ss : List (Bor (List Token))) (fault : SchemaFault) → AreTokens text ts → lexed ss ≡ statements ts → length ss ≤ 32
    → (fault ≡ NoMemory) ⊎ (judged_from [] 1 (lexed ss) ≡ Err fault) → (fault ≡ NoMemory) ⊎ IsRefused text fault
fault_refused text ts ss fault a split few (inl memory) = inl memory
fault_refused text ts ss fault a split few (inr e) =
    inr (parse.statement ts fault a (omega (arith, as_many ss ts split, few)) (judged_first_fault 1 (statements ts) fault (ap (judged_from [] 1) (sym split) ∙ e)))

pub tables_declared : (text : List ℕ) (ts : List Lexeme) (ss : List (Bor (List Token))) (tables : List Table) → AreTokens text ts → lexed ss ≡ statements ts → length ss ≤ 32 → 0 < length ss
    → judged_from [] 1 (lexed ss) ≡ Ok tables → ReadsSchema text tables
tables_declared text ts ss tables a split few some e = record {
  tokens = ts;
  are_tokens = a;
  some = omega (arith, as_many ss ts split, some);
  few = omega (arith, as_many ss ts split, few);
  declare = judged_tables 1 (statements ts) tables (ap (judged_from [] 1) (sym split) ∙ e);
}

pub ReadsSchema-tables : (text : List ℕ) (tables : List Table) → ReadsSchema text tables → AreTables tables
ReadsSchema-tables text tables r = are_tables (statements r.tokens) tables r.declare r.some r.few

pub some_left : (n : ℕ) → false ≡ eqb n 0 → 0 < n
some_left zero e = absurd (false≢true e)
some_left (suc n) e = omega arith
