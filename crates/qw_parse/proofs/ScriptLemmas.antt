-- A text is one script or is refused for one cause.
use Rattle.std.proofs.Common.{◌≡◌, ℕ, suc, ◌<◌, ◌≤◌, List, [], ◌∷◌, length, refl, sym, ap, subst, ◌∙◌, arith, inl, inr}
use Rattle.std.specs.Prelude.{◌⊎◌}
use Rattle.std.specs.List.{AllByRecursion}
use Rattle.std.specs.Str.{IsUtf8}
use Rattle.qw_token.specs.Token.{Lexeme, AreTokens, StopsAt}
use Rattle.qw_token.proofs.TokenRun.{AreTokens-unique, AreTokens-no_stop, StopsAt-unique}
use Rattle.qw_ast.specs.SchemaGrammar.{IsTooDeep, statements}
use Rattle.qw_ast.specs.Syntax.{Select}
use Rattle.qw_ast.specs.ScriptGrammar.{IsSelectOf}
use Rattle.qw_parse.specs.declared.fault.Count.TheVariants.{Statements}
use Rattle.qw_parse.specs.declared.fault.ParseFault.{ParseFault}
use Rattle.qw_parse.specs.declared.fault.ParseFault.TheVariants.{NotUtf8, NotToken, NotGrammar, TooDeep, TooMany}
use Rattle.qw_parse.specs.Script as script
use Rattle.qw_ast.specs.Limits.{AreTaken, IsAccepted, query_columns, query_entries, query_items, query_keys, query_nodes, query_octets}
use Rattle.qw_parse.specs.Script.{AreAccepted, HasFault, HasFirstFault, IsPassedFirst, IsScriptRefused, Limit, ReadsScript, limits}
use Rattle.qw_parse.specs.Inner.Judges.{PassesLimit, passes}
use Rattle.qw_parse.proofs.SelectLemmas.{one_select}

-- ---- one statement

passed_one : (ls : List Limit) (a b : Limit) → IsPassedFirst ls a → IsPassedFirst ls b → a ≡ b
passed_one _ _ b (script.passed limit others many) (script.passed _ _ more) = refl
passed_one _ _ b (script.passed limit others many) (script.kept _ _ _ few h) = absurd (omega (arith, many, few))
passed_one _ _ b (script.kept limit a others few h) (script.passed _ _ many) = absurd (omega (arith, many, few))
passed_one _ _ b (script.kept limit a others few h) (script.kept _ _ _ _ k) = passed_one others a b h k

-- where each limit is kept none is passed
pub none_passed : (ls : List Limit) (a : Limit) → AllByRecursion (λ (l : Limit). l.many ≤ l.most) ls → IsPassedFirst ls a → ⊥
none_passed _ _ all (script.passed limit others many) = let few = all.0 in omega (arith, few, many)
none_passed _ _ all (script.kept limit a others few h) = none_passed others a all.1 h

passes_one : (k : ℕ) (s : Select) (f g : ParseFault) → PassesLimit k s f → PassesLimit k s g → f ≡ g
passes_one k s _ _ (passes a one) (passes b two) = ap (λ (l : Limit). TooMany k l.what l.most) (passed_one (limits (query_items s) (query_entries s) (query_columns s) (query_keys s) (query_nodes s) (query_octets s)) a b one two)

-- it is nested too deeply, or is no query, or a query that passes a limit
abbrev Cause : ℕ → List Lexeme → ParseFault → Type 0
Cause k ts f = (IsTooDeep ts × (f ≡ TooDeep k)) ⊎ (((IsTooDeep ts → ⊥) × ((s : Select) → IsSelectOf ts s → ⊥) × (f ≡ NotGrammar k)) ⊎ ((IsTooDeep ts → ⊥) × ((s : Select) × IsSelectOf ts s × PassesLimit k s f)))

cause_of : (k : ℕ) (ts : List Lexeme) (f : ParseFault) → HasFault k ts f → Cause k ts f
cause_of k ts _ (script.too_deep deep) = inl (deep, refl)
cause_of k ts _ (script.not_grammar shallow none) = inr (inl (shallow, none, refl))
cause_of k ts _ (script.too_many shallow s q limit first) = inr (inr (shallow, (s, q, passes limit first)))

causes_one : (k : ℕ) (ts : List Lexeme) (f g : ParseFault) → Cause k ts f → Cause k ts g → f ≡ g
causes_one k ts f g (inl a) (inl b) = a.1 ∙ sym b.1
causes_one k ts f g (inl a) (inr (inl b)) = absurd (b.0 a.0)
causes_one k ts f g (inl a) (inr (inr b)) = absurd (b.0 a.0)
causes_one k ts f g (inr (inl a)) (inl b) = absurd (a.0 b.0)
causes_one k ts f g (inr (inl a)) (inr (inl b)) = a.2 ∙ sym b.2
causes_one k ts f g (inr (inl a)) (inr (inr b)) = absurd (a.1 b.1.0 b.1.1)
causes_one k ts f g (inr (inr a)) (inl b) = absurd (a.0 b.0)
causes_one k ts f g (inr (inr a)) (inr (inl b)) = absurd (b.1 a.1.0 a.1.1)
causes_one k ts f g (inr (inr a)) (inr (inr b)) = passes_one k b.1.0 f g (subst (λ s. PassesLimit k s f) (one_select ts a.1.0 b.1.0 a.1.1 b.1.1) a.1.2) b.1.2

fault_one : (k : ℕ) (ts : List Lexeme) (f g : ParseFault) → HasFault k ts f → HasFault k ts g → f ≡ g
fault_one k ts f g a b = causes_one k ts f g (cause_of k ts f a) (cause_of k ts g b)

accepted_one : (ts : List Lexeme) (s t : Select) → IsAccepted ts s → IsAccepted ts t → s ≡ t
accepted_one ts s t a b = one_select ts s t a.query b.query

passes_none : (k : ℕ) (s : Select) (f : ParseFault) → AreTaken (query_items s) (query_entries s) (query_columns s) (query_keys s) (query_nodes s) (query_octets s) → PassesLimit k s f → ⊥
passes_none k s _ sizes (passes limit first) = none_passed (limits (query_items s) (query_entries s) (query_columns s) (query_keys s) (query_nodes s) (query_octets s)) limit (sizes.few_items, (sizes.few_entries, (sizes.few_columns, (sizes.few_keys, (sizes.few_nodes, (sizes.few_octets, tt)))))) first

cause_none : (k : ℕ) (ts : List Lexeme) (s : Select) (f : ParseFault) → IsAccepted ts s → Cause k ts f → ⊥
cause_none k ts s f a (inl b) = a.shallow b.0
cause_none k ts s f a (inr (inl b)) = b.1 s a.query
cause_none k ts s f a (inr (inr b)) = passes_none k s f a.sizes (subst (λ x. PassesLimit k x f) (one_select ts b.1.0 s b.1.1 a.query) b.1.2)

accepted_no_fault : (k : ℕ) (ts : List Lexeme) (s : Select) (f : ParseFault) → IsAccepted ts s → HasFault k ts f → ⊥
accepted_no_fault k ts s f a h = cause_none k ts s f a (cause_of k ts f h)

-- ---- all statements

all_one : (ts : List (List Lexeme)) (qs rs : List Select) → AreAccepted ts qs → AreAccepted ts rs → qs ≡ rs
all_one [] [] [] a b = refl
all_one [] [] (r ∷ rs) a b = absurd b
all_one [] (q ∷ qs) rs a b = absurd a
all_one (t ∷ ts) [] rs a b = absurd a
all_one (t ∷ ts) (q ∷ qs) [] a b = absurd b
all_one (t ∷ ts) (q ∷ qs) (r ∷ rs) a b = ap (λ x. x ∷ qs) (accepted_one t q r a.0 b.0) ∙ ap (λ xs. r ∷ xs) (all_one ts qs rs a.1 b.1)

first_one : (k : ℕ) (ts : List (List Lexeme)) (f g : ParseFault) → HasFirstFault k ts f → HasFirstFault k ts g → f ≡ g
first_one _ _ _ g (script.here k t ts f a) (script.here _ _ _ _ b) = fault_one k t f g a b
first_one _ _ _ g (script.here k t ts f a) (script.later _ _ _ s _ b c) = absurd (accepted_no_fault k t s f b a)
first_one _ _ _ g (script.later k t ts s f a b) (script.here _ _ _ _ c) = absurd (accepted_no_fault k t s g a c)
first_one _ _ _ g (script.later k t ts s f a b) (script.later _ _ _ s' _ c d) = first_one (suc k) ts f g b d

all_no_fault : (k : ℕ) (ts : List (List Lexeme)) (qs : List Select) (f : ParseFault) → AreAccepted ts qs → HasFirstFault k ts f → ⊥
all_no_fault _ _ [] _ a (script.here k t ts f b) = a
all_no_fault _ _ (q ∷ qs) _ a (script.here k t ts f b) = accepted_no_fault k t q f a.0 b
all_no_fault _ _ [] _ a (script.later k t ts s f b c) = a
all_no_fault _ _ (q ∷ qs) _ a (script.later k t ts s f b c) = all_no_fault (suc k) ts qs f a.1 c

-- ---- a text

-- what the statements of a text decide
data Decides (ss : List (List Lexeme)) : ParseFault → Type 0 where
  many : 64 < length ss → Decides ss (TooMany 1 Statements 64)
  none : ss ≡ [] → Decides ss (NotGrammar 1)
  first_fault : (f : ParseFault) → length ss ≤ 64 → HasFirstFault 1 ss f → Decides ss f

no_first : (k : ℕ) (ss : List (List Lexeme)) (f : ParseFault) → ss ≡ [] → HasFirstFault k ss f → ⊥
no_first _ _ _ e (script.here k t ts f a) = let no : t ∷ ts ≡ [] = e in absurd cc
no_first _ _ _ e (script.later k t ts s f a b) = let no : t ∷ ts ≡ [] = e in absurd cc

none_few : (ss : List (List Lexeme)) → ss ≡ [] → length ss ≡ 0
none_few ss e = ap length e

decides_one : (ss : List (List Lexeme)) (f g : ParseFault) → Decides ss f → Decides ss g → f ≡ g
decides_one ss _ _ (many a) (many b) = refl
decides_one ss _ _ (many a) (none b) = absurd (let e = none_few ss b in omega (arith, a, e))
decides_one ss _ _ (many a) (first_fault g b c) = absurd (omega (arith, a, b))
decides_one ss _ _ (none a) (many b) = absurd (let e = none_few ss a in omega (arith, b, e))
decides_one ss _ _ (none a) (none b) = refl
decides_one ss _ _ (none a) (first_fault g b c) = absurd (no_first 1 ss g a c)
decides_one ss _ _ (first_fault f a b) (many c) = absurd (omega (arith, a, c))
decides_one ss _ _ (first_fault f a b) (none c) = absurd (no_first 1 ss f c b)
decides_one ss _ _ (first_fault f a b) (first_fault g c d) = first_one 1 ss f g b d

abbrev Why : List ℕ → ParseFault → Type 0
Why text f = ((IsUtf8 text → ⊥) × (f ≡ NotUtf8)) ⊎ (((at : ℕ) × StopsAt text at × (f ≡ NotToken at)) ⊎ ((ts : List Lexeme) × AreTokens text ts × Decides (statements ts) f))

why : (text : List ℕ) (f : ParseFault) → IsScriptRefused text f → Why text f
why text _ (script.not_utf8 wrong) = inl (wrong, refl)
why text _ (script.not_token at stops) = inr (inl (at, stops, refl))
why text _ (script.too_many ts a more) = inr (inr (ts, a, many more))
why text _ (script.no_statement ts a empty) = inr (inr (ts, a, none empty))
why text _ (script.statement ts f a few wrong) = inr (inr (ts, a, first_fault f few wrong))

why_one : (text : List ℕ) (f g : ParseFault) → Why text f → Why text g → f ≡ g
why_one text f g (inl a) (inl b) = a.1 ∙ sym b.1
why_one text f g (inl a) (inr (inl b)) = absurd (a.0 b.1.utf8)
why_one text f g (inl a) (inr (inr b)) = absurd (a.0 b.1.utf8)
why_one text f g (inr (inl a)) (inl b) = absurd (b.0 a.1.utf8)
why_one text f g (inr (inl a)) (inr (inl b)) = a.2 ∙ ap NotToken (StopsAt-unique text a.0 b.0 a.1 b.1) ∙ sym b.2
why_one text f g (inr (inl a)) (inr (inr b)) = absurd (AreTokens-no_stop text b.0 a.0 b.1 a.1)
why_one text f g (inr (inr a)) (inl b) = absurd (b.0 a.1.utf8)
why_one text f g (inr (inr a)) (inr (inl b)) = absurd (AreTokens-no_stop text a.0 b.0 a.1 b.1)
why_one text f g (inr (inr a)) (inr (inr b)) = decides_one (statements b.0) f g (subst (λ ts. Decides (statements ts) f) (AreTokens-unique text a.0 b.0 a.1 b.1) a.2) b.2

pub script_one : (text : List ℕ) (qs rs : List Select) → ReadsScript text qs → ReadsScript text rs → qs ≡ rs
script_one text qs rs a b = all_one (statements b.tokens) qs rs (subst (λ ts. AreAccepted (statements ts) qs) (AreTokens-unique text a.tokens b.tokens a.are_tokens b.are_tokens) a.accepted) b.accepted

pub refused_one : (text : List ℕ) (f g : ParseFault) → IsScriptRefused text f → IsScriptRefused text g → f ≡ g
refused_one text f g a b = why_one text f g (why text f a) (why text g b)

decides_none : (ss : List (List Lexeme)) (qs : List Select) (f : ParseFault) → 1 ≤ length ss → length ss ≤ 64 → AreAccepted ss qs → Decides ss f → ⊥
decides_none ss qs _ some few a (many b) = omega (arith, few, b)
decides_none ss qs _ some few a (none b) = let e = none_few ss b in omega (arith, some, e)
decides_none ss qs _ some few a (first_fault f b c) = all_no_fault 1 ss qs f a c

why_not : (text : List ℕ) (qs : List Select) (f : ParseFault) → ReadsScript text qs → Why text f → ⊥
why_not text qs f a (inl b) = b.0 a.are_tokens.utf8
why_not text qs f a (inr (inl b)) = AreTokens-no_stop text a.tokens b.0 a.are_tokens b.1
why_not text qs f a (inr (inr b)) =
    decides_none (statements a.tokens) qs f a.some a.few a.accepted (subst (λ ts. Decides (statements ts) f) (AreTokens-unique text b.0 a.tokens b.1 a.are_tokens) b.2)

pub script_or_refused : (text : List ℕ) (qs : List Select) (f : ParseFault) → ReadsScript text qs → IsScriptRefused text f → ⊥
script_or_refused text qs f a b = why_not text qs f a (why text f b)
