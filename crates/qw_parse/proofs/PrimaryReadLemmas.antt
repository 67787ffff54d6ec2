-- A primary is told by which token is next: the reader that asks for one token after another, as src/read does, is the one that
-- looks at the first token.
use Rattle.std.proofs.Common.{◌≡◌, ℕ, Bool, true, false, cond, List, [], ◌∷◌, Option, Some, None, Result, Ok, Err, refl}
use Rattle.std.specs.Prelude.{codes}
use Rattle.std.specs.Option.{option_map_or}
use Rattle.qw_token.specs.Token.{Lexeme}
use Rattle.qw_scalar.specs.declared.expression.Function.{Function}
use Rattle.qw_ast.specs.declared.script.Expr.{Expr}
use Rattle.qw_ast.specs.declared.script.SetFunction.{SetFunction}
use Rattle.qw_ast.specs.ScriptGrammar.{function_of, set_function_of}
use Rattle.qw_ast.specs.Syntax.{Expression, Clause, expression, date}
use Rattle.qw_ast.specs.SyntaxTree.{expression_of}
use Rattle.qw_parse.specs.declared.read.parser.Stop.{Stop}
use Rattle.qw_parse.specs.Inner.Parser.{Reads, is_there}
use Rattle.qw_parse.specs.Inner.Readers.{◌>>=◌, one_at, token_at, word_at, octets_if, as_clause, case_at, call_at, extract_at, set_function_at, date_at, column_at, other_at, keyed_at, primary_at, primary_by}

-- ---- one token

one_or : {A : Type 0} (test : Lexeme → Bool) (f : List Lexeme → A) (t : Lexeme) (ts : List Lexeme) (d : A) → option_map_or f (one_at test (t ∷ ts)) d ≡ cond (test t) (f ts) d
unfolding one_at
one_or test f t ts d = by_test (test t) f ts d
  where
    by_test : {A : Type 0} (b : Bool) (f : List Lexeme → A) (ts : List Lexeme) (d : A) → option_map_or f (cond b (Some ts) None) d ≡ cond b (f ts) d
    by_test true f ts d = refl
    by_test false f ts d = refl

octets_or : {A : Type 0} (test : Lexeme → Bool) (f : List ℕ × List Lexeme → A) (t : Lexeme) (ts : List Lexeme) (d : A) → option_map_or f (token_at (octets_if test) (t ∷ ts)) d ≡ cond (test t) (f (t.octets, ts)) d
unfolding token_at
octets_or test f t ts d = by_test (test t) f t.octets ts d
  where
    by_test : {A : Type 0} (b : Bool) (f : List ℕ × List Lexeme → A) (octets : List ℕ) (ts : List Lexeme) (d : A) → option_map_or f (cond b (Some octets) None >>= (λ x. Some (x, ts))) d ≡ cond b (f (octets, ts)) d
    by_test true f octets ts d = refl
    by_test false f octets ts d = refl

found_or : {A B : Type 0} (find : Lexeme → Option B) (f : B × List Lexeme → A) (t : Lexeme) (ts : List Lexeme) (d : A) → option_map_or f (token_at find (t ∷ ts)) d ≡ option_map_or (λ x. f (x, ts)) (find t) d
unfolding token_at
found_or {B = B} find f t ts d = by_found (find t)
  where
    by_found : (o : Option B) → option_map_or f (o >>= (λ x. Some (x, ts))) d ≡ option_map_or (λ x. f (x, ts)) o d
    by_found None = refl
    by_found (Some x) = refl

function_or : {A : Type 0} (f : SetFunction × List Lexeme → A) (t : Lexeme) (ts : List Lexeme) (d : A) → option_map_or f (token_at set_function_of (t ∷ ts)) d ≡ option_map_or (λ x. f (x, ts)) (set_function_of t) d
function_or f t ts d = found_or set_function_of f t ts d

call_or : {A : Type 0} (f : Function × List Lexeme → A) (t : Lexeme) (ts : List Lexeme) (d : A) → option_map_or f (token_at function_of (t ∷ ts)) d ≡ option_map_or (λ x. f (x, ts)) (function_of t) d
call_or f t ts d = found_or function_of f t ts d

nothing_same : (inner : List Lexeme → Option (Clause × List Lexeme)) → primary_at inner [] ≡ primary_by inner []
unfolding primary_at primary_by keyed_at other_at token_at one_at column_at as_clause
nothing_same inner = refl

pub primary_same : (inner : List Lexeme → Option (Clause × List Lexeme)) (ts : List Lexeme) → primary_at inner ts ≡ primary_by inner ts
unfolding primary_at primary_by keyed_at other_at
primary_same inner [] = nothing_same inner
primary_same inner (t ∷ ts) = simp (octets_or, one_or, call_or, function_or)

-- ---- a primary that begins with a word

-- an expression, read as a clause
pub as_clause_reads : (o : Option (Expression × List Lexeme)) (r : Result Expr Stop) (new : List Lexeme) → Reads expression_of o r new → Reads (λ e. expression (expression_of e)) (as_clause o) r new
unfolding as_clause
as_clause_reads o (Ok e) new h = rw h refl
as_clause_reads o (Err s) new h = λ more. rw (h more) refl

pub there : {A : Type 0} (o : Option A) → true ≡ is_there o → (x : A) × (o ≡ Some x)
there None e = absurd cc
there (Some x) e = (x, refl)

pub not_there : {A : Type 0} (o : Option A) → false ≡ is_there o → o ≡ None
not_there None e = refl
not_there (Some x) e = absurd cc

-- What was asked for before, in vain: after it the tokens are the same.
pub record Past {A : Type 0} (found : Option A) (ts us : List Lexeme) : Type 0 where
  pub absent : found ≡ None
  pub kept : us ≡ ts

module _ (inner : List Lexeme → Option (Clause × List Lexeme)) (ts : List Lexeme) where
  pub keyed_case : (rest : List Lexeme) → word_at (codes "CASE") ts ≡ Some rest → keyed_at inner ts ≡ as_clause (case_at inner rest)
  unfolding keyed_at
  keyed_case rest e = rw e refl

  module _ (us : List Lexeme) (no_case : Past (word_at (codes "CASE") ts) ts us) where
    pub keyed_call : (f : Function) (rest : List Lexeme) → token_at function_of us ≡ Some (f, rest) → keyed_at inner ts ≡ as_clause (call_at inner f rest)
    unfolding keyed_at
    keyed_call f rest e = let found = rw no_case.kept at e in rw (no_case.absent, found) refl

    module _ (vs : List Lexeme) (no_call : Past (token_at function_of us) us vs) where
      pub keyed_extract : (rest : List Lexeme) → word_at (codes "EXTRACT") vs ≡ Some rest → keyed_at inner ts ≡ as_clause (extract_at inner rest)
      unfolding keyed_at
      keyed_extract rest e =
          let second = rw no_case.kept at no_call.absent in
          let found = rw (no_call.kept, no_case.kept) at e in
          rw (no_case.absent, second, found) refl

      module _ (ws : List Lexeme) (no_extract : Past (word_at (codes "EXTRACT") vs) vs ws) where
        pub keyed_other : keyed_at inner ts ≡ other_at inner ws
        unfolding keyed_at
        keyed_other =
            let second = rw no_case.kept at no_call.absent in
            let third = rw (no_call.kept, no_case.kept) at no_extract.absent in
            rw (no_case.absent, second, third, no_extract.kept, no_call.kept, no_case.kept) refl

-- ---- a set function, a date or a column reference

module _ (inner : List Lexeme → Option (Clause × List Lexeme)) (ts us : List Lexeme) where
  pub other_function : (f : SetFunction) → token_at set_function_of ts ≡ Some (f, us) → other_at inner ts ≡ as_clause (set_function_at inner f us)
  unfolding other_at
  other_function f e = rw e refl

  module _ (none : token_at set_function_of ts ≡ None) (kept : us ≡ ts) where
    pub other_date : (rest : List Lexeme) → word_at (codes "DATE") us ≡ Some rest → other_at inner ts ≡ as_clause (date_at us >>= (λ d. Some (date d.0.string d.0.intervals, d.1)))
    unfolding other_at
    other_date rest e = let found = rw kept at e in rw (none, found, kept) refl

    pub other_column : word_at (codes "DATE") us ≡ None → other_at inner ts ≡ as_clause (column_at us)
    unfolding other_at
    other_column e = let gone = rw kept at e in rw (none, gone, kept) refl
