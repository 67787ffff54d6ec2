-- The loops of src/read: what was read so far, and then what is read from here, is what the reader reads from the start. One lemma
-- a way out of a loop and one for each further turn, over any series; and what makes each of the series end.
use Rattle.std.proofs.Common.{◌≡◌, ℕ, zero, suc, ◌-◌, ◌<◌, Bool, true, false, List, [], ◌∷◌, ◌++◌, map, length, Option, Some, None, refl, sym, ap, ◌∙◌, arith, inl, inr}
use Rattle.std.specs.Prelude.{codes, if◌then◌else◌}
use Rattle.std.proofs.lemmas.Bool.{cases_Bool}
use Rattle.std.proofs.lemmas.List.{map_push}
use Rattle.qw_token.specs.Token.{Lexeme}
use Rattle.qw_ast.specs.Syntax.{Clause, Expression, Expressions, Joined, last, further, Branching, otherwise, when}
use Rattle.qw_ast.specs.ScriptGrammar.{Branch, Dated, branching, arguments, is_comma, is_string, is_when, IsNested}
use Rattle.qw_ast.specs.SyntaxTree.{clause_of, condition_of, days_of, entry_of, expression_of, joined_of}
use Rattle.qw_ast.specs.declared.script.Expr.{Expr}
use Rattle.qw_ast.specs.declared.script.Interval.{Interval}
use Rattle.qw_ast.specs.declared.script.Joined as coded_join
use Rattle.qw_ast.specs.declared.script.Phrase.{Phrase}
use Rattle.qw_parse.specs.declared.read.case.Branch.{Branch as Tried}
use Rattle.qw_parse.specs.Inner.Parser.{branch_of, first_of, behind}
use Rattle.qw_parse.specs.Inner.Readers.{one_at, token_at, word_at, octets_if, given, append, further_at, join_at, joined_at, join_on, joins_at, source_at, branches_at, date_at, date_string_at, days_at, interval_sign_at, move, series_at, series_from, factor_at, term_at, expression_at, branch_at, boolean_factor_at, boolean_term_at, clause_at, item_at, nested_at, reference_at, sort_at}
use Rattle.qw_parse.proofs.LoopLemmas.{Shortens, loop_end, loop_stop, loop_clash, loop_more}
use Rattle.qw_parse.proofs.ExactLemmas.{days_shortens, exact_shortens, sign_shortens}
use Rattle.qw_parse.proofs.PrimaryLemmas.{expression_exact, branch_exact}
use Rattle.qw_parse.proofs.SumLemmas as sums
use Rattle.qw_parse.proofs.ConditionLemmas as conditions
use Rattle.qw_parse.proofs.ConditionLemmas.{nested_exact}
use Rattle.qw_parse.proofs.GroupLemmas.{reference_exact}
use Rattle.qw_parse.proofs.NameLemmas.{join_shortens}
use Rattle.qw_parse.proofs.OrderLemmas.{sort_exact}
use Rattle.qw_parse.proofs.SelectLemmas as queries
use Rattle.qw_parse.proofs.SelectLemmas.{item_exact, source_exact}

-- ---- operands take a token at least

pub factor_shortens : (n : ℕ) → Shortens (factor_at (nested_at n))
factor_shortens n = exact_shortens (sums.factor_exact (IsNested n) (nested_at n) (nested_exact n))

pub term_shortens : (n : ℕ) → Shortens (term_at (nested_at n))
term_shortens n = exact_shortens (sums.term_exact (IsNested n) (nested_at n) (nested_exact n))

pub boolean_factor_shortens : (n : ℕ) → Shortens (boolean_factor_at (nested_at n))
boolean_factor_shortens n = exact_shortens (conditions.factor_exact (IsNested n) (nested_at n) (nested_exact n))

pub boolean_term_shortens : (n : ℕ) → Shortens (boolean_term_at (nested_at n))
boolean_term_shortens n = exact_shortens (conditions.boolean_term_exact (IsNested n) (nested_at n) (nested_exact n))

pub expression_shortens : (n : ℕ) → Shortens (expression_at (nested_at n))
expression_shortens n = exact_shortens (expression_exact (IsNested n) (nested_at n) (nested_exact n))

pub branch_shortens : (n : ℕ) (searched : Bool) → Shortens (branch_at (nested_at n) searched)
branch_shortens n searched = exact_shortens (branch_exact (IsNested n) (nested_at n) (nested_exact n) searched)

pub item_shortens : (n : ℕ) → Shortens (item_at (nested_at n))
item_shortens n = exact_shortens (item_exact (IsNested n) (nested_at n) (nested_exact n))

pub joined_shortens : (n : ℕ) → Shortens (joined_at (nested_at n))
joined_shortens n = queries.joined_shortens (IsNested n) (nested_at n) (nested_exact n)

pub source_shortens : (n : ℕ) → Shortens (source_at (nested_at n))
source_shortens n = exact_shortens (source_exact (IsNested n) (nested_at n) (nested_exact n))

pub reference_shortens : Shortens reference_at
reference_shortens = exact_shortens reference_exact

pub sort_shortens : Shortens sort_at
sort_shortens = exact_shortens sort_exact

-- ---- levels

pub nested_none : (n : ℕ) (ts : List Lexeme) → n ≡ 0 → nested_at n ts ≡ None
unfolding nested_at
nested_none zero ts e = refl
nested_none (suc n) ts e = absurd (omega arith)

pub nested_more : (n : ℕ) (ts : List Lexeme) → (n ≡ 0 → ⊥) → nested_at n ts ≡ clause_at (nested_at (n - 1)) ts
unfolding nested_at
nested_more zero ts some = absurd (some refl)
nested_more (suc n) ts some = let e : suc n - 1 ≡ n = omega arith in rw e refl

-- ---- a word or a symbol as an operator that tells nothing

abbrev there_if : (Lexeme → Bool) → Lexeme → Option (Unit {0})
there_if test t = if test t then Some tt else None

module _ (test : Lexeme → Bool) where
  pub sign_there : (ts rest : List Lexeme) → one_at test ts ≡ Some rest → token_at (there_if test) ts ≡ Some (tt, rest)
  unfolding one_at token_at
  sign_there [] rest e = absurd cc
  sign_there (t ∷ ts) rest e =
      elim (cases_Bool (test t)) [
        | inl h ↦ (let same : Some ts ≡ Some rest = rw h at e in rw h (let s : ts ≡ rest = cc in rw s refl))
        | inr h ↦ absurd (let none : None ≡ Some rest = rw h at e in cc)
      ]

  pub sign_gone : (ts : List Lexeme) → one_at test ts ≡ None → token_at (there_if test) ts ≡ None
  unfolding one_at token_at
  sign_gone [] e = refl
  sign_gone (t ∷ ts) e =
      elim (cases_Bool (test t)) [
        | inl h ↦ absurd (let none : Some ts ≡ None = rw h at e in cc)
        | inr h ↦ rw h refl
      ]

-- ---- a first token that is known

module _ (test : Lexeme → Bool) where
  pub octets_there : (ts : List Lexeme) (t : Lexeme) → Some t ≡ first_of ts → test t ≡ true → token_at (octets_if test) ts ≡ Some (t.octets, behind ts)
  unfolding token_at
  octets_there [] t e h = absurd cc
  octets_there (u ∷ us) t e h = let same : u ≡ t = cc in rw (same, h) refl

  pub octets_gone : (ts : List Lexeme) (t : Lexeme) → Some t ≡ first_of ts → test t ≡ false → token_at (octets_if test) ts ≡ None
  unfolding token_at
  octets_gone [] t e h = absurd cc
  octets_gone (u ∷ us) t e h = let same : u ≡ t = cc in rw (same, h) refl

-- ---- lists and branches that are put together from their ends

-- the expressions, and behind them those that are listed
abbrev pub before : List Expression → Expressions → Expressions
before [] list = list
before (e ∷ es) list = further e (before es list)

pub listed_start : (e l : Expression) (es : List Expression) → arguments e (es ++ l ∷ []) ≡ further e (before es (last l))
listed_start e l [] = refl
listed_start e l (f ∷ es) = ap (further e) (listed_start f l es)

pub listed_more : (es : List Expression) (e : Expression) (list : Expressions) → before (es ++ e ∷ []) list ≡ before es (further e list)
listed_more [] e list = refl
listed_more (f ∷ es) e list = ap (further f) (listed_more es e list)

-- the branches, and behind them those that are chained
abbrev pub chain_before : List Branch → Branching → Branching
chain_before [] chain = chain
chain_before (b ∷ bs) chain = when b.test b.result (chain_before bs chain)

pub chain_start : (bs : List Branch) (e : Expression) → chain_before bs (otherwise e) ≡ branching bs e
chain_start [] e = refl
chain_start (b ∷ bs) e = ap (when b.test b.result) (chain_start bs e)

pub chain_more : (bs : List Branch) (b : Branch) (chain : Branching) → chain_before (bs ++ b ∷ []) chain ≡ chain_before bs (when b.test b.result chain)
chain_more [] b chain = refl
chain_more (c ∷ bs) b chain = ap (when c.test c.result) (chain_more bs b chain)

-- a list that has lost its last, seen in some way
popped : {X Y : Type 0} (f : X → Y) (old new : List X) (x : X) → old ≡ new ++ x ∷ [] → map f old ≡ map f new ++ f x ∷ []
popped f old new x e = ap (map f) e ∙ map_push f new x

-- the last is listed alone
pub listing_start : (first : Expression) (old new : List Expr) (e a : Expr) → old ≡ new ++ e ∷ [] → a ≡ e → further first (before (map expression_of new) (last (expression_of a))) ≡ arguments first (map expression_of old)
listing_start first old new e a is same = rw (popped expression_of old new e is, same) (sym (listed_start first (expression_of e) (map expression_of new)))

-- and another before it
pub listing_on : (old new : List Expr) (e a : Expr) (list : Expressions) → old ≡ new ++ e ∷ [] → a ≡ e → before (map expression_of new) (further (expression_of a) list) ≡ before (map expression_of old) list
listing_on old new e a list is same = rw (popped expression_of old new e is, same) (sym (listed_more (map expression_of new) (expression_of e) list))

-- a branch more before those that are chained
pub chaining_on : (old new : List Tried) (b : Tried) (p : Phrase) (e : Expr) (chain : Branching) → old ≡ new ++ b ∷ [] → p ≡ b.test → e ≡ b.result → chain_before (map branch_of new) (when (clause_of p) (expression_of e) chain) ≡ chain_before (map branch_of old) chain
chaining_on old new b p e chain is test result = rw (popped branch_of old new b is, test, result) (sym (chain_more (map branch_of new) (branch_of b) chain))

-- ---- series

module _ {P O B : Type 0} (link : List Lexeme → Option (O × List Lexeme)) (operand : List Lexeme → Option (B × List Lexeme)) (join : O → P → B → Option P) where
  -- what is read from the start is p, and then what a series goes on with here
  pub record Goes (whole : Option (P × List Lexeme)) (p : P) (ts : List Lexeme) : Type 0 where
    pub on : whole ≡ series_from link operand join p ts

  pub going_start : (first : List Lexeme → Option (P × List Lexeme)) (ts us : List Lexeme) (p : P) → first ts ≡ Some (p, us) → Goes (series_at first link operand join ts) p us
  going_start first ts us p e = record { on = rw e refl }

  module _ (whole : Option (P × List Lexeme)) (p : P) (ts : List Lexeme) (so_far : Goes whole p ts) where
    pub going_end : link ts ≡ None → whole ≡ Some (p, ts)
    going_end none = so_far.on ∙ loop_end link operand join p ts none

    pub going_stop : (o : O) (us : List Lexeme) → link ts ≡ Some (o, us) → operand us ≡ None → whole ≡ None
    going_stop o us e none = so_far.on ∙ loop_stop link operand join p ts (o, us) e none

    pub going_clash : (o : O) (b : B) (us vs : List Lexeme) → link ts ≡ Some (o, us) → operand us ≡ Some (b, vs) → join o p b ≡ None → whole ≡ None
    going_clash o b us vs e some none = so_far.on ∙ loop_clash link operand join p ts (o, us) (b, vs) e some none

    pub going_on : Shortens link → Shortens operand → (q : P) (o : O) (b : B) (us vs : List Lexeme) → link ts ≡ Some (o, us) → operand us ≡ Some (b, vs) → join o p b ≡ Some q → Goes whole q vs
    going_on less lesser q o b us vs e some joins = record { on = so_far.on ∙ loop_more link operand join less lesser p q ts (o, us) (b, vs) e some joins }

  -- a turn takes a token at least
  pub going_down : Shortens link → Shortens operand → (o : O) (b : B) (ts us vs : List Lexeme) → link ts ≡ Some (o, us) → operand us ≡ Some (b, vs) → length vs < length ts
  going_down less lesser o b ts us vs e some =
      let m = less ts (o, us) e in
      let n = lesser us (b, vs) some in
      omega (arith, m, n)

-- a list with one more, seen in some way
module _ {A B O : Type 0} (view : A → B) (link : List Lexeme → Option (O × List Lexeme)) (operand : List Lexeme → Option (B × List Lexeme)) where
  pub list_on : Shortens link → Shortens operand → (whole : Option (List B × List Lexeme)) (xs ys : List A) (x : A) (o : O) (ts us vs : List Lexeme) → Goes link operand append whole (map view xs) ts
      → ys ≡ xs ++ x ∷ [] → link ts ≡ Some (o, us) → operand us ≡ Some (view x, vs) → Goes link operand append whole (map view ys) vs
  list_on less lesser whole xs ys x o ts us vs so_far is e some =
      rw (is, map_push view xs x) (going_on link operand append whole (map view xs) ts so_far less lesser (map view xs ++ view x ∷ []) o (view x) us vs e some refl)

pub further_start : {A : Type 0} (item : List Lexeme → Option (A × List Lexeme)) (ts : List Lexeme) → Goes (token_at is_comma) item append (further_at item ts) [] ts
unfolding further_at
further_start item ts = going_start (token_at is_comma) item append (given []) ts ts [] refl

pub joins_start : (inner : List Lexeme → Option (Clause × List Lexeme)) (ts : List Lexeme) → Goes join_at (joined_at inner) join_on (joins_at inner ts) [] ts
unfolding joins_at
joins_start inner ts = going_start join_at (joined_at inner) join_on (given []) ts ts [] refl

-- one more join
pub joins_on : (inner : List Lexeme → Option (Clause × List Lexeme)) → Shortens (joined_at inner) → (whole : Option (List Joined × List Lexeme)) (xs ys : List coded_join.Joined) (x : coded_join.Joined) (ts us vs : List Lexeme) → Goes join_at (joined_at inner) join_on whole (map joined_of xs) ts
    → ys ≡ xs ++ x ∷ [] → join_at ts ≡ Some (x.outer, us) → joined_at inner us ≡ Some ((entry_of x.entry, condition_of x.on), vs) → Goes join_at (joined_at inner) join_on whole (map joined_of ys) vs
joins_on inner lesser whole xs ys x ts us vs so_far is e some =
    rw (is, map_push joined_of xs x)
    (going_on join_at (joined_at inner) join_on whole (map joined_of xs) ts so_far join_shortens lesser (map joined_of xs ++ joined_of x ∷ []) x.outer (entry_of x.entry, condition_of x.on) us vs e some refl)

pub branches_start : (inner : List Lexeme → Option (Clause × List Lexeme)) (searched : Bool) (ts : List Lexeme) → Goes (token_at is_when) (branch_at inner searched) append (branches_at inner searched ts) [] ts
unfolding branches_at
branches_start inner searched ts = going_start (token_at is_when) (branch_at inner searched) append (given []) ts ts [] refl

-- ---- dates

pub date_start : (ts us vs : List Lexeme) (s : List ℕ) → word_at (codes "DATE") ts ≡ Some us → token_at (octets_if is_string) us ≡ Some (s, vs) → Goes interval_sign_at days_at move (date_at ts) (record { string = s; intervals = [] }) vs
unfolding date_at date_string_at
date_start ts us vs s e some = going_start interval_sign_at days_at move date_string_at ts vs (record { string = s; intervals = [] }) (rw (e, some) refl)

pub date_on : (whole : Option (Dated × List Lexeme)) (s : List ℕ) (ds es : List Interval) (i : Interval) (ts us vs : List Lexeme) → Goes interval_sign_at days_at move whole (record { string = s; intervals = map days_of ds }) ts
    → es ≡ ds ++ i ∷ [] → interval_sign_at ts ≡ Some (i.sign, us) → days_at us ≡ Some (i.days.now, vs) → Goes interval_sign_at days_at move whole (record { string = s; intervals = map days_of es }) vs
date_on whole s ds es i ts us vs so_far is e some =
    rw (is, map_push days_of ds i)
    (going_on interval_sign_at days_at move whole (record { string = s; intervals = map days_of ds }) ts so_far sign_shortens days_shortens (record { string = s; intervals = map days_of ds ++ days_of i ∷ [] }) i.sign i.days.now us vs e some refl)
