-- The refusal of operands that are found one after another: that of the first that was refused.
use Rattle.std.proofs.Common.{◌≡◌, ◌∙◌, List, [], ℕ, Option, Result, Ok, Err, refl}
use Rattle.std.specs.Prelude.{IfOk, MatchResult}
use Rattle.qw_types.specs.declared.kind.Kind.{Kind}
use Rattle.qw_scalar.specs.Expression as meaning
use Rattle.qw_scalar.specs.Tree as tree
use Rattle.qw_scalar.specs.Typing.{kind_of}
use Rattle.qw_scalar.specs.declared.comparison.Comparison.TheVariants.{Equal}
use Rattle.qw_scalar.specs.declared.expression.Branches.{Branches}
use Rattle.qw_scalar.specs.declared.expression.Exprs.{Exprs}
use Rattle.qw_scalar.specs.declared.expression.Matches.{Matches}
use Rattle.qw_typer.specs.declared.refusal.Refusal.{Refusal}
use Rattle.qw_typer.specs.declared.tree.Results.{Results}
use Rattle.qw_typer.specs.declared.tree.Typed.{Typed}
use Rattle.qw_typer.specs.declared.tree.Values.{Values}
use Rattle.qw_ast.specs.Syntax.{Branching}
use Rattle.qw_typer.specs.Faults.{Fault, branch_faults}
use Rattle.qw_typer.specs.Meant.{Scope}
use Rattle.qw_typer.specs.Inner.Typing.{Gives, GivesArguments, GivesChoices, GivesMatches, GivesValues, Refuses, ◌>>=◌, typed_branches, typed_matches}
use Rattle.qw_typer.proofs.OutcomeLemmas.{gives_after, refuses_after, refuses_then}

-- what was found stands for what has no fault, or its refusal is the fault
abbrev pub StandsFor : {T A : Type 0} → (T → A) → Result T Refusal → Result A Fault → Type 0
StandsFor of r x = MatchResult r (λ t. x ≡ Ok (of t)) (λ refusal. Refuses refusal x)

-- ---- what is given stands for it

pub given : (r : Result Typed Refusal) (x : Result meaning.Expression Fault) → Gives r x → StandsFor (λ (t : Typed). tree.expression_of t.tree) r x
given (Ok t) x h = h.0
given (Err refusal) x h = h

pub arguments_given : (r : Result (Results Exprs) Refusal) (x : Result meaning.Expressions Fault) → GivesArguments r x → StandsFor (λ (t : Results Exprs). tree.expressions_of t.tree) r x
arguments_given (Ok t) x h = h.0
arguments_given (Err refusal) x h = h

pub values_given : (kind : Option Kind) (r : Result Values Refusal) (x : Result meaning.Expressions Fault) → GivesValues kind r x → StandsFor (λ (t : Values). tree.expressions_of t.tree) r x
values_given kind (Ok t) x h = h.0
values_given kind (Err refusal) x h = h

pub choices_given : (r : Result (Results Branches) Refusal) (x : Result meaning.Choices Fault) → GivesChoices r x → StandsFor (λ (t : Results Branches). tree.choices_of t.tree) r x
choices_given (Ok t) x h = h.0
choices_given (Err refusal) x h = h

pub matches_given : (e : meaning.Expression) (r : Result (Results Matches) Refusal) (x : Result meaning.Choices Fault) → GivesMatches e r x → StandsFor (λ (t : Results Matches). tree.matches_of t.tree e) r x
matches_given e (Ok t) x h = h.0
matches_given e (Err refusal) x h = h

-- ---- the first refusal

pub refused_pair : {T U A B C : Type 0} (of : T → A) (with : U → B) (l : Result T Refusal) (r : Result U Refusal) (e : Refusal) (x : Result A Fault) (y : Result B Fault) (f : A → B → Result C Fault)
    → MatchResult l (λ t. r ≡ Err e) (λ d. d ≡ e) → StandsFor of l x → StandsFor with r y → Refuses e (x >>= (λ a. y >>= f a))
refused_pair of with (Ok t) r e x y f h p q = refuses_after e x (of t) (λ a. y >>= f a) p (refuses_then e y (f (of t)) (rw h at q))
refused_pair of with (Err d) r e x y f h p q = refuses_then e x (λ a. y >>= f a) (rw h at p)

pub refused_three : {T U V A B C D : Type 0} (of : T → A) (with : U → B) (by : V → C) (l : Result T Refusal) (m : Result U Refusal) (r : Result V Refusal) (e : Refusal)
    (x : Result A Fault) (y : Result B Fault) (z : Result C Fault) (f : A → B → C → Result D Fault)
    → MatchResult l (λ t. MatchResult m (λ u. r ≡ Err e) (λ d. d ≡ e)) (λ d. d ≡ e) → StandsFor of l x → StandsFor with m y → StandsFor by r z → Refuses e (x >>= (λ a. y >>= (λ b. z >>= f a b)))
refused_three of with by (Ok t) m r e x y z f h p q s = refuses_after e x (of t) (λ a. y >>= (λ b. z >>= f a b)) p (refused_pair with by m r e y z (f (of t)) h q s)
refused_three of with by (Err d) m r e x y z f h p q s = refuses_then e x (λ a. y >>= (λ b. z >>= f a b)) (rw h at p)

-- with branches that were found over the operand, where there is one
pub refused_matches : {C : Type 0} (l : Result Typed Refusal) (r : Result (Results Matches) Refusal) (e : Refusal) (x : Result meaning.Expression Fault) (cs : meaning.Expression → Result meaning.Choices Fault) (f : meaning.Choices → Result C Fault)
    → MatchResult l (λ t. r ≡ Err e) (λ d. d ≡ e) → Gives l x → IfOk l (λ t. GivesMatches (tree.expression_of t.tree) r (cs (tree.expression_of t.tree))) → Refuses e (x >>= (λ a. cs a >>= f))
refused_matches (Ok t) r e x cs f h p q = refuses_after e x (tree.expression_of t.tree) (λ a. cs a >>= f) p.0 (refuses_then e (cs (tree.expression_of t.tree)) f (rw h at q))
refused_matches (Err d) r e x cs f h p q = refuses_then e x (λ a. cs a >>= f) (rw h at p)

-- and values of IN
pub refused_values : {C : Type 0} (l : Result Typed Refusal) (r : Result Values Refusal) (e : Refusal) (x : Result meaning.Expression Fault) (vs : Result meaning.Expressions Fault) (f : meaning.Expression → meaning.Expressions → Result C Fault)
    → MatchResult l (λ t. r ≡ Err e) (λ d. d ≡ e) → Gives l x → IfOk l (λ t. GivesValues t.kind r vs) → Refuses e (x >>= (λ a. vs >>= f a))
refused_values (Ok t) r e x vs f h p q = refuses_after e x (tree.expression_of t.tree) (λ a. vs >>= f a) p.0 (refuses_then e vs (f (tree.expression_of t.tree)) (rw h at q))
refused_values (Err d) r e x vs f h p q = refuses_then e x (λ a. vs >>= f a) (rw h at p)

-- ---- what was found beside an operand of the kind that was found

pub matches_found : (x : Result Typed Refusal) (xs : Result meaning.Expression Fault) (kind : Option Kind) (P : meaning.Expression → Type 0) → Gives x xs → IfOk x (λ t. kind ≡ t.kind) → ((e : meaning.Expression) → kind ≡ kind_of e → P e)
    → IfOk x (λ t. P (tree.expression_of t.tree))
matches_found (Ok t) xs kind P g k h = h (tree.expression_of t.tree) (k ∙ g.1.kind)
matches_found (Err d) xs kind P g k h = tt

pub values_found : (x : Result Typed Refusal) (kind : Option Kind) (r : Result Values Refusal) (vs : Result meaning.Expressions Fault) → IfOk x (λ t. kind ≡ t.kind) → GivesValues kind r vs → IfOk x (λ t. GivesValues t.kind r vs)
values_found (Ok t) kind r vs k h = rw k at h
values_found (Err d) kind r vs k h = tt

-- going on after a comparison
pub matches_after : {A B : Type 0} (e : meaning.Expression) (r : Result (Results Matches) Refusal) (w : Result A Fault) (f : A → Result B Fault) (g : B → Result meaning.Choices Fault) → GivesMatches e r ((w >>= f) >>= g) → GivesMatches e r (w >>= (λ a. f a >>= g))
matches_after e r (Ok a) f g h = h
matches_after e r (Err d) f g h = h

-- branches of which one has a WHEN
pub branches_more : (scope : Scope) (token : List ℕ) (x : meaning.Expression) (branches : Branching) (r : Result (Results Matches) Refusal) → branch_faults token branches ≡ [] → GivesMatches x r (typed_branches scope token x branches) → GivesMatches x r (typed_matches scope token x branches)
branches_more scope token x branches r none h = rw none at h

-- a WHEN with its ELSE
pub refused_otherwise : (e : meaning.Expression) (l m r : Result Typed Refusal) (d : Refusal) (w : Result meaning.Condition Fault) (x y : Result meaning.Expression Fault)
    → MatchResult l (λ t. MatchResult m (λ u. r ≡ Err d) (λ f. f ≡ d)) (λ f. f ≡ d) → StandsFor (λ (t : Typed). meaning.comparison Equal e (tree.expression_of t.tree)) l w
    → StandsFor (λ (t : Typed). tree.expression_of t.tree) m x → StandsFor (λ (t : Typed). tree.expression_of t.tree) r y
    → Refuses d (w >>= (λ c. x >>= (λ a. (y >>= (λ b. Ok (meaning.otherwise b))) >>= (λ rest. Ok (meaning.when c a rest)))))
refused_otherwise e l m (Ok v) d w x y h p q s = refused_three (λ (t : Typed). meaning.comparison Equal e (tree.expression_of t.tree)) (λ (t : Typed). tree.expression_of t.tree) (λ (t : Typed). meaning.otherwise (tree.expression_of t.tree)) l m (Ok v) d
    w x (y >>= (λ b. Ok (meaning.otherwise b))) (λ c a rest. Ok (meaning.when c a rest)) h p q (rw s refl)
refused_otherwise e l m (Err f) d w x y h p q s = refused_three (λ (t : Typed). meaning.comparison Equal e (tree.expression_of t.tree)) (λ (t : Typed). tree.expression_of t.tree) (λ (t : Typed). meaning.otherwise (tree.expression_of t.tree)) l m (Err f) d
    w x (y >>= (λ b. Ok (meaning.otherwise b))) (λ c a rest. Ok (meaning.when c a rest)) h p q (refuses_then f y (λ b. Ok (meaning.otherwise b)) s)

-- ---- an argument where a set function may stand

pub refused_argument : {A B C : Type 0} (e : Refusal) (n : Result C Fault) (x : Result A Fault) (f : A → Result B Fault) → Refuses e (n >>= (λ b. x)) → Refuses e (n >>= (λ b. x >>= f))
refused_argument e (Ok b) x f h = refuses_then e x f h
refused_argument {A = A} e (Err d) x f h = refuses_then {A = A} e (Err d) f h

pub argument_given : {C : Type 0} (r : Result Typed Refusal) (n : Result C Fault) (x : Result meaning.Expression Fault) (a : meaning.Expression) (f : meaning.Expression → Result meaning.Expression Fault) → (n >>= (λ b. x)) ≡ Ok a → Gives r (f a) → Gives r (n >>= (λ b. x >>= f))
argument_given r (Ok b) x a f e h = gives_after r x a f e h
argument_given r (Err d) x a f e h = absurd cc
