-- What is made of trees that stand for others, arm by arm of src/tree.rt.
use Rattle.std.proofs.Common.{◌≡◌, ℕ, ◌+◌, ◌≤◌, ◌++◌, IfOk, List, Result, Ok, Err, refl, sym, subst, ◌∙◌, arith}
use Rattle.qw_types.specs.declared.memory.NoMemory.{NoMemory}
use Rattle.qw_scalar.specs.declared.expression.Expr.{Expr}
use Rattle.qw_scalar.specs.declared.expression.Cond.{Cond}
use Rattle.qw_scalar.specs.declared.expression.Exprs.{Exprs}
use Rattle.qw_scalar.specs.declared.expression.Branches.{Branches}
use Rattle.qw_scalar.specs.declared.expression.Matches.{Matches}
use Rattle.qw_scalar.specs.declared.expression.Matches.TheVariants as Matches
use Rattle.qw_scalar.specs.declared.expression.Operator.{Operator}
use Rattle.qw_scalar.specs.declared.expression.Function.{Function}
use Rattle.qw_scalar.specs.declared.expression.Function.TheVariants.{Coalesce, NullIf}
use Rattle.qw_scalar.specs.declared.comparison.Comparison.{Comparison}
use Rattle.qw_scalar.specs.declared.comparison.Comparison.TheVariants.{Equal}
use Rattle.qw_scalar.specs.Expression.{Choices, Condition, Expression, Expressions, last, more, otherwise, when, among, arithmetic, between, both, called, case, cases, coalesced, comparison, either, largest_result, scale_of}
use Rattle.qw_scalar.specs.Nodes.{nodes, nodes_of, nodes_of_all, nodes_of_branches, nodes_of_matches}
use Rattle.qw_scalar.specs.Tree.{choices_of, condition_of, expression_of, expressions_of, matches_of}
use Rattle.qw_scalar.specs.Typing.{AreTyped, IsTyped}
use Rattle.qw_fold.specs.Folded.{AllFolded, AreAtOneScale, AreFolded, BranchesFolded, IsAtScale, IsFolded, MatchesFolded}
use Rattle.qw_scalar.specs.Texts.{texts_in, texts_of_all, texts_of_branches, texts_of_matches, texts_within}
use Rattle.qw_fold.specs.Inner.Made.{AllFoldAt, AllStandAt, AreBuilt, AreFoldOf, BranchesFold, BroughtTogether, ChoicesBuilt, Follows, FollowsTruth, IsBuilt, IsFoldAt, IsFoldOf, MatchesBuilt, MatchesFold, StandsAt}
use Rattle.qw_fold.specs.Inner.Typed.{AllTyped, ChoicesTyped, MatchesTyped}
use Rattle.qw_fold.proofs.Congruence.{arithmetic_follows, both_follows, comparison_follows, either_follows, then, truth_then}
use Rattle.qw_fold.proofs.Constructs.{among_stands, between_stands, case_follows, coalesced_stand, compared_stands, largest_stays, otherwise_stands, unless_among_stand, when_stands}
use Rattle.qw_fold.proofs.Literals.{compared_brought}

-- ---- types

pub choices_typed : (s : ℕ) (cs : Choices) → IsTyped (cases s cs) → ChoicesTyped cs
choices_typed s (otherwise e) h = h.0
choices_typed s (when c e rest) h = (h.0, (h.1.0.0.0, choices_typed s rest h.1.0.1))

pub matches_typed : (s : ℕ) (m : Matches) (x : Expression) → IsTyped (cases s (matches_of m x)) → MatchesTyped m
matches_typed s (Matches.Last' _ v _ e _ other) x h = (h.0.0.1, (h.1.0.0.0, h.1.0.1.0))
matches_typed s (Matches.When' _ v _ e _ rest) x h = (h.0.0.1, (h.1.0.0.0, matches_typed s rest x h.1.0.1))

pub match_operand_typed : (s : ℕ) (m : Matches) (x : Expression) → IsTyped (cases s (matches_of m x)) → IsTyped x
match_operand_typed s (Matches.Last' _ v _ e _ other) x h = h.0.0.0
match_operand_typed s (Matches.When' _ v _ e _ rest) x h = h.0.0.0

coalesced_typed : (s : ℕ) (es : Expressions) → IsTyped (cases s (coalesced es)) → AllTyped es
coalesced_typed s (last e) h = h.0
coalesced_typed s (more e es) h = (h.0, coalesced_typed s es h.1.0.1)

pub values_typed : (x : Expression) (vs : Expressions) → AreTyped (among x vs) → AllTyped vs
values_typed x (last v) h = h.0.1
values_typed x (more v vs) h = (h.0.0.1, values_typed x vs h.1)

pub among_operand_typed : (x : Expression) (vs : Expressions) → AreTyped (among x vs) → IsTyped x
among_operand_typed x (last v) h = h.0.0
among_operand_typed x (more v vs) h = h.0.0.0

pub arguments_typed : (function : Function) (es : Expressions) → IsTyped (called function es) → AllTyped es
arguments_typed Coalesce es h = coalesced_typed (largest_result (coalesced es)) es h
arguments_typed NullIf (last a) h = h.0
arguments_typed NullIf (more a others) h = (h.1.0.1, values_typed a others h.0)

-- a choice's results are brought to one scale, which is its own
cases_scale : (s : ℕ) (cs : Choices) → scale_of (cases s cs) ≡ s
cases_scale s (otherwise e) = refl
cases_scale s (when c e rest) = rw (cases_scale s rest) (omega arith)

pub case_scale : (cs : Choices) → scale_of (case cs) ≡ largest_result cs
case_scale cs = cases_scale (largest_result cs) cs

-- ---- answers

pub if_ok : {A : Type 0} (P Q : A → Type 0) (r : Result A NoMemory) → ((x : A) → P x → Q x) → IfOk r P → IfOk r Q
if_ok P Q (Ok x) f h = f x h
if_ok P Q (Err e) f h = tt

pub if_both : {A : Type 0} (P Q R : A → Type 0) (r : Result A NoMemory) → ((x : A) → P x → Q x → R x) → IfOk r P → IfOk r Q → IfOk r R
if_both P Q R (Ok x) f h k = f x h k
if_both P Q R (Err e) f h k = tt

-- a tree that was built stands for what its expression stands for
built_stands : (e f : Expression) (n m : ℕ) (t u : List (List ℕ)) (made : Expr) → Follows e f → m ≤ n → u ≡ t → IsBuilt f m u made → IsFolded made → IsFoldOf e n t made
built_stands e f n m t u made p short texts built folded = record {
  follows = subst (λ (g : Expression). Follows e g) (sym built.means) p;
  folded = folded;
  short = omega (arith, built.counted);
  same_texts = built.same_texts ∙ texts;
}

built_true : (c d : Condition) (n m : ℕ) (t u : List (List ℕ)) (made : Cond) → FollowsTruth c d → m ≤ n → u ≡ t → AreBuilt d m u made → AreFolded made → AreFoldOf c n t made
built_true c d n m t u made p short texts built folded = record {
  follows = subst (λ (g : Condition). FollowsTruth c g) (sym built.means) p;
  folded = folded;
  short = omega (arith, built.counted);
  same_texts = built.same_texts ∙ texts;
}

two : {A : Type 0} (a b c d : List A) → a ≡ c → b ≡ d → a ++ b ≡ c ++ d
two a b c d p q = rw (p, q) refl

three : {A : Type 0} (a b c d e f : List A) → a ≡ d → b ≡ e → c ≡ f → a ++ (b ++ c) ≡ d ++ (e ++ f)
three a b c d e f p q r = rw (p, q, r) refl

-- ---- expressions

pub arithmetic_made : (operator : Operator) (a b : Expression) (n m : ℕ) (t u : List (List ℕ)) (x y : Expr) (r : Result Expr NoMemory) → IsFoldOf a n t x → IsFoldOf b m u y →
    IfOk r (λ z. IsFoldOf (arithmetic operator (expression_of x) (expression_of y)) (1 + nodes x + nodes y) (texts_in x ++ texts_in y) z) →
    IfOk r (λ z. IsFoldOf (arithmetic operator a b) (1 + n + m) (t ++ u) z)
arithmetic_made operator a b n m t u x y r p q h =
    if_ok _ _ r
    (λ z k. record {
      follows = then _ _ _ (arithmetic_follows operator a b (expression_of x) (expression_of y) p.follows q.follows) k.follows;
      folded = k.folded;
      short = omega (arith, p.short, q.short, k.short);
      same_texts = k.same_texts ∙ two _ _ _ _ p.same_texts q.same_texts;
    }) h

pub case_made : (cs : Choices) (n : ℕ) (t : List (List ℕ)) (s : ℕ) (branches : Branches) (r : Result Expr NoMemory) → s ≡ largest_result cs → BranchesFold s cs n t branches →
    IfOk r (λ z. IsBuilt (case (choices_of branches)) (1 + nodes_of_branches branches) (texts_of_branches branches) z) →
    IfOk r (λ z. BranchesFolded (largest_result (choices_of branches)) branches → IsFolded z) →
    IfOk r (λ z. IsFoldOf (case cs) (1 + n) t z)
case_made cs n t s branches r is p h k =
    if_both _ _ _ r
    (λ z built folded.
    built_stands (case cs) (case (choices_of branches)) _ _ _ _ z (case_follows s cs (choices_of branches) is p.follows) (omega (arith, p.short)) p.same_texts built
    (folded (subst (λ (q : ℕ). BranchesFolded q branches) (sym (largest_stays s cs (choices_of branches) is p.follows)) p.folded))) h k

pub match_made : (a : Expression) (old new : Matches) (n : ℕ) (t : List (List ℕ)) (q s : ℕ) (x : Expr) (r : Result Expr NoMemory) → q ≡ scale_of a → s ≡ largest_result (matches_of old a) →
    IsFoldOf a n t x → MatchesFold q s old new →
    IfOk r (λ z. IsBuilt (case (matches_of new (expression_of x))) (1 + nodes x + nodes_of_matches new) (texts_in x ++ texts_of_matches new) z) →
    IfOk r (λ z. IsFolded x → MatchesFolded (scale_of (expression_of x)) (largest_result (matches_of new (expression_of x))) new → IsFolded z) →
    IfOk r (λ z. IsFoldOf (case (matches_of old a)) (1 + n + nodes_of_matches old) (t ++ texts_of_matches old) z)
match_made a old new n t q s x r iq is p m h k =
    let results = m.follows a (expression_of x) p.follows in
    let stays = largest_stays s (matches_of old a) (matches_of new (expression_of x)) is results in
    let scale : scale_of (expression_of x) ≡ q = sym p.follows.same.scale ∙ sym iq in
    if_both _ _ _ r
    (λ z built folded.
    built_stands (case (matches_of old a)) (case (matches_of new (expression_of x))) _ _ _ _ z (case_follows s (matches_of old a) (matches_of new (expression_of x)) is results)
    (omega (arith, p.short, m.short)) (two _ _ _ _ p.same_texts m.same_texts) built
    (folded p.folded (subst (λ (j : ℕ). MatchesFolded j (largest_result (matches_of new (expression_of x))) new) (sym scale) (subst (λ (j : ℕ). MatchesFolded q j new) (sym stays) m.folded)))) h k

-- a function's arguments are at its own scale
call_follows : (function : Function) (s : ℕ) (arguments others : Expressions) → s ≡ scale_of (called function arguments) → AllStandAt s arguments others → Follows (called function arguments) (called function others)
call_follows Coalesce s arguments others is h = case_follows s (coalesced arguments) (coalesced others) (is ∙ case_scale (coalesced arguments)) (coalesced_stand s arguments others h)
call_follows NullIf s arguments others is h = unless_among_stand s arguments others is h

pub call_made : (function : Function) (es : Expressions) (n : ℕ) (t : List (List ℕ)) (s : ℕ) (new : Exprs) (r : Result Expr NoMemory) → s ≡ scale_of (called function es) → AllFoldAt s es n t new →
    IfOk r (λ z. IsBuilt (called function (expressions_of new)) (1 + nodes_of_all new) (texts_of_all new) z) →
    IfOk r (λ z. AllFolded (scale_of (called function (expressions_of new))) new → IsFolded z) →
    IfOk r (λ z. IsFoldOf (called function es) (1 + n) t z)
call_made function es n t s new r is p h k =
    let follows = call_follows function s es (expressions_of new) is p.stand in
    let stays : scale_of (called function (expressions_of new)) ≡ s = sym follows.same.scale ∙ sym is in
    if_both _ _ _ r
    (λ z built folded.
    built_stands (called function es) (called function (expressions_of new)) _ _ _ _ z follows (omega (arith, p.short)) p.same_texts built
    (folded (subst (λ (q : ℕ). AllFolded q new) (sym stays) p.folded))) h k

-- ---- conditions

pub together_compared : (op : Comparison) (a b x y : Expr) (r : Result Cond NoMemory) → IsFolded a × IsFolded b → BroughtTogether a b x y →
    IfOk r (λ z. AreBuilt (comparison op (expression_of x) (expression_of y)) (1 + nodes x + nodes y) (texts_in x ++ texts_in y) z) →
    IfOk r (λ z. IsFolded x × IsFolded y → AreAtOneScale x y → AreFolded z) →
    IfOk r (λ z. AreFoldOf (comparison op (expression_of a) (expression_of b)) (1 + nodes a + nodes b) (texts_in a ++ texts_in b) z)
together_compared op a b x y r folded' t h k =
    if_both _ _ _ r
    (λ z built folded.
    built_true (comparison op (expression_of a) (expression_of b)) (comparison op (expression_of x) (expression_of y)) _ _ _ _ z
    (compared_brought op _ (expression_of a) (expression_of b) (expression_of x) (expression_of y) t.left t.right) (omega (arith, t.left_nodes, t.right_nodes)) (two _ _ _ _ t.left_texts t.right_texts) built
    (folded (t.folded folded') t.together)) h k

pub compare_made : (op : Comparison) (a b : Expression) (n m : ℕ) (t u : List (List ℕ)) (x y : Expr) (r : Result Cond NoMemory) → IsFoldOf a n t x → IsFoldOf b m u y →
    IfOk r (λ z. AreFoldOf (comparison op (expression_of x) (expression_of y)) (1 + nodes x + nodes y) (texts_in x ++ texts_in y) z) →
    IfOk r (λ z. AreFoldOf (comparison op a b) (1 + n + m) (t ++ u) z)
compare_made op a b n m t u x y r p q h =
    if_ok _ _ r
    (λ z k. record {
      follows = truth_then _ _ _ (comparison_follows op a b (expression_of x) (expression_of y) p.follows q.follows) k.follows;
      folded = k.folded;
      short = omega (arith, p.short, q.short, k.short);
      same_texts = k.same_texts ∙ two _ _ _ _ p.same_texts q.same_texts;
    }) h

pub between_made : (a b c : Expression) (n m l : ℕ) (t u v : List (List ℕ)) (s : ℕ) (x y w : Expr) (r : Result Cond NoMemory) → s ≡ scale_of a → IsFoldOf a n t x → IsFoldAt s b m u y → IsFoldAt s c l v w →
    IfOk r (λ z. AreBuilt (between (expression_of x) (expression_of y) (expression_of w)) (1 + nodes x + nodes y + nodes w) (texts_in x ++ (texts_in y ++ texts_in w)) z) →
    IfOk r (λ z. IsFolded x → IsFolded y × IsAtScale (scale_of (expression_of x)) y → IsFolded w × IsAtScale (scale_of (expression_of x)) w → AreFolded z) →
    IfOk r (λ z. AreFoldOf (between a b c) (1 + n + m + l) (t ++ (u ++ v)) z)
between_made a b c n m l t u v s x y w r is p q o h k =
    let scale : scale_of (expression_of x) ≡ s = sym p.follows.same.scale ∙ sym is in
    if_both _ _ _ r
    (λ z built folded.
    built_true (between a b c) (between (expression_of x) (expression_of y) (expression_of w)) _ _ _ _ z
    (between_stands s a b c (expression_of x) (expression_of y) (expression_of w) p.follows q.stands o.stands) (omega (arith, p.short, q.short, o.short)) (three _ _ _ _ _ _ p.same_texts q.same_texts o.same_texts) built
    (folded p.folded (q.folded.0, subst (λ (j : ℕ). IsAtScale j y) (sym scale) q.folded.1) (o.folded.0, subst (λ (j : ℕ). IsAtScale j w) (sym scale) o.folded.1))) h k

pub in_made : (a : Expression) (vs : Expressions) (n m : ℕ) (t u : List (List ℕ)) (s : ℕ) (x : Expr) (new : Exprs) (r : Result Cond NoMemory) → s ≡ scale_of a → IsFoldOf a n t x → AllFoldAt s vs m u new →
    IfOk r (λ z. AreBuilt (among (expression_of x) (expressions_of new)) (1 + nodes x + nodes_of_all new) (texts_in x ++ texts_of_all new) z) →
    IfOk r (λ z. IsFolded x → AllFolded (scale_of (expression_of x)) new → AreFolded z) →
    IfOk r (λ z. AreFoldOf (among a vs) (1 + n + m) (t ++ u) z)
in_made a vs n m t u s x new r is p q h k =
    let scale : scale_of (expression_of x) ≡ s = sym p.follows.same.scale ∙ sym is in
    if_both _ _ _ r
    (λ z built folded.
    built_true (among a vs) (among (expression_of x) (expressions_of new)) _ _ _ _ z
    (among_stands s a (expression_of x) vs (expressions_of new) p.follows q.stand) (omega (arith, p.short, q.short)) (two _ _ _ _ p.same_texts q.same_texts) built
    (folded p.folded (subst (λ (j : ℕ). AllFolded j new) (sym scale) q.folded))) h k

pub and_made : (c d : Condition) (n m : ℕ) (t u : List (List ℕ)) (x y : Cond) (r : Result Cond NoMemory) → AreFoldOf c n t x → AreFoldOf d m u y →
    IfOk r (λ z. AreBuilt (both (condition_of x) (condition_of y)) (1 + nodes_of x + nodes_of y) (texts_within x ++ texts_within y) z) →
    IfOk r (λ z. AreFolded x → AreFolded y → AreFolded z) →
    IfOk r (λ z. AreFoldOf (both c d) (1 + n + m) (t ++ u) z)
and_made c d n m t u x y r p q h k =
    if_both _ _ _ r
    (λ z built folded.
    built_true (both c d) (both (condition_of x) (condition_of y)) _ _ _ _ z (both_follows c d (condition_of x) (condition_of y) p.follows q.follows)
    (omega (arith, p.short, q.short)) (two _ _ _ _ p.same_texts q.same_texts) built (folded p.folded q.folded)) h k

pub or_made : (c d : Condition) (n m : ℕ) (t u : List (List ℕ)) (x y : Cond) (r : Result Cond NoMemory) → AreFoldOf c n t x → AreFoldOf d m u y →
    IfOk r (λ z. AreBuilt (either (condition_of x) (condition_of y)) (1 + nodes_of x + nodes_of y) (texts_within x ++ texts_within y) z) →
    IfOk r (λ z. AreFolded x → AreFolded y → AreFolded z) →
    IfOk r (λ z. AreFoldOf (either c d) (1 + n + m) (t ++ u) z)
or_made c d n m t u x y r p q h k =
    if_both _ _ _ r
    (λ z built folded.
    built_true (either c d) (either (condition_of x) (condition_of y)) _ _ _ _ z (either_follows c d (condition_of x) (condition_of y) p.follows q.follows)
    (omega (arith, p.short, q.short)) (two _ _ _ _ p.same_texts q.same_texts) built (folded p.folded q.folded)) h k

-- ---- lists

pub else_made : (e : Expression) (n : ℕ) (t : List (List ℕ)) (s : ℕ) (x : Expr) (r : Result Branches NoMemory) → IsFoldAt s e n t x →
    IfOk r (λ z. ChoicesBuilt (otherwise (expression_of x)) (1 + nodes x) (texts_in x) z) →
    IfOk r (λ z. (s : ℕ) → IsFolded x × IsAtScale s x → BranchesFolded s z) →
    IfOk r (λ z. BranchesFold s (otherwise e) (1 + n) t z)
else_made e n t s x r p h k =
    if_both _ _ _ r
    (λ z built folded. record {
      follows = rw (built.means) (otherwise_stands s e (expression_of x) p.stands);
      folded = folded s p.folded;
      short = omega (arith, built.counted, p.short);
      same_texts = built.same_texts ∙ p.same_texts;
    }) h k

pub when_made : (c : Condition) (e : Expression) (cs : Choices) (n m l : ℕ) (t u v : List (List ℕ)) (s : ℕ) (d : Cond) (x : Expr) (rest : Branches) (r : Result Branches NoMemory) →
    AreFoldOf c n t d → IsFoldAt s e m u x → BranchesFold s cs l v rest →
    IfOk r (λ z. ChoicesBuilt (when (condition_of d) (expression_of x) (choices_of rest)) (1 + nodes_of d + nodes x + nodes_of_branches rest) (texts_within d ++ (texts_in x ++ texts_of_branches rest)) z) →
    IfOk r (λ z. (s : ℕ) → AreFolded d → IsFolded x × IsAtScale s x → BranchesFolded s rest → BranchesFolded s z) →
    IfOk r (λ z. BranchesFold s (when c e cs) (1 + n + m + l) (t ++ (u ++ v)) z)
when_made c e cs n m l t u v s d x rest r p q o h k =
    if_both _ _ _ r
    (λ z built folded. record {
      follows = rw (built.means) (when_stands s c (condition_of d) e (expression_of x) cs (choices_of rest) p.follows q.stands o.follows);
      folded = folded s p.folded q.folded o.folded;
      short = omega (arith, built.counted, p.short, q.short, o.short);
      same_texts = built.same_texts ∙ three _ _ _ _ _ _ p.same_texts q.same_texts o.same_texts;
    }) h k

-- a value of a CASE's WHEN beside its operand
wanted_stands : (q : ℕ) (v w x y : Expression) → Follows x y → StandsAt q v w → FollowsTruth (comparison Equal x v) (comparison Equal y w)
wanted_stands q v w x y p h = compared_stands Equal q x v y w p h

pub last_match_made : (q s : ℕ) (v e o : Expr) (old : Matches) (n m l : ℕ) (t u w : List (List ℕ)) (x y z : Expr) (r : Result Matches NoMemory) →
    ((a : Expression) → matches_of old a ≡ when (comparison Equal a (expression_of v)) (expression_of e) (otherwise (expression_of o))) →
    nodes_of_matches old ≡ 1 + n + m + l → texts_of_matches old ≡ t ++ (u ++ w) →
    IsFoldAt q (expression_of v) n t x → IsFoldAt s (expression_of e) m u y → IsFoldAt s (expression_of o) l w z →
    IfOk r (λ made. MatchesBuilt (λ (a : Expression). when (comparison Equal a (expression_of x)) (expression_of y) (otherwise (expression_of z))) (1 + nodes x + nodes y + nodes z) (texts_in x ++ (texts_in y ++ texts_in z)) made) →
    IfOk r (λ made. (q s : ℕ) → IsFolded x × IsAtScale q x → IsFolded y × IsAtScale s y → IsFolded z × IsAtScale s z → MatchesFolded q s made) →
    IfOk r (λ made. MatchesFold q s old made)
last_match_made q s v e o old n m l t u w x y z r means counted texts p h k built folded =
    if_both _ _ _ r
    (λ made b f. record {
      follows = λ a c follows. rw (means a, b.means c)
          (when_stands s (comparison Equal a (expression_of v)) (comparison Equal c (expression_of x)) (expression_of e) (expression_of y) (otherwise (expression_of o)) (otherwise (expression_of z))
          (wanted_stands q (expression_of v) (expression_of x) a c follows p.stands) h.stands (otherwise_stands s (expression_of o) (expression_of z) k.stands));
      folded = f q s p.folded h.folded k.folded;
      short = omega (arith, b.counted, counted, p.short, h.short, k.short);
      same_texts = b.same_texts ∙ three _ _ _ _ _ _ p.same_texts h.same_texts k.same_texts ∙ sym texts;
    }) built folded

pub more_match_made : (q s : ℕ) (v e : Expr) (rest old : Matches) (n m : ℕ) (t u : List (List ℕ)) (x y : Expr) (others : Matches) (r : Result Matches NoMemory) →
    ((a : Expression) → matches_of old a ≡ when (comparison Equal a (expression_of v)) (expression_of e) (matches_of rest a)) →
    nodes_of_matches old ≡ 1 + n + m + nodes_of_matches rest → texts_of_matches old ≡ t ++ (u ++ texts_of_matches rest) →
    IsFoldAt q (expression_of v) n t x → IsFoldAt s (expression_of e) m u y → MatchesFold q s rest others →
    IfOk r (λ made. MatchesBuilt (λ (a : Expression). when (comparison Equal a (expression_of x)) (expression_of y) (matches_of others a)) (1 + nodes x + nodes y + nodes_of_matches others) (texts_in x ++ (texts_in y ++ texts_of_matches others)) made) →
    IfOk r (λ made. (q s : ℕ) → IsFolded x × IsAtScale q x → IsFolded y × IsAtScale s y → MatchesFolded q s others → MatchesFolded q s made) →
    IfOk r (λ made. MatchesFold q s old made)
more_match_made q s v e rest old n m t u x y others r means counted texts p h k built folded =
    if_both _ _ _ r
    (λ made b f. record {
      follows = λ a c follows. rw (means a, b.means c)
          (when_stands s (comparison Equal a (expression_of v)) (comparison Equal c (expression_of x)) (expression_of e) (expression_of y) (matches_of rest a) (matches_of others c)
          (wanted_stands q (expression_of v) (expression_of x) a c follows p.stands) h.stands (k.follows a c follows));
      folded = f q s p.folded h.folded k.folded;
      short = omega (arith, b.counted, counted, p.short, h.short, k.short);
      same_texts = b.same_texts ∙ three _ _ _ _ _ _ p.same_texts h.same_texts k.same_texts ∙ sym texts;
    }) built folded
