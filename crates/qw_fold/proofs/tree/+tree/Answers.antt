use Rattle.std.proofs.Common.{rules, refl, ◌∙◌}
use Rattle.qw_scalar.specs.declared.expression.Expr.{the_lemmas}
use Rattle.qw_scalar.specs.Expression.{largest_result}
use Rattle.qw_scalar.specs.Tree.{choices_of, expression_of, expressions_of, matches_of}
use Rattle.qw_fold.proofs.Trees.{among_operand_typed, and_made, arguments_typed, arithmetic_made, between_made, call_made, case_made, case_scale, choices_typed, compare_made, else_made, in_made, last_match_made, match_made, match_operand_typed, matches_typed, more_match_made, or_made, values_typed, when_made}
use Rattle.qw_fold.proofs.tree.+tree.Goals as goal

-- ---- expressions

pub expression-returns-in_ok-y-in-Arithmetic : goal.expression-returns-in_ok-y-in-Arithmetic
expression-returns-in_ok-y-in-Arithmetic t c =
    rw c.in-Arithmetic.is
    (arithmetic_made c.in-Arithmetic.operator _ _ _ _ _ _ c.in_ok-x-in-Arithmetic.x c.in_ok-y-in-Arithmetic.y c.arithmetic.result
    (rw c.deref.ensures at c.in_ok-x-in-Arithmetic.ensures) (rw c.deref-in-Arithmetic.ensures at c.in_ok-y-in-Arithmetic.ensures) c.arithmetic.ensures)

pub expression-branches_at-requires : goal.expression-branches_at-requires
expression-branches_at-requires t c =
    let choices = choices_of c.in-Case.branches.value in
    let typed = rw c.in-Case.is at c.requires.typed in
    (search (rules, the_lemmas), (rw c.deref-in-Case.ensures (choices_typed (largest_result choices) choices typed), c.scale.ensures.bound))

pub expression-returns-in_ok-folded-in-Case : goal.expression-returns-in_ok-folded-in-Case
expression-returns-in_ok-folded-in-Case t c =
    let choices = choices_of c.in-Case.branches.value in
    let scale = rw c.in-Case.is at c.scale.ensures.value in
    rw c.in-Case.is
    (case_made choices _ _ c.scale.result c.in_ok-folded-in-Case.folded c.case_tree.result (scale ∙ case_scale choices)
    (rw c.deref-in-Case.ensures at c.in_ok-folded-in-Case.ensures) c.case_tree.ensures.built c.case_tree.ensures.folded)

pub expression-expression-requires-in-Match : goal.expression-expression-requires-in-Match
expression-expression-requires-in-Match t c =
    let operand = expression_of c.in-Match.operand.value in
    let matches = c.in-Match.matches.value in
    let typed = rw c.in-Match.is at c.requires.typed in
    (search (rules, the_lemmas), rw c.deref-in-Match.ensures (match_operand_typed (largest_result (matches_of matches operand)) matches operand typed))

pub expression-scale-requires-in-Match : goal.expression-scale-requires-in-Match
expression-scale-requires-in-Match t c =
    let operand = expression_of c.in-Match.operand.value in
    let matches = c.in-Match.matches.value in
    let typed = rw c.in-Match.is at c.requires.typed in
    record { typed = rw c.deref-in-Match-3.ensures (match_operand_typed (largest_result (matches_of matches operand)) matches operand typed) }

pub expression-matches_at-requires : goal.expression-matches_at-requires
expression-matches_at-requires t c =
    let operand = expression_of c.in-Match.operand.value in
    let matches = c.in-Match.matches.value in
    let typed = rw c.in-Match.is at c.requires.typed in
    (search (rules, the_lemmas), (rw c.deref-in-Match-2.ensures (matches_typed (largest_result (matches_of matches operand)) matches operand typed), (c.scale-in-Match.ensures.bound, c.scale-in-Match-2.ensures.bound)))

pub expression-returns-in_ok-folded-in-Match : goal.expression-returns-in_ok-folded-in-Match
expression-returns-in_ok-folded-in-Match t c =
    let operand = expression_of c.in-Match.operand.value in
    let matches = c.in-Match.matches.value in
    let scale = rw c.in-Match.is at c.scale-in-Match-2.ensures.value in
    let operands = rw c.deref-in-Match-3.ensures at c.scale-in-Match.ensures.value in
    rw c.in-Match.is
    (match_made operand matches c.in_ok-folded-in-Match.folded _ _ c.scale-in-Match.result c.scale-in-Match-2.result c.in_ok-x-in-Match.x c.match_tree.result operands (scale ∙ case_scale (matches_of matches operand))
    (rw c.deref-in-Match.ensures at c.in_ok-x-in-Match.ensures) (rw c.deref-in-Match-2.ensures at c.in_ok-folded-in-Match.ensures) c.match_tree.ensures.built c.match_tree.ensures.folded)

pub expression-expressions_at-requires : goal.expression-expressions_at-requires
expression-expressions_at-requires t c =
    let typed = rw c.in-Call.is at c.requires.typed in
    (search (rules, the_lemmas), (rw c.deref-in-Call.ensures (arguments_typed c.in-Call.function (expressions_of c.in-Call.arguments.value) typed), c.scale-in-Call.ensures.bound))

pub expression-returns-in_ok-folded-in-Call : goal.expression-returns-in_ok-folded-in-Call
expression-returns-in_ok-folded-in-Call t c =
    let scale = rw c.in-Call.is at c.scale-in-Call.ensures.value in
    rw c.in-Call.is
    (call_made c.in-Call.function (expressions_of c.in-Call.arguments.value) _ _ c.scale-in-Call.result c.in_ok-folded-in-Call.folded c.call_tree.result scale
    (rw c.deref-in-Call.ensures at c.in_ok-folded-in-Call.ensures) c.call_tree.ensures.built c.call_tree.ensures.folded)

-- ---- conditions

pub condition-returns-in_ok-y-in-Compare : goal.condition-returns-in_ok-y-in-Compare
condition-returns-in_ok-y-in-Compare t c =
    rw c.in-Compare.is
    (compare_made c.in-Compare.op _ _ _ _ _ _ c.in_ok-x-in-Compare.x c.in_ok-y-in-Compare.y c.compared.result
    (rw c.deref.ensures at c.in_ok-x-in-Compare.ensures) (rw c.deref-in-Compare.ensures at c.in_ok-y-in-Compare.ensures) c.compared.ensures)

pub condition-returns-in_ok-expression-in-Between-2 : goal.condition-returns-in_ok-expression-in-Between-2
condition-returns-in_ok-expression-in-Between-2 t c =
    rw c.in-Between.is
    (between_made _ _ _ _ _ _ _ _ _ c.scale-to.result c.in_ok-x-in-Between.x c.at_scale-low.result c.at_scale-high.result c.between_tree.result (rw c.deref-in-Between.ensures at c.scale-to.ensures.value)
    (rw c.deref-in-Between-2.ensures at c.in_ok-x-in-Between.ensures)
    (c.at_scale-low.ensures.stands _ _ _ (rw c.deref-in-Between-3.ensures at c.in_ok-expression-in-Between.ensures))
    (c.at_scale-high.ensures.stands _ _ _ (rw c.deref-in-Between-4.ensures at c.in_ok-expression-in-Between-2.ensures))
    c.between_tree.ensures.built c.between_tree.ensures.folded)

pub condition-expression-requires-in-In : goal.condition-expression-requires-in-In
condition-expression-requires-in-In t c =
    let typed = rw c.in-In.is at c.requires.typed in
    (search (rules, the_lemmas), rw c.deref-in-In.ensures (among_operand_typed (expression_of c.in-In.operand.value) (expressions_of c.in-In.values.value) typed))

pub condition-scale-requires : goal.condition-scale-requires
condition-scale-requires t c =
    let typed = rw c.in-In.is at c.requires.typed in
    record { typed = rw c.deref-in-In-3.ensures (among_operand_typed (expression_of c.in-In.operand.value) (expressions_of c.in-In.values.value) typed) }

pub condition-expressions_at-requires : goal.condition-expressions_at-requires
condition-expressions_at-requires t c =
    let typed = rw c.in-In.is at c.requires.typed in
    (search (rules, the_lemmas), (rw c.deref-in-In-2.ensures (values_typed (expression_of c.in-In.operand.value) (expressions_of c.in-In.values.value) typed), c.scale.ensures.bound))

pub condition-returns-in_ok-folded-in-In : goal.condition-returns-in_ok-folded-in-In
condition-returns-in_ok-folded-in-In t c =
    rw c.in-In.is
    (in_made _ _ _ _ _ _ c.scale.result c.in_ok-x-in-In.x c.in_ok-folded-in-In.folded c.in_tree.result (rw c.deref-in-In-3.ensures at c.scale.ensures.value)
    (rw c.deref-in-In.ensures at c.in_ok-x-in-In.ensures) (rw c.deref-in-In-2.ensures at c.in_ok-folded-in-In.ensures) c.in_tree.ensures.built c.in_tree.ensures.folded)

pub condition-returns-in_ok-y-in-And : goal.condition-returns-in_ok-y-in-And
condition-returns-in_ok-y-in-And t c =
    rw c.in-And.is
    (and_made _ _ _ _ _ _ c.in_ok-x-in-And.x c.in_ok-y-in-And.y c.and_tree.result
    (rw c.deref-in-And.ensures at c.in_ok-x-in-And.ensures) (rw c.deref-in-And-2.ensures at c.in_ok-y-in-And.ensures) c.and_tree.ensures.built c.and_tree.ensures.folded)

pub condition-returns-in_ok-y-in-Or : goal.condition-returns-in_ok-y-in-Or
condition-returns-in_ok-y-in-Or t c =
    rw c.in-Or.is
    (or_made _ _ _ _ _ _ c.in_ok-x-in-Or.x c.in_ok-y-in-Or.y c.or_tree.result
    (rw c.deref-in-Or.ensures at c.in_ok-x-in-Or.ensures) (rw c.deref-in-Or-2.ensures at c.in_ok-y-in-Or.ensures) c.or_tree.ensures.built c.or_tree.ensures.folded)

-- ---- lists

pub branches_at-returns-in_ok-expression-in-Else : goal.branches_at-returns-in_ok-expression-in-Else
branches_at-returns-in_ok-expression-in-Else t c =
    rw c.in-Else.is
    (else_made _ _ _ c.args.to c.at_scale-x.result c.else_tree.result
    (c.at_scale-x.ensures.stands _ _ _ (rw c.deref.ensures at c.in_ok-expression-in-Else.ensures)) c.else_tree.ensures.built c.else_tree.ensures.folded)

pub branches_at-returns-in_ok-others-in-When : goal.branches_at-returns-in_ok-others-in-When
branches_at-returns-in_ok-others-in-When t c =
    rw c.in-When.is
    (when_made _ _ _ _ _ _ _ _ _ c.args.to c.in_ok-t-in-When.t c.at_scale-x-in-When.result c.in_ok-others-in-When.others c.when_tree.result
    (rw c.deref-in-When.ensures at c.in_ok-t-in-When.ensures)
    (c.at_scale-x-in-When.ensures.stands _ _ _ (rw c.deref-in-When-2.ensures at c.in_ok-expression-in-When.ensures))
    (rw c.deref-in-When-3.ensures at c.in_ok-others-in-When.ensures) c.when_tree.ensures.built c.when_tree.ensures.folded)

pub matches_at-returns-in_ok-expression-in-Last-3 : goal.matches_at-returns-in_ok-expression-in-Last-3
matches_at-returns-in_ok-expression-in-Last-3 t c =
    let old = c.args.matches.now in
    last_match_made c.args.operand c.args.to c.in-Last.wanted.value c.in-Last.result.value c.in-Last.other.value c.args.matches.now _ _ _ _ _ _ c.at_scale-v.result c.at_scale-x.result c.at_scale-y.result c.last_match_tree.result
    (λ a. rw c.in-Last.is refl) (rw c.in-Last.is refl) (rw c.in-Last.is refl)
    (c.at_scale-v.ensures.stands _ _ _ (rw c.deref.ensures at c.in_ok-expression-in-Last.ensures))
    (c.at_scale-x.ensures.stands _ _ _ (rw c.deref-in-Last.ensures at c.in_ok-expression-in-Last-2.ensures))
    (c.at_scale-y.ensures.stands _ _ _ (rw c.deref-in-Last-2.ensures at c.in_ok-expression-in-Last-3.ensures))
    c.last_match_tree.ensures.built c.last_match_tree.ensures.folded

pub matches_at-returns-in_ok-others-in-When : goal.matches_at-returns-in_ok-others-in-When
matches_at-returns-in_ok-others-in-When t c =
    more_match_made c.args.operand c.args.to c.in-When.wanted.value c.in-When.result.value c.in-When.rest.value c.args.matches.now _ _ _ _ c.at_scale-v-in-When.result c.at_scale-x-in-When.result c.in_ok-others-in-When.others c.more_match_tree.result
    (λ a. rw c.in-When.is refl) (rw c.in-When.is refl) (rw c.in-When.is refl)
    (c.at_scale-v-in-When.ensures.stands _ _ _ (rw c.deref-in-When.ensures at c.in_ok-expression-in-When.ensures))
    (c.at_scale-x-in-When.ensures.stands _ _ _ (rw c.deref-in-When-2.ensures at c.in_ok-expression-in-When-2.ensures))
    (rw c.deref-in-When-3.ensures at c.in_ok-others-in-When.ensures) c.more_match_tree.ensures.built c.more_match_tree.ensures.folded
