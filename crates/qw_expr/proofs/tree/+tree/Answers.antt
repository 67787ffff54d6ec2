use Rattle.std.proofs.Common.{rules, ◌+◌, ◌*◌, ◌≤◌, sym, subst, inr, w32, w64, arith}
use Rattle.qw_types.proofs.KindLemmas.{day_number}
use Rattle.qw_scalar.specs.declared.expression.Expr.{the_lemmas}
use Rattle.qw_scalar.specs.Expression.{among, brought, coalesced, column, date, largest_result, null, number}
use Rattle.qw_scalar.specs.Tree.{choices_of, expression_of, expressions_of, matches_of}
use Rattle.qw_scalar.specs.Nodes.{nodes, nodes_of_all}
use Rattle.qw_scalar.specs.Typing.{IsTyped, kind_of}
use Rattle.std.proofs.lemmas.Int.{to_z-of_z}
use Rattle.qw_wide.proofs.Words.{fits_small}
use Rattle.qw_low.proofs.Appended.{if_ok}
use Rattle.qw_expr.specs.Bindings.{IsAmong, Knows, known_of}
use Rattle.qw_expr.specs.Emits.{free_of}
use Rattle.qw_expr.specs.Inner.Made.{Made, with_operand}
use Rattle.qw_expr.proofs.Abbreviations.{among_before, among_first, among_known, among_typed, between_first, coalesced_before, compared_first, matched_before, matched_known, matched_typed}
use Rattle.qw_expr.proofs.Comparable.{comparable_kinds}
use Rattle.qw_expr.proofs.Extents.{comparing_most}
use Rattle.qw_expr.proofs.Literals.{date_small}
use Rattle.qw_expr.proofs.Nulls.{below_more, known_below_more}
use Rattle.qw_expr.proofs.TreeChoices.{asks_at, asks_rest, begun_grows, branch_room, choice_made, coalesced_room, first_made, last_room, made_at, made_more, match_room, null_where_made}
use Rattle.qw_expr.proofs.Trees.{at_most, begun_served, between_room, four_parts, if_short, includes_same, junction_made, leaf_made, made_of, operand_emits, rest_served, scale_low, served_more, shared_made, shared_truth_made, truth_made_of, with_served}
use Rattle.qw_expr.proofs.tree.+tree.Goals as goal

pub against-expression-requires : goal.against-expression-requires
against-expression-requires t c =
    (search (rules, the_lemmas), (c.requires.typed.0.1, (c.requires.known.1, rest_served _ (known_of c.args.known.now) (expression_of c.args.operand.now) c.args.x c.requires.served)))

pub against-compare-requires-clause-scales : goal.against-compare-requires-clause-scales
against-compare-requires-clause-scales t c =
    (subst (λ k. k ≤ 18) (sym c.requires.served.1.0.1) (scale_low (expression_of c.args.operand.now) c.requires.typed.0.0), c.in_ok-y.ensures.scale_low)

pub against-compare-requires-clause-comparable : goal.against-compare-requires-clause-comparable
against-compare-requires-clause-comparable t c =
    comparable_kinds c.args.x.kind c.in_ok-y.y.kind (kind_of (expression_of c.args.operand.now)) (kind_of (expression_of c.args.right.now)) c.requires.served.1.0.0 c.in_ok-y.ensures.kind_is c.requires.typed.1

pub against-compare-requires-clause-below : goal.against-compare-requires-clause-below
against-compare-requires-clause-below t c =
    (below_more (free_of c.args.emitter.now) (free_of c.expression.new.emitter) c.args.x.cell c.in_ok-y.ensures.grows c.requires.served.0.0, c.in_ok-y.ensures.below)

pub against-returns : goal.against-returns
against-returns t c =
    let e = expression_of c.args.operand.now in
    let r = expression_of c.args.right.now in
    let my = c.in_ok-y.ensures in
    let old = c.args.emitter.now in
    if_short _ _ _ c.compare.result
    (λ out does short. truth_made_of _ _ _ _ _ _ c.requires.served (omega arith)
    (λ more include low. does more e r old old c.requires.typed low (operand_emits (known_of c.args.known.now) more e c.args.x old c.requires.served include low) (my.emits more (λ k among. include k (inr among)) low))) c.compare.ensures.emits c.compare.ensures.short

pub among-among-requires : goal.among-among-requires
among-among-requires t c =
    let served = begun_served (with_operand (expression_of c.args.operand.now) c.args.x (known_of c.args.known.now)) _ c.against-in-More.new.emitter c.begin_or.new.self c.in_ok-begin_or-in-More.ensures.emits c.in_ok-t-in-More.ensures.served in
    let typed = rw c.in-More.is at c.requires.typed in
    let known = rw c.in-More.is at c.requires.known in
    (search (rules, the_lemmas), (rw c.deref-in-More-2.ensures typed.1, (rw c.deref-in-More-2.ensures known.1, served)))

pub among-returns-in-Last : goal.among-returns-in-Last
among-returns-in-Last t c =
    rw c.in-Last.is
    (if_ok _ _ c.against.result (λ out made. truth_made_of _ _ _ _ _ _ c.requires.served (omega arith) made.emits) (rw c.deref.ensures at c.against.ensures))

pub among-returns-in_ok-u-in-More : goal.among-returns-in_ok-u-in-More
among-returns-in_ok-u-in-More t c =
    let mt = rw c.deref-in-More.ensures at c.in_ok-t-in-More.ensures in
    let mu = rw c.deref-in-More-2.ensures at c.in_ok-u-in-More.ensures in
    let begins = c.in_ok-begin_or-in-More.ensures in
    rw c.in-More.is
    (if_short _ _ _ c.end_or.result
    (λ out does short. junction_made _ _ _ _ _ _ _ _ _ _ _ _ _ _ _ _ c.requires.served mt begins.emits mu (λ more low ec ed. does more _ _ _ _ _ low ec begins.emits ed)
    (omega arith)) c.end_or.ensures.emits c.end_or.ensures.short)

-- ---- an expression that is brought to a scale, and the first result of a choice
pub scaled-brought-requires-clause-scales : goal.scaled-brought-requires-clause-scales
scaled-brought-requires-clause-scales t c =
    (subst (λ k. k ≤ c.args.to) (sym c.in_ok-a.ensures.scale_is) c.requires.typed.1.0, c.requires.typed.1.1)

pub scaled-returns : goal.scaled-returns
scaled-returns t c =
    let ma = c.in_ok-a.ensures in
    if_short _ _ _ c.brought.result
    (λ out does short. made_of _ _ _ _ _ _ c.requires.typed c.requires.served (omega arith)
    (λ more all low. does more _ _ c.requires.typed low (ma.emits more all low))) c.brought.ensures.emits c.brought.ensures.short

pub first_result-expression-requires : goal.first_result-expression-requires
first_result-expression-requires t c =
    let far = begun_grows c.args.test.value c.args.form.text c.args.emitter.now c.begin_choice.new.self c.in_ok-place.place c.in_ok-place.ensures.emits in
    (search (rules, the_lemmas), (c.requires.typed.0, (c.requires.known, served_more (free_of c.args.emitter.now) (free_of c.begin_choice.new.self) (known_of c.args.known.now) far c.requires.served)))

pub first_result-first_brought-requires-clause-scales : goal.first_result-first_brought-requires-clause-scales
first_result-first_brought-requires-clause-scales t c =
    (subst (λ k. k ≤ c.args.form.scale) (sym c.in_ok-a.ensures.scale_is) c.requires.typed.1.0, c.requires.typed.1.1)

pub first_result-returns : goal.first_result-returns
first_result-returns t c =
    λ all d most start include served mt.
    let begins = c.in_ok-place.ensures in
    let ma = c.in_ok-a.ensures in
    first_made _ _ d _ _ c.args.form.text _ _ _ start _ _ _ _ c.args.test _ _ _ served include mt begins.emits ma
    (λ more low ec ea. c.in_ok-first.ensures.emits more d _ c.args.form.text start _ _ c.args.test c.requires.typed low ec begins.emits ea)
    (omega (arith, mt.short, begins.short, ma.short, c.in_ok-first.ensures.short))

-- ---- the first result whose condition is true
pub branch-returns-in-Else : goal.branch-returns-in-Else
branch-returns-in-Else t c =
    rw c.in-Else.is
    (if_ok _ _ c.scaled.result (λ out made. made_more _ _ _ _ _ _ _ _ (includes_same _) c.requires.served made (omega arith)) (rw c.deref.ensures at c.scaled.ensures))

pub branch-first_result-requires : goal.branch-first_result-requires
branch-first_result-requires t c =
    let mt = rw c.deref-in-When.ensures at c.in_ok-t-in-When.ensures in
    let asks = rw c.in-When.is at c.requires.asks in
    (search (rules, the_lemmas), (rw c.deref-in-When-2.ensures asks.typed.1.0.0, (rw c.deref-in-When-2.ensures asks.takes.1.0, mt.served)))

pub branch-branch-emitter-requires : goal.branch-branch-emitter-requires
branch-branch-emitter-requires t c =
    let mt = rw c.deref-in-When.ensures at c.in_ok-t-in-When.ensures in
    let begun = c.in_ok-begun-in-When.ensures _ _ _ _ (includes_same _) c.requires.served mt in
    let asks = rw c.in-When.is at c.requires.asks in
    (search (rules, the_lemmas), (rw c.deref-in-When-3.ensures (asks_rest _ _ _ _ _ asks), begun.served))

pub branch-returns-in_ok-second-in-When : goal.branch-returns-in_ok-second-in-When
branch-returns-in_ok-second-in-When t c =
    let mt = rw c.deref-in-When.ensures at c.in_ok-t-in-When.ensures in
    let begun = (rw c.deref-in-When-2.ensures at c.in_ok-begun-in-When.ensures) _ _ _ _ (includes_same _) c.requires.served mt in
    let mb = rw c.deref-in-When-3.ensures at c.in_ok-second-in-When.ensures in
    let asks = rw c.in-When.is at c.requires.asks in
    rw c.in-When.is
    (if_short _ _ _ c.end_choice.result
    (λ out does short. choice_made _ _ _ _ _ _ _ _ _ _ _ _ _ _ _ asks.typed c.requires.served begun mb (λ more low h eb. does more _ _ _ _ _ _ asks.typed asks.suits low h eb) short (branch_room _ _ _)) c.end_choice.ensures.emits c.end_choice.ensures.short)

-- ---- the first argument that isn't null
pub coalesce-returns-in-Last : goal.coalesce-returns-in-Last
coalesce-returns-in-Last t c =
    rw c.in-Last.is
    (if_ok _ _ c.scaled.result (λ out made. made_more _ _ _ _ _ _ _ _ (includes_same _) c.requires.served made (omega arith)) (rw c.deref.ensures at c.scaled.ensures))

pub coalesce-unless_null-requires : goal.coalesce-unless_null-requires
coalesce-unless_null-requires t c =
    let asks = rw c.in-More.is at c.requires.asks in
    let mx = rw c.deref-in-More.ensures at c.in_ok-x-in-More.ensures in
    record { typed = rw c.deref-in-More-2.ensures asks.typed.1.0.0; served = rw c.deref-in-More-2.ensures (with_served _ _ _ _ _ _ mx) }

pub coalesce-coalesce-requires : goal.coalesce-coalesce-requires
coalesce-coalesce-requires t c =
    let begun = rw c.deref-in-More-2.ensures at c.in_ok-begun-in-More.ensures in
    let asks = rw c.in-More.is at c.requires.asks in
    (search (rules, the_lemmas), (rw c.deref-in-More-3.ensures (asks_rest _ _ _ _ _ asks), rest_served _ (known_of c.args.known.now) (expression_of c.in-More.argument.value) c.in_ok-x-in-More.x begun.served))

pub coalesce-returns-in_ok-second-in-More : goal.coalesce-returns-in_ok-second-in-More
coalesce-returns-in_ok-second-in-More t c =
    let mx = rw c.deref-in-More.ensures at c.in_ok-x-in-More.ensures in
    let begun = rw c.deref-in-More-2.ensures at c.in_ok-begun-in-More.ensures in
    let mb = rw c.deref-in-More-3.ensures at c.in_ok-second-in-More.ensures in
    let asks = rw c.in-More.is at c.requires.asks in
    let served = with_served _ _ _ _ _ _ mx in
    rw c.in-More.is
    (if_short _ _ _ c.end_choice.result
    (λ out does short. shared_made _ _ _ _ _ _ _ _ _ _ _ asks.typed c.requires.served mx
    (choice_made _ _ _ _ _ _ _ _ _ _ _ _ _ _ _ asks.typed served begun (made_more _ _ _ _ _ _ _ _ (λ k among. inr among) begun.served mb (at_most _)) (λ more low h eb. does more _ _ _ _ _ _ asks.typed asks.suits low h eb) short (at_most _))
    (coalesced_before _ _ _) (coalesced_room _ _)) c.end_choice.ensures.emits c.end_choice.ensures.short)

-- ---- the first result whose value equals an operand's
pub matched-first_result-requires : goal.matched-first_result-requires
matched-first_result-requires t c =
    let mt = rw c.deref.ensures at c.in_ok-t-in-Last.ensures in
    let asks = rw c.in-Last.is at c.requires.asks in
    (search (rules, the_lemmas), (rw c.deref-in-Last.ensures asks.typed.1.0.0, (rw c.deref-in-Last.ensures asks.takes.1.0, rest_served _ (known_of c.args.known.now) (expression_of c.args.operand.now) c.args.x mt.served)))

pub matched-scaled-requires : goal.matched-scaled-requires
matched-scaled-requires t c =
    let mt = rw c.deref.ensures at c.in_ok-t-in-Last.ensures in
    let begun = c.in_ok-begun-in-Last.ensures _ _ _ _ (λ k among. inr among) c.requires.served mt in
    let asks = rw c.in-Last.is at c.requires.asks in
    (search (rules, the_lemmas), (rw c.deref-in-Last-2.ensures asks.typed.1.0.1, (rw c.deref-in-Last-2.ensures asks.takes.1.1, rest_served _ (known_of c.args.known.now) (expression_of c.args.operand.now) c.args.x begun.served)))

pub matched-returns-in_ok-second-in-Last : goal.matched-returns-in_ok-second-in-Last
matched-returns-in_ok-second-in-Last t c =
    let mt = rw c.deref.ensures at c.in_ok-t-in-Last.ensures in
    let begun = (rw c.deref-in-Last.ensures at c.in_ok-begun-in-Last.ensures) _ _ _ _ (λ k among. inr among) c.requires.served mt in
    let mb = rw c.deref-in-Last-2.ensures at c.in_ok-second-in-Last.ensures in
    let asks = rw c.in-Last.is at c.requires.asks in
    rw c.in-Last.is
    (if_short _ _ _ c.end_choice.result
    (λ out does short. choice_made _ _ _ _ _ _ _ _ _ _ _ _ _ _ _ asks.typed c.requires.served begun (made_more _ _ _ _ _ _ _ _ (λ k among. inr among) begun.served mb (at_most _))
    (λ more low h eb. does more _ _ _ _ _ _ asks.typed asks.suits low h eb) short (last_room _ _ _)) c.end_choice.ensures.emits c.end_choice.ensures.short)

pub matched-first_result-requires-in-When : goal.matched-first_result-requires-in-When
matched-first_result-requires-in-When t c =
    let mt = rw c.deref-in-When.ensures at c.in_ok-t-in-When.ensures in
    let asks = rw c.in-When.is at c.requires.asks in
    (search (rules, the_lemmas), (rw c.deref-in-When-2.ensures asks.typed.1.0.0, (rw c.deref-in-When-2.ensures asks.takes.1.0, rest_served _ (known_of c.args.known.now) (expression_of c.args.operand.now) c.args.x mt.served)))

pub matched-matched-requires : goal.matched-matched-requires
matched-matched-requires t c =
    let mt = rw c.deref-in-When.ensures at c.in_ok-t-in-When.ensures in
    let begun = c.in_ok-begun-in-When.ensures _ _ _ _ (λ k among. inr among) c.requires.served mt in
    let asks = rw c.in-When.is at c.requires.asks in
    (search (rules, the_lemmas), (rw c.deref-in-When-3.ensures (asks_rest _ _ _ _ _ asks), begun.served))

pub matched-returns-in_ok-second-in-When : goal.matched-returns-in_ok-second-in-When
matched-returns-in_ok-second-in-When t c =
    let mt = rw c.deref-in-When.ensures at c.in_ok-t-in-When.ensures in
    let begun = (rw c.deref-in-When-2.ensures at c.in_ok-begun-in-When.ensures) _ _ _ _ (λ k among. inr among) c.requires.served mt in
    let mb = rw c.deref-in-When-3.ensures at c.in_ok-second-in-When.ensures in
    let asks = rw c.in-When.is at c.requires.asks in
    rw c.in-When.is
    (if_short _ _ _ c.end_choice-in-When.result
    (λ out does short. choice_made _ _ _ _ _ _ _ _ _ _ _ _ _ _ _ asks.typed c.requires.served begun mb (λ more low h eb. does more _ _ _ _ _ _ asks.typed asks.suits low h eb) short (match_room _ _ _)) c.end_choice-in-When.ensures.emits c.end_choice-in-When.ensures.short)

-- ---- the first argument, and null where it equals one of the others
pub unless_among-scaled-requires : goal.unless_among-scaled-requires
unless_among-scaled-requires t c =
    let asks = rw c.in-Last.is at c.requires.asks in
    let same = rw c.in-Last.is at c.requires.scale in
    (search (rules, the_lemmas), (rw c.deref.ensures (subst (λ k. IsTyped (brought (expression_of c.in-Last.argument.value) k)) (sym same) asks.typed), (rw c.deref.ensures asks.takes, c.requires.served)))

-- it is brought to the scale that it has
pub unless_among-returns-in-Last : goal.unless_among-returns-in-Last
unless_among-returns-in-Last t c =
    let e = expression_of c.in-Last.argument.value in
    let same = rw c.in-Last.is at c.requires.scale in
    rw c.in-Last.is
    (if_ok _ _ c.scaled.result
    (λ out made. made_more _ _ _ _ _ _ _ _ (includes_same _) c.requires.served (subst (λ k. Made (known_of c.args.known.now) (brought e k) (400 * nodes c.in-Last.argument.value + 85) c.args.emitter.now c.scaled.new.emitter out) same made) (omega arith))
    (rw c.deref.ensures at c.scaled.ensures))

pub unless_among-among-requires : goal.unless_among-among-requires
unless_among-among-requires t c =
    let mx = rw c.deref-in-More.ensures at c.in_ok-x-in-More.ensures in
    let asks = rw c.in-More.is at c.requires.asks in
    (search (rules, the_lemmas), (rw (c.deref-in-More-2.ensures, c.deref-in-More-3.ensures) asks.typed.0, (rw (c.deref-in-More-2.ensures, c.deref-in-More-3.ensures) asks.takes.0, rw c.deref-in-More-3.ensures (with_served _ _ _ _ _ _ mx))))

pub unless_among-returns-in_ok-t-in-More : goal.unless_among-returns-in_ok-t-in-More
unless_among-returns-in_ok-t-in-More t c =
    let e = expression_of c.in-More.argument.value in
    let vs = expressions_of c.in-More.others.value in
    let mx = rw c.deref-in-More.ensures at c.in_ok-x-in-More.ensures in
    let mt = rw (c.deref-in-More-2.ensures, c.deref-in-More-3.ensures) at c.in_ok-t-in-More.ensures in
    let asks = rw c.in-More.is at c.requires.asks in
    rw c.in-More.is
    (if_short _ _ _ c.null_where.result
    (λ out does short. shared_made _ _ _ _ (400 * nodes_of_all c.in-More.others.value + 25) _ _ _ _ _ _ asks.typed c.requires.served mx
    (null_where_made _ (among e vs) e _ _ _ _ _ _ _ _ asks.typed (with_served _ _ _ _ _ _ mx) mt (λ more low ec here. does more (among e vs) e _ asks.typed asks.suits low ec here) (omega arith)) (among_before e vs) (omega arith)) c.null_where.ensures.emits c.null_where.ensures.short)

-- ---- conditions
pub condition-against-requires : goal.condition-against-requires
condition-against-requires t c =
    let made = rw c.deref.ensures at c.in_ok-x-in-Compare.ensures in
    let typed = rw c.in-Compare.is at c.requires.typed in
    let known = rw c.in-Compare.is at c.requires.known in
    (search (rules, the_lemmas), (rw (c.deref-in-Compare.ensures, c.deref-in-Compare-2.ensures) typed, (rw (c.deref-in-Compare.ensures, c.deref-in-Compare-2.ensures) known, rw c.deref-in-Compare-2.ensures (with_served _ _ _ _ _ _ made))))

pub condition-returns-in_ok-x-in-Compare : goal.condition-returns-in_ok-x-in-Compare
condition-returns-in_ok-x-in-Compare t c =
    let made = rw c.deref.ensures at c.in_ok-x-in-Compare.ensures in
    let most = comparing_most c.in-Compare.operator in
    rw c.in-Compare.is
    (if_ok _ _ c.against.result
    (λ out mc. shared_truth_made _ _ _ _ _ _ _ _ _ _ _ c.requires.served made mc (compared_first _ _ _) (omega arith))
    (rw (c.deref-in-Compare.ensures, c.deref-in-Compare-2.ensures) at c.against.ensures))

pub condition-against-requires-in-Between : goal.condition-against-requires-in-Between
condition-against-requires-in-Between t c =
    let made = rw c.deref-in-Between.ensures at c.in_ok-x-in-Between.ensures in
    let typed = rw c.in-Between.is at c.requires.typed in
    let known = rw c.in-Between.is at c.requires.known in
    (search (rules, the_lemmas), (rw (c.deref-in-Between-2.ensures, c.deref-in-Between-3.ensures) typed.0, (rw (c.deref-in-Between-2.ensures, c.deref-in-Between-3.ensures) known.0, rw c.deref-in-Between-3.ensures (with_served _ _ _ _ _ _ made))))

pub condition-against-requires-in-Between-2 : goal.condition-against-requires-in-Between-2
condition-against-requires-in-Between-2 t c =
    let with = with_operand (expression_of c.in-Between.operand.value) c.in_ok-x-in-Between.x (known_of c.args.known.now) in
    let mt = rw (c.deref-in-Between-2.ensures, c.deref-in-Between-3.ensures) at c.in_ok-t-in-Between.ensures in
    let served = begun_served with _ c.against-in-Between.new.emitter c.begin_and.new.self c.in_ok-begin_and-in-Between.ensures.emits mt.served in
    let typed = rw c.in-Between.is at c.requires.typed in
    let known = rw c.in-Between.is at c.requires.known in
    (search (rules, the_lemmas), (rw (c.deref-in-Between-4.ensures, c.deref-in-Between-5.ensures) typed.1, (rw (c.deref-in-Between-4.ensures, c.deref-in-Between-5.ensures) known.1, rw c.deref-in-Between-5.ensures served)))

pub condition-returns-in_ok-u-in-Between : goal.condition-returns-in_ok-u-in-Between
condition-returns-in_ok-u-in-Between t c =
    let made = rw c.deref-in-Between.ensures at c.in_ok-x-in-Between.ensures in
    let mt = rw (c.deref-in-Between-2.ensures, c.deref-in-Between-3.ensures) at c.in_ok-t-in-Between.ensures in
    let mu = rw (c.deref-in-Between-4.ensures, c.deref-in-Between-5.ensures) at c.in_ok-u-in-Between.ensures in
    let begins = c.in_ok-begin_and-in-Between.ensures in
    rw c.in-Between.is
    (if_short _ _ _ c.end_and.result
    (λ out does short. shared_truth_made _ _ _ _ _ _ _ _ _ _ _ c.requires.served made
    (junction_made _ _ _ _ _ _ _ _ _ _ _ _ _ _ _ _ (with_served _ _ _ _ _ _ made) mt begins.emits mu (λ more low ec ed. does more _ _ _ _ _ low ec begins.emits ed) (four_parts _ _ _ _ _ _ _ _ _ mt.short begins.short mu.short short))
    (between_first _ _ _) (between_room _ _ _)) c.end_and.ensures.emits c.end_and.ensures.short)

pub condition-expression-requires-in-In : goal.condition-expression-requires-in-In
condition-expression-requires-in-In t c =
    let e = expression_of c.in-In.operand.value in
    let vs = expressions_of c.in-In.values.value in
    let typed = rw c.in-In.is at c.requires.typed in
    let known = rw c.in-In.is at c.requires.known in
    (search (rules, the_lemmas), (rw c.deref-in-In.ensures (among_typed e vs typed), (rw c.deref-in-In.ensures (among_known (known_of c.args.known.now) e vs known), c.requires.served)))

pub condition-among-requires : goal.condition-among-requires
condition-among-requires t c =
    let made = rw c.deref-in-In.ensures at c.in_ok-x-in-In.ensures in
    let typed = rw c.in-In.is at c.requires.typed in
    let known = rw c.in-In.is at c.requires.known in
    (search (rules, the_lemmas), (rw (c.deref-in-In-2.ensures, c.deref-in-In-3.ensures) typed, (rw (c.deref-in-In-2.ensures, c.deref-in-In-3.ensures) known, rw c.deref-in-In-3.ensures (with_served _ _ _ _ _ _ made))))

pub condition-returns-in_ok-x-in-In : goal.condition-returns-in_ok-x-in-In
condition-returns-in_ok-x-in-In t c =
    let made = rw c.deref-in-In.ensures at c.in_ok-x-in-In.ensures in
    rw c.in-In.is
    (if_ok _ _ c.among.result
    (λ out mc. shared_truth_made _ _ _ _ _ _ _ _ _ _ _ c.requires.served made mc (among_first _ (expressions_of c.in-In.values.value)) (omega arith))
    (rw (c.deref-in-In-2.ensures, c.deref-in-In-3.ensures) at c.among.ensures))

pub condition-returns-in_ok-x-in-Predicate : goal.condition-returns-in_ok-x-in-Predicate
condition-returns-in_ok-x-in-Predicate t c =
    let made = rw c.deref-in-Predicate.ensures at c.in_ok-x-in-Predicate.ensures in
    rw c.in-Predicate.is
    (if_short _ _ _ c.predicate.result
    (λ out does short. truth_made_of _ _ _ _ _ _ c.requires.served (omega arith) (λ more all low. does more _ _ (made.emits more all low))) c.predicate.ensures.emits c.predicate.ensures.short)

pub condition-condition-requires-in-And : goal.condition-condition-requires-in-And
condition-condition-requires-in-And t c =
    let mt = rw c.deref-in-And.ensures at c.in_ok-t-in-And.ensures in
    let typed = rw c.in-And.is at c.requires.typed in
    let known = rw c.in-And.is at c.requires.known in
    let served = begun_served (known_of c.args.known.now) _ c.condition.new.emitter c.begin_and-in-And.new.self c.in_ok-begin_and-in-And.ensures.emits mt.served in
    (search (rules, the_lemmas), (rw c.deref-in-And-2.ensures typed.1, (rw c.deref-in-And-2.ensures known.1, served)))

pub condition-returns-in_ok-u-in-And : goal.condition-returns-in_ok-u-in-And
condition-returns-in_ok-u-in-And t c =
    let mt = rw c.deref-in-And.ensures at c.in_ok-t-in-And.ensures in
    let mu = rw c.deref-in-And-2.ensures at c.in_ok-u-in-And.ensures in
    let begins = c.in_ok-begin_and-in-And.ensures in
    rw c.in-And.is
    (if_short _ _ _ c.end_and-in-And.result
    (λ out does short. junction_made _ _ _ _ _ _ _ _ _ _ _ _ _ _ _ _ c.requires.served mt begins.emits mu (λ more low ec ed. does more _ _ _ _ _ low ec begins.emits ed) (omega arith)) c.end_and-in-And.ensures.emits c.end_and-in-And.ensures.short)

pub condition-condition-requires-in-Or-2 : goal.condition-condition-requires-in-Or-2
condition-condition-requires-in-Or-2 t c =
    let mt = rw c.deref-in-Or.ensures at c.in_ok-t-in-Or.ensures in
    let typed = rw c.in-Or.is at c.requires.typed in
    let known = rw c.in-Or.is at c.requires.known in
    let served = begun_served (known_of c.args.known.now) _ c.condition-in-Or.new.emitter c.begin_or.new.self c.in_ok-begin_or-in-Or.ensures.emits mt.served in
    (search (rules, the_lemmas), (rw c.deref-in-Or-2.ensures typed.1, (rw c.deref-in-Or-2.ensures known.1, served)))

pub condition-returns-in_ok-u-in-Or : goal.condition-returns-in_ok-u-in-Or
condition-returns-in_ok-u-in-Or t c =
    let mt = rw c.deref-in-Or.ensures at c.in_ok-t-in-Or.ensures in
    let mu = rw c.deref-in-Or-2.ensures at c.in_ok-u-in-Or.ensures in
    let begins = c.in_ok-begin_or-in-Or.ensures in
    rw c.in-Or.is
    (if_short _ _ _ c.end_or.result
    (λ out does short. junction_made _ _ _ _ _ _ _ _ _ _ _ _ _ _ _ _ c.requires.served mt begins.emits mu (λ more low ec ed. does more _ _ _ _ _ low ec begins.emits ed) (omega arith)) c.end_or.ensures.emits c.end_or.ensures.short)

pub condition-returns-in_ok-t-in-Not : goal.condition-returns-in_ok-t-in-Not
condition-returns-in_ok-t-in-Not t c =
    let mt = rw c.deref-in-Not.ensures at c.in_ok-t-in-Not.ensures in
    rw c.in-Not.is
    (if_short _ _ _ c.negation.result
    (λ out does short. truth_made_of _ _ _ _ _ _ c.requires.served (omega arith) (λ more all low. does more _ _ (mt.emits more all low))) c.negation.ensures.emits c.negation.ensures.short)

pub condition-returns-in_ok-t-in-Is : goal.condition-returns-in_ok-t-in-Is
condition-returns-in_ok-t-in-Is t c =
    let mt = rw c.deref-in-Is.ensures at c.in_ok-t-in-Is.ensures in
    rw c.in-Is.is
    (if_short _ _ _ c.is_truth.result
    (λ out does short. truth_made_of _ _ _ _ _ _ c.requires.served (omega arith) (λ more all low. does more _ _ (mt.emits more all low))) c.is_truth.ensures.emits c.is_truth.ensures.short)

-- ---- expressions
pub expression-returns-in-Null : goal.expression-returns-in-Null
expression-returns-in-Null t c =
    rw c.in-Null.is
    (if_short _ _ _ c.null.result (λ out does short. made_of _ null _ _ _ _ tt c.requires.served (omega arith) (λ more all low. does more)) c.null.ensures.emits c.null.ensures.short)

pub expression-returns-in-Column : goal.expression-returns-in-Column
expression-returns-in-Column t c =
    let typed = rw c.in-Column.is at c.requires.typed in
    rw c.in-Column.is (leaf_made (known_of c.args.known.now) (column c.in-Column.index c.in-Column.ty) c.args.emitter.now c.column_of.result typed c.requires.served c.column_of.ensures)

pub expression-returns-in_ok-b-in-Arithmetic : goal.expression-returns-in_ok-b-in-Arithmetic
expression-returns-in_ok-b-in-Arithmetic t c =
    let ma = rw c.deref.ensures at c.in_ok-a-in-Arithmetic.ensures in
    let mb = rw c.deref-in-Arithmetic.ensures at c.in_ok-b-in-Arithmetic.ensures in
    let typed = rw c.in-Arithmetic.is at c.requires.typed in
    rw c.in-Arithmetic.is
    (if_short _ _ _ c.arithmetic.result
    (λ out does short. made_of _ _ _ _ _ _ typed c.requires.served (omega arith)
    (λ more all low. does more _ _ _ _ typed low (ma.emits more all low) (mb.emits more all (known_below_more _ _ more ma.grows low)))) c.arithmetic.ensures.emits c.arithmetic.ensures.short)

pub expression-returns-in_ok-a-in-Negative : goal.expression-returns-in_ok-a-in-Negative
expression-returns-in_ok-a-in-Negative t c =
    let ma = rw c.deref-in-Negative.ensures at c.in_ok-a-in-Negative.ensures in
    let typed = rw c.in-Negative.is at c.requires.typed in
    rw c.in-Negative.is
    (if_short _ _ _ c.negative.result
    (λ out does short. made_of _ _ _ _ _ _ typed c.requires.served (omega arith) (λ more all low. does more _ _ typed low (ma.emits more all low))) c.negative.ensures.emits c.negative.ensures.short)

pub expression-returns-in_ok-a-in-Extract : goal.expression-returns-in_ok-a-in-Extract
expression-returns-in_ok-a-in-Extract t c =
    let ma = rw c.deref-in-Extract.ensures at c.in_ok-a-in-Extract.ensures in
    let typed = rw c.in-Extract.is at c.requires.typed in
    rw c.in-Extract.is
    (if_short _ _ _ c.extract.result
    (λ out does short. made_of _ _ _ _ _ _ typed c.requires.served (omega arith) (λ more all low. does more _ _ typed low (ma.emits more all low))) c.extract.ensures.emits c.extract.ensures.short)

pub expression-branch-emitter-requires : goal.expression-branch-emitter-requires
expression-branch-emitter-requires t c =
    let asks = asks_at _ _ (choices_of c.in-Case.branches.value) _ (rw c.in-Case.is at c.of.ensures.scale) (rw c.in-Case.is at c.requires.typed) (rw c.in-Case.is at c.requires.known) (rw c.in-Case.is at c.of.ensures.text) in
    (search (rules, the_lemmas), (rw c.deref-in-Case.ensures asks, c.requires.served))

pub expression-returns-in-Case : goal.expression-returns-in-Case
expression-returns-in-Case t c =
    let scale = rw c.in-Case.is at c.of.ensures.scale in
    rw c.in-Case.is
    (if_ok _ _ c.branch-emitter.result (λ out made. made_more _ _ _ _ _ _ _ _ (includes_same _) c.requires.served (made_at _ (choices_of c.in-Case.branches.value) _ _ _ _ _ scale made) (omega arith)) (rw c.deref-in-Case.ensures at c.branch-emitter.ensures))

pub expression-expression-requires-in-Match : goal.expression-expression-requires-in-Match
expression-expression-requires-in-Match t c =
    let e = expression_of c.in-Match.operand.value in
    let matches = c.in-Match.matches.value in
    let to = largest_result (matches_of matches e) in
    let typed = rw c.in-Match.is at c.requires.typed in
    let known = rw c.in-Match.is at c.requires.known in
    (search (rules, the_lemmas), (rw c.deref-in-Match.ensures (matched_typed to matches e typed), (rw c.deref-in-Match.ensures (matched_known (known_of c.args.known.now) to matches e known), c.requires.served)))

pub expression-matched-requires : goal.expression-matched-requires
expression-matched-requires t c =
    let choices = matches_of c.in-Match.matches.value (expression_of c.in-Match.operand.value) in
    let made = rw c.deref-in-Match.ensures at c.in_ok-x-in-Match.ensures in
    let asks = asks_at _ _ choices _ (rw c.in-Match.is at c.of-in-Match.ensures.scale) (rw c.in-Match.is at c.requires.typed) (rw c.in-Match.is at c.requires.known) (rw c.in-Match.is at c.of-in-Match.ensures.text) in
    (search (rules, the_lemmas), (rw (c.deref-in-Match-2.ensures, c.deref-in-Match-3.ensures) asks, rw c.deref-in-Match-3.ensures (with_served _ _ _ _ _ _ made)))

pub expression-returns-in_ok-x-in-Match : goal.expression-returns-in_ok-x-in-Match
expression-returns-in_ok-x-in-Match t c =
    let e = expression_of c.in-Match.operand.value in
    let choices = matches_of c.in-Match.matches.value e in
    let scale = rw c.in-Match.is at c.of-in-Match.ensures.scale in
    let made = rw c.deref-in-Match.ensures at c.in_ok-x-in-Match.ensures in
    let typed = rw c.in-Match.is at c.requires.typed in
    rw c.in-Match.is
    (if_ok _ _ c.matched.result
    (λ out me. shared_made _ _ _ _ _ _ _ _ _ _ _ typed c.requires.served made (made_at _ choices _ _ _ _ _ scale me) (matched_before (largest_result choices) c.in-Match.matches.value e) (omega arith))
    (rw (c.deref-in-Match-2.ensures, c.deref-in-Match-3.ensures) at c.matched.ensures))

pub expression-coalesce-requires : goal.expression-coalesce-requires
expression-coalesce-requires t c =
    let asks = asks_at _ _ (coalesced (expressions_of c.in-Call.arguments.value)) _ (rw (c.in-Call.is, c.in-Coalesce.is) at c.of-in-Coalesce.ensures.scale) (rw (c.in-Call.is, c.in-Coalesce.is) at c.requires.typed) (rw (c.in-Call.is, c.in-Coalesce.is) at c.requires.known)
    (rw (c.in-Call.is, c.in-Coalesce.is) at c.of-in-Coalesce.ensures.text) in
    (search (rules, the_lemmas), (rw c.deref-in-Coalesce.ensures asks, c.requires.served))

pub expression-returns-in-Coalesce : goal.expression-returns-in-Coalesce
expression-returns-in-Coalesce t c =
    let scale = rw (c.in-Call.is, c.in-Coalesce.is) at c.of-in-Coalesce.ensures.scale in
    rw (c.in-Call.is, c.in-Coalesce.is)
    (if_ok _ _ c.coalesce.result (λ out made. made_more _ _ _ _ _ _ _ _ (includes_same _) c.requires.served (made_at _ (coalesced (expressions_of c.in-Call.arguments.value)) _ _ _ _ _ scale made) (omega arith)) (rw c.deref-in-Coalesce.ensures at c.coalesce.ensures))

pub expression-unless_among-requires : goal.expression-unless_among-requires
expression-unless_among-requires t c =
    let typed = rw (c.in-Call.is, c.in-NullIf.is) at c.requires.typed in
    let known = rw (c.in-Call.is, c.in-NullIf.is) at c.requires.known in
    let form = rw (c.in-Call.is, c.in-NullIf.is) at c.of-in-NullIf.ensures in
    (search (rules, the_lemmas), (rw c.deref-in-NullIf.ensures (record { typed = typed; takes = known; suits = form.text }), (rw c.deref-in-NullIf.ensures form.scale, c.requires.served)))

pub expression-returns-in-NullIf : goal.expression-returns-in-NullIf
expression-returns-in-NullIf t c =
    rw (c.in-Call.is, c.in-NullIf.is)
    (if_ok _ _ c.unless_among.result (λ out made. made_more _ _ _ _ _ _ _ _ (includes_same _) c.requires.served made (omega arith)) (rw c.deref-in-NullIf.ensures at c.unless_among.ensures))

pub expression-number_of-requires : goal.expression-number_of-requires
expression-number_of-requires t c =
    let typed = rw c.in-Number.is at c.requires.typed in
    let takes = rw c.in-Number.is at c.requires.known in
    subst (λ z. Knows (known_of c.args.known.now) (number z c.in-Number.scale)) (sym (to_z-of_z w64 c.in-Number.value (fits_small c.in-Number.value typed.0))) takes

pub expression-date_of-requires : goal.expression-date_of-requires
expression-date_of-requires t c =
    let typed = rw c.in-Date.is at c.requires.typed in
    let takes = rw c.in-Date.is at c.requires.known in
    subst (λ z. Knows (known_of c.args.known.now) (date z)) (sym (to_z-of_z w32 c.in-Date.day (date_small c.in-Date.day (day_number c.in-Date.day typed)))) takes

pub expression-returns-in-Number : goal.expression-returns-in-Number
expression-returns-in-Number t c =
    let v = c.in-Number.value in
    let s = c.in-Number.scale in
    let typed = rw c.in-Number.is at c.requires.typed in
    let same = to_z-of_z w64 v (fits_small v typed.0) in
    rw c.in-Number.is
    (leaf_made (known_of c.args.known.now) (number v s) c.args.emitter.now c.number_of.result typed c.requires.served
    (subst (λ z. IsAmong (record { expression = number z s; operand = c.number_of.result }) (known_of c.args.known.now)) same c.number_of.ensures))

pub expression-returns-in-Date : goal.expression-returns-in-Date
expression-returns-in-Date t c =
    let d = c.in-Date.day in
    let typed = rw c.in-Date.is at c.requires.typed in
    let same = to_z-of_z w32 d (date_small d (day_number d typed)) in
    rw c.in-Date.is
    (leaf_made (known_of c.args.known.now) (date d) c.args.emitter.now c.date_of.result typed c.requires.served
    (subst (λ z. IsAmong (record { expression = date z; operand = c.date_of.result }) (known_of c.args.known.now)) same c.date_of.ensures))

pub expression-returns-in-Text : goal.expression-returns-in-Text
expression-returns-in-Text t c =
    let typed = rw c.in-Text.is at c.requires.typed in
    rw c.in-Text.is (leaf_made (known_of c.args.known.now) _ c.args.emitter.now c.text_of.result typed c.requires.served c.text_of.ensures)
