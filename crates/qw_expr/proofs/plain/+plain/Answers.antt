use Rattle.qw_low.proofs.Appended.{if_ok}
use Rattle.qw_scalar.specs.Expression.{among, between, comparison}
use Rattle.qw_scalar.specs.Tree.{condition_of, expression_of, expressions_of}
use Rattle.qw_expr.specs.Bindings.{known_of}
use Rattle.qw_expr.proofs.Abbreviations.{among_known, among_typed}
use Rattle.qw_expr.proofs.PlainTests.{both_plain, either_plain, if_some, known_plain, not_plain}
use Rattle.qw_expr.proofs.plain.+plain.Goals as goal

pub leaf_of-requires-in-In-clause-typed : goal.leaf_of-requires-in-In-clause-typed
leaf_of-requires-in-In-clause-typed t c =
    let typed = rw c.in-In.is at c.requires.typed in
    rw c.deref-in-In.ensures (among_typed (expression_of c.in-In.operand.value) (expressions_of c.in-In.values.value) typed)

pub leaf_of-requires-in-In-clause-known : goal.leaf_of-requires-in-In-clause-known
leaf_of-requires-in-In-clause-known t c =
    let known = rw c.in-In.is at c.requires.known in
    rw c.deref-in-In.ensures (among_known (known_of c.args.known.now) (expression_of c.in-In.operand.value) (expressions_of c.in-In.values.value) known)

pub returns-in-Some-clause-plain : goal.returns-in-Some-clause-plain
returns-in-Some-clause-plain t c =
    let e = expression_of c.in-Compare.left.value in
    let known = rw c.deref.ensures at c.in-Some.ensures.known in
    rw c.in-Compare.is
    (if_some _ _ c.related.result
    (λ out made. known_plain (known_of c.args.known.now) e c.in-Some.x (comparison c.in-Compare.operator e (expression_of c.in-Compare.right.value)) out known made)
    (rw (c.deref-in-Some.ensures, c.deref-in-Some-2.ensures) at c.related.ensures.plain))

pub returns-in-Some-leaf_of-clause-plain : goal.returns-in-Some-leaf_of-clause-plain
returns-in-Some-leaf_of-clause-plain t c =
    let e = expression_of c.in-Between.operand.value in
    let d = between e (expression_of c.in-Between.least.value) (expression_of c.in-Between.greatest.value) in
    let known = rw c.deref-in-Between.ensures at c.in-Some-leaf_of.ensures.known in
    rw c.in-Between.is
    (if_ok _ _ c.within.result (λ test plain. if_some _ _ test (λ out made. known_plain (known_of c.args.known.now) e c.in-Some-leaf_of.x d out known made) plain)
    (rw (c.deref-in-Some-leaf_of.ensures, c.deref-in-Some-leaf_of-2.ensures, c.deref-in-Some-leaf_of-3.ensures) at c.within.ensures.plain))

pub returns-in-Some-leaf_of-2-clause-plain : goal.returns-in-Some-leaf_of-2-clause-plain
returns-in-Some-leaf_of-2-clause-plain t c =
    let e = expression_of c.in-In.operand.value in
    let d = among e (expressions_of c.in-In.values.value) in
    let known = rw c.deref-in-In.ensures at c.in-Some-leaf_of-2.ensures.known in
    rw c.in-In.is
    (if_ok _ _ c.one_of.result (λ test plain. if_some _ _ test (λ out made. known_plain (known_of c.args.known.now) e c.in-Some-leaf_of-2.x d out known made) plain)
    (rw (c.deref-in-Some-leaf_of-2-2.ensures, c.deref-in-Some-leaf_of-2-3.ensures) at c.one_of.ensures.plain))

pub returns-in_ok-not-in-Some-2-clause-plain : goal.returns-in_ok-not-in-Some-2-clause-plain
returns-in_ok-not-in-Some-2-clause-plain t c next served =
    let one = rw (c.in-Some-2.is, c.deref-in-Not.ensures) at c.in_ok-test-in-Not.ensures.plain in
    rw c.in-Not.is
    (not_plain (known_of c.args.known.now) next (condition_of c.in-Not.operand.value) c.in-Some-2.test c.in_ok-not-in-Some-2.field-0 (one next served) c.in_ok-not-in-Some-2.ensures.word (c.in_ok-not-in-Some-2.ensures.below next))

pub returns-in_ok-both-in-And-clause-plain : goal.returns-in_ok-both-in-And-clause-plain
returns-in_ok-both-in-And-clause-plain t c next served =
    let one = rw (c.in-Some-3.is, c.deref-in-And.ensures) at c.in_ok-first-in-And.ensures.plain in
    let other = rw (c.in-Some-4.is, c.deref-in-And-2.ensures) at c.in_ok-second-in-And.ensures.plain in
    rw c.in-And.is
    (both_plain (known_of c.args.known.now) next (condition_of c.in-And.left.value) (condition_of c.in-And.right.value) c.in-Some-3.first c.in-Some-4.second (one next served) (other next served)
    c.in_ok-both-in-And.field-0 c.in_ok-both-in-And.ensures.word (c.in_ok-both-in-And.ensures.below next))

pub returns-in_ok-either-in-Or-clause-plain : goal.returns-in_ok-either-in-Or-clause-plain
returns-in_ok-either-in-Or-clause-plain t c next served =
    let one = rw (c.in-Some-5.is, c.deref-in-Or.ensures) at c.in_ok-first-in-Or.ensures.plain in
    let other = rw (c.in-Some-6.is, c.deref-in-Or-2.ensures) at c.in_ok-second-in-Or.ensures.plain in
    rw c.in-Or.is
    (either_plain (known_of c.args.known.now) next (condition_of c.in-Or.left.value) (condition_of c.in-Or.right.value) c.in-Some-5.first c.in-Some-6.second (one next served) (other next served)
    c.in_ok-either-in-Or.field-0 c.in_ok-either-in-Or.ensures.word (c.in_ok-either-in-Or.ensures.below next))
