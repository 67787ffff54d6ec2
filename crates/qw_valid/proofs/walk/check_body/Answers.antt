use Rattle.std.proofs.Common.{◌≡◌, ℕ, ◌+◌, ◌<◌, length, Some, None, Result, Err, vec_len, sym, ap, subst, ◌∙◌, refl, arith, rules}
use Rattle.std.proofs.lemmas.Bool.{eqb-false}
use Rattle.std.proofs.lemmas.Option.{same_Some}
use Rattle.qw_valid.specs.declared.walk.BodyFault.{BodyFault}
use Rattle.qw_valid.specs.declared.walk.BodyFault.TheVariants.{At}
use Rattle.qw_module.specs.Syntax.{code_of}
use Rattle.qw_module.specs.Places.{Typing, tokens_of, IsRefusedAt}
use Rattle.qw_valid.specs.declared.checker.Checker.{Checker}
use Rattle.qw_valid.specs.Inner.Checkers.{typing_of, body_of}
use Rattle.qw_valid.specs.Inner.Checking.{advanced}
use Rattle.qw_valid.specs.Inner.Walks.{walked_of, around_in}
use Rattle.qw_valid.proofs.Reached.{IsAt, begins-at, advanced-at, fewer-at, refused-here, typable-at}
use Rattle.qw_valid.proofs.WalkLemmas.{around-length, around-empty}
use Rattle.qw_valid.proofs.walk.check_body.Goals as goal

abbrev at_of : {A : Type 0} → Result A BodyFault → ℕ
at_of (Err (At at)) = at
at_of _ = 0

pub loop-walk-init : goal.loop-walk-init
loop-walk-init c =
    let k = c.args.checker in
    let start = begins-at (typing_of k) k.result (code_of (body_of k)) refl in
    (c.in-Ok.ensures.checker, subst (IsAt (typing_of k) (tokens_of (code_of (body_of k))) 0) (same_Some _ _ c.in-Ok.ensures.first) start)

pub loop-walk-smaller : goal.loop-walk-smaller
loop-walk-smaller c =
    let w = c.loop-walk.walk in
    let f : Typing = typing_of c.args.checker in
    let e = subst (λ (k : Checker). advanced (typing_of k) (walked_of w) ≡ Some (walked_of c.advance.new.self)) c.loop-walk.invariant.0 c.in-Ok-advance.ensures.advanced in
    fewer-at f (tokens_of (code_of (body_of c.args.checker))) c.loop-walk.at w.operands (around_in w) (walked_of w).rest (walked_of c.advance.new.self) c.loop-walk.invariant.1 e

pub loop-walk-preserved : goal.loop-walk-preserved
loop-walk-preserved c =
    let w = c.loop-walk.walk in
    let f : Typing = typing_of c.args.checker in
    let e = subst (λ (k : Checker). advanced (typing_of k) (walked_of w) ≡ Some (walked_of c.advance.new.self)) c.loop-walk.invariant.0 c.in-Ok-advance.ensures.advanced in
    let at : c.in_ok-at-in-Ok-advance.at ≡ c.loop-walk.at + 1 = search rules in (
      c.advance.ensures.checker ∙ c.loop-walk.invariant.0,
      subst (λ (n : ℕ). IsAt f (tokens_of (code_of (body_of c.args.checker))) n (walked_of c.advance.new.self)) (sym at)
          (advanced-at f (tokens_of (code_of (body_of c.args.checker))) c.loop-walk.at w.operands (around_in w) (walked_of w).rest (walked_of c.advance.new.self) c.loop-walk.invariant.1 e),
    )

pub returns-in-Err-IllTyped-clause-refused : goal.returns-in-Err-IllTyped-clause-refused
returns-in-Err-IllTyped-clause-refused c =
    let w = c.loop-walk.walk in
    let f : Typing = typing_of c.args.checker in
    let none : advanced (typing_of w.checker) (walked_of w) ≡ None = rw (c.in-Err-IllTyped.field-0-is) at c.in-Err-IllTyped.ensures.advanced in
    let e = subst (λ (k : Checker). advanced (typing_of k) (walked_of w) ≡ None) c.loop-walk.invariant.0 none in
    let filled = eqb-false (vec_len w.opened) 0 (sym c.is_empty.ensures ∙ c.loop-walk-test.true) in
    let some : 0 < length (around_in w) = omega (arith, around-length w, w.opened.ok.0, filled) in
    λ at same. subst (IsRefusedAt f (tokens_of (code_of (body_of c.args.checker)))) (ap at_of same)
    (refused-here f (tokens_of (code_of (body_of c.args.checker))) c.loop-walk.at w.operands (around_in w) (walked_of w).rest some c.loop-walk.invariant.1 e)

pub returns-clause-typable : goal.returns-clause-typable
returns-clause-typable c =
    let w = c.loop-walk.walk in
    let empty : length w.opened.items ≡ 0 = search rules in
    typable-at (typing_of c.args.checker) (tokens_of (code_of (body_of c.args.checker))) c.loop-walk.at (walked_of w) c.loop-walk.invariant.1 (around-empty w empty)
