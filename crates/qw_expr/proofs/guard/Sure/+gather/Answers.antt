use Rattle.qw_scalar.specs.Tree.{expression_of}
use Rattle.qw_expr.specs.Bindings.{known_of}
use Rattle.qw_expr.proofs.Guards.{calm_scale, gathers_as, gathers_two, negative_calm, operated_calm}
use Rattle.qw_expr.proofs.PlainTests.{if_some}
use Rattle.qw_expr.proofs.guard.Sure.+gather.Goals as goal

pub operated-requires-clause-scales : goal.operated-requires-clause-scales
operated-requires-clause-scales t c =
    let typed = rw c.in-Arithmetic.is at c.requires.typed in
    let one = rw (c.in-Some.is, c.deref.ensures) at c.in_ok-first-in-Arithmetic.ensures.gathers in
    let other = rw (c.in-Some-2.is, c.deref-in-Arithmetic.ensures) at c.in_ok-second-in-Arithmetic.ensures.gathers in (
      calm_scale (known_of c.args.known.now) (expression_of c.in-Arithmetic.left.value) one.leaves one.nulls c.in-Some.first.scale c.in-Some.first.most typed.0.0 one.made,
      calm_scale (known_of c.args.known.now) (expression_of c.in-Arithmetic.right.value) other.leaves other.nulls c.in-Some-2.second.scale c.in-Some-2.second.most typed.0.1 other.made,
    )

pub returns-in-Some-2 : goal.returns-in-Some-2
returns-in-Some-2 t c =
    let known = known_of c.args.known.now in
    let a = expression_of c.in-Arithmetic.left.value in
    let b = expression_of c.in-Arithmetic.right.value in
    let first = c.in-Some.first in
    let second = c.in-Some-2.second in
    let typed = rw c.in-Arithmetic.is at c.requires.typed in
    let one = rw (c.in-Some.is, c.deref.ensures) at c.in_ok-first-in-Arithmetic.ensures.gathers in
    let other = rw (c.in-Some-2.is, c.deref-in-Arithmetic.ensures) at c.in_ok-second-in-Arithmetic.ensures.gathers in
    record {
      gathers = rw c.in-Arithmetic.is
          (if_some _ _ c.operated.result
          (λ out stays. gathers_two c.args.self.now c.gather.new.self c.gather-in-Arithmetic.new.self _ _ _ one other
          (λ la lb na nb p q. operated_calm known c.in-Arithmetic.operator a b la lb na nb first.scale first.most second.scale second.most out.scale out.most typed stays p q))
          c.operated.ensures);
    }

pub returns-in_ok-found-in-Negative : goal.returns-in_ok-found-in-Negative
returns-in_ok-found-in-Negative t c =
    let a = expression_of c.in-Negative.operand.value in
    let found = rw c.deref-in-Negative.ensures at c.in_ok-found-in-Negative.ensures.gathers in
    record {
      gathers = rw c.in-Negative.is
          (if_some _ _ c.in_ok-found-in-Negative.found
          (λ out one. gathers_as c.args.self.now c.gather-in-Negative.new.self _ _ one (λ leaves nulls calm. negative_calm (known_of c.args.known.now) a leaves nulls out.scale out.most calm)) found);
    }
