use Rattle.qw_expr.specs.Emits.{free_of}
use Rattle.qw_expr.proofs.test.emit_test.Goals as goal

pub emit_guarded-requires-clause-served : goal.emit_guarded-requires-clause-served
emit_guarded-requires-clause-served c =
    let strict = rw c.in-Some.is at c.in_ok-sure.ensures.strict in
    rw c.deref-then-rest-lt-MOST_NULLS.ensures.value (strict.are.served (free_of c.args.emitter.now) c.requires.served)
