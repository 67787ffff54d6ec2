use Rattle.std.proofs.Common.{sym}
use Rattle.qw_valid.specs.Inner.Checkers.{body_of}
use Rattle.qw_valid.proofs.WalkLemmas.{names_at, code_at-found, code_at-none}
use Rattle.qw_valid.proofs.walk.Walk.advance.Goals as goal

pub returns-in_default-clause-advanced : goal.returns-in_default-clause-advanced
returns-in_default-clause-advanced c =
    let w = c.args.self.now in
    rw (code_at-none (body_of w.checker) w.sequence w.index (sym c.in_default.ensures.found)) c.close.ensures.closed

pub perform-requires-clause-names : goal.perform-requires-clause-names
perform-requires-clause-names c =
    let w = c.args.self.now in
    (w.sequence, names_at (body_of w.checker) c.requires.numbered w.sequence w.index c.in-Some.instr (sym c.in-Some.ensures.found))

pub returns-clause-advanced : goal.returns-clause-advanced
returns-clause-advanced c =
    let w = c.args.self.now in
    rw (code_at-found (body_of w.checker) c.requires.numbered w.sequence w.index c.in-Some.instr (sym c.in-Some.ensures.found)) c.perform.ensures.performed
