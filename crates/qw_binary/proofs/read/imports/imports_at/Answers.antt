use Rattle.std.proofs.Common.{◌≡◌, [], ◌++◌, ◌∷◌, Ok, subst}
use Rattle.std.proofs.lemmas.Result.{err_from_is_err_and}
use Rattle.qw_octet_grammar.specs.Vectors.{counted}
use Rattle.qw_octet_grammar.specs.Reading.{Fails, read}
use Rattle.qw_octet_grammar.proofs.Loops.{goes_on_counted, ends_counted, done_counted, begin_counted, one_more_ok, one_more_fails}
use Rattle.qw_binary.specs.Sections.{import_behind, next_import}
use Rattle.qw_binary.proofs.read.imports.imports_at.Goals as goal

pub loop-init : goal.loop-init
loop-init c = rw c.new-found.ensures.items (begin_counted next_import c.args.count [] c.args.octets.now)

pub returns-in_err-item : goal.returns-in_err-item
returns-in_err-item c =
    let failed = subst (λ w. Fails c.in_err-item.field-0.0 (read (import_behind w) c.loop.rest.now)) c.deref.ensures.value c.in_err-item.ensures in
    let p = err_from_is_err_and c.from_residual.result c.from_residual.ensures.1 in
    rw (p.1, p.2) (ends_counted next_import c.in_err-item.field-0.0 c.args.count c.loop.counter c.loop.found.items c.loop.rest.now (read (counted c.args.count next_import []) c.args.octets.now) c.loop-test.true
    (one_more_fails c.in_err-item.field-0.0 (import_behind c.loop.found.items) c.loop.found.items c.loop.rest.now failed) c.loop.invariant)

pub loop-preserved : goal.loop-preserved
loop-preserved c =
    let found = subst (λ w. read (import_behind w) c.loop.rest.now ≡ Ok (c.in_ok-item.item, c.in_ok-item.after.now)) c.deref.ensures.value c.in_ok-item.ensures in
    rw c.in_ok-push.ensures.items (goes_on_counted next_import c.args.count c.loop.counter c.loop.found.items c.loop.rest.now (c.loop.found.items ++ c.in_ok-item.item ∷ []) c.in_ok-item.after.now (read (counted c.args.count next_import []) c.args.octets.now) c.loop-test.true
    (one_more_ok (import_behind c.loop.found.items) c.loop.found.items c.loop.rest.now c.in_ok-item.item c.in_ok-item.after.now found) c.loop.invariant)

pub returns : goal.returns
returns c = done_counted next_import c.args.count c.loop.counter c.loop.found.items c.loop.rest.now (read (counted c.args.count next_import []) c.args.octets.now) c.loop-test.false c.loop.invariant
