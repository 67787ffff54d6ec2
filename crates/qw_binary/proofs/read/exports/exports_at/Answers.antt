use Rattle.std.proofs.Common.{◌≡◌, ◌++◌, ◌∷◌, [], map, arith}
use Rattle.std.proofs.lemmas.List.{map_push}
use Rattle.std.proofs.lemmas.Result.{err_from_is_err_and}
use Rattle.qw_octet_grammar.specs.Vectors.{counted, one_more}
use Rattle.qw_octet_grammar.specs.Reading.{read}
use Rattle.qw_octet_grammar.proofs.Loops.{done_counted, ends_one_more, goes_on_one_more, vector_loop}
use Rattle.qw_binary.specs.Contents.{export_contents}
use Rattle.qw_binary.specs.Sections.{export}
use Rattle.qw_binary.proofs.read.exports.exports_at.Goals as goal

pub loop-init : goal.loop-init
loop-init c = grind (arith, vector_loop)

pub returns-in_err-item : goal.returns-in_err-item
returns-in_err-item c =
    let p = err_from_is_err_and c.from_residual.result c.from_residual.ensures.1 in
    rw (p.1, p.2) (ends_one_more export c.in_err-item.field-0.0 c.args.count c.loop.counter (map export_contents c.loop.found.items) c.loop.rest.now
    (read (counted c.args.count (one_more export) []) c.args.octets.now) c.loop-test.true c.in_err-item.ensures c.loop.invariant)

pub loop-preserved : goal.loop-preserved
loop-preserved c =
    let more : map export_contents c.push.new.self.items ≡ map export_contents c.loop.found.items ++ export_contents c.in_ok-item.item ∷ [] =
    rw c.in_ok-push.ensures.items (map_push export_contents c.loop.found.items c.in_ok-item.item) in
    rw more (goes_on_one_more export c.args.count c.loop.counter (map export_contents c.loop.found.items) c.loop.rest.now (export_contents c.in_ok-item.item) c.in_ok-item.after.now
    (read (counted c.args.count (one_more export) []) c.args.octets.now) c.loop-test.true c.in_ok-item.ensures c.loop.invariant)

pub returns : goal.returns
returns c =
    done_counted (one_more export) c.args.count c.loop.counter (map export_contents c.loop.found.items) c.loop.rest.now
    (read (counted c.args.count (one_more export) []) c.args.octets.now) c.loop-test.false c.loop.invariant
