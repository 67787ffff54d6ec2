use Rattle.std.proofs.Common.{◌≡◌, ◌++◌, ◌∷◌, [], map, length, refl, ap, arith}
use Rattle.std.proofs.lemmas.Result.{err_from_is_err_and}
use Rattle.std.proofs.lemmas.List.{map_push, length-append}
use Rattle.qw_octet_grammar.specs.Vectors.{counted}
use Rattle.qw_octet_grammar.specs.Reading.{read}
use Rattle.qw_octet_grammar.proofs.Loops.{done_counted}
use Rattle.qw_binary.specs.Contents.{function_contents}
use Rattle.qw_binary.specs.Sections.{next_function}
use Rattle.qw_binary.proofs.FunctionLemmas.{next_read, next_fails}
use Rattle.qw_binary.proofs.read.functions.codes_at.Goals as goal

pub returns-in_err-item : goal.returns-in_err-item
returns-in_err-item c =
    let p = err_from_is_err_and c.from_residual.result c.from_residual.ensures.1 in
    let loop = c.loop-type_index in
    rw (p.1, p.2) (next_fails c.args.type_indices.now loop.type_index-index loop.found.items loop.rest.now (read (counted (length c.args.type_indices.now) (next_function c.args.type_indices.now) []) c.args.octets.now)
    c.loop-type_index-test.true loop.invariant.0 loop.invariant.1 c.in_err-item.field-0.0 _ refl c.in_err-item.ensures)

pub loop-type_index-preserved : goal.loop-type_index-preserved
loop-type_index-preserved c =
    let loop = c.loop-type_index in
    let e : map function_contents c.push.new.self.items ≡ map function_contents loop.found.items ++ function_contents c.in_ok-item.item ∷ [] =
    rw c.in_ok-push.ensures.items (map_push function_contents loop.found.items c.in_ok-item.item) in (
      omega (arith, loop.invariant.0, ap length c.in_ok-push.ensures.items, length-append loop.found.items (c.in_ok-item.item ∷ [])),
      rw e (next_read c.args.type_indices.now loop.type_index-index loop.found.items loop.rest.now (read (counted (length c.args.type_indices.now) (next_function c.args.type_indices.now) []) c.args.octets.now)
          c.loop-type_index-test.true loop.invariant.0 loop.invariant.1 c.in_ok-item.item c.in_ok-item.after.now _ refl c.in_ok-item.ensures),
    )

pub returns : goal.returns
returns c =
    let loop = c.loop-type_index in
    done_counted (next_function c.args.type_indices.now) (length c.args.type_indices.now) loop.type_index-index (map function_contents loop.found.items) loop.rest.now
    (read (counted (length c.args.type_indices.now) (next_function c.args.type_indices.now) []) c.args.octets.now) c.loop-type_index-test.false loop.invariant.1
