use Rattle.std.proofs.Common.{length, map, refl}
use Rattle.std.proofs.lemmas.Result.{err_from_is_err_and}
use Rattle.std.proofs.lemmas.Option.{slice_get_read}
use Rattle.qw_binary.specs.Contents.{function_contents}
use Rattle.qw_binary.proofs.Refusals.{IsCodeSpelled, each_at, functions_codes}
use Rattle.qw_binary.proofs.write.functions.put_codes.Goals as goal

pub returns-in_err-put_code-clause-refused : goal.returns-in_err-put_code-clause-refused
returns-in_err-put_code-clause-refused c =
    let p = err_from_is_err_and c.from_residual-in_err-put_code.result c.from_residual-in_err-put_code.ensures.1 in
    rw (p.1, p.2) (λ e indices text s.
    let all = c.args.functions.now in
    let at = slice_get_read all (length all) c.loop-function.function-index c.function-item.result refl c.loop-function-test.true c.function-item.is in
    let (type_index, own, spelled) = each_at IsCodeSpelled function_contents all c.loop-function.function-index c.function-item.result at (functions_codes indices (map function_contents all) text s) in
    c.in_err-put_code.ensures.refused e type_index own spelled)
