use Rattle.std.proofs.lemmas.Result.{err_from_is_err_and}
use Rattle.qw_binary.specs.Inner.Imported.{imported_of}
use Rattle.qw_binary.proofs.Refusals.{import_among}
use Rattle.qw_binary.proofs.write.imports.put_import.Goals as goal

pub returns-in_err-put_names-clause-refused : goal.returns-in_err-put_names-clause-refused
returns-in_err-put_names-clause-refused c =
    let p = err_from_is_err_and c.from_residual.result c.from_residual.ensures.1 in
    rw (p.1, p.2) (λ e text s. import_among c.args.before.now (imported_of c.of.result) c.args.import c.of.ensures (c.in_err-put_names.ensures.refused e) text s)
