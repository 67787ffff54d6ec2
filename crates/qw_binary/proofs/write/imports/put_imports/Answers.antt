use Rattle.std.proofs.lemmas.Result.{err_from_is_err_and}
use Rattle.qw_binary.proofs.Refusals.{import_missing}
use Rattle.qw_binary.proofs.WriteSimple.{imports_begin, imports_end, imports_next}
use Rattle.qw_binary.proofs.write.imports.put_imports.Goals as goal

pub returns-in_err-put_import-clause-refused : goal.returns-in_err-put_import-clause-refused
returns-in_err-put_import-clause-refused c =
    let p = err_from_is_err_and c.from_residual-in_err-put_import.result c.from_residual-in_err-put_import.ensures.1 in
    rw (p.1, p.2) (λ e text s. import_missing c.args.imports.now c.split_at.result.0.now c.loop-place.place _ text c.loop-place-test.true c.split_at.ensures.front (c.in_err-put_import.ensures.refused e) s)

pub loop-place-init : goal.loop-place-init
loop-place-init c = imports_begin c.args.imports.now c.args.out.now.items c.put_size.new.out.items c.in_ok-put_size.ensures

pub returns-clause-written : goal.returns-clause-written
returns-clause-written c = imports_end c.args.imports.now c.loop-place.place c.args.out.now.items c.loop-place.out.items c.loop-place-test.false c.loop-place.invariant

pub loop-place-preserved : goal.loop-place-preserved
loop-place-preserved c =
    let written = rw c.split_at.ensures.front at c.in_ok-put_import.ensures.written in
    imports_next c.args.imports.now c.loop-place.place _ c.args.out.now.items c.loop-place.out.items c.put_import.new.out.items c.loop-place-test.true c.loop-place.invariant written
