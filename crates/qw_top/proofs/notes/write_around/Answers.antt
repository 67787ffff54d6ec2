use Rattle.std.proofs.Common.{◌++◌}
use Rattle.std.proofs.lemmas.Result.{err_from_is_err_and}
use Rattle.qw_top.proofs.OutputLemmas.{OnErr-next, OnOk-pieces, TookFront-first, TookFront-next}
use Rattle.qw_top.proofs.notes.write_around.Goals as goal

pub returns-in_err-write_whole-clause-front : goal.returns-in_err-write_whole-clause-front
returns-in_err-write_whole-clause-front g c =
    let p = err_from_is_err_and c.from_residual.result c.from_residual.ensures.1 in
    rw p.1 (TookFront-first _ _ c.args.before.now (c.args.name.now ++ c.args.behind.now) c.in_err-write_whole.ensures.front)

pub returns-in_err-write_whole-2-clause-front : goal.returns-in_err-write_whole-2-clause-front
returns-in_err-write_whole-2-clause-front g c =
    let p = err_from_is_err_and c.from_residual-in_err-write_whole-2.result c.from_residual-in_err-write_whole-2.ensures.1 in
    let name = rw c.as_bytes.ensures.value at c.in_err-write_whole-2.ensures.front in
    let front = TookFront-first _ _ c.args.name.now c.args.behind.now name in
    rw p.1 (TookFront-next _ _ _ c.args.before.now (c.args.name.now ++ c.args.behind.now) c.in_ok-write_whole.ensures.whole front)

pub returns-clause-whole : goal.returns-clause-whole
returns-clause-whole g c =
    let name = rw c.as_bytes.ensures.value at c.in_ok-write_whole-2.ensures.whole in
    let rest = OnOk-pieces c.write_whole-3.result _ _ _ c.args.name.now c.args.behind.now name c.write_whole-3.ensures.whole in
    OnOk-pieces c.write_whole-3.result _ _ _ c.args.before.now (c.args.name.now ++ c.args.behind.now) c.in_ok-write_whole.ensures.whole rest

pub returns-clause-front : goal.returns-clause-front
returns-clause-front g c =
    let name = rw c.as_bytes.ensures.value at c.in_ok-write_whole-2.ensures.whole in
    let rest = OnErr-next c.write_whole-3.result _ _ _ c.args.name.now c.args.behind.now name c.write_whole-3.ensures.front in
    OnErr-next c.write_whole-3.result _ _ _ c.args.before.now (c.args.name.now ++ c.args.behind.now) c.in_ok-write_whole.ensures.whole rest
