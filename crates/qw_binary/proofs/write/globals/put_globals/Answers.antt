use Rattle.std.proofs.Common.{arith, subst, length, refl}
use Rattle.std.proofs.lemmas.Result.{err_from_is_err_and}
use Rattle.std.proofs.lemmas.Option.{slice_get_read}
use Rattle.qw_octet_grammar.specs.Writing.{Puts}
use Rattle.qw_octet_grammar.proofs.WriteLaws.{views_begin, views_next, views_end}
use Rattle.qw_binary.specs.Sections.{global}
use Rattle.qw_binary.specs.Contents.{global_contents}
use Rattle.qw_binary.specs.Inner.Parts.{IsInitSpelled}
use Rattle.qw_binary.proofs.Refusals.{each_at}
use Rattle.qw_binary.proofs.write.globals.put_globals.Goals as goal

pub loop-global-init : goal.loop-global-init
loop-global-init c = views_begin global global_contents c.args.globals.now c.args.out.now.items c.put_size.new.out.items c.in_ok-put_size.ensures

pub loop-global-preserved : goal.loop-global-preserved
loop-global-preserved c =
    let item = subst (λ x. Puts global (global_contents x) c.loop-global.out.items c.put_global.new.out.items) c.global-item.is c.in_ok-put_global.ensures.written in
    views_next global global_contents c.args.globals.now c.loop-global.global-index c.global-item.result c.args.out.now.items c.loop-global.out.items c.put_global.new.out.items (omega (arith, c.loop-global-test.true)) c.loop-global.invariant item

pub returns-in_err-put_global-clause-refused : goal.returns-in_err-put_global-clause-refused
returns-in_err-put_global-clause-refused c =
    let p = err_from_is_err_and c.from_residual-in_err-put_global.result c.from_residual-in_err-put_global.ensures.1 in
    rw (p.1, p.2) (λ e each.
    let all = c.args.globals.now in
    let at = slice_get_read all (length all) c.loop-global.global-index c.global-item.result refl c.loop-global-test.true c.global-item.is in
    c.in_err-put_global.ensures.refused e (each_at IsInitSpelled global_contents all c.loop-global.global-index c.global-item.result at each))

pub returns-clause-written : goal.returns-clause-written
returns-clause-written c = views_end global global_contents c.args.globals.now c.loop-global.global-index c.args.out.now.items c.loop-global.out.items (omega (arith, c.loop-global-test.false)) c.loop-global.invariant
