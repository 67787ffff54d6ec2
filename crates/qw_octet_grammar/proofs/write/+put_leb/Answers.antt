use Rattle.std.proofs.Common.{◌-◌, ◌/◌, arith, subst}
use Rattle.std.proofs.lemmas.Result.{on_ok_weaker}
use Rattle.std.specs.Result.{OnOk}
use Rattle.qw_octet_grammar.specs.Numbers.{leb}
use Rattle.qw_octet_grammar.specs.Writing.{Puts}
use Rattle.qw_octet_grammar.proofs.WriteFacts.{put_last, put_more, seven_less}
use Rattle.qw_octet_grammar.proofs.write.+put_leb.Goals as goal

pub put_leb-requires : goal.put_leb-requires
put_leb-requires t c =
    let more = c.in-None.ensures in
    let w = c.requires.width in
    (omega (arith, c.decreases, more, w), ((omega (arith, more), omega (arith, w), omega (arith, more, w)), seven_less c.args.value c.args.bits more c.requires.value))

pub returns-in_ok-push-in-Some : goal.returns-in_ok-push-in-Some
returns-in_ok-push-in-Some t c =
    rw c.in_ok-push-in-Some.ensures.items (put_last c.args.signed c.args.most c.args.bits c.args.value c.in-Some.octet c.args.out.now.items (omega (arith, c.requires.width)) c.in-Some.ensures.0 c.in-Some.ensures.1)

pub returns-in_ok-push-in-None : goal.returns-in_ok-push-in-None
returns-in_ok-push-in-None t c =
    let h = subst (λ w. OnOk c.put_leb.result (Puts (leb c.args.signed (c.args.most - 1) (c.args.bits - 7)) (c.args.value / 128) w c.put_leb.new.out.items)) c.in_ok-push-in-None.ensures.items c.put_leb.ensures in
    on_ok_weaker c.put_leb.result (put_more c.args.signed c.args.most c.args.bits c.args.value c.args.out.now.items c.put_leb.new.out.items (omega (arith, c.requires.width))) h
