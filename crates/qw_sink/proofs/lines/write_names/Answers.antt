use Rattle.std.proofs.Common.{◌∙◌, ap, ◌≡◌, ◌≤◌, ◌+◌, ◌-◌, ◌^◌, map, take, rules}
use Rattle.std.proofs.lemmas.List.{take_all}
use Rattle.std.proofs.lemmas.Result.{on_ok_weaker}
use Rattle.qw_sink.specs.declared.sink.Head.{Head}
use Rattle.qw_sink.proofs.LineLemmas.{begins, few-taken, one-more}
use Rattle.qw_sink.proofs.lines.write_names.Goals as goal

pub loop-head-init : goal.loop-head-init
loop-head-init c = λ text was. begins _ text was

pub loop-head-preserved : goal.loop-head-preserved
loop-head-preserved c text was =
    let i = c.loop-head.head-index in
    let names = map (λ (h : Head). h.name) (take i c.args.header.now) in
    let name_is = c.as_bytes.ensures.value ∙ c.as_str.ensures ∙ ap (λ (h : Head). h.name) c.head-item.is in
    let more = one-more (λ (h : Head). h.name) c.args.header.now i _ c.as_bytes.result.now c.loop-head-test.true name_is in
    let fits : i + 1 ≤ 2 ^ 64 - 1 = search rules in
    rw more (c.in_ok-write_field.ensures text names (few-taken (λ (h : Head). h.name) c.args.header.now i fits) (c.loop-head.invariant text was))

pub returns : goal.returns
returns c =
    let whole : take c.loop-head.head-index c.args.header.now ≡ c.args.header.now = take_all c.loop-head.head-index c.args.header.now c.loop-head-test.false in
    on_ok_weaker c.end_line.result (λ ends text was. ends text (map (λ (h : Head). h.name) c.args.header.now) (rw whole at (c.loop-head.invariant text was))) c.end_line.ensures
