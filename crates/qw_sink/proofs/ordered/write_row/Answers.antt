use Rattle.std.proofs.Common.{◌≡◌, ◌+◌, ◌-◌, ◌<◌, ◌≤◌, ◌^◌, ◌⊎◌, ◌∙◌, ap, length, get_or, take, rules, sym}
use Rattle.std.proofs.lemmas.Result.{on_ok_weaker}
use Rattle.qw_sink.specs.declared.sink.Head.{Head}
use Rattle.qw_sink.specs.Sink.{printed, printed_row}
use Rattle.qw_sink.specs.Inner.Cells.{val_of}
use Rattle.qw_sink.proofs.LineLemmas.{begins}
use Rattle.qw_sink.proofs.SinkLemmas.{few-taken-values, printed-all, printed-more}
use Rattle.qw_sink.proofs.ordered.write_row.Goals as goal

pub loop-index-init : goal.loop-index-init
loop-index-init c = λ text was. begins _ text was

pub loop-index-preserved : goal.loop-index-preserved
loop-index-preserved c text was =
    let i = c.loop-index.index in
    let header = c.args.header.now in
    let row = c.args.row.now in
    let shown = printed_row header row in
    let less : (i < length header) × (i < length row) = search rules in
    let more = printed-more header row i c.index-header-index.result c.index-row-index.result less.0 less.1 c.index-header-index.is c.index-row-index.is in
    let fits : i + 1 ≤ 2 ^ 64 - 1 = search rules in
    let kind = (get_or header i c.index-header-index.result).kind in
    let field : printed c.index-header-index.result.kind c.index-row-index.result ≡ printed kind (val_of c.lent.result) =
    ap (λ (h : Head). printed h.kind c.index-row-index.result) c.index-header-index.is ∙ ap (printed kind) (sym c.lent.ensures) in
    rw (more, field) (c.in_ok-write_cell.ensures text (take i shown) (few-taken-values shown i fits) (c.loop-index.invariant text was))

pub returns : goal.returns
returns c =
    let i = c.loop-index.index in
    let past : (length c.args.header.now ≤ i) ⊎ (length c.args.row.now ≤ i) = search rules in
    on_ok_weaker c.end_line.result
    (λ ends text was. ends text (printed_row c.args.header.now c.args.row.now) (rw (printed-all c.args.header.now c.args.row.now i past) at (c.loop-index.invariant text was)))
    c.end_line.ensures
