use Rattle.std.proofs.Common.{◌≡◌, ◌+◌, ◌++◌, ◌∙◌, ◌∷◌, [], ap, append_assoc, rules, sym, take}
use Rattle.std.proofs.lemmas.List.{take_all, take_more}
use Rattle.qw_sink.specs.Sink.{line_of, printed_row, text_of_rows}
use Rattle.qw_sink.proofs.SinkLemmas.{text_of_rows-none, text_of_rows-push}
use Rattle.qw_sink.proofs.ordered.write_rows.Goals as goal

pub loop-row-init : goal.loop-row-init
loop-row-init c text was = rw (text_of_rows-none c.args.header.now) (c.in_ok-write_names.ensures text was)

pub loop-row-preserved : goal.loop-row-preserved
loop-row-preserved c text was =
    let i = c.loop-row.row-index in
    let header = c.args.header.now in
    let before = take i c.args.rows.now in
    let row = c.values.result.now in
    let more : take (i + 1) c.args.rows.now ≡ before ++ row ∷ [] =
    take_more c.args.rows.now i row c.loop-row-test.true ∙ ap (λ one. before ++ one ∷ []) (search rules) in
    let whole : text ++ text_of_rows header (before ++ row ∷ []) ≡ (text ++ text_of_rows header before) ++ line_of (printed_row header row) =
    ap (λ lines. text ++ lines) (text_of_rows-push header before row) ∙ sym (append_assoc text (text_of_rows header before) (line_of (printed_row header row))) in
    rw (more, whole) (c.in_ok-write_row.ensures (text ++ text_of_rows header before) (c.loop-row.invariant text was))

pub returns : goal.returns
returns c text was = rw (take_all c.loop-row.row-index c.args.rows.now c.loop-row-test.false) at (c.loop-row.invariant text was)
