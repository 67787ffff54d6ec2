use Rattle.std.proofs.Common.{◌≡◌, ◌+◌, ◌-◌, ◌<◌, ◌≤◌, ◌^◌, ◌⊎◌, ◌∙◌, ap, length, get_or, take, refl, sym, rules}
use Rattle.std.proofs.lemmas.Option.{same_Some}
use Rattle.std.proofs.lemmas.Result.{on_ok_weaker}
use Rattle.qw_types.specs.declared.kind.Kind.TheVariants as kind
use Rattle.qw_map.specs.Layout.{cells_at}
use Rattle.qw_sink.specs.declared.sink.Head.{Head}
use Rattle.qw_sink.specs.Sink.{printed, printed_row}
use Rattle.qw_sink.specs.Inner.Cells.{val_of}
use Rattle.qw_sink.proofs.ChainLemmas.{cell-of, cells-many, there-is}
use Rattle.qw_sink.proofs.LineLemmas.{begins}
use Rattle.qw_sink.proofs.SinkLemmas.{few-taken-values, printed-all, printed-more}
use Rattle.qw_sink.proofs.received.write_cells.Goals as goal

pub loop-index-init : goal.loop-index-init
loop-index-init c = λ texts row is text was. begins _ text was

pub cell_at-cell-requires-clause-there : goal.cell_at-cell-requires-clause-there
cell_at-cell-requires-clause-there c =
    let there = c.requires.there in
    let memory = c.args.memory.now.octets in
    let row = there-is (cells_at there.0 memory c.args.cells c.args.kinds.now) there.1 in
    let within : c.loop-index.index < length c.args.kinds.now = search rules in
    let cell = cell-of there.0 memory c.args.kinds.now c.args.cells c.loop-index.index (kind.Number 0) row.0 within row.1 in
    (there.0, rw (c.from.ensures, cell.is) refl)

pub loop-index-preserved : goal.loop-index-preserved
loop-index-preserved c texts row is text was =
    let i = c.loop-index.index in
    let memory = c.args.memory.now.octets in
    let shown = printed_row c.args.header.now row in
    let less : (i < length c.args.header.now) × (i < length c.args.kinds.now) = search rules in
    let cell = cell-of texts memory c.args.kinds.now c.args.cells i (kind.Number 0) row less.1 is in
    let read = rw c.from.ensures at c.cell_at-cell.ensures.value in
    let value_is : cell.value ≡ val_of c.cell_at-cell.result = same_Some cell.value (val_of c.cell_at-cell.result) (sym cell.is ∙ read texts (rw cell.is refl)) in
    let within : i < length row = rw (cells-many texts memory c.args.kinds.now c.args.cells row is) less.1 in
    let more = printed-more c.args.header.now row i c.index-header-index.result cell.value less.0 within c.index-header-index.is cell.at in
    let fits : i + 1 ≤ 2 ^ 64 - 1 = search rules in
    let field : printed c.index-header-index.result.kind cell.value ≡ printed (get_or c.args.header.now i c.index-header-index.result).kind (val_of c.cell_at-cell.result) =
    ap (λ (h : Head). printed h.kind cell.value) c.index-header-index.is ∙ ap (printed (get_or c.args.header.now i c.index-header-index.result).kind) value_is in
    rw (more, field) (c.in_ok-write_cell.ensures text (take i shown) (few-taken-values shown i fits) (c.loop-index.invariant texts row is text was))

pub returns : goal.returns
returns c =
    let i = c.loop-index.index in
    let memory = c.args.memory.now.octets in
    let past : (length c.args.header.now ≤ i) ⊎ (length c.args.kinds.now ≤ i) = search rules in
    on_ok_weaker c.end_line.result
    (λ ends texts row is text was.
    let over : (length c.args.header.now ≤ i) ⊎ (length row ≤ i) = rw (cells-many texts memory c.args.kinds.now c.args.cells row is) past in
    ends text (printed_row c.args.header.now row) (rw (printed-all c.args.header.now row i over) at (c.loop-index.invariant texts row is text was)))
    c.end_line.ensures
