use Rattle.std.proofs.Common.{List, ℕ, sym, ap, ◌∙◌}
use Rattle.std.proofs.lemmas.Option.{IfSome_then}
use Rattle.qw_octet_grammar.specs.Numbers.{u32}
use Rattle.qw_octet_grammar.specs.Reading.{read}
use Rattle.qw_scan.specs.Inner.Over.{item_over}
use Rattle.qw_scan.specs.Inner.Offsets.{behind_read, offsets, vector_offsets}
use Rattle.qw_scan.proofs.tables.offsets_at.Goals as goal

pub returns : goal.returns
returns c =
    let whole = c.args.octets.now in
    let g = item_over c.args.item in
    let first = ap (vector_offsets g whole) c.in-Some.is ∙ ap (behind_read (offsets g whole) whole) (ap (λ (bs : List ℕ). read u32 bs) (sym c.from.ensures) ∙ c.in-Ok.ensures) in
    IfSome_then c.offsets_from.result c.offsets_from.ensures (λ v same. same ∙ ap (offsets g whole c.in-Ok.count) c.saturating_sub.ensures ∙ sym first)
