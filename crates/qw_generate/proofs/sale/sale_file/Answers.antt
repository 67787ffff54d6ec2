use Rattle.std.proofs.Common.{◌∙◌, ap, arith, ℕ, sym}
use Rattle.std.specs.Prelude.{codes}
use Rattle.std.specs.String.{string_bytes}
use Rattle.qw_generate.specs.Generated.{next}
use Rattle.qw_generate.proofs.SaleLemmas.{four_more, line_is, no_rows, none_drawn, text_more}
use Rattle.qw_generate.proofs.sale.sale_file.Goals as goal

pub loop-row-init : goal.loop-row-init
loop-row-init c = record { text = grind (arith, no_rows); drawn = grind (arith, none_drawn) }

pub loop-row-preserved : goal.loop-row-preserved
loop-row-preserved c =
    let seed = c.args.seed in
    let row = c.loop-row.row in
    let so_far = c.loop-row.invariant in
    record {
      text = text_more (codes "ID,SHOP,PRICE,SOLD,KIND\n") (string_bytes c.loop-row.text) (string_bytes c.push_sale.new.text) _ seed row so_far.text c.in_ok-push_sale.ensures.text
          (line_is seed row c.loop-row.draws.state so_far.drawn);
      drawn = c.in_ok-push_sale.ensures.draws ∙ ap (λ (s : ℕ). next (next (next (next s)))) so_far.drawn ∙ sym (four_more seed row);
    }
