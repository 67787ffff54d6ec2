use Rattle.std.proofs.Common.{◌≡◌, ◌∙◌, ap}
use Rattle.qw_generate.specs.Generated.{draw_of, next}
use Rattle.qw_generate.proofs.sale.push_sale.Goals as goal

pub returns-clause-text : goal.returns-clause-text
returns-clause-text c =
    let s = c.args.draws.now.state in
    let first = c.draw-shop.ensures.state in
    let second = c.draw-price.ensures.state ∙ ap next first in
    let third = c.draw-sold.ensures.state ∙ ap next second in
    let fourth = c.draw-kind.ensures.state ∙ ap next third in
    let shop : c.draw-shop.result ≡ draw_of (next s) = c.draw-shop.ensures.drawn ∙ ap draw_of first in
    let price : c.draw-price.result ≡ draw_of (next (next s)) = c.draw-price.ensures.drawn ∙ ap draw_of second in
    let sold : c.draw-sold.result ≡ draw_of (next (next (next s))) = c.draw-sold.ensures.drawn ∙ ap draw_of third in
    let kind : c.draw-kind.result ≡ draw_of (next (next (next (next s)))) = c.draw-kind.ensures.drawn ∙ ap draw_of fourth in
    rw (shop, price, sold, kind) at c.push_line.ensures
