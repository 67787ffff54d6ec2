use Rattle.std.specs.Fmt.{decimal}
use Rattle.std.specs.String.{string_bytes}
use Rattle.qw_generate.specs.Generated.{day_text, price_text, shop_of}
use Rattle.qw_generate.proofs.SaleLemmas.{line_whole}
use Rattle.qw_generate.proofs.sale.push_line.Goals as goal

pub returns : goal.returns
returns c =
    let whole = line_whole (string_bytes c.args.text.now) (decimal c.args.id) (decimal (shop_of c.args.shop)) (price_text c.args.price) (day_text c.args.sold)
    c.kind_of-kind.result.now (string_bytes c.write.new.self) (string_bytes c.push_price.new.text) (string_bytes c.push_str.new.self) (string_bytes c.push_day.new.text)
    (string_bytes c.write-2.new.self) c.in_ok-write.ensures.bytes c.in_ok-push_price.ensures c.in_ok-push_str.ensures.bytes c.in_ok-push_day.ensures c.in_ok-write-2.ensures.bytes in
    rw c.kind_of-kind.ensures at whole
