use Rattle.std.proofs.Common.{◌∙◌}
use Rattle.std.specs.Fmt.{digits}
use Rattle.qw_generate.specs.Generated.{shop_rows, shop_text}
use Rattle.qw_generate.proofs.input.shop.Goals as goal

pub returns : goal.returns
unfolding digits shop_rows shop_text
returns c = c.new.ensures ∙ c.in_ok-from_str.ensures.ok
