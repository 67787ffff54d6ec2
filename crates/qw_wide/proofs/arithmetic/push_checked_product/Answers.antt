use Rattle.qw_low.proofs.Appended.{on_ok, four}
use Rattle.qw_wide.proofs.arithmetic.push_checked_product.Goals as goal

pub returns : goal.returns
returns c = on_ok _ _ c.push.result (λ same. four _ _ _ _ _ _ _ _ _ c.in_ok-extend_from_slice.ensures.items c.in_ok-push_magnitude.ensures c.in_ok-push_tested_product.ensures same) c.push.ensures
