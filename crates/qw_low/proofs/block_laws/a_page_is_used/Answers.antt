use Rattle.qw_low.proofs.PageUse.{page_used}
use Rattle.qw_low.proofs.block_laws.a_page_is_used.Goals as goal

pub returns : goal.returns
returns c = λ most fuel x y n s x_there y_there room. page_used most fuel x y n s x_there y_there room
