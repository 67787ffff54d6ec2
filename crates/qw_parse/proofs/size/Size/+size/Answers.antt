use Rattle.qw_parse.proofs.SizeLemmas.{all_counted}
use Rattle.qw_parse.proofs.size.Size.+size.Goals as goal

pub expression-returns-in-Null : goal.expression-returns-in-Null
expression-returns-in-Null t c = let left = rw c.in-Null.is at c.loop-left.invariant.0 in all_counted c.args.self c.loop-left.size _ _ left
