use Rattle.std.proofs.Common.{Bool, List, is_lt, rules}
use Rattle.std.proofs.lemmas.Fn.{always_returns_same}
use Rattle.qw_types.specs.declared.value.Val.{Val}
use Rattle.qw_order.specs.Order.{key_order}
use Rattle.qw_order.proofs.KeyOrderLemmas.{key_order_ranks}
use Rattle.qw_order.proofs.order.order.Goals as goal

pub returns-clause-sorted : goal.returns-clause-sorted
returns-clause-sorted c =
    let test : List Val → List Val → Bool = λ row other. is_lt (key_order c.args.keys.now row other) in
    let ranks = key_order_ranks c.args.keys.now in
    record {
      arranged = c.in_ok-sort_by.ensures.permutation;
      ordered = c.in_ok-sort_by.ensures.sorted test ranks (always_returns_same _ _ _ (λ a r f k. search rules));
      stable = c.in_ok-sort_by.ensures.stable test ranks (always_returns_same _ _ _ (λ a r f k. search rules));
    }
