use Rattle.qw_grouped.specs.Whole.{if_distinct}
use Rattle.qw_grouped.proofs.GroupLemmas.{once_permuted}
use Rattle.qw_grouped.proofs.OrderLemmas.{behind_alike, distinct_permuted, ended_same}
use Rattle.qw_grouped.proofs.group_laws.any_order.Goals as goal

pub returns : goal.returns
returns c = record {
  rows = λ query before other h g. (behind_alike query before other (record { rows = h; codes = g })).rows;
  codes = λ query before other h g. (behind_alike query before other (record { rows = h; codes = g })).codes;
  distinct = once_permuted;
  outcome = λ distinct flow other h g.
      ended_same (if_distinct distinct flow.rows) (if_distinct distinct other.rows) flow.codes other.codes (distinct_permuted distinct flow.rows other.rows h) g;
}
