use Rattle.std.proofs.Common.{◌≤◌, arith}
use Rattle.qw_columns.proofs.RoomLemmas.{few_values}
use Rattle.qw_columns.proofs.room.placed_at.Goals as goal

pub returns-clause-limit : goal.returns-clause-limit
returns-clause-limit c =
    let few : c.len-rows.result ≤ 1000000 = omega (arith, c.len-rows.ensures.rows, c.len-rows.ensures.limits.few) in
    let values : c.values_size.result ≤ 8000000 = rw c.values_size.ensures (few_values _ c.len-rows.result few) in
    omega (arith, c.text_octets-size.ensures.limit, c.to_eight.ensures, c.to_eight-2.ensures)
