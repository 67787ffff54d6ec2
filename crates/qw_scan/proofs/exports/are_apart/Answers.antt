use Rattle.std.proofs.lemmas.Cmp.{nat_list_cmp_total}
use Rattle.std.proofs.lemmas.Fn.{always_returns_same}
use Rattle.std.proofs.lemmas.List.Sorted.{ranks_by}
use Rattle.std.proofs.Common.{rules}
use Rattle.qw_scan.specs.Inner.Exported.{name_in}
use Rattle.qw_valid.proofs.NameOrder.{below, differ_told}
use Rattle.qw_scan.proofs.exports.are_apart.Goals as goal

pub returns : goal.returns
returns c =
    let name = name_in c.args.octets.now in
    let up = c.sort_unstable_by.ensures.sorted (below name) (ranks_by nat_list_cmp_total name) (always_returns_same _ _ _ (λ a r f k. search rules)) in
    let told = c.is_sorted_by.ensures.cases (below name) (always_returns_same _ _ _ (λ a r f k. search rules)) in
    differ_told name c.args.places.now c.sort_unstable_by.new.self c.is_sorted_by.result c.sort_unstable_by.ensures.permutation up told
