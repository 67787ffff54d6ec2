use Rattle.qw_scan.proofs.TypeLemmas.{type_again}
use Rattle.qw_scan.proofs.types.type_at.Goals as goal

pub returns : goal.returns
returns c = λ s rest e.
    type_again c.args.octets.now c.in_ok-params.params.now c.in_ok-params.rest.now c.in_ok-results.results.now c.in_ok-results.field-0-1.now s rest
    c.in-len1-up.len_at_least c.in_ok-params.ensures c.in_ok-results.ensures e
