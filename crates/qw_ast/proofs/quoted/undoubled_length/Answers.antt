use Rattle.qw_ast.proofs.QuotedLemmas.{octet_counted}
use Rattle.qw_ast.proofs.quoted.undoubled_length.Goals as goal

pub loop-rest-preserved : goal.loop-rest-preserved
loop-rest-preserved c =
    octet_counted _ c.loop-rest.length _ _ c.loop-rest.rest.now c.behind_octet-rest.result.now c.in-len1-up.len_at_least c.behind_octet-rest.ensures c.loop-rest.invariant.0 c.loop-rest.invariant.1
