use Rattle.qw_octet_grammar.specs.Numbers.{u32}
use Rattle.std.proofs.Common.{◌∙◌}
use Rattle.qw_scan.proofs.Vectors.{behind_count}
use Rattle.qw_scan.proofs.body.Walk.all_take.Goals as goal

pub returns : goal.returns
returns c = λ labels mid e. c.each_takes.ensures labels mid (behind_count u32 c.args.octets.now c.in-Ok.count c.in-Ok.rest.now c.in-Ok.ensures ∙ e)
