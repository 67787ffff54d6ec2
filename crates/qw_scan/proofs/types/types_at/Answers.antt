use Rattle.std.proofs.Common.{◌∙◌, map, ap}
use Rattle.qw_scan.specs.Inner.TypesAt.{type_by}
use Rattle.qw_scan.proofs.TypeLemmas.{vector_types}
use Rattle.qw_scan.proofs.types.types_at.Goals as goal

pub returns : goal.returns
returns c = λ types rest e.
    let v = vector_types c.args.octets.now c.in-Ok.count c.in-Ok.rest.now types rest c.in-Ok.ensures e in
    (ap (map type_by) c.split_at.ensures.front ∙ v.1, c.split_at.ensures.back ∙ v.2)
