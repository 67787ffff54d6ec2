use Rattle.std.proofs.Common.{arith}
use Rattle.qw_types.proofs.ShortNumberLemmas.{powers_small}
use Rattle.qw_types.proofs.short_number.at_scale.Goals as goal

pub overflow_mul-result : goal.overflow_mul-result
overflow_mul-result c =
    let small = powers_small c.args.whole.number c.args.fraction.number c.args.whole.count c.args.fraction.count c.args.scale c.power_of_ten-tenfold.result c.power_of_ten-missing.result
    c.power_of_ten-tenfold.ensures c.power_of_ten-missing.ensures c.requires.whole c.requires.fraction c.requires.few c.requires.short in
    omega (arith, small)

pub overflow_mul-result-2 : goal.overflow_mul-result-2
overflow_mul-result-2 c =
    let small = powers_small c.args.whole.number c.args.fraction.number c.args.whole.count c.args.fraction.count c.args.scale c.power_of_ten-tenfold.result c.power_of_ten-missing.result
    c.power_of_ten-tenfold.ensures c.power_of_ten-missing.ensures c.requires.whole c.requires.fraction c.requires.few c.requires.short in
    omega (arith, small)

pub overflow_add-result : goal.overflow_add-result
overflow_add-result c =
    let small = powers_small c.args.whole.number c.args.fraction.number c.args.whole.count c.args.fraction.count c.args.scale c.power_of_ten-tenfold.result c.power_of_ten-missing.result
    c.power_of_ten-tenfold.ensures c.power_of_ten-missing.ensures c.requires.whole c.requires.fraction c.requires.few c.requires.short in
    omega (arith, small)

pub returns-clause-small : goal.returns-clause-small
returns-clause-small c =
    let small = powers_small c.args.whole.number c.args.fraction.number c.args.whole.count c.args.fraction.count c.args.scale c.power_of_ten-tenfold.result c.power_of_ten-missing.result
    c.power_of_ten-tenfold.ensures c.power_of_ten-missing.ensures c.requires.whole c.requires.fraction c.requires.few c.requires.short in
    omega (arith, small)
