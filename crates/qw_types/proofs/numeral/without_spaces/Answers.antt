use Rattle.std.proofs.Common.{take_all, sym, ◌∙◌}
use Rattle.std.proofs.lemmas.Bool.{ne_eqb}
use Rattle.qw_types.proofs.NumeralLemmas.{all_spaces, rest_is, spaces_end}
use Rattle.qw_types.proofs.numeral.without_spaces.Goals as goal

pub returns-then-octet-ne32 : goal.returns-then-octet-ne32
returns-then-octet-ne32 c =
    rest_is c.args.octets.now c.loop-index.index ∙ sym (spaces_end c.args.octets.now c.loop-index.index 0 c.loop-index.invariant c.loop-index-test.true (ne_eqb _ _ c.if-octet-ne32.true))

pub returns : goal.returns
returns c = sym (all_spaces c.args.octets.now (rw (take_all c.loop-index.index c.args.octets.now c.loop-index-test.false) at c.loop-index.invariant))
