use Rattle.qw_valid.specs.declared.valid.Part.TheVariants as part
use Rattle.qw_valid.proofs.Faults.{parts_of}
use Rattle.qw_valid.proofs.ValidBodies.{have_types}
use Rattle.qw_valid.proofs.valid.heights_of.Goals as goal

pub module_heights-requires-clause-types : goal.module_heights-requires-clause-types
module_heights-requires-clause-types c = have_types c.args.module.now (parts_of c.args.module.now c.requires part.Imports) (parts_of c.args.module.now c.requires part.Functions)

pub module_heights-requires-clause-bodies : goal.module_heights-requires-clause-bodies
module_heights-requires-clause-bodies c = parts_of c.args.module.now c.requires part.Functions
