use Rattle.qw_rewrite.proofs.Grounds.{flow_of_query}
use Rattle.qw_rewrite.proofs.place_laws.well_placed_flow.Goals as goal

pub returns : goal.returns
returns c = flow_of_query
