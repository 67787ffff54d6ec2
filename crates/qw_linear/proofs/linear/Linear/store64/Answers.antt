use Rattle.qw_linear.proofs.StoreFacts.{stored-octets}
use Rattle.qw_linear.proofs.linear.Linear.store64.Goals as goal

pub returns-clause-stored : goal.returns-clause-stored
returns-clause-stored c =
    stored-octets c.args.self.now c.put.new.self c.put.result c.args.at 8 c.args.number _
    c.to_le_bytes.ensures c.put.ensures.inside c.put.ensures.put c.put.ensures.unchanged
