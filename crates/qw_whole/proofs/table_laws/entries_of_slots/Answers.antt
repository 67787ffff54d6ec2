use Rattle.qw_whole.proofs.GrowingTables.{keys_begun, met_many, slot_grows}
use Rattle.qw_whole.proofs.table_laws.entries_of_slots.Goals as goal

pub returns-clause-keys : goal.returns-clause-keys
returns-clause-keys c = keys_begun

pub returns-clause-slots : goal.returns-clause-slots
returns-clause-slots c = slot_grows

pub returns-clause-met : goal.returns-clause-met
returns-clause-met c = met_many
