use Rattle.std.proofs.Common.{length, sym}
use Rattle.qw_feed.specs.Frames.{pos}
use Rattle.qw_feed.proofs.WorkedFacts.{begins, same_number, two_rows_there}
use Rattle.qw_feed.proofs.worked_laws.rows_of_a_result.Goals as goal

pub returns-clause-there : goal.returns-clause-there
returns-clause-there c = two_rows_there

pub returns-clause-before_the_base : goal.returns-clause-before_the_base
returns-clause-before_the_base c = λ has. begins has.found (pos has.part has.offset) (sym (same_number 2 (length has.found) has.count)) has.chain
