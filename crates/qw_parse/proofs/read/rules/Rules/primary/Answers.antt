use Rattle.qw_parse.specs.Inner.Parser.{left}
use Rattle.qw_parse.specs.Inner.Readers.{nested_at}
use Rattle.qw_parse.proofs.PrimaryReadLemmas.{primary_same}
use Rattle.qw_parse.proofs.read.rules.Rules.primary.Goals as goal

pub returns : goal.returns
returns g c = rw (primary_same (nested_at c.args.self.now.levels) (left c.args.parser.now)) c.begun.ensures
