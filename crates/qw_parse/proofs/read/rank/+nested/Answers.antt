use Rattle.qw_parse.specs.Inner.Parser.{left}
use Rattle.qw_parse.proofs.ReadLemmas.{nested_more, nested_none}
use Rattle.qw_parse.proofs.read.rank.+nested.Goals as goal

pub returns-then-levels-eq0 : goal.returns-then-levels-eq0
returns-then-levels-eq0 t c = λ _. nested_none c.args.levels (left c.args.parser.now) c.if-levels-eq0.true

pub returns : goal.returns
returns t c = rw (nested_more c.args.levels (left c.args.parser.now) c.if-levels-eq0.false) c.phrase.ensures
