use Rattle.qw_binary.specs.Inner.SoFar.{sections_of}
use Rattle.qw_binary.proofs.read.sections.SoFar.section_at.Goals as goal

pub returns-then-id-eq0 : goal.returns-then-id-eq0
returns-then-id-eq0 c = rw c.if-id-eq0.true (c.behind_custom.ensures (sections_of c.args.self.now))
