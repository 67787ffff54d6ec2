use Rattle.std.proofs.Common.{refl, rules}
use Rattle.qw_generate.specs.Generated.{draw_of}
use Rattle.qw_generate.proofs.DrawLemmas.{stepped}
use Rattle.qw_generate.proofs.draws.Draws.draw.Goals as goal

pub returns-clause-state : goal.returns-clause-state
returns-clause-state c = stepped c.args.self.now.state _ _ refl refl

pub returns-clause-drawn : goal.returns-clause-drawn
unfolding draw_of
returns-clause-drawn c = search rules
