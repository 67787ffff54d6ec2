use Rattle.std.proofs.Common.{◌∙◌}
use Rattle.qw_generate.specs.Generated.{queries_text}
use Rattle.qw_generate.proofs.input.queries.Goals as goal

pub returns : goal.returns
unfolding queries_text
returns c = c.new.ensures ∙ c.in_ok-from_str.ensures.ok
