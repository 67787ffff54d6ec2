use Rattle.std.proofs.Common.{◌∙◌}
use Rattle.qw_generate.specs.Generated.{schema_text}
use Rattle.qw_generate.proofs.input.schema.Goals as goal

pub returns : goal.returns
unfolding schema_text
returns c = c.new.ensures ∙ c.in_ok-from_str.ensures.ok
