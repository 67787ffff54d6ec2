use Rattle.qw_parse.proofs.ScriptLemmas.{script_one, refused_one, script_or_refused}
use Rattle.qw_parse.proofs.laws.one_script.Goals as goal

pub returns : goal.returns
returns c = record {
  script = script_one;
  cause = refused_one;
  either = script_or_refused;
}
