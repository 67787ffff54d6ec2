use Rattle.std.proofs.Common.{arith}
use Rattle.qw_parse.specs.Script.{kept, limits, passed}
use Rattle.qw_parse.proofs.ScriptLemmas.{none_passed}
use Rattle.qw_parse.proofs.laws.worked_limits.Goals as goal

pub returns : goal.returns
returns c = record {
  items = passed _ _ (omega arith);
  entries = kept _ _ _ (omega arith) (passed _ _ (omega arith));
  columns = kept _ _ _ (omega arith) (kept _ _ _ (omega arith) (passed _ _ (omega arith)));
  keys = kept _ _ _ (omega arith) (kept _ _ _ (omega arith) (kept _ _ _ (omega arith) (passed _ _ (omega arith))));
  nodes = kept _ _ _ (omega arith) (kept _ _ _ (omega arith) (kept _ _ _ (omega arith) (kept _ _ _ (omega arith) (passed _ _ (omega arith)))));
  octets = kept _ _ _ (omega arith) (kept _ _ _ (omega arith) (kept _ _ _ (omega arith) (kept _ _ _ (omega arith) (kept _ _ _ (omega arith) (passed _ _ (omega arith))))));
  none = λ limit first. none_passed (limits 64 8 64 64 1000 16384) limit (omega arith, (omega arith, (omega arith, (omega arith, (omega arith, (omega arith, tt)))))) first;
}
