use Rattle.std.proofs.Common.{take}
use Rattle.csv.specs.Records.{fields_of}
use Rattle.qw_csv.specs.Loading.{IsHeader}
use Rattle.qw_csv.proofs.loading.is_header.Given as goal

abbrev pub invariant-loop-index : goal.invariant-loop-index
invariant-loop-index l = IsHeader (take l.index l.columns) (take l.index (fields_of l.row))
