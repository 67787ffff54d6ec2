use Rattle.std.proofs.Common.{[], arith}
use Rattle.std.proofs.lemmas.Grind.{common_steps}
use Rattle.csv.specs.Records.{fields_of}
use Rattle.qw_csv.proofs.wide.is_next_wide.Goals as goal

pub returns : goal.returns
returns c wide text start =
    let first = rw c.if-not-branch.false at (c.in_ok-next_record.ensures.read text [] start) in
    record {
      fields = fields_of c.next_record.new.row;
      state = c.next_record.new.reader.state;
      rest = first.rest;
      reached = first.reached;
      wide = grind (arith, common_steps, wide, c.len.ensures);
    }
