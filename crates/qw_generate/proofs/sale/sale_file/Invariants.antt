use Rattle.std.proofs.Common.{◌≡◌, ◌*◌, ◌++◌}
use Rattle.std.specs.Prelude.{codes}
use Rattle.std.specs.String.{string_bytes}
use Rattle.qw_generate.specs.Generated.{sale_rows, state_after}
use Rattle.qw_generate.proofs.sale.sale_file.Given as goal

-- the rows so far, and the draws that they took
abbrev pub invariant-loop-row : goal.invariant-loop-row
invariant-loop-row l = record {
  text : string_bytes l.text ≡ codes "ID,SHOP,PRICE,SOLD,KIND\n" ++ sale_rows l.seed l.row;
  drawn : l.draws.state ≡ state_after l.seed (4 * l.row);
}
