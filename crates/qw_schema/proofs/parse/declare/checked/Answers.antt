use Rattle.std.proofs.Common.{map, sym, arith}
use Rattle.std.proofs.lemmas.List.{length-map}
use Rattle.qw_schema.specs.Inner.Tables.{read_of}
use Rattle.qw_schema.proofs.JudgeLemmas.{are_columns}
use Rattle.qw_schema.proofs.parse.declare.checked.Goals as goal

pub new-requires : goal.new-requires
new-requires c =
    let items = c.args.definition.columns.items in
    let once = rw c.as_slice.ensures.value at c.if-is_twice.ensures in
    let found = rw c.in-Some.is at c.in_ok-columns.ensures in
    are_columns (map read_of items) c.in-Some.columns.items
    (omega (arith, c.requires.some, length-map items read_of))
    (omega (arith, c.if-len-gt-MAX_COLUMNS.false, c.len.ensures, length-map items read_of))
    (sym once) c.requires.sized (sym found)
