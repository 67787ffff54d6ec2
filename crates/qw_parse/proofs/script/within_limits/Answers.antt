use Rattle.std.proofs.Common.{arith}
use Rattle.qw_ast.specs.SyntaxTree.{select_of}
use Rattle.qw_parse.proofs.AcceptLemmas.{FewColumns, columns_same, entries_same, keys_same, many_columns, many_entries, many_items, many_keys, many_nodes, many_octets}
use Rattle.qw_parse.proofs.script.within_limits.Goals as goal

pub returns-then-item_count-gt-MAX_ITEMS-clause-passed : goal.returns-then-item_count-gt-MAX_ITEMS-clause-passed
returns-then-item_count-gt-MAX_ITEMS-clause-passed c = many_items _ _ (omega arith)

pub returns-then-entry_count-gt-MAX_ENTRIES-clause-passed : goal.returns-then-entry_count-gt-MAX_ENTRIES-clause-passed
returns-then-entry_count-gt-MAX_ENTRIES-clause-passed c =
    let same = entries_same c.as_slice.result.now c.args.query.now c.as_slice.ensures.value in
    many_entries _ _ (omega arith) (omega (arith, same))

pub returns-then-len-gt-MAX_COLUMNS-clause-passed : goal.returns-then-len-gt-MAX_COLUMNS-clause-passed
returns-then-len-gt-MAX_COLUMNS-clause-passed c =
    let same = entries_same c.as_slice.result.now c.args.query.now c.as_slice.ensures.value in
    let columns = columns_same c.args.query.now in
    many_columns _ _ (omega arith) (omega (arith, same)) (omega (arith, columns))

pub returns-then-len-gt-MAX_KEYS-clause-passed : goal.returns-then-len-gt-MAX_KEYS-clause-passed
returns-then-len-gt-MAX_KEYS-clause-passed c =
    let same = entries_same c.as_slice.result.now c.args.query.now c.as_slice.ensures.value in
    let columns = columns_same c.args.query.now in
    let keys = keys_same c.args.query.now in
    let few : FewColumns (select_of c.args.query.now) = record { items = omega arith; entries = omega (arith, same); columns = omega (arith, columns) } in
    many_keys _ _ few (omega (arith, keys))

pub returns-then-size-gt-MAX_NODES-clause-passed : goal.returns-then-size-gt-MAX_NODES-clause-passed
returns-then-size-gt-MAX_NODES-clause-passed c =
    let same = entries_same c.as_slice.result.now c.args.query.now c.as_slice.ensures.value in
    let columns = columns_same c.args.query.now in
    let keys = keys_same c.args.query.now in
    let few : FewColumns (select_of c.args.query.now) = record { items = omega arith; entries = omega (arith, same); columns = omega (arith, columns) } in
    many_nodes _ _ few (omega (arith, keys)) (omega arith)

pub returns-then-size-gt-MAX_LITERAL_OCTETS-clause-passed : goal.returns-then-size-gt-MAX_LITERAL_OCTETS-clause-passed
returns-then-size-gt-MAX_LITERAL_OCTETS-clause-passed c =
    let same = entries_same c.as_slice.result.now c.args.query.now c.as_slice.ensures.value in
    let columns = columns_same c.args.query.now in
    let keys = keys_same c.args.query.now in
    let few : FewColumns (select_of c.args.query.now) = record { items = omega arith; entries = omega (arith, same); columns = omega (arith, columns) } in
    many_octets _ _ few (omega (arith, keys)) (omega arith) (omega arith)
