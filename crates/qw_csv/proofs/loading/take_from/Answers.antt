use Rattle.std.proofs.Common.{[], sym, ◌∙◌}
use Rattle.std.proofs.lemmas.Bool.{false≢true}
use Rattle.csv.specs.Records.{fields_of}
use Rattle.qw_csv.specs.Field.{lent}
use Rattle.qw_csv.proofs.FileLemmas.{err_behind, err_first, fails_header, ok_behind, ok_first, takes_none}
use Rattle.qw_csv.proofs.loading.take_from.Goals as goal

pub returns-then-taken-clause-taken : goal.returns-then-taken-clause-taken
returns-then-taken-clause-taken c =
    ok_behind (lent c.args.null) c.args.columns.now c.args.reader.now c.args.reader.now c.args.taken.named c.args.taken.loaded.rows c.take_rows.result c.if-taken.true
    c.take_rows.ensures.rows c.take_rows.ensures.few c.take_rows.ensures.named

pub returns-then-taken-clause-fault : goal.returns-then-taken-clause-fault
returns-then-taken-clause-fault c =
    err_behind (lent c.args.null) c.args.columns.now c.args.reader.now c.args.reader.now c.args.taken.named c.args.taken.loaded.rows c.args.taken.before c.take_rows.result c.if-taken.true c.take_rows.ensures.fault

pub returns-then-not-branch-clause-taken : goal.returns-then-not-branch-clause-taken
returns-then-not-branch-clause-taken c text before records start taken =
    takes_none (lent c.args.null) c.args.columns.now before text records c.args.taken.named c.args.taken.loaded.rows taken (rw c.if-not-branch.true at (c.in_ok-next_record.ensures.read text [] start))

pub returns-then-not-is_header-clause-fault : goal.returns-then-not-is_header-clause-fault
returns-then-not-is_header-clause-fault c memory text before records start many taken =
    let first = rw c.if-not-branch.false at (c.in_ok-next_record.ensures.read text [] start) in
    fails_header (lent c.args.null) c.args.columns.now before text records (fields_of c.next_record.new.row) c.args.taken.named c.args.taken.loaded.rows c.next_record.new.reader.state first.rest
    c.if-taken.false taken (λ named. false≢true (sym c.if-not-is_header.true ∙ c.is_header.ensures.1 named)) first.reached

pub returns-clause-taken : goal.returns-clause-taken
returns-clause-taken c =
    ok_first (lent c.args.null) c.args.columns.now c.args.reader.now c.next_record.new.reader c.args.taken.named c.args.taken.loaded.rows c.take_rows-2.result (fields_of c.next_record.new.row)
    c.if-taken.false (c.is_header.ensures.0 c.if-not-is_header.false) (λ text start. rw c.if-not-branch.false at (c.in_ok-next_record.ensures.read text [] start))
    c.take_rows-2.ensures.rows c.take_rows-2.ensures.few c.take_rows-2.ensures.named

pub returns-clause-fault : goal.returns-clause-fault
returns-clause-fault c =
    err_first (lent c.args.null) c.args.columns.now c.args.reader.now c.next_record.new.reader c.args.taken.named c.args.taken.loaded.rows c.args.taken.before c.take_rows-2.result (fields_of c.next_record.new.row)
    c.if-taken.false (c.is_header.ensures.0 c.if-not-is_header.false) (λ text start. rw c.if-not-branch.false at (c.in_ok-next_record.ensures.read text [] start))
    c.take_rows-2.ensures.fault
