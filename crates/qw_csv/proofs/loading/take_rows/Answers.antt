use Rattle.std.proofs.Common.{◌≡◌, ◌+◌, ◌++◌, arith, sym}
use Rattle.std.proofs.lemmas.Result.{err_from_is_err_and}
use Rattle.csv.specs.Records.{fields_of}
use Rattle.qw_csv.specs.Field.{lent}
use Rattle.qw_csv.specs.declared.loading.LoadFault.TheVariants.{TooManyRows}
use Rattle.qw_csv.specs.Inner.Rows.{rows_in}
use Rattle.qw_csv.proofs.FileLemmas.{rows_all, rows_fail, rows_next, rows_none}
use Rattle.qw_csv.proofs.RowLemmas.{length-rows_in}
use Rattle.qw_csv.proofs.loading.take_rows.Goals as goal

pub loop-len-init : goal.loop-len-init
loop-len-init c = record {
  kept = rw c.requires.columns at (rw c.into_parts-types.ensures.columns at c.into_parts-types.ensures.stored.kept);
  read = λ text first read old start each. rw c.into_parts-types.ensures.rows (rows_none (lent c.args.null) c.args.columns.now first text read old c.args.reader.now c.args.loaded.rows start each);
}

pub returns-then-not-branch-clause-rows : goal.returns-then-not-branch-clause-rows
returns-then-not-branch-clause-rows c text first read old start each =
    let h = c.loop-len.invariant.read text first read old start each in
    rw c.rows_taken.ensures.rows (rows_all (lent c.args.null) c.args.columns.now first text read old c.loop-len.reader (rows_in c.loop-len.len c.loop-len.values.items) h
    (rw c.if-not-branch.true at (c.in_ok-next_record.ensures.read text (read ++ h.more) h.goes)))

pub returns-in_err-push_row-clause-fault : goal.returns-in_err-push_row-clause-fault
returns-in_err-push_row-clause-fault c =
    let p = err_from_is_err_and c.from_residual-in_err-push_row.result c.from_residual-in_err-push_row.ensures.1 in
    rw (p.1, p.2) (λ memory text first read old start many each.
    let h = c.loop-len.invariant.read text first read old start each in
    rows_fail (lent c.args.null) c.args.columns.now first text read old c.loop-len.reader c.next_record.new.reader (rows_in c.loop-len.len c.loop-len.values.items)
    (fields_of c.next_record.new.row) c.loop-len.len c.args.before _ h (rw c.if-not-branch.false at (c.in_ok-next_record.ensures.read text (read ++ h.more) h.goes))
    (sym (length-rows_in c.loop-len.len c.loop-len.values.items)) many (c.in_err-push_row.ensures.fault memory))

pub loop-len-preserved : goal.loop-len-preserved
loop-len-preserved c =
    let (more, stands, kept, rows) = c.in_ok-push_row.ensures.pushed in
    record {
      kept = kept;
      read = λ text first read old start each.
          let h = c.loop-len.invariant.read text first read old start each in
          rw rows (rows_next (lent c.args.null) c.args.columns.now first text read old c.loop-len.reader c.next_record.new.reader (rows_in c.loop-len.len c.loop-len.values.items)
          (fields_of c.next_record.new.row) more h (rw c.if-not-branch.false at (c.in_ok-next_record.ensures.read text (read ++ h.more) h.goes)) stands);
    }

pub returns-then-branch-clause-fault : goal.returns-then-branch-clause-fault
returns-then-branch-clause-fault c memory text first read old start many each =
    let h = c.loop-len.invariant.read text first read old start each in
    let full : c.loop-len.len ≡ 1000000 = omega (arith, c.into_parts-types.ensures.stored.few) in
    rows_fail (lent c.args.null) c.args.columns.now first text read old c.loop-len.reader c.next_record-2.new.reader (rows_in c.loop-len.len c.loop-len.values.items)
    (fields_of c.next_record-2.new.row) c.loop-len.len c.args.before TooManyRows h (rw c.if-branch.true at (c.in_ok-next_record-2.ensures.read text (read ++ h.more) h.goes))
    (sym (length-rows_in c.loop-len.len c.loop-len.values.items)) many (λ within. omega (arith, full, within))

pub returns-clause-rows : goal.returns-clause-rows
returns-clause-rows c text first read old start each =
    let h = c.loop-len.invariant.read text first read old start each in
    let full : c.loop-len.len ≡ 1000000 = omega (arith, c.into_parts-types.ensures.stored.few) in
    rw (c.rows_taken-2.ensures.rows, ← full) (rows_all (lent c.args.null) c.args.columns.now first text read old c.loop-len.reader (rows_in c.loop-len.len c.loop-len.values.items) h
    (rw c.if-branch.false at (c.in_ok-next_record-2.ensures.read text (read ++ h.more) h.goes)))
