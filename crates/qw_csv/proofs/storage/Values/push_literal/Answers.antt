use Rattle.std.proofs.Common.{refl}
use Rattle.qw_csv.proofs.StorageLemmas.{literal_kept_not_null, literal_kept_with_null}
use Rattle.qw_csv.proofs.storage.Values.push_literal.Goals as goal

pub returns-in_ok-push : goal.returns-in_ok-push
returns-in_ok-push c =
    literal_kept_with_null c.args.column.now c.args.field.now c.args.self.now (record { cells = c.push_literal.new.self; nulls = c.push.new.self }) c.if-not-column.true c.requires.kept
    (rw c.if-not-branch.false at c.in_ok-push_literal.ensures) c.in_ok-push.ensures.items

pub returns-else-not-column : goal.returns-else-not-column
returns-else-not-column c =
    literal_kept_not_null c.args.column.now c.args.field.now c.args.self.now (record { cells = c.push_literal.new.self; nulls = c.args.self.now.nulls }) c.if-not-column.false c.requires.kept
    (rw c.if-not-branch.false at c.in_ok-push_literal.ensures) refl
