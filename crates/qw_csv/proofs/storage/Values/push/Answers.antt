use Rattle.std.proofs.Common.{refl}
use Rattle.qw_csv.specs.Field.{val_of}
use Rattle.qw_csv.proofs.StorageLemmas.{kept_not_null, kept_with_null, not_false, not_true}
use Rattle.qw_csv.proofs.storage.Values.push.Goals as goal

pub returns-in_ok-push-2-clause-kept : goal.returns-in_ok-push-2-clause-kept
returns-in_ok-push-2-clause-kept c =
    (kept_with_null c.args.column c.args.self.now _ (val_of c.args.cell) (not_true _ c.if-not-column.true) c.requires.kept c.requires.typed c.in_ok-push.ensures.form c.in_ok-push.ensures.pushed
    (rw c.is_null.ensures at c.in_ok-push-2.ensures.items)).0

pub returns-in_ok-push-2-clause-pushed : goal.returns-in_ok-push-2-clause-pushed
returns-in_ok-push-2-clause-pushed c =
    (kept_with_null c.args.column c.args.self.now (record { cells = c.push.new.self; nulls = c.push-then-not-column.new.self }) (val_of c.args.cell) (not_true _ c.if-not-column.true) c.requires.kept c.requires.typed c.in_ok-push.ensures.form c.in_ok-push.ensures.pushed
    (rw c.is_null.ensures at c.in_ok-push-2.ensures.items)).1

pub returns-else-not-column-clause-kept : goal.returns-else-not-column-clause-kept
returns-else-not-column-clause-kept c =
    (kept_not_null c.args.column c.args.self.now _ (val_of c.args.cell) (not_false _ c.if-not-column.false) c.requires.kept c.requires.typed c.in_ok-push.ensures.form c.in_ok-push.ensures.pushed refl).0

pub returns-else-not-column-clause-pushed : goal.returns-else-not-column-clause-pushed
returns-else-not-column-clause-pushed c =
    (kept_not_null c.args.column c.args.self.now (record { cells = c.push.new.self; nulls = c.args.self.now.nulls }) (val_of c.args.cell) (not_false _ c.if-not-column.false) c.requires.kept c.requires.typed c.in_ok-push.ensures.form c.in_ok-push.ensures.pushed refl).1
