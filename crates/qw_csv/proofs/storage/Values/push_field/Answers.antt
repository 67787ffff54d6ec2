use Rattle.std.proofs.Common.{◌∙◌, sym}
use Rattle.qw_csv.specs.Field.{lent}
use Rattle.qw_csv.proofs.StorageLemmas.{literal_field}
use Rattle.qw_csv.proofs.storage.Values.push_field.Goals as goal

pub returns-then-branch : goal.returns-then-branch
returns-then-branch c =
    let (value, of, kept, pushed) = rw c.if-branch.true at c.in_ok-push_literal.ensures in
    (value, literal_field (lent c.args.null) c.args.column.now c.args.field.now value (sym c.is_marked.ensures ∙ c.if-is_marked.false) of, kept, pushed)
