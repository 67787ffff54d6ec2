use Rattle.std.proofs.Common.{◌∙◌, arith, sym}
use Rattle.std.proofs.lemmas.Bool.{false≢true}
use Rattle.qw_csv.specs.Field.{val_of}
use Rattle.qw_csv.specs.Inner.Storage.{plain_values}
use Rattle.qw_csv.proofs.StorageLemmas.{length-with_nulls, null_at, plain_at}
use Rattle.qw_csv.proofs.storage.Values.get.Goals as goal

pub returns-then-is_flagged : goal.returns-then-is_flagged
returns-then-is_flagged c =
    let kept = c.args.self.now in
    let flag = rw c.as_slice.ensures.value at (c.is_flagged.ensures.0 c.if-is_flagged.true) in
    null_at (plain_values kept.cells) kept.nulls.items c.args.row (omega (arith, c.requires.row, length-with_nulls (plain_values kept.cells) kept.nulls.items)) flag

pub get-requires-clause-row : goal.get-requires-clause-row
get-requires-clause-row c =
    let kept = c.args.self.now in
    omega (arith, c.requires.row, length-with_nulls (plain_values kept.cells) kept.nulls.items)

pub returns : goal.returns
returns c =
    let kept = c.args.self.now in
    plain_at (plain_values kept.cells) kept.nulls.items c.args.row (val_of c.get.result)
    (λ flag. false≢true (sym c.if-is_flagged.false ∙ c.is_flagged.ensures.1 (rw c.as_slice.ensures.value flag))) c.get.ensures
