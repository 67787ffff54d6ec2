use Rattle.std.proofs.Common.{ℤ, ◌++◌, ◌∷◌, [], ◌∙◌, ap, rules, w32, w64}
use Rattle.std.proofs.lemmas.Int.{to_z-of_z}
use Rattle.qw_csv.specs.Field.{val_of}
use Rattle.qw_csv.proofs.StorageLemmas.{dates_push, decimals_push, varchars_push}
use Rattle.qw_csv.proofs.storage.Cells.push.Goals as goal

pub returns-in_ok-push-in-Decimals-clause-pushed : goal.returns-in_ok-push-in-Decimals-clause-pushed
returns-in_ok-push-in-Decimals-clause-pushed c =
    decimals_push c.args.column.ty c.args.column.not_null c.args.self.now (val_of c.args.cell) c.requires.form c.requires.typed c.in-Decimals.numbers _ c.number_in.result c.in-Decimals.is
    c.number_in.ensures (c.in_ok-push-in-Decimals.ensures.items ∙ ap (λ (n : ℤ). c.in-Decimals.numbers.items ++ n ∷ []) (to_z-of_z w64 c.number_in.result (search rules)))

pub returns-in_ok-push-in-Dates-clause-pushed : goal.returns-in_ok-push-in-Dates-clause-pushed
returns-in_ok-push-in-Dates-clause-pushed c =
    dates_push c.args.column.ty c.args.column.not_null c.args.self.now (val_of c.args.cell) c.requires.form c.requires.typed c.in-Dates.dates _ c.date_in.result c.in-Dates.is
    c.date_in.ensures (c.in_ok-push-in-Dates.ensures.items ∙ ap (λ (n : ℤ). c.in-Dates.dates.items ++ n ∷ []) (to_z-of_z w32 c.date_in.result (search rules)))

pub returns-in_ok-push-in-Texts-clause-pushed : goal.returns-in_ok-push-in-Texts-clause-pushed
returns-in_ok-push-in-Texts-clause-pushed c =
    varchars_push c.args.column.ty c.args.column.not_null c.args.self.now (val_of c.args.cell) c.requires.form c.requires.typed c.in-Texts.texts _ c.text_in.result.now c.in-Texts.is
    c.text_in.ensures c.in_ok-push-in-Texts.ensures.texts
