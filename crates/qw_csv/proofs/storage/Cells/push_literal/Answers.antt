use Rattle.std.proofs.Common.{ℤ, ◌++◌, ◌∷◌, [], ◌∙◌, ap, rules, w32, w64}
use Rattle.std.proofs.lemmas.Int.{to_z-of_z}
use Rattle.qw_csv.proofs.StorageLemmas.{date_put, decimal_put, integer_put, text_put}
use Rattle.qw_csv.proofs.storage.Cells.push_literal.Goals as goal

pub returns-in_ok-push-in-Ok : goal.returns-in_ok-push-in-Ok
returns-in_ok-push-in-Ok c =
    let put = integer_put c.args.column.now.ty c.args.field.now c.args.self.now c.in-Integers.numbers c.push.new.self c.in-Ok.number c.requires.form c.in-Integers.is c.in-Ok.ensures
    (c.in_ok-push-in-Ok.ensures.items ∙ ap (λ (n : ℤ). c.in-Integers.numbers.items ++ n ∷ []) (to_z-of_z w32 c.in-Ok.number (search rules))) in
    (put.value, put.of, put.form, put.pushed)

pub returns-in_ok-push-in-Ok-read_number : goal.returns-in_ok-push-in-Ok-read_number
returns-in_ok-push-in-Ok-read_number c =
    let put = decimal_put c.args.column.now.ty c.args.field.now c.args.self.now c.in-Decimals.numbers c.push-in-Ok-read_number.new.self c.in-Ok-read_number.number c.requires.form c.in-Decimals.is
    c.in-Ok-read_number.ensures
    (c.in_ok-push-in-Ok-read_number.ensures.items ∙ ap (λ (n : ℤ). c.in-Decimals.numbers.items ++ n ∷ []) (to_z-of_z w64 c.in-Ok-read_number.number (search rules))) in
    (put.value, put.of, put.form, put.pushed)

pub returns-in_ok-push-in-Ok-read_date : goal.returns-in_ok-push-in-Ok-read_date
returns-in_ok-push-in-Ok-read_date c =
    let put = date_put c.args.column.now.ty c.args.field.now c.args.self.now c.in-Dates.dates c.push-in-Ok-read_date.new.self c.in-Ok-read_date.date c.requires.form c.in-Dates.is
    c.in-Ok-read_date.ensures
    (c.in_ok-push-in-Ok-read_date.ensures.items ∙ ap (λ (n : ℤ). c.in-Dates.dates.items ++ n ∷ []) (to_z-of_z w32 c.in-Ok-read_date.date (search rules))) in
    (put.value, put.of, put.form, put.pushed)

pub returns-in_ok-push-in-Texts : goal.returns-in_ok-push-in-Texts
returns-in_ok-push-in-Texts c =
    let put = text_put c.args.column.now.ty c.args.field.now c.args.self.now c.in-Texts.texts c.push-in-Texts.new.self c.requires.form c.in-Texts.is (c.is_short_text.ensures c.if-is_short_text.true)
    c.in_ok-push-in-Texts.ensures.ends c.in_ok-push-in-Texts.ensures.texts in
    (put.value, put.of, put.form, put.pushed)
