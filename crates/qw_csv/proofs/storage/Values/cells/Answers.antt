use Rattle.qw_csv.proofs.CellLemmas.{dates_lent, decimals_lent, integers_lent, texts_lent}
use Rattle.qw_csv.proofs.storage.Values.cells.Goals as goal

pub returns-in-Integers : goal.returns-in-Integers
returns-in-Integers c type kept = integers_lent type c.args.self.now c.in-Integers.numbers c.as_slice.result kept c.in-Integers.is c.as_slice.ensures.value

pub returns-in-Decimals : goal.returns-in-Decimals
returns-in-Decimals c type kept = decimals_lent type c.args.self.now c.in-Decimals.numbers c.as_slice-in-Decimals.result kept c.in-Decimals.is c.as_slice-in-Decimals.ensures.value

pub returns-in-Dates : goal.returns-in-Dates
returns-in-Dates c type kept = dates_lent type c.args.self.now c.in-Dates.dates c.as_slice-in-Dates.result kept c.in-Dates.is c.as_slice-in-Dates.ensures.value

pub returns-in-Texts : goal.returns-in-Texts
returns-in-Texts c type kept =
    texts_lent type c.args.self.now c.in-Texts.texts c.as_slice-in-Texts.result c.as_slice-in-Texts-2.result kept c.in-Texts.is c.as_slice-in-Texts.ensures.value c.as_slice-in-Texts-2.ensures.value
