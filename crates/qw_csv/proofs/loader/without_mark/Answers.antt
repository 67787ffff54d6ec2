use Rattle.std.proofs.Common.{◌∙◌, sym}
use Rattle.qw_csv.proofs.FileLemmas.{bare_marked, bare_short, bare_unmarked, rest_taken}
use Rattle.qw_csv.proofs.loader.without_mark.Goals as goal

pub returns-then-text-lt3 : goal.returns-then-text-lt3
returns-then-text-lt3 c = bare_short c.args.text.now c.if-text-lt3.true

pub returns-then-is_mark : goal.returns-then-is_mark
returns-then-is_mark c = rest_taken 3 c.args.text.now ∙ bare_marked c.args.text.now c.if-text-lt3.false (sym c.is_mark.ensures ∙ c.if-is_mark.true)

pub returns : goal.returns
returns c = bare_unmarked c.args.text.now c.if-text-lt3.false (sym c.is_mark.ensures ∙ c.if-is_mark.false)
