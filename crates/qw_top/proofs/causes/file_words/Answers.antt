use Rattle.std.proofs.Common.{◌∙◌, codes, sym, append_assoc}
use Rattle.std.specs.Fmt.{decimal}
use Rattle.qw_top.proofs.causes.file_words.Goals as goal

pub returns-in_ok-format-in-Some : goal.returns-in_ok-format-in-Some
returns-in_ok-format-in-Some c =
    let words = rw c.as_str-name.ensures at c.in_ok-format-in-Some.ensures.ok in
    rw c.in-Some.is (words ∙ sym (append_assoc c.args.table.now.name (codes " part ") (decimal c.in-Some.part)))
