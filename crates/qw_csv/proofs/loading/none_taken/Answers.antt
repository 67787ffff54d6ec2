use Rattle.std.proofs.Common.{◌≡◌, ◌∙◌, [], ap, length}
use Rattle.qw_csv.proofs.FileLemmas.{none_are_none}
use Rattle.qw_csv.proofs.loading.none_taken.Goals as goal

pub returns-clause-none : goal.returns-clause-none
returns-clause-none c =
    let none : c.in_ok-loaded.field-0.rows ≡ [] = c.in_ok-loaded.ensures.rows ∙ none_are_none c.in_ok-values.values.items in
    (rw c.next_part.ensures.rows none, c.next_part.ensures.named, rw c.next_part.ensures.before (ap length none))
