use Rattle.std.proofs.Common.{◌≡◌, ◌∙◌, sym, true, false}
use Rattle.qw_binary.proofs.Refusals.{few_locals}
use Rattle.qw_binary.proofs.write.functions.put_locals.Goals as goal

pub returns-then-not-are_few-clause-refused : goal.returns-then-not-are_few-clause-refused
returns-then-not-are_few-clause-refused c = λ e text s.
    let both : true ≡ false = sym (few_locals c.args.runs.now text s) ∙ sym c.are_few.ensures ∙ c.if-not-are_few.true in
    cc
