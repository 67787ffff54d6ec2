use Rattle.std.proofs.Common.{◌≡◌, inl, inr, refl, arith}
use Rattle.std.proofs.lemmas.Option.{none-some}
use Rattle.qw_command_line.specs.Words.{default_options}
use Rattle.qw_whole.specs.WholePromises.{whole_pages}
use Rattle.qw_bench.specs.Bench.{rows_in_tables}
use Rattle.qw_top.specs.Complete.{most_steps}
use Rattle.qw_top.specs.Limits.{limits_of}
use Rattle.qw_top.specs.Worked.{joined, joined_tables}
use Rattle.qw_top.proofs.worked_laws.worked_ends.Goals as goal

pages_are : whole_pages joined.whole (rows_in_tables joined_tables) ≡ 4
pages_are = refl

steps_are : most_steps joined (rows_in_tables joined_tables) ≡ 17918066688
steps_are = refl

pub returns-clause-enough : goal.returns-clause-enough
returns-clause-enough c = inl (record { pages = omega (arith, pages_are); steps = omega (arith, steps_are) }, tt)

pub returns-clause-defaults : goal.returns-clause-defaults
returns-clause-defaults c =
    let pages_there : (limits_of default_options).pages ≡ 128 = refl in
    let steps_there : (limits_of default_options).steps ≡ 999999999999999999 = refl in
    inl (record { pages = omega (arith, pages_are, pages_there); steps = omega (arith, steps_are, steps_there) }, tt)

pub returns-clause-few_pages : goal.returns-clause-few_pages
returns-clause-few_pages c (inl (suffices, _)) = let within = suffices.pages in omega (arith, pages_are, within)
returns-clause-few_pages c (inr (b, is, _)) = none-some b is

pub returns-clause-few_steps : goal.returns-clause-few_steps
returns-clause-few_steps c (inl (suffices, _)) = let within = suffices.steps in omega (arith, steps_are, within)
returns-clause-few_steps c (inr (b, is, _)) = none-some b is
