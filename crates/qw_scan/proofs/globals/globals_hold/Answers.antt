use Rattle.std.proofs.Common.{ℕ, List, ap, sym, ◌∙◌, refl}
use Rattle.qw_octet_grammar.specs.Numbers.{u32}
use Rattle.qw_octet_grammar.specs.Reading.{read}
use Rattle.qw_binary.specs.Sections.{global}
use Rattle.qw_scan.specs.Inner.Initial.{HasInitial}
use Rattle.qw_scan.proofs.TestLemmas.{told_at, all_of_none}
use Rattle.qw_scan.proofs.globals.globals_hold.Goals as goal

pub returns-in_default : goal.returns-in_default
returns-in_default c = λ there. (λ _. all_of_none global HasInitial c.args.octets.now c.args.at c.in_default.is, λ _. refl)

pub returns : goal.returns
returns c = told_at global HasInitial c.args.octets.now c.args.at c.in-Some.at c.in-Ok.count c.in-Ok.rest.now c.are_globals.result c.in-Some.is
    (ap (λ (bs : List ℕ). read u32 bs) (sym c.from.ensures) ∙ c.in-Ok.ensures) c.are_globals.ensures
