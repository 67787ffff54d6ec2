use Rattle.std.proofs.Common.{List, ℕ, sym, ap, ◌∙◌}
use Rattle.qw_octet_grammar.specs.Reading.{read}
use Rattle.qw_binary.specs.Sections.{imports}
use Rattle.qw_scan.proofs.TableLemmas.{values_there, nothing_there}
use Rattle.qw_scan.proofs.tables.imports_of.Goals as goal

pub returns-in_default : goal.returns-in_default
returns-in_default c = λ there. c.new.ensures.items ∙ sym (nothing_there imports c.args.octets.now c.args.at c.in_default.is)

pub returns : goal.returns
returns c = λ there.
    sym (values_there imports c.args.octets.now c.args.at c.in-Some.at c.in-Ok.imports.items c.in-Ok.field-0-1.now c.in-Some.is (ap (λ (bs : List ℕ). read imports bs) (sym c.from.ensures) ∙ c.in-Ok.ensures))
