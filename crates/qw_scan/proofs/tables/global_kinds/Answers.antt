use Rattle.std.proofs.Common.{List, ℕ, map, sym, ap, ◌∙◌}
use Rattle.std.proofs.lemmas.Option.{IfSome_then}
use Rattle.qw_octet_grammar.specs.Numbers.{u32}
use Rattle.qw_octet_grammar.specs.Vectors.{vector}
use Rattle.qw_octet_grammar.specs.Reading.{read}
use Rattle.qw_binary.specs.Contents.{GlobalContents}
use Rattle.qw_binary.specs.Sections.{global}
use Rattle.qw_scan.specs.declared.scope.GlobalKind.{GlobalKind}
use Rattle.qw_scan.specs.Inner.Tables.{global_of}
use Rattle.qw_scan.proofs.TableLemmas.{nothing_there, kinds_there}
use Rattle.qw_scan.proofs.tables.global_kinds.Goals as goal

pub returns-in_default : goal.returns-in_default
returns-in_default c = λ there.
    ap (λ (ks : List GlobalKind). map global_of ks) c.new.ensures.items
    ∙ ap (λ (gs : List GlobalContents). map (λ (g : GlobalContents). g.type) gs) (sym (nothing_there (vector global) c.args.octets.now c.args.at c.in_default.is))

pub returns : goal.returns
returns c = λ there.
    IfSome_then c.global_kinds_from.result c.global_kinds_from.ensures
    (λ v has. kinds_there c.args.octets.now c.args.at c.in-Some.at c.in-Ok.count c.in-Ok.rest.now (map global_of v.items) c.in-Some.is there (ap (λ (bs : List ℕ). read u32 bs) (sym c.from.ensures) ∙ c.in-Ok.ensures) has)
