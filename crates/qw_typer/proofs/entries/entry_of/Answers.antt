use Rattle.std.proofs.Common.{rules, ◌≡◌, Some, None, sym, ap, ◌∙◌}
use Rattle.qw_types.specs.declared.schema.Table.{Table}
use Rattle.qw_ast.specs.Grammar.{name_of}
use Rattle.qw_ast.specs.SyntaxTree as syntax
use Rattle.qw_typer.specs.declared.fault.FaultKind.TheVariants.{UnknownTable}
use Rattle.qw_typer.specs.declared.refusal.Token.TheVariants.{Name}
use Rattle.qw_typer.specs.Typed.{entry_name, place_of}
use Rattle.qw_typer.proofs.EntryLemmas.{entry_found, table_unknown}
use Rattle.qw_typer.proofs.QueryLemmas.{is_one}
use Rattle.qw_typer.proofs.entries.entry_of.Goals as goal

pub returns-in-Some-clause-known : goal.returns-in-Some-clause-known
returns-in-Some-clause-known c =
    let there : place_of c.args.tables.now (name_of c.args.named.now.table.now) ≡ Some c.in-Some.place = search rules in
    let name : c.in_ok-name.name ≡ entry_name (syntax.entry_of c.args.named.now) = search rules in
    entry_found c.args.tables.now (syntax.entry_of c.args.named.now) c.args.number c.in-Some.place c.index-tables-place.result c.in_ok-name.name c.as_slice.result.now there c.index-tables-place.is name (c.as_slice.ensures.same ∙ sym (ap (λ (t : Table). t.columns) c.index-tables-place.is))

pub returns-in-None-clause-known : goal.returns-in-None-clause-known
returns-in-None-clause-known c =
    let unknown : place_of c.args.tables.now (name_of c.args.named.now.table.now) ≡ None = search rules in
    is_one UnknownTable (Name c.args.named.now.table) _ (table_unknown c.args.tables.now (name_of c.args.named.now.table.now) unknown)
