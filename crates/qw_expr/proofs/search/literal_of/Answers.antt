use Rattle.std.proofs.Common.{rules, FitsSigned, w32, w64}
use Rattle.std.proofs.lemmas.Int.{to_z-of_z}
use Rattle.qw_scalar.specs.Tree.{expression_of}
use Rattle.qw_expr.specs.Bindings.{known_of}
use Rattle.qw_expr.proofs.PlainTests.{if_some}
use Rattle.qw_expr.proofs.Sought.{date_sought, number_sought}
use Rattle.qw_expr.proofs.search.literal_of.Goals as goal

pub returns-in-Number : goal.returns-in-Number
returns-in-Number c =
    let a = expression_of c.args.operand.now in
    let v = c.in-Number.number in
    let typed = rw c.in-Number.is at c.requires.typed in
    let range : FitsSigned w64 v = search rules in
    let found = rw (to_z-of_z w64 v range) at c.where_related.ensures in
    rw c.in-Number.is
    (if_some _ _ c.where_related.result (λ k made. number_sought (known_of c.args.known.now) a c.args.x c.number_of.result v c.in-Number.scale typed (search rules) k made.0 made.1) found)

pub returns-in-Date : goal.returns-in-Date
returns-in-Date c =
    let a = expression_of c.args.operand.now in
    let d = c.in-Date.day in
    let typed = rw c.in-Date.is at c.requires.typed in
    let small : FitsSigned w32 d = search rules in
    let range : FitsSigned w64 c.from.result = search rules in
    let found = rw (to_z-of_z w64 c.from.result range, c.from.ensures, to_z-of_z w32 d small) at c.where_related-in-Date.ensures in
    rw c.in-Date.is
    (if_some _ _ c.where_related-in-Date.result (λ k made. date_sought (known_of c.args.known.now) a c.args.x c.date_of.result d typed (search rules) k made.0 made.1) found)
