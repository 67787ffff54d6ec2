use Rattle.std.proofs.Common.{map, refl}
use Rattle.std.proofs.lemmas.Result.{err_from_is_err_and}
use Rattle.qw_ast.specs.SyntaxTree.{joined_of}
use Rattle.qw_parse.specs.Inner.Parser.{left}
use Rattle.qw_parse.specs.Inner.Readers.{join_at, join_on, joined_at, joins_at, nested_at}
use Rattle.qw_parse.proofs.NameLemmas.{join_shortens}
use Rattle.qw_parse.proofs.ReadLemmas.{going_down, going_end, going_stop, joined_shortens, joins_on, joins_start}
use Rattle.qw_parse.proofs.read.parser.Parser.joins.Goals as goal

pub joins-init : goal.joins-init
joins-init c = rw c.new-joins.ensures.items (joins_start (nested_at 33) (left c.args.self.now))

pub joins-preserved : goal.joins-preserved
joins-preserved c =
    joins_on (nested_at 33) (joined_shortens 33) (joins_at (nested_at 33) (left c.args.self.now))
    c.joins.joins.items c.push.new.list.items _ (left c.joins.self) (left c.join.new.self) (left c.joined.new.self)
    c.joins.invariant c.in_ok-push.ensures c.in-Some.ensures.found c.in_ok-entry.ensures

pub joins-smaller : goal.joins-smaller
joins-smaller c =
    going_down join_at (joined_at (nested_at 33)) join_on join_shortens (joined_shortens 33) _ _ (left c.joins.self) (left c.join.new.self) (left c.joined.new.self) c.in-Some.ensures.found c.in_ok-entry.ensures

pub returns-in_err-entry : goal.returns-in_err-entry
returns-in_err-entry c =
    let err = err_from_is_err_and c.from_residual.result c.from_residual.ensures.1 in
    rw (err.1, err.2)
    (λ more. going_stop join_at (joined_at (nested_at 33)) join_on (joins_at (nested_at 33) (left c.args.self.now)) (map joined_of c.joins.joins.items) (left c.joins.self) c.joins.invariant
    _ (left c.join.new.self) c.in-Some.ensures.found (c.in_err-entry.ensures more))

pub returns : goal.returns
returns c =
    rw (c.in_default.ensures.kept refl)
    (going_end join_at (joined_at (nested_at 33)) join_on (joins_at (nested_at 33) (left c.args.self.now)) (map joined_of c.joins.joins.items) (left c.joins.self) c.joins.invariant c.in_default.ensures.found)
