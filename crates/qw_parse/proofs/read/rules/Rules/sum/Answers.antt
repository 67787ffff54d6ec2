use Rattle.std.proofs.Common.{refl}
use Rattle.std.proofs.lemmas.Result.{err_from_is_err_and}
use Rattle.qw_ast.specs.ScriptGrammar.{addition_of}
use Rattle.qw_ast.specs.SyntaxTree.{clause_of}
use Rattle.qw_parse.specs.Inner.Parser.{left}
use Rattle.qw_parse.specs.Inner.Readers.{join_arithmetic, nested_at, sum_at, term_at, token_at}
use Rattle.qw_parse.proofs.TokenLemmas.{token_shortens}
use Rattle.qw_parse.proofs.ReadLemmas.{going_clash, going_down, going_end, going_on, going_start, going_stop, term_shortens}
use Rattle.qw_parse.proofs.read.rules.Rules.sum.Goals as goal

pub operands-init : goal.operands-init
unfolding sum_at
operands-init g c = going_start (token_at addition_of) (term_at (nested_at c.args.self.now.levels)) join_arithmetic (term_at (nested_at c.args.self.now.levels)) _ _ _ c.in_ok-whole.ensures

pub operands-preserved : goal.operands-preserved
operands-preserved g c =
    going_on (token_at addition_of) (term_at (nested_at c.args.self.now.levels)) join_arithmetic (sum_at (nested_at c.args.self.now.levels) (left c.args.parser.now)) (clause_of c.operands.whole) (left c.operands.parser) c.operands.invariant
    (token_shortens addition_of) (term_shortens c.args.self.now.levels) _ _ _ _ _ c.in-Some.ensures.found c.in_ok-operand.ensures c.in_ok-whole-2.ensures

pub operands-smaller : goal.operands-smaller
operands-smaller g c =
    going_down (token_at addition_of) (term_at (nested_at c.args.self.now.levels)) join_arithmetic (token_shortens addition_of) (term_shortens c.args.self.now.levels) _ _ (left c.operands.parser) _ _ c.in-Some.ensures.found c.in_ok-operand.ensures

pub returns-in_err-operand : goal.returns-in_err-operand
returns-in_err-operand g c =
    let err = err_from_is_err_and c.from_residual-in_err-operand.result c.from_residual-in_err-operand.ensures.1 in
    rw (err.1, err.2)
    (λ more. going_stop (token_at addition_of) (term_at (nested_at c.args.self.now.levels)) join_arithmetic (sum_at (nested_at c.args.self.now.levels) (left c.args.parser.now)) (clause_of c.operands.whole) (left c.operands.parser) c.operands.invariant _ _ c.in-Some.ensures.found (c.in_err-operand.ensures more))

pub returns-in_err-whole-2 : goal.returns-in_err-whole-2
returns-in_err-whole-2 g c =
    let err = err_from_is_err_and c.from_residual-in_err-whole-2.result c.from_residual-in_err-whole-2.ensures.1 in
    rw (err.1, err.2)
    (λ more. going_clash (token_at addition_of) (term_at (nested_at c.args.self.now.levels)) join_arithmetic (sum_at (nested_at c.args.self.now.levels) (left c.args.parser.now)) (clause_of c.operands.whole) (left c.operands.parser) c.operands.invariant _ _ _ _ c.in-Some.ensures.found c.in_ok-operand.ensures (c.in_err-whole-2.ensures more))

pub returns : goal.returns
returns g c = rw (c.in_default.ensures.kept refl) (going_end (token_at addition_of) (term_at (nested_at c.args.self.now.levels)) join_arithmetic (sum_at (nested_at c.args.self.now.levels) (left c.args.parser.now)) (clause_of c.operands.whole) (left c.operands.parser) c.operands.invariant c.in_default.ensures.found)
