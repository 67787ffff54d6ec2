use Rattle.std.proofs.Common.{map, refl}
use Rattle.std.specs.Prelude.{codes}
use Rattle.std.proofs.lemmas.Result.{err_from_is_err_and}
use Rattle.qw_ast.specs.ScriptGrammar.{is_when, is_word}
use Rattle.qw_parse.specs.Inner.Parser.{branch_of, left}
use Rattle.qw_parse.specs.Inner.Readers.{append, branch_at, branches_at, nested_at, token_at}
use Rattle.qw_parse.proofs.TokenLemmas.{token_shortens}
use Rattle.qw_parse.proofs.ReadLemmas.{branch_shortens, branches_start, going_down, going_end, going_stop, list_on, sign_gone, sign_there}
use Rattle.qw_parse.proofs.read.rules.Rules.branches.Goals as goal

pub items-init : goal.items-init
items-init g c = rw c.new-branches.ensures.items (branches_start (nested_at c.args.self.now.levels) c.args.searched (left c.args.parser.now))

pub items-preserved : goal.items-preserved
items-preserved g c =
    list_on branch_of (token_at is_when) (branch_at (nested_at c.args.self.now.levels) c.args.searched) (token_shortens is_when) (branch_shortens c.args.self.now.levels c.args.searched) (branches_at (nested_at c.args.self.now.levels) c.args.searched (left c.args.parser.now))
    c.items.branches.items c.push.new.list.items _ tt (left c.items.parser) (left c.word.new.self) (left c.branch-self.new.parser)
    c.items.invariant c.in_ok-push.ensures (sign_there (is_word (codes "WHEN")) (left c.items.parser) (left c.word.new.self) c.items-test.ensures.found) c.in_ok-branch.ensures

pub items-smaller : goal.items-smaller
items-smaller g c =
    going_down (token_at is_when) (branch_at (nested_at c.args.self.now.levels) c.args.searched) append (token_shortens is_when) (branch_shortens c.args.self.now.levels c.args.searched) tt _ (left c.items.parser) (left c.word.new.self) (left c.branch-self.new.parser)
    (sign_there (is_word (codes "WHEN")) (left c.items.parser) (left c.word.new.self) c.items-test.ensures.found) c.in_ok-branch.ensures

pub returns-in_err-branch : goal.returns-in_err-branch
returns-in_err-branch g c =
    let err = err_from_is_err_and c.from_residual.result c.from_residual.ensures.1 in
    rw (err.1, err.2)
    (λ more. going_stop (token_at is_when) (branch_at (nested_at c.args.self.now.levels) c.args.searched) append (branches_at (nested_at c.args.self.now.levels) c.args.searched (left c.args.parser.now)) (map branch_of c.items.branches.items) (left c.items.parser) c.items.invariant
    tt (left c.word.new.self) (sign_there (is_word (codes "WHEN")) (left c.items.parser) (left c.word.new.self) c.items-test.ensures.found) (c.in_err-branch.ensures more))

pub returns : goal.returns
returns g c =
    rw (c.items-test.ensures.kept refl)
    (going_end (token_at is_when) (branch_at (nested_at c.args.self.now.levels) c.args.searched) append (branches_at (nested_at c.args.self.now.levels) c.args.searched (left c.args.parser.now)) (map branch_of c.items.branches.items) (left c.items.parser) c.items.invariant
    (sign_gone (is_word (codes "WHEN")) (left c.items.parser) c.items-test.ensures.found))
