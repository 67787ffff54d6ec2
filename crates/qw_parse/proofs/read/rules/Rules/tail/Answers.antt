use Rattle.std.proofs.Common.{refl}
use Rattle.qw_ast.specs.SyntaxTree.{expression_of}
use Rattle.qw_parse.specs.Inner.Parser.{left}
use Rattle.qw_parse.specs.Inner.Readers.{nested_at}
use Rattle.qw_parse.proofs.TailReadLemmas.{tail_alone, tail_between, tail_compare, tail_in, tail_like, tail_value_test}
use Rattle.qw_parse.proofs.read.rules.Rules.tail.Goals as goal

pub returns-in-Some : goal.returns-in-Some
returns-in-Some g c =
    rw (tail_compare (nested_at c.args.self.now.levels) (expression_of c.args.operand) (left c.args.parser.now) c.in-Some.comparison (left c.comparison.new.self) c.in-Some.ensures.found)
    (c.as_phrase.ensures _ _ c.compare.ensures)

pub returns-then-word : goal.returns-then-word
returns-then-word g c =
    rw (tail_value_test (nested_at c.args.self.now.levels) (expression_of c.args.operand) (left c.args.parser.now) c.in_default.ensures.found (left c.comparison.new.self) (c.in_default.ensures.kept refl) (left c.word.new.self) c.if-word.ensures.found)
    (c.as_phrase-then-word.ensures _ _ c.value_test.ensures)

pub returns-then-word-2 : goal.returns-then-word-2
returns-then-word-2 g c =
    rw (tail_between (nested_at c.args.self.now.levels) (expression_of c.args.operand) (left c.args.parser.now) c.in_default.ensures.found (left c.comparison.new.self) (c.in_default.ensures.kept refl) c.if-word.ensures.found (left c.word.new.self) (c.if-word.ensures.kept refl) c.not-negated.result (left c.not-negated.new.self) c.not-negated.ensures (left c.word-2.new.self) c.if-word-2.ensures.found)
    (c.as_phrase-then-word-2.ensures _ _ c.between.ensures)

pub returns-then-word-3 : goal.returns-then-word-3
returns-then-word-3 g c =
    rw (tail_in (nested_at c.args.self.now.levels) (expression_of c.args.operand) (left c.args.parser.now) c.in_default.ensures.found (left c.comparison.new.self) (c.in_default.ensures.kept refl) c.if-word.ensures.found (left c.word.new.self) (c.if-word.ensures.kept refl) c.not-negated.result (left c.not-negated.new.self) c.not-negated.ensures c.if-word-2.ensures.found (left c.word-2.new.self) (c.if-word-2.ensures.kept refl) (left c.word-3.new.self) c.if-word-3.ensures.found)
    (c.as_phrase-then-word-3.ensures _ _ c.among.ensures)

pub returns-then-word-4 : goal.returns-then-word-4
returns-then-word-4 g c =
    rw (tail_like (nested_at c.args.self.now.levels) (expression_of c.args.operand) (left c.args.parser.now) c.in_default.ensures.found (left c.comparison.new.self) (c.in_default.ensures.kept refl) c.if-word.ensures.found (left c.word.new.self) (c.if-word.ensures.kept refl) c.not-negated.result (left c.not-negated.new.self) c.not-negated.ensures c.if-word-2.ensures.found (left c.word-2.new.self) (c.if-word-2.ensures.kept refl) c.if-word-3.ensures.found (left c.word-3.new.self) (c.if-word-3.ensures.kept refl) (left c.word-4.new.self) c.if-word-4.ensures.found)
    (c.as_phrase-then-word-4.ensures _ _ c.like.ensures)

pub returns : goal.returns
returns g c =
    tail_alone (nested_at c.args.self.now.levels) (expression_of c.args.operand) (left c.args.parser.now) (left c.comparison.new.self) (left c.word.new.self) (left c.not-negated.new.self) (left c.word-2.new.self) (left c.word-3.new.self) (left c.word-4.new.self) c.not-negated.result
    c.in_default.ensures.found (c.in_default.ensures.kept refl) c.if-word.ensures.found (c.if-word.ensures.kept refl) c.not-negated.ensures c.if-negated.false c.if-word-2.ensures.found (c.if-word-2.ensures.kept refl) c.if-word-3.ensures.found (c.if-word-3.ensures.kept refl)
    c.if-word-4.ensures.found (c.if-word-4.ensures.kept refl)
