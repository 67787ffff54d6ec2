use Rattle.std.proofs.Common.{◌≡◌, ◌+◌, [], drop}
use Rattle.qw_schema.specs.Inner.Judges.{judged_from}
use Rattle.qw_ast.proofs.StatementLemmas.{lexed}
use Rattle.qw_schema.proofs.parse.declare.declared.Given as goal

abbrev pub invariant-loop-index : goal.invariant-loop-index
invariant-loop-index l =
    judged_from [] 1 (lexed l.statements) ≡ judged_from l.tables.items (l.index + 1) (lexed (drop l.index l.statements))
