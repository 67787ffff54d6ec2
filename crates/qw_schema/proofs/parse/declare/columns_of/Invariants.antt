use Rattle.std.proofs.Common.{◌≡◌, ◌++◌, map, option_map}
use Rattle.qw_schema.specs.Inner.Judges.{columns_of}
use Rattle.qw_schema.specs.Inner.Tables.{read_of}
use Rattle.qw_schema.proofs.parse.declare.columns_of.Given as goal

abbrev pub invariant-loop-definition : goal.invariant-loop-definition
invariant-loop-definition l =
    option_map (λ x. l.columns.items ++ x) (columns_of (map read_of l.definition-iterator.rest.items)) ≡ columns_of (map read_of l.fn.definitions.items)
