use Rattle.std.proofs.Common.{refl}
use Rattle.std.specs.Fmt.{digits}
use Rattle.qw_top.proofs.worked_laws.worked_query_lines.Goals as goal

pub returns : goal.returns
unfolding digits
returns c = record {
  too_long = refl;
  not_token = refl;
  not_grammar = refl;
  many_statements = refl;
  many_items = refl;
  many_entries = refl;
  many_groups = refl;
  many_keys = refl;
  many_nodes = refl;
  many_octets = refl;
  unknown_table = refl;
  unknown_column = refl;
  ambiguous = refl;
  duplicate_alias = refl;
  clash = refl;
  scale = refl;
  literal = refl;
  date = refl;
  ordinal = refl;
  not_grouped = refl;
  nested = refl;
  many_functions = refl;
  pages = refl;
}
