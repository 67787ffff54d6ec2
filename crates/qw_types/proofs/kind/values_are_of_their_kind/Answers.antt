use Rattle.qw_types.proofs.KindLemmas.{column_of_kind, row_of_kinds, typed_of_kind}
use Rattle.qw_types.proofs.kind.values_are_of_their_kind.Goals as goal

pub returns : goal.returns
returns c = record { of_type = typed_of_kind; of_column = column_of_kind; of_row = row_of_kinds }
