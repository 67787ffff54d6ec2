use Rattle.std.proofs.Common.{[], ◌∷◌, refl}
use Rattle.qw_scalar.specs.WorkedRows.{pen}
use Rattle.qw_meaning.specs.WorkedQueries.{items_entry}
use Rattle.qw_whole.proofs.layout_laws.texts_of_abbreviations.Goals as goal

pub returns : goal.returns
returns c = record {
  is = λ cells. record {
    columns = (record { entry = items_entry; stands = refl; table_is = refl; column_is = refl; declared = refl }, tt);
    texts = pen ∷ [];
    octets = refl;
    texts_are = refl;
  };
}
