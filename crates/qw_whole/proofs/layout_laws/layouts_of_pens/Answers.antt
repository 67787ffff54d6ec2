use Rattle.std.proofs.Common.{[], ◌∷◌, refl, sym}
use Rattle.qw_scalar.specs.WorkedRows.{pen}
use Rattle.qw_meaning.specs.WorkedQueries.{items_entry}
use Rattle.qw_whole.proofs.LayoutLemmas.{no_text}
use Rattle.qw_whole.proofs.layout_laws.layouts_of_pens.Goals as goal

pub returns-clause-is : goal.returns-clause-is
returns-clause-is c = λ cells. record {
  columns = (record { entry = items_entry; stands = refl; table_is = refl; column_is = refl; declared = refl }, (record { entry = items_entry; stands = refl; table_is = refl; column_is = refl; declared = refl }, tt));
  texts = pen ∷ [];
  octets = refl;
  texts_are = refl;
}

pub returns-clause-no_text : goal.returns-clause-no_text
returns-clause-no_text c = λ cells h. let none = (no_text (pen ∷ []) h.texts (sym h.octets) h.texts_are).0 in cc
