use Rattle.std.proofs.Common.{◌≡◌, IsUtf8, [], ◌∷◌, false, true, refl, sym, ◌∙◌, arith}
use Rattle.std.specs.Str.{chars, is_utf8}
use lib.Utf8.{encode}
use Rattle.std.proofs.lemmas.Str.{IsUtf8-from_is_utf8, is_utf8-from_IsUtf8}
use Rattle.qw_scalar.specs.WorkedRows.{pen}
use Rattle.qw_scalar.proofs.closed_laws.texts_that_may_be_given.Goals as goal

pen_is : is_utf8 pen ≡ true
unfolding is_utf8 chars encode
pen_is = refl

stray : is_utf8 (255 ∷ []) ≡ false
unfolding is_utf8 chars encode
stray = refl

no_text : IsUtf8 (255 ∷ []) → ⊥
no_text h = let no : true ≡ false = sym (is_utf8-from_IsUtf8 (255 ∷ []) h) ∙ stray in absurd cc

pub returns-clause-typed : goal.returns-clause-typed
returns-clause-typed c = ((omega arith, omega arith), ((tt, tt), IsUtf8-from_is_utf8 pen pen_is))

pub returns-clause-no_text : goal.returns-clause-no_text
returns-clause-no_text c h = no_text h.1.1

pub returns-clause-no_cell : goal.returns-clause-no_cell
returns-clause-no_cell c h = no_text h.1.0.0.0.1
