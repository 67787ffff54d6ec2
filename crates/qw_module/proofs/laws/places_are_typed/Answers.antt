use Rattle.qw_module.proofs.PlaceLemmas.{typed_body, typable_body, none_refused, one_first_place}
use Rattle.qw_module.proofs.laws.places_are_typed.Goals as goal

pub returns-clause-typed : goal.returns-clause-typed
returns-clause-typed c = typed_body

pub returns-clause-typable : goal.returns-clause-typable
returns-clause-typable c = typable_body

pub returns-clause-none_refused : goal.returns-clause-none_refused
returns-clause-none_refused c = none_refused

pub returns-clause-one_refused : goal.returns-clause-one_refused
returns-clause-one_refused c = one_first_place
