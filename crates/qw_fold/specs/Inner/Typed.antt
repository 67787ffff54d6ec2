-- What src/tree.rt asks of lists: each expression and each condition of them is typed.
use Rattle.qw_scalar.specs.declared.expression.Matches.{Matches}
use Rattle.qw_scalar.specs.declared.expression.Matches.TheVariants as Matches
use Rattle.qw_scalar.specs.Expression.{Choices, Expressions, last, more, otherwise, when}
use Rattle.qw_scalar.specs.Tree.{expression_of}
use Rattle.qw_scalar.specs.Typing.{AreTyped, IsTyped}

abbrev pub AllTyped : Expressions → Type 0
AllTyped (last e) = IsTyped e
AllTyped (more e es) = IsTyped e × AllTyped es

abbrev pub ChoicesTyped : Choices → Type 0
ChoicesTyped (otherwise e) = IsTyped e
ChoicesTyped (when c e rest) = AreTyped c × (IsTyped e × ChoicesTyped rest)

abbrev pub MatchesTyped : Matches → Type 0
MatchesTyped (Matches.Last' _ v _ e _ other) = IsTyped (expression_of v) × (IsTyped (expression_of e) × IsTyped (expression_of other))
MatchesTyped (Matches.When' _ v _ e _ rest) = IsTyped (expression_of v) × (IsTyped (expression_of e) × MatchesTyped rest)
