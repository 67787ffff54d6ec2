-- Truth of three values (ISO/IEC 9075:1992, 8.12 "search condition").
use Rattle.qw_types.specs.declared.truth.Truth.{Truth}
use Rattle.qw_types.specs.declared.truth.Truth.TheVariants.{True, False, Unknown}

-- false where either is, true where both are, else unknown
abbrev pub conjunction : Truth → Truth → Truth
conjunction False b = False
conjunction True b = b
conjunction Unknown False = False
conjunction Unknown True = Unknown
conjunction Unknown Unknown = Unknown

-- true where either is, false where both are, else unknown
abbrev pub disjunction : Truth → Truth → Truth
disjunction True b = True
disjunction False b = b
disjunction Unknown True = True
disjunction Unknown False = Unknown
disjunction Unknown Unknown = Unknown

-- the negation of unknown is unknown
abbrev pub negation : Truth → Truth
negation True = False
negation False = True
negation Unknown = Unknown
