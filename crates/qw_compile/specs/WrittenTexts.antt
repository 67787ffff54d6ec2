-- The text literals of a query (ISO/IEC 9075:1992, 5.3), in the order in which they stand in it: those of each ON in written order, of WHERE, and of
-- the select list. In this order their octets lie in the first page, so that who has the query alone can write them there.
use Rattle.std.specs.Prelude.{ℕ, List, ◌++◌}
use Rattle.std.specs.List.{flat_map}
use Rattle.qw_scalar.specs.Texts.{texts_in, texts_within}
use Rattle.qw_meaning.specs.Query.{QueryParts}
use Rattle.qw_algebra.specs.Sizes.{tests_on}

abbrev pub texts_of_query : QueryParts → List (List ℕ)
texts_of_query parts = flat_map texts_within (tests_on parts.sources) ++ (flat_map texts_within parts.conjuncts ++ flat_map texts_in parts.items)
