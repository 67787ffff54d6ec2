-- The text literals of a query, grouped or not (ISO/IEC 9075:1992, 5.3), in the order in which their octets lie in the first page: of what reaches GROUP BY those
-- of each ON in written order, of WHERE, and of the arguments of the set functions; and then those of HAVING, and of the select list.
use Rattle.std.specs.Prelude.{ℕ, List, ◌++◌}
use Rattle.std.specs.List.{flat_map}
use Rattle.qw_scalar.specs.Texts.{texts_in, texts_within}
use Rattle.qw_algebra.specs.Sizes.{tests_on}
use Rattle.qw_grouped.specs.Query.{GroupedParts}
use Rattle.qw_grouped.specs.declared.set_function.SetFunction.{SetFunction}
use Rattle.qw_grouped.specs.declared.whole.Body.{Body}
use Rattle.qw_grouped.specs.declared.whole.Body.TheVariants.{Plain, Grouped}
use Rattle.qw_grouped.specs.declared.whole.WholeQuery.{WholeQuery}
use Rattle.qw_compile.specs.WrittenTexts.{texts_of_query}

abbrev pub argument_texts : List SetFunction → List (List ℕ)
argument_texts functions = flat_map (λ (f : SetFunction). texts_in f.argument) functions

abbrev pub front_texts : GroupedParts → List (List ℕ)
front_texts parts = flat_map texts_within (tests_on parts.sources) ++ (flat_map texts_within parts.conjuncts ++ argument_texts parts.functions)

abbrev pub texts_of_grouped : GroupedParts → List (List ℕ)
texts_of_grouped parts = front_texts parts ++ (flat_map texts_within parts.having ++ flat_map texts_in parts.items)

abbrev pub texts_of_body : Body → List (List ℕ)
texts_of_body (Plain parts) = texts_of_query parts
texts_of_body (Grouped parts) = texts_of_grouped parts

abbrev pub texts_of_whole : WholeQuery → List (List ℕ)
texts_of_whole query = texts_of_body query.body
