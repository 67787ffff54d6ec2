-- The entries of a source, and of the sources behind it.
use Rattle.std.proofs.Common.{List, [], ◌∷◌, ◌++◌, map}
use Rattle.std.specs.List.{AllByRecursion}
use Rattle.qw_meaning.specs.Query.{source_of}
use Rattle.qw_meaning.specs.Select.{Entry, entries_in, entries_of}
use Rattle.qw_meaning.specs.declared.query.Source.{Source}

both : (P : Entry → Type 0) (xs ys : List Entry) → AllByRecursion P xs → AllByRecursion P ys → AllByRecursion P (xs ++ ys)
both P [] ys all others = others
both P (x ∷ xs) ys all others = (all.0, both P xs ys all.1 others)

pub sources_more : (P : Entry → Type 0) (source : Source) (sources : List Source) → AllByRecursion P (entries_in (source_of source)) → AllByRecursion P (entries_of (map source_of sources)) →
    AllByRecursion P (entries_of (map source_of (source ∷ sources)))
sources_more P source sources all others = both P (entries_in (source_of source)) (entries_of (map source_of sources)) all others
