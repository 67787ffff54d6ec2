use Rattle.std.proofs.Common.{◌≡◌, drop, slice_get}
use Rattle.std.specs.List.{filter_map}
use Rattle.qw_module.specs.Validity.{imported_function}
use Rattle.qw_valid.proofs.imports.imported_function.Given as goal

-- it is the function of this index among those that are still to come
abbrev pub invariant-loop-import : goal.invariant-loop-import
invariant-loop-import l =
    slice_get (filter_map imported_function l.imports) l.index ≡ slice_get (filter_map imported_function (drop l.import-index l.imports)) l.before
