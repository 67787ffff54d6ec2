use Rattle.std.proofs.Common.{◌≡◌, ◌++◌, drop}
use Rattle.std.specs.List.{filter_map}
use Rattle.qw_module.specs.Validity.{imported_function}
use Rattle.qw_scan.proofs.tables.with_imported.Given as goal

-- those so far, and those to come
abbrev pub invariant-loop-import : goal.invariant-loop-import
invariant-loop-import l =
    l.found.items ++ filter_map imported_function (drop l.import-index l.imports) ≡ l.fn.numbers.items ++ filter_map imported_function l.imports
