use Rattle.std.proofs.Common.{◌≡◌, drop, slice_get}
use Rattle.std.specs.List.{filter_map}
use Rattle.qw_module.specs.Start.{host_of}
use Rattle.qw_machine.proofs.hosts.linked_host.Given as goal

-- it is the function of this index among those that are still to come
abbrev pub invariant-loop-import : goal.invariant-loop-import
invariant-loop-import l =
    slice_get (filter_map host_of l.imports) l.index ≡ slice_get (filter_map host_of (drop l.import-index l.imports)) l.before
