-- Mirrors `TypeOctets`: the type of a function by the octets of its parameters and results.
use Rattle.std.specs.Prelude.{map}
use Rattle.qw_module.specs.Typing.{Signature}
use Rattle.qw_scan.specs.declared.types.TypeOctets.{TypeOctets}
use Rattle.qw_scan.specs.Inner.TypesAt.{type_by}

abbrev pub signature_of : TypeOctets → Signature
signature_of t = record { params = map type_by t.params.now; results = map type_by t.results.now }
