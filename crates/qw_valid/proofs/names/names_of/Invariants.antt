use Rattle.std.proofs.Common.{◌≡◌, ℕ, ◌<◌, length, get_or, Bor, List}
use Rattle.std.specs.String.{string_bytes}
use Rattle.qw_module.specs.declared.module.Export.{Export}
use Rattle.qw_valid.proofs.names.names_of.Given as goal

-- the names of the exports so far
abbrev pub invariant-loop-export : goal.invariant-loop-export
invariant-loop-export l = record {
  count : length l.names.items ≡ l.export-index;
  each : (k : ℕ) (d : Bor (List ℕ)) (e : Export) → k < l.export-index → (get_or l.names.items k d).now ≡ string_bytes (get_or l.exports k e).name;
}
