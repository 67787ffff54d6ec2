use Rattle.std.proofs.Common.{◌≡◌, ℕ, All, map, take}
use Rattle.qw_scan.specs.Inner.Exported.{name_in}
use Rattle.qw_scan.specs.Inner.ExportsAt.{export_at, IsExportAt}
use Rattle.qw_scan.proofs.exports.places_at.Given as goal

-- where the names of the exports so far stand
abbrev pub invariant-loop-offset : goal.invariant-loop-offset
invariant-loop-offset l = All (IsExportAt l.octets) l.offsets → map (name_in l.octets) l.places.items ≡ map (λ (offset : ℕ). (export_at l.octets offset).name) (take l.offset-index l.offsets)
