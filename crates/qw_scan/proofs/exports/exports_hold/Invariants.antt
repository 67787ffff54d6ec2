use Rattle.std.proofs.Common.{ℕ, ◌<◌, All, get_or}
use Rattle.qw_scan.specs.Inner.Exported.{IsAmong}
use Rattle.qw_scan.specs.Inner.ExportsAt.{export_at, IsExportAt}
use Rattle.qw_scan.proofs.exports.exports_hold.Given as goal

-- the exports so far are of what is there
abbrev pub invariant-loop-offset : goal.invariant-loop-offset
invariant-loop-offset l = All (IsExportAt l.octets) l.offsets → (k d : ℕ) → k < l.offset-index → IsAmong l.counts (export_at l.octets (get_or l.offsets k d))
