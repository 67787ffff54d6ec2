-- Mirrors `stop::Stop`: why a run stopped before it had a bench.
use Rattle.std.specs.Prelude.{◌≡◌, ℕ, List, Option, Some, None, Result, Ok, Err}
use Rattle.std.specs.String.{string_bytes}
use Rattle.qw_top.specs.declared.stop.FileName.{FileName}
use Rattle.qw_top.specs.declared.stop.FileName.TheVariants.{Given, Made}
use Rattle.qw_top.specs.declared.stop.Refusal.{Refusal}
use Rattle.qw_top.specs.declared.stop.Refusal.TheVariants.{Schema, TableFile, Queries, Module, TotalPages as MorePages}
use Rattle.qw_top.specs.declared.stop.Stop.{Stop}
use Rattle.qw_top.specs.declared.stop.Stop.TheVariants.{Refused, Unread, NoMemory}
use Rattle.qw_top.specs.Causes.{Cause, line_of_cause, status_of_cause}
use Rattle.qw_top.specs.declared.status.Status.{Status}
use Rattle.qw_top.specs.declared.status.Status.TheVariants.{SchemaRefused, TableFileRefused, QueriesRefused, TotalPages}

-- the octets of a file's name
abbrev pub octets_of : FileName → List ℕ
octets_of (Given name) = name.now
octets_of (Made name) = string_bytes name

-- the status of a run that ends with a refusal
abbrev pub refusal_status : Refusal → Status
refusal_status Schema = SchemaRefused
refusal_status TableFile = TableFileRefused
refusal_status Queries = QueriesRefused
refusal_status Module = QueriesRefused
refusal_status MorePages = TotalPages

-- a refusal and a line are those of a cause
abbrev pub IsRefusalFor : Cause → Refusal → (line : List ℕ) → Type 0
IsRefusalFor cause refusal line = (refusal_status refusal ≡ status_of_cause cause) × (line ≡ line_of_cause cause)

-- a stop for this cause, or for want of memory for its line
abbrev pub StopsFor : Cause → Stop → Type 0
StopsFor cause (Refused refusal line) = IsRefusalFor cause refusal (string_bytes line)
StopsFor cause (Unread file) = ⊥
StopsFor cause NoMemory = Unit {0}

-- Why a command stopped: for a cause that is settled; or as a file of such a name couldn't be read; or for want of memory.
abbrev pub StopsBy : (settles : Cause → Type 0) → (named : List ℕ → Type 0) → Stop → Type 0
StopsBy settles named (Refused refusal line) = (cause : Cause) × settles cause × IsRefusalFor cause refusal (string_bytes line)
StopsBy settles named (Unread file) = named (octets_of file)
StopsBy settles named NoMemory = Unit {0}

-- why a stage stopped that reads the file of one name
abbrev pub StopsAs : (reason : Cause → Type 0) → (name : List ℕ) → Stop → Type 0
StopsAs reason name stop = StopsBy reason (λ other. other ≡ name) stop

-- the name of the file at which the reading failed that stopped a stage
abbrev pub failed_at : Stop → Option (List ℕ)
failed_at (Unread file) = Some (octets_of file)
failed_at _ = None

-- the name of the file at which the reading failed, of a stage that may have stopped
abbrev pub failed_stop : {T : Type 0} → Result T Stop → Option (List ℕ)
failed_stop (Ok _) = None
failed_stop (Err stop) = failed_at stop
