-- What reading leaves of a shelf.
use Rattle.std.specs.Prelude.{◌≡◌, ℕ, ◌≤◌, List, Option, Some, None, IfSome, Result, Ok, Err}
use Rattle.std.specs.String.{string_bytes}
use Rattle.qw_io.specs.Faults.{IsCounted}
use Rattle.qw_io.specs.Files.{Watched}
use Rattle.qw_io.specs.declared.shelf.Shelf.{Ghosts}
use Rattle.qw_io.specs.declared.fault.IoFault.{IoFault}
use Rattle.qw_io.specs.declared.fault.IoFault.TheVariants.{Failed as DeviceFailed, NoMemory as NoMemoryLeft}
use Rattle.qw_top.specs.declared.files.ReadFault.{ReadFault}
use Rattle.qw_top.specs.declared.files.ReadFault.TheVariants.{Failed, NoMemory}
use Rattle.qw_top.specs.declared.table_file.FileFault.{FileFault}
use Rattle.qw_top.specs.declared.table_file.FileFault.TheVariants.{Unread}
use Rattle.qw_top.specs.declared.table_file.TableFault.{TableFault}
use Rattle.qw_top.specs.declared.table_file.TableFault.TheVariants.{Unread as UnreadFile}

-- what a shelf tells: its files, its count of faults, the name of the file that the last one was at, and how far one file was asked for
pub record Told : Type 0 where
  pub files : Option (List ℕ → Option (List ℕ))
  pub faults : ℕ
  pub fault_name : Option (List ℕ)
  pub watched : Option Watched

-- that of a shelf
abbrev pub told_by : {S : Type 0} → Ghosts S → S → Told
told_by shelf s = record { files = shelf.files s; faults = shelf.faults s; fault_name = shelf.fault_name s; watched = shelf.watched s }

-- a fault of a shelf as a fault of the reading
abbrev pub read_fault_of : IoFault → ReadFault
read_fault_of DeviceFailed = Failed
read_fault_of NoMemoryLeft = NoMemory

-- the name of the file at which its reading failed
abbrev pub failed_read : {T : Type 0} → List ℕ → Result T ReadFault → Option (List ℕ)
failed_read name (Err Failed) = Some name
failed_read name _ = None

-- and of one that was loaded as it was read
abbrev pub failed_file : List ℕ → FileFault → Option (List ℕ)
failed_file name (Unread Failed) = Some name
failed_file name _ = None

abbrev pub failed_load : {T : Type 0} → List ℕ → Result T FileFault → Option (List ℕ)
failed_load name (Err fault) = failed_file name fault
failed_load name (Ok _) = None

-- and of those of a table
abbrev pub failed_table : TableFault → Option (List ℕ)
failed_table (UnreadFile name) = Some (string_bytes name)
failed_table _ = None

abbrev pub failed_tables : {T : Type 0} → Result T TableFault → Option (List ℕ)
failed_tables (Err fault) = failed_table fault
failed_tables (Ok _) = None

-- A fault at the file of this name was counted, and is the last one where its name is told; or there was none, and none was
-- counted.
abbrev pub Counts : (failed : Option (List ℕ)) → (old new : Told) → Type 0
Counts (Some name) old new = IsCounted old.faults new.faults × IfSome new.fault_name (λ last. last ≡ name)
Counts None old new = (new.faults ≡ old.faults) × (new.fault_name ≡ old.fault_name)

-- what is left where reading failed at the file of this name, or at none
pub record HasRead (failed : Option (List ℕ)) (old new : Told) : Type 0 where
  pub same_files : new.files ≡ old.files
  pub never_falls : old.faults ≤ new.faults
  pub counts : Counts failed old new
