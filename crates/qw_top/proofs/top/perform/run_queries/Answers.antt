use Rattle.qw_command_line.specs.Read.{names_of, options_of}
use Rattle.qw_top.specs.declared.status.Status.TheVariants.{NoMemory}
use Rattle.qw_top.specs.Inner.Noted.{IsUnread}
use Rattle.qw_top.specs.Limits.{limits_of}
use Rattle.qw_top.specs.Top.{FilesSettle, IsFileOf}
use Rattle.qw_top.proofs.CallLemmas.{run_explains}
use Rattle.qw_top.proofs.DeliverLemmas.{delivered, delivered_explained, delivered_front, delivered_left, delivered_noted, delivered_reads, wanted_explained, wanted_left}
use Rattle.qw_top.proofs.StoppedLemmas.{fault_named, stopped_ends, stopped_noted, want_noted}
use Rattle.qw_top.proofs.UnreadLemmas.{stops_counted}
use Rattle.qw_top.proofs.top.perform.run_queries.Goals as goal

pub deliver-status-requires : goal.deliver-status-requires
deliver-status-requires g c =
    let asked = c.in-Ok.ensures.asked in
    record { limits = limits_of (options_of c.args.names.now.options); quantum = c.args.names.now.options.quantum; tables = asked.tables; run = asked.run }

pub returns-in-NoMemory-clause-left : goal.returns-in-NoMemory-clause-left
returns-in-NoMemory-clause-left g c =
    let d = delivered (options_of c.args.names.now.options) _ _ _ _ _ _ _ c.in-Ok.ensures.asked c.in-NoMemory.ensures.writes in
    wanted_left _ _ _ _ _ _ _ _ _ d c.note_want_of_memory.ensures.noted

pub returns-in-NoMemory-clause-kept_at_fault : goal.returns-in-NoMemory-clause-kept_at_fault
returns-in-NoMemory-clause-kept_at_fault g c changed =
    delivered_front _ _ _ _ NoMemory _ _ (delivered (options_of c.args.names.now.options) _ _ _ _ NoMemory _ _ c.in-Ok.ensures.asked c.in-NoMemory.ensures.writes)

pub returns-in-NoMemory-clause-noted : goal.returns-in-NoMemory-clause-noted
returns-in-NoMemory-clause-noted g c = want_noted (FilesSettle (limits_of (options_of c.args.names.now.options)) (g.F.Shelf.files c.args.files.now) (names_of c.args.names.now)) (IsUnread (IsFileOf (g.F.Shelf.files c.args.files.now) (names_of c.args.names.now)) (g.F.Shelf.faults c.args.files.now) (g.F.Shelf.faults c.run.new.files)) (g.F.Shelf.fault_name c.run.new.files) _ _ _ c.note_want_of_memory.ensures.noted

pub returns-in-Ok-clause-left : goal.returns-in-Ok-clause-left
returns-in-Ok-clause-left g c =
    delivered_left _ _ _ _ _ _ _ (delivered (options_of c.args.names.now.options) _ _ _ _ _ _ _ c.in-Ok.ensures.asked c.deliver-status.ensures.writes)

pub returns-in-Ok-clause-kept_at_fault : goal.returns-in-Ok-clause-kept_at_fault
returns-in-Ok-clause-kept_at_fault g c changed =
    delivered_front _ _ _ _ _ _ _ (delivered (options_of c.args.names.now.options) _ _ _ _ _ _ _ c.in-Ok.ensures.asked c.deliver-status.ensures.writes)

pub returns-in-Ok-clause-noted : goal.returns-in-Ok-clause-noted
returns-in-Ok-clause-noted g c =
    delivered_noted _ _ _ _ _ _ _ (delivered (options_of c.args.names.now.options) _ _ _ _ _ _ _ c.in-Ok.ensures.asked c.deliver-status.ensures.writes)
    (FilesSettle (limits_of (options_of c.args.names.now.options)) (g.F.Shelf.files c.args.files.now) (names_of c.args.names.now))
    (IsUnread (IsFileOf (g.F.Shelf.files c.args.files.now) (names_of c.args.names.now)) (g.F.Shelf.faults c.args.files.now) (g.F.Shelf.faults c.run.new.files)) _ _

pub returns-in-Ok-clause-read_fault : goal.returns-in-Ok-clause-read_fault
returns-in-Ok-clause-read_fault g c is =
    absurd (delivered_reads _ _ _ _ _ _ _ (delivered (options_of c.args.names.now.options) _ _ _ _ _ _ _ c.in-Ok.ensures.asked c.deliver-status.ensures.writes) is)

pub returns-clause-noted : goal.returns-clause-noted
returns-clause-noted g c =
    let stops = stops_counted (FilesSettle (limits_of (options_of c.args.names.now.options)) (g.F.Shelf.files c.args.files.now) (names_of c.args.names.now)) (IsFileOf (g.F.Shelf.files c.args.files.now) (names_of c.args.names.now)) _ _ c.in-Err.stop c.in-Err.ensures.stops c.in-Err.ensures.shelf.counts in
    stopped_noted (FilesSettle (limits_of (options_of c.args.names.now.options)) (g.F.Shelf.files c.args.files.now) (names_of c.args.names.now))
    (IsUnread (IsFileOf (g.F.Shelf.files c.args.files.now) (names_of c.args.names.now)) (g.F.Shelf.faults c.args.files.now) (g.F.Shelf.faults c.run.new.files)) _ _ c.in-Err.stop _ _ _ stops c.in-Err.ensures.shelf.counts c.note_stop.ensures.noted

pub returns-clause-fault_name : goal.returns-clause-fault_name
returns-clause-fault_name g c more = fault_named (FilesSettle (limits_of (options_of c.args.names.now.options)) (g.F.Shelf.files c.args.files.now) (names_of c.args.names.now)) (IsFileOf (g.F.Shelf.files c.args.files.now) (names_of c.args.names.now)) _ _ c.in-Err.stop c.in-Err.ensures.stops c.in-Err.ensures.shelf.counts more

pub returns-in-NoMemory-clause-explained : goal.returns-in-NoMemory-clause-explained
returns-in-NoMemory-clause-explained g c =
    let d = delivered (options_of c.args.names.now.options) _ _ _ _ _ _ _ c.in-Ok.ensures.asked c.in-NoMemory.ensures.writes in
    wanted_explained _ _ _ _ _ _ _ _ _ d c.note_want_of_memory.ensures.noted

pub returns-in-Ok-clause-explained : goal.returns-in-Ok-clause-explained
returns-in-Ok-clause-explained g c =
    delivered_explained _ _ _ _ _ _ _ (delivered (options_of c.args.names.now.options) _ _ _ _ _ _ _ c.in-Ok.ensures.asked c.deliver-status.ensures.writes)

pub returns-clause-explained : goal.returns-clause-explained
returns-clause-explained g c =
    run_explains (limits_of (options_of c.args.names.now.options)) (g.F.Shelf.files c.args.files.now) (names_of c.args.names.now) _ _
    (stopped_ends (FilesSettle (limits_of (options_of c.args.names.now.options)) (g.F.Shelf.files c.args.files.now) (names_of c.args.names.now)) (IsFileOf (g.F.Shelf.files c.args.files.now) (names_of c.args.names.now)) c.in-Err.stop _ _ _ c.in-Err.ensures.stops c.note_stop.ensures.noted)
