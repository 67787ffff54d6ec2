-- What the pass over steps writes calls no function but the first two, each set and each get by itself.
use Rattle.std.proofs.Common.{ℕ, List, [], ◌∷◌, ◌++◌, length, arith}
use Rattle.std.specs.List.{AllByRecursion}
use Rattle.qw_module.specs.declared.instruction.Instr.{Instr}
use Rattle.qw_module.specs.declared.instruction.Instr.TheVariants as i
use Rattle.qw_module.specs.declared.instruction.Op.TheVariants as o
use Rattle.qw_module.specs.declared.instruction.Const.TheVariants as const
use Rattle.qw_module.specs.Validity.{CallsBelow}
use Rattle.qw_map.proofs.AreaLemmas.{all-append}
use Rattle.qw_low.specs.declared.step.LowStep.{LowStep}
use Rattle.qw_low.specs.declared.step.LowStep.TheVariants as step
use Rattle.qw_low.specs.declared.body.Opened.{Opened}
use Rattle.qw_low.specs.declared.body.Opened.TheVariants as opened
use Rattle.qw_low.specs.Inner.Writing.{Writing, adds, appended, bodies_in, closing, turned, closed, written, all_written, start}

abbrev CallsFirst : List Instr → Type 0
CallsFirst sequence = AllByRecursion (CallsBelow 2) sequence

abbrev AllCallFirst : List (List Instr) → Type 0
AllCallFirst sequences = AllByRecursion (AllByRecursion (CallsBelow 2)) sequences

abbrev Waits : List Instr × Opened → Type 0
Waits w = AllByRecursion (CallsBelow 2) w.0

abbrev Calls : Writing → Type 0
Calls w = AllCallFirst w.finished × CallsFirst w.current × AllByRecursion Waits w.waiting

added : (w : Writing) (next : Instr) → CallsBelow 2 next → Calls w → Calls (adds appended next w)
added w next new h = (h.0, all-append (CallsBelow 2) w.current (next ∷ []) h.1 (new, tt), h.2)

finished-more : (sequences : List (List Instr)) (sequence : List Instr) → AllCallFirst sequences → CallsFirst sequence → AllCallFirst (sequences ++ sequence ∷ [])
finished-more sequences sequence all one = all-append (AllByRecursion (CallsBelow 2)) sequences (sequence ∷ []) all (one, tt)

turned-calls : (finished : List (List Instr)) (current : List Instr) (waiting : List (List Instr × Opened)) → AllCallFirst finished → CallsFirst current → AllByRecursion Waits waiting →
    Calls (turned finished current waiting)
turned-calls finished current [] all one wait = (all, one, tt)
turned-calls finished current (w ∷ waiting) all one wait = (finished-more finished current all one, tt, wait)

closing-calls : (what : Opened) (number : ℕ) → CallsBelow 2 (closing what number)
closing-calls opened.If number = tt
closing-calls (opened.Else first) number = tt
closing-calls opened.Loop number = tt

closed-calls : (finished : List (List Instr)) (current : List Instr) (waiting : List (List Instr × Opened)) → AllCallFirst finished → CallsFirst current → AllByRecursion Waits waiting →
    Calls (closed finished current waiting)
closed-calls finished current [] all one wait = (all, one, tt)
closed-calls finished current (w ∷ waiting) all one wait =
    (finished-more finished current all one, all-append (CallsBelow 2) w.0 (closing w.1 (length finished) ∷ []) wait.0 (closing-calls w.1 (length finished), tt), wait.1)

step-calls : (x : LowStep) (w : Writing) → Calls w → Calls (written appended x w)
step-calls (step.Op operator) w h = added w (i.Op operator) tt h
step-calls step.If w h = (h.0, tt, (h.1, h.2))
step-calls step.Else w h = turned-calls w.finished w.current w.waiting h.0 h.1 h.2
step-calls step.Loop w h = (h.0, tt, (h.1, h.2))
step-calls step.Again w h = added w (i.BrIf 0) tt h
step-calls step.End w h = closed-calls w.finished w.current w.waiting h.0 h.1 h.2
step-calls step.Ask w h = added w (i.Call 1) (omega arith) h
step-calls (step.Raise code) w h = added (adds appended (i.Op (o.Const (const.I32 code))) w) (i.Call 0) (omega arith) (added w (i.Op (o.Const (const.I32 code))) tt h)
step-calls step.Exit w h = added w i.Return tt h

all-calls : (code : List LowStep) (w : Writing) → Calls w → Calls (all_written appended code w)
all-calls [] w h = h
all-calls (x ∷ code) w h = all-calls code (written appended x w) (step-calls x w h)

pub plain_calls : (code : List LowStep) → AllCallFirst (bodies_in (all_written appended code start))
plain_calls code =
    let all : Calls (all_written appended code start) = all-calls code start (tt, tt, tt) in
    finished-more (all_written appended code start).finished (all_written appended code start).current all.0 all.1
