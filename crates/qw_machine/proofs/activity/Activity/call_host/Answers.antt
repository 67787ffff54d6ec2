use Rattle.std.proofs.Common.{drop, Some, refl, ap, ◌∙◌, arith}
use Rattle.qw_machine.specs.declared.hosts.Host.{Host}
use Rattle.qw_machine.specs.declared.hosts.Host.TheVariants as host
use Rattle.qw_machine.specs.Inner.Points.{point_of}
use Rattle.qw_machine.proofs.Calls.{host-linked, host-named, host-argument, done-raise, done-pages}
use Rattle.qw_machine.proofs.activity.Activity.call_host.Goals as goal

pub unwrap-host-requires : goal.unwrap-host-requires
unwrap-host-requires c =
    let found = host-linked c.args.program.now c.args.index c.requires.imported c.linked_host.result (rw c.deref.ensures.value at c.linked_host.ensures) in
    rw (found.1) refl

pub top-argument-requires : goal.top-argument-requires
top-argument-requires c =
    let m = c.args.program.now in
    let found = host-linked m c.args.index c.requires.imported c.linked_host.result (rw c.deref.ensures.value at c.linked_host.ensures) in
    (host-argument m c.requires.executed c.requires.point c.args.index c.requires.calls found.0 found.2).0

pub overflow_cast-argument : goal.overflow_cast-argument
overflow_cast-argument c =
    let m = c.args.program.now in
    let found = host-linked m c.args.index c.requires.imported c.linked_host.result (rw c.deref.ensures.value at c.linked_host.ensures) in
    let small = (host-argument m c.requires.executed c.requires.point c.args.index c.requires.calls found.0 found.2).1 c.top-argument.result
    (drop 1 (point_of c.args.self.now).operands) c.top-argument.ensures in
    omega (arith, small)

pub returns-in-Raise : goal.returns-in-Raise
returns-in-Raise c = λ spare memory.
    let m = c.args.program.now in
    let linked = host-named m c.args.index c.requires.imported c.linked_host.result host.Raise (rw c.deref.ensures.value at c.linked_host.ensures) (c.unwrap-host.ensures ∙ ap (λ (h : Host). Some h) c.in-Raise.is) in
    done-raise m c.requires.executed c.requires.point c.args.index c.requires.calls linked spare c.top-argument.result
    (drop 1 (point_of c.args.self.now).operands) memory (point_of c.args.self.now) c.top-argument.ensures

pub returns-in-Pages : goal.returns-in-Pages
returns-in-Pages c = λ spare memory.
    let m = c.args.program.now in
    let linked = host-named m c.args.index c.requires.imported c.linked_host.result host.Pages (rw c.deref.ensures.value at c.linked_host.ensures) (c.unwrap-host.ensures ∙ ap (λ (h : Host). Some h) c.in-Pages.is) in
    done-pages m c.requires.executed c.requires.point c.args.index c.requires.calls linked spare c.top-argument.result
    (drop 1 (point_of c.args.self.now).operands) memory c.top-argument.ensures c.requires.index
