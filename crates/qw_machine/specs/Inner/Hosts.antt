-- Mirrors `Host` of hosts.rt: the functions of the host.
use Rattle.qw_machine.specs.declared.hosts.Host.{Host}
use Rattle.qw_machine.specs.declared.hosts.Host.TheVariants as host
use Rattle.qw_module.specs.Execution.{Callee, host_raise, host_pages}

abbrev pub callee_of : Host → Callee
callee_of host.Raise = host_raise
callee_of host.Pages = host_pages
