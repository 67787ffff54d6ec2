-- The first value of a global is one constant of its type (WebAssembly Core Specification 1.0, 3.4.4).
use Rattle.qw_module.specs.Validity.{IsInitial}
use Rattle.qw_binary.specs.Contents.{GlobalContents}

abbrev pub HasInitial : GlobalContents → Type 0
HasInitial g = IsInitial g.type.type g.init
