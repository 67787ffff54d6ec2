use Rattle.std.proofs.Common.{subst}
use Rattle.qw_octet_grammar.specs.Reading.{Gives}
use Rattle.qw_binary.specs.Contents.{contents_of}
use Rattle.qw_binary.proofs.ModuleLaws.{is_found, is_stuck, only, stuck_only}
use Rattle.qw_binary.proofs.decode.decode.Goals as goal

pub returns-clause-found : goal.returns-clause-found
returns-clause-found c = is_found c.args.octets.now c.module_of.result c.module_of.ensures

pub returns-clause-only : goal.returns-clause-only
returns-clause-only c = λ m h. subst (λ r. Gives contents_of c.module_of.result r) (only c.args.octets.now m h) c.module_of.ensures

pub returns-clause-stuck : goal.returns-clause-stuck
returns-clause-stuck c = is_stuck c.args.octets.now c.module_of.result c.module_of.ensures

pub returns-clause-stuck_only : goal.returns-clause-stuck_only
returns-clause-stuck_only c = λ f h. subst (λ r. Gives contents_of c.module_of.result r) (stuck_only c.args.octets.now f h) c.module_of.ensures
