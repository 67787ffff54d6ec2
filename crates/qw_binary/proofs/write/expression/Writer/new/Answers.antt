use Rattle.std.proofs.Common.{◌∙◌, arith}
use Rattle.std.proofs.lemmas.List.{length-map}
use Rattle.qw_module.specs.Validity.{sequences_of}
use Rattle.qw_binary.proofs.FollowedSteps.{none_dead}
use Rattle.qw_binary.proofs.write.expression.Writer.new.Goals as goal

pub returns-in_default-clause-refused : goal.returns-in_default-clause-refused
returns-in_default-clause-refused c = λ e. none_dead (sequences_of c.args.body.now) (length-map c.args.body.now.sequences.items _ ∙ omega (arith, c.in_default.ensures, c.len.ensures, c.args.body.now.sequences.ok.0))
