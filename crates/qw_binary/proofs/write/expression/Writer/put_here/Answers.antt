use Rattle.std.proofs.Common.{reverse, map}
use Rattle.qw_module.specs.Validity.{sequences_of}
use Rattle.qw_binary.specs.Inner.Writer.{open_of}
use Rattle.qw_binary.proofs.WriteExpression.{puts_here}
use Rattle.qw_binary.proofs.FollowedSteps.{goes_past}
use Rattle.qw_binary.proofs.write.expression.Writer.put_here.Goals as goal

pub returns-clause-written : goal.returns-clause-written
returns-clause-written c =
    let w = c.args.self.now in
    let body = sequences_of c.args.body.now in
    let around = reverse (map (open_of body) w.around.items) in
    puts_here body w.ended w.labels w.sequence w.place around c.args.instruction c.args.out.now.items c.put_simple.new.out.items c.requires.here c.in_ok-put_simple.ensures

pub returns-clause-follows : goal.returns-clause-follows
returns-clause-follows c = goes_past (sequences_of c.args.body.now) c.args.self.now c.requires.at c.args.instruction c.requires.here c.requires.alone
