use Rattle.std.proofs.Common.{reverse, map, inl, inr, arith}
use Rattle.std.proofs.lemmas.Option.{slice_get_within}
use Rattle.qw_module.specs.Validity.{sequences_of}
use Rattle.qw_module.specs.Syntax.{sequence_at}
use Rattle.qw_module.specs.declared.instruction.Instr.TheVariants as i
use Rattle.qw_binary.proofs.FollowedSteps.{names_next, names_others}
use Rattle.qw_binary.specs.Inner.Writer.{open_of}
use Rattle.qw_binary.proofs.WriteExpression.{puts_table_here}
use Rattle.qw_binary.proofs.write.expression.Writer.put_table.Goals as goal

pub returns-clause-written : goal.returns-clause-written
returns-clause-written c =
    let w = c.args.self.now in
    let body = sequences_of c.args.body.now in
    let around = reverse (map (open_of body) w.around.items) in
    rw (← c.if-first-self.false)
    (puts_table_here body w.ended c.args.first c.args.count w.sequence w.place c.args.default around c.in-Some.labels.now c.args.out.now.items c.push.new.self.items c.put_number_vector.new.out.items c.put_u32.new.out.items
    c.requires.here c.in-Some.ensures c.in_ok-push.ensures.items c.in_ok-put_number_vector.ensures c.in_ok-put_u32.ensures)

pub returns-in_default-clause-refused : goal.returns-in_default-clause-refused
returns-in_default-clause-refused c = λ e. names_others (sequences_of c.args.body.now) c.args.self.now c.requires.at c.args.first c.args.count c.args.default c.requires.here (inr c.in_default.ensures)

pub returns-then-first-self-clause-refused : goal.returns-then-first-self-clause-refused
returns-then-first-self-clause-refused c = λ e. names_others (sequences_of c.args.body.now) c.args.self.now c.requires.at c.args.first c.args.count c.args.default c.requires.here (inl (λ h. c.if-first-self.true h))

pub returns-clause-at : goal.returns-clause-at
returns-clause-at c =
    let w = c.args.self.now in
    let at = c.requires.at in
    let here = slice_get_within (sequence_at (sequences_of c.args.body.now) w.sequence) w.place (i.BrTable c.args.first c.args.count c.args.default) c.requires.here in
    record { stands = at.stands; inside = omega (arith, here); ended = at.ended; labels = c.in-Some.ensures.1 }

pub returns-clause-follows : goal.returns-clause-follows
returns-clause-follows c = names_next (sequences_of c.args.body.now) c.args.self.now c.requires.at c.args.first c.args.count c.args.default c.requires.here c.if-first-self.false c.in-Some.ensures.1
