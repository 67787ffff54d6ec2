use Rattle.qw_sink.proofs.LineLemmas.{goes-on}
use Rattle.qw_sink.proofs.lines.write_field.Goals as goal
use Rattle.qw_sink.proofs.lines.write_field.Goals.{in-Ok, in-Err}

pub returns : goal.returns
returns c = elim c.match-write_field.branch [
  | in-Ok w ↦
      let e = rw w.in-Ok.is at c.write_field.ensures in
      rw w.result-is (λ text fields few was. goes-on _ _ text fields c.args.field.now few was e.text e.same e.count e.wrote e.stays)
  | in-Err w ↦ rw w.result-is tt
]
