use Rattle.std.proofs.Common.{◌≡◌, ◌++◌, [], ◌∷◌, ◌+◌, ◌-◌, List, subst, sym, ap, ◌∙◌, rules, arith}
use Rattle.qw_octet_grammar.specs.Vectors.{counted, one_more}
use Rattle.qw_octet_grammar.specs.Reading.{read}
use Rattle.qw_octet_grammar.proofs.Loops.{done_counted}
use Rattle.qw_binary.specs.Sections.{locals_run}
use Rattle.qw_scan.specs.declared.locals.Run.{Run}
use Rattle.qw_scan.specs.Inner.Runs.{runs_in, last_end, Rise}
use Rattle.qw_scan.proofs.RunLemmas.{last_more, rise_more, next_run}
use Rattle.qw_scan.proofs.locals.runs_at.Goals as goal

pub loop-preserved : goal.loop-preserved
loop-preserved c =
    let runs = c.loop.runs.items in
    let run : Run = record { end = c.in_ok-end.end; ty = c.in-Ok-val_type_at.ty } in
    let total = read (counted c.args.count (one_more locals_run) []) c.args.octets.now in
    let items : c.push.new.self.items ≡ runs ++ run ∷ [] = search rules in
    let sum : c.in_ok-end.end ≡ c.loop.end + c.in-Ok.more = grind (arith, c.in_ok-end.ensures) in
    record {
      rise = subst (Rise 0) (sym items) (rise_more 0 runs run c.loop.invariant.rise (omega (arith, c.loop.invariant.last, sum)));
      last = sym (ap (last_end 0) items ∙ last_more 0 runs run);
      left = subst (λ (rs : List Run). read (counted (c.args.count - (c.loop.counter + 1)) (one_more locals_run) (runs_in 0 rs)) c.in-Ok-val_type_at.after.now ≡ total) (sym items)
          (next_run c.args.count c.loop.counter runs c.loop.end c.in-Ok.more c.in_ok-end.end c.in-Ok-val_type_at.ty c.loop.rest.now c.in-Ok.behind.now c.in-Ok-val_type_at.after.now total c.loop-test.true
          c.loop.invariant.last sum c.in-Ok.ensures c.in-Ok-val_type_at.ensures c.loop.invariant.left);
    }

pub returns-clause-read : goal.returns-clause-read
returns-clause-read c =
    done_counted (one_more locals_run) c.args.count c.loop.counter (runs_in 0 c.loop.runs.items) c.loop.rest.now
    (read (counted c.args.count (one_more locals_run) []) c.args.octets.now) c.loop-test.false c.loop.invariant.left
