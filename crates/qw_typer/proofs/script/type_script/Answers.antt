use Rattle.std.proofs.Common.{rules, ◌≡◌, ◌+◌, ◌-◌, [], ◌∷◌, ◌++◌, length, take, drop}
use Rattle.qw_ast.specs.SyntaxTree.{select_of, selects_of}
use Rattle.qw_typer.proofs.FitLemmas.{small_kept}
use Rattle.qw_typer.proofs.StepLemmas.{faults_kept, first_rest, meant_end, meant_kept, queries_kept, refused_query}
use Rattle.qw_typer.proofs.WithinLemmas.{is_within}
use Rattle.qw_typer.proofs.script.type_script.Goals as goal

pub query-requires : goal.query-requires
query-requires c =
    let rest = c.loop-rest.rest.now in
    let first = first_rest rest c.statement-item.result c.statement-item.is c.in-len1-up.len_at_least in
    is_within (select_of c.statement-item.result) (queries_kept rest (take (length rest - 1) (drop 1 rest)) c.statement-item.result first c.loop-rest.invariant.queries).0

pub returns-in-Err-clause-first_fault : goal.returns-in-Err-clause-first_fault
returns-in-Err-clause-first_fault c =
    let rest = c.loop-rest.rest.now in
    let first = first_rest rest c.statement-item.result c.statement-item.is c.in-len1-up.len_at_least in
    let count : c.len.result ≡ length c.loop-rest.made.items = search rules in
    refused_query c.args.schema.now (selects_of c.args.script.now) rest (take (length rest - 1) (drop 1 rest)) c.statement-item.result (length c.loop-rest.made.items + 1) c.in-Err.refusal c.fault_of.result
    first c.in-Err.ensures.means (rw count at c.fault_of.ensures) c.loop-rest.invariant.first

pub loop-rest-preserved : goal.loop-rest-preserved
loop-rest-preserved c =
    let rest = c.loop-rest.rest.now in
    let others = take (length rest - 1) (drop 1 rest) in
    let schema = c.args.schema.now in
    let all = selects_of c.args.script.now in
    let statement = c.statement-item.result in
    let first = first_rest rest statement c.statement-item.is c.in-len1-up.len_at_least in
    let queries = queries_kept rest others statement first c.loop-rest.invariant.queries in
    let more : c.push.new.self.items ≡ c.loop-rest.made.items ++ c.in-Ok.typed ∷ [] = search rules in
    record {
      queries = queries.1;
      meant = meant_kept schema all rest others statement c.loop-rest.made.items c.push.new.self.items c.in-Ok.typed first more c.in-Ok.ensures.means c.loop-rest.invariant.meant;
      first = faults_kept schema all rest others statement c.loop-rest.made.items c.push.new.self.items c.in-Ok.typed first more c.in-Ok.ensures.means.faultless c.loop-rest.invariant.first;
      small = small_kept schema (select_of statement) c.loop-rest.made.items c.push.new.self.items c.in-Ok.typed more queries.0 c.in-Ok.ensures.means c.in-Ok.ensures.fits c.loop-rest.invariant.small;
    }

pub returns-clause-meanings : goal.returns-clause-meanings
returns-clause-meanings c = meant_end c.args.schema.now (selects_of c.args.script.now) c.loop-rest.rest.now c.loop-rest.made.items c.in_default.len_below c.loop-rest.invariant.meant

pub returns-clause-small : goal.returns-clause-small
returns-clause-small c = c.loop-rest.invariant.small
