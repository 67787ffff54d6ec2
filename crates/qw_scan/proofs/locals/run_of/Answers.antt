use Rattle.std.proofs.Common.{◌≡◌, leb, slice_get, sym, ap, ◌∙◌, rules, arith}
use Rattle.std.proofs.lemmas.Grind.{common_steps}
use Rattle.std.proofs.lemmas.Option.{gets}
use Rattle.std.specs.Option.{option_map}
use Rattle.std.proofs.lemmas.List.Sorted.{IsPartitionPoint-from_clause, IsPartitionedBy-leb}
use Rattle.qw_scan.specs.declared.locals.Run.{Run}
use Rattle.qw_scan.proofs.RunLemmas.{ends_rise, found_run}
use Rattle.qw_scan.proofs.locals.run_of.Goals as goal

pub returns : goal.returns
returns c =
    let runs = c.args.runs.now in
    let i = c.args.index in
    let parted = IsPartitionedBy-leb (λ (run : Run). run.end) runs i (ends_rise 0 runs c.requires) in
    let point = IsPartitionPoint-from_clause (λ (run : Run). leb run.end i) _ _ c.partition_point-number.ensures.partitioned parted (λ a r q k. search rules) in
    let found = found_run runs i c.partition_point-number.result c.requires c.partition_point-number.ensures.bound point in
    let read : c.copied.result ≡ slice_get runs c.partition_point-number.result = grind (arith, common_steps, gets) in
    ap (option_map (λ (run : Run). run.ty)) read ∙ sym found
