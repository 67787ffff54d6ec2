use Rattle.std.proofs.Common.{◌≡◌, ℕ, leb, slice_get, sym, ap, ◌∙◌, rules, arith}
use Rattle.std.proofs.lemmas.Grind.{common_steps}
use Rattle.std.proofs.lemmas.Option.{gets}
use Rattle.std.specs.Option.{option_map}
use Rattle.std.proofs.lemmas.List.Sorted.{IsPartitionPoint-from_clause, IsPartitionedBy-leb}
use Rattle.qw_module.specs.declared.module.Locals.{Locals}
use Rattle.qw_valid.proofs.LocalsLemmas.{ends_rise, found_run}
use Rattle.qw_valid.proofs.locals.run_of.Goals as goal

pub returns : goal.returns
returns c =
    let runs = c.args.runs.now in
    let ends = c.args.ends.now in
    let i = c.args.index in
    let parted = IsPartitionedBy-leb (λ (end : ℕ). end) ends i (ends_rise runs ends c.requires.ends) in
    let point = IsPartitionPoint-from_clause (λ (end : ℕ). leb end i) _ _ c.partition_point-number.ensures.partitioned parted (λ a r q k. search rules) in
    let found = found_run runs ends i c.partition_point-number.result c.requires.ends c.requires.index c.partition_point-number.ensures.bound point in
    let read : c.copied.result ≡ slice_get runs c.partition_point-number.result = grind (arith, common_steps, gets) in
    ap (option_map (λ (run : Locals). run.ty)) read ∙ sym found
