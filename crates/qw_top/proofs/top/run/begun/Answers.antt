use Rattle.std.proofs.Common.{◌≡◌, ℕ, Err, inr, length, subst, arith}
use Rattle.std.specs.Prelude.{replicate}
use Rattle.std.proofs.lemmas.Grind.{common_steps}
use Rattle.qw_bench.specs.Standing.{total_pages as pages_in_all}
use Rattle.qw_bench.specs.declared.bench.BenchFault.TheVariants.{TotalPages}
use Rattle.qw_top.specs.Inner.Stages.{StopsForPages}
use Rattle.qw_top.proofs.BenchLemmas.{each_limit}
use Rattle.qw_top.proofs.top.run.begun.Goals as goal

pub new-requires-clause-limits : goal.new-requires-clause-limits
new-requires-clause-limits c =
    let limits : c.deref.result.now ≡ replicate (length c.args.jobs.items) c.args.limits = grind (arith, common_steps) in
    rw limits (each_limit c.args.limits (length c.args.jobs.items) c.requires.limits)

pub returns-clause-stops : goal.returns-clause-stops
returns-clause-stops c =
    let need = c.in-Err-TotalPages.need in
    let is : c.new.result ≡ Err (TotalPages need) = grind (arith, common_steps) in
    let limits : c.deref.result.now ≡ replicate (length c.args.jobs.items) c.args.limits = grind (arith, common_steps) in
    let total = (c.new.ensures.total_pages need).0 is in
    let pages : need ≡ pages_in_all c.args.tables.items (replicate (length c.args.jobs.items) c.args.limits) = rw limits at total.0 in
    inr (subst (λ (n : ℕ). StopsForPages n c.refused.result) pages (total.1, c.refused.ensures))
