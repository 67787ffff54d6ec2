use Rattle.std.proofs.Common.{◌≡◌, ◌∙◌, ◌+◌, ℕ, suc, subst, arith}
use Rattle.qw_bench.specs.Standing.{end_of}
use Rattle.qw_top.specs.Delivered.{ends_below, status_of_ends}
use Rattle.qw_top.specs.Inner.Reports.{status_with}
use Rattle.qw_top.proofs.ReportLemmas.{status_more}
use Rattle.qw_top.proofs.top.report.status_of.Goals as goal

pub loop-k-preserved : goal.loop-k-preserved
loop-k-preserved c =
    let b = c.args.bench.now in
    let k = c.loop-k.k in
    let next : suc k ≡ k + 1 = omega arith in
    let more : status_with c.loop-k.status (end_of c.ended.result) ≡ status_of_ends (ends_below b (suc k)) = rw (c.ended.ensures, c.loop-k.invariant) (status_more b k) in
    subst (λ (n : ℕ). c.status_with-status.result ≡ status_of_ends (ends_below b n)) next (c.status_with-status.ensures ∙ more)
