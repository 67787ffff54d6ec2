use Rattle.std.proofs.Common.{◌≡◌, ℕ, ◌<◌, length, get_or, Some, slice_get, sym, ap, ◌∙◌, subst, arith}
use Rattle.std.proofs.lemmas.Iterator.Adapters.{YieldsList-from_vec}
use Rattle.std.proofs.lemmas.Iterator.Consumers.{YieldsList-turn}
use Rattle.std.proofs.lemmas.List.{length_push}
use Rattle.std.proofs.lemmas.Option.{slice_get-get_or}
use Rattle.qw_bench.specs.declared.bench.Limits.{Limits}
use Rattle.qw_bench.proofs.FirstSeatLemmas.{AreSoFar, so-far-more}
use Rattle.qw_bench.proofs.bench.start.first_seats.Goals as goal

pub loop-job-preserved : goal.loop-job-preserved
loop-job-preserved c =
    let so_far = c.loop-job.invariant.2 in
    let n : ℕ = length c.loop-job.yielded in
    let begins = c.into_iter-job-iterator.ensures.into_iter_gives in
    let t = YieldsList-turn (YieldsList-from_vec c.args.jobs.items begins.0 (begins.1 ∙ c.args.jobs.ok.0)) c.loop-job.yielded c.loop-job.job-iterator
    c.loop-job.yielded_by c.next.result c.next.new.self c.in-Some.job c.in-Some.is c.next.ensures.steps in
    let at_program : slice_get c.args.jobs.items n ≡ Some c.in-Some.job = slice_get-get_or c.args.jobs.items n c.in-Some.job t.0 ∙ ap Some (sym t.1) in
    let at : c.len-in-loop-job.result ≡ n = c.len-in-loop-job.ensures ∙ c.loop-job.seats.ok.0 ∙ so_far.many in
    let within : c.len-in-loop-job.result < length c.args.limits.now = omega (arith, at, t.0, c.requires.many) in
    let one : Limits = get_or c.args.limits.now c.len-in-loop-job.result (record { pages = 0; steps = 0 }) in
    let at_limits : slice_get c.args.limits.now n ≡ Some one =
    subst (λ (k : ℕ). slice_get c.args.limits.now k ≡ Some one) at (slice_get-get_or c.args.limits.now c.len-in-loop-job.result (record { pages = 0; steps = 0 }) within) in
    let seated = c.in_ok-first_seat.ensures in (
      tt,
      tt,
      subst (AreSoFar c.args.map.now.placed c.args.memory.now c.first_seat.new.memory c.args.jobs.items c.args.limits.now c.push.new.self.items)
          (sym (length_push c.loop-job.yielded c.in-Some.job))
          (so-far-more c.args.map.now.placed c.args.memory.now c.loop-job.memory c.first_seat.new.memory c.args.jobs.items c.args.limits.now c.loop-job.seats.items
          c.push.new.self.items n c.in-Some.job one c.in_ok-first_seat.field-0 at_program at_limits
          c.in_ok-push.ensures.items seated.seat seated.below seated.octets seated.len c.first_seat.ensures.reserved so_far),
    )
