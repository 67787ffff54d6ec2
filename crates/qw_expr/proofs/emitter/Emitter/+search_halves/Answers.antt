use Rattle.std.proofs.Common.{◌/◌, length, subst, refl, arith}
use Rattle.qw_low.proofs.Appended.{on_ok}
use Rattle.qw_expr.specs.Inner.Search.{AreRising}
use Rattle.qw_expr.proofs.Searches.{halves_emit, last_emits, of_halves}
use Rattle.qw_expr.proofs.Sought.{rising_parts}
use Rattle.qw_expr.proofs.emitter.Emitter.+search_halves.Goals as goal

pub returns-then-sought-le-LAST-clause-emits : goal.returns-then-sought-le-LAST-clause-emits
returns-then-sought-le-LAST-clause-emits t c = on_ok _ _ c.push.result
    (λ pushed.
    last_emits c.args.x c.args.out c.args.sought.now c.args.self.now c.equals_one.new.self (record { first = c.equals_one.new.self.first; block = c.push.new.self; own = c.equals_one.new.self.own })
    c.in_ok-equals_one.ensures.same.0 c.in_ok-equals_one.ensures.same.1 c.in_ok-equals_one.ensures.code refl refl pushed) c.push.ensures

pub search_halves-requires : goal.search_halves-requires
search_halves-requires t c =
    let is = of_halves c.args.sought.now c.split_at.result.0.now c.split_at.result.1.now (length c.args.sought.now / 2) c.split_at.ensures.front c.split_at.ensures.back in
    let parts = rising_parts c.split_at.result.0.now c.split_at.result.1.now (subst AreRising is c.requires.rising) in
    (omega (arith, c.decreases, c.split_at.ensures.front_len, c.if-sought-le-LAST.false), (omega (arith, c.split_at.ensures.front_len, c.if-sought-le-LAST.false), parts.0))

pub search_halves-requires-2 : goal.search_halves-requires-2
search_halves-requires-2 t c =
    let is = of_halves c.args.sought.now c.split_at.result.0.now c.split_at.result.1.now (length c.args.sought.now / 2) c.split_at.ensures.front c.split_at.ensures.back in
    let parts = rising_parts c.split_at.result.0.now c.split_at.result.1.now (subst AreRising is c.requires.rising) in
    (omega (arith, c.decreases, c.split_at.ensures.back_len, c.if-sought-le-LAST.false), (omega (arith, c.split_at.ensures.back_len, c.if-sought-le-LAST.false), parts.1))

pub returns-clause-emits : goal.returns-clause-emits
returns-clause-emits t c =
    let is = of_halves c.args.sought.now c.split_at.result.0.now c.split_at.result.1.now (length c.args.sought.now / 2) c.split_at.ensures.front c.split_at.ensures.back in
    on_ok _ _ c.push-3.result
    (λ pushed.
    halves_emit c.args.x c.args.out c.args.sought.now c.split_at.result.0.now c.split_at.result.1.now c.in-Some.field-0-1.now c.in-Some.middle.now c.args.self.now
    (record { first = c.args.self.now.first; block = record { code = c.extend_from_slice.new.self }; own = c.args.self.now.own }) c.search_halves.new.self
    (record { first = c.search_halves.new.self.first; block = c.push-2.new.self; own = c.search_halves.new.self.own }) c.search_halves-2.new.self
    (record { first = c.search_halves-2.new.self.first; block = c.push-3.new.self; own = c.search_halves-2.new.self.own }) c.requires.rising is c.in-Some.ensures.cases.0
    refl refl c.in_ok-extend_from_slice.ensures.items c.in_ok-search_halves.ensures.emits refl refl c.in_ok-push.ensures c.in_ok-search_halves-2.ensures.emits refl refl pushed) c.push-3.ensures
