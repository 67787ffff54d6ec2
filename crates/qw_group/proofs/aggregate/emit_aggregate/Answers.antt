use Rattle.std.proofs.Common.{◌≡◌, ℕ, Option, ◌++◌, refl, subst}
use Rattle.qw_table.specs.Inner.GuardSteps.{open_one, close_one}
use Rattle.qw_group.specs.Areas.{area_block, null_of, value_more, Aggregates}
use Rattle.qw_group.proofs.AddedSteps.{unless_steps}
use Rattle.qw_group.proofs.AreaClauses.{aggregates_take}
use Rattle.qw_group.proofs.aggregate.emit_aggregate.Goals as goal

pub returns : goal.returns
returns c =
    let made = c.in_ok-push_value.ensures in
    let function = c.args.function in
    let f = c.args.argument in
    let e = c.args.entry in
    let at = c.args.offset in
    let g = c.args.free in
    let a = area_block function made.0 f e at g in
    let is : Aggregates function f e at g a = record { order = made.0; orders = made.2; is = refl } in (
      a,
      unless_steps (null_of function f) (value_more function made.0 f e at g) c.args.block.now.code.items c.push_open.new.block.code.items c.push_value.new.block.code.items c.push_close.new.block.code.items
          (subst (λ (n : Option ℕ). c.push_open.new.block.code.items ≡ c.args.block.now.code.items ++ open_one n) c.null_of-null.ensures c.in_ok-push_open.ensures) made.1
          (subst (λ (n : Option ℕ). c.push_close.new.block.code.items ≡ c.push_value.new.block.code.items ++ close_one n) c.null_of-null.ensures c.in_ok-push_close.ensures),
      is,
      aggregates_take function f e at g a c.requires.entry c.requires.below is,
    )
