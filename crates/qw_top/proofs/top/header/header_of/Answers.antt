use Rattle.std.proofs.Common.{◌≡◌, ◌∙◌, ◌++◌, ◌∷◌, [], List, ap, get_or, sym}
use Rattle.std.specs.Prelude.{slice_get}
use Rattle.std.specs.Option.{option_map_or}
use Rattle.qw_scalar.specs.Tree.{expression_of}
use Rattle.qw_scalar.specs.declared.expression.Expr.{Expr}
use Rattle.qw_sink.specs.declared.sink.Head.{Head}
use Rattle.qw_top.specs.Inner.Queries.{head_of}
use Rattle.qw_top.proofs.QueryLemmas.{heads-more, typed_at}
use Rattle.qw_top.proofs.top.header.header_of.Goals as goal

pub with_head-requires : goal.with_head-requires
with_head-requires c = typed_at c.items_of-items.result.now c.loop-index.index c.items_of-items.ensures.typed

pub loop-index-preserved : goal.loop-index-preserved
loop-index-preserved c =
    let names = c.args.query.now.names.items in
    let items = c.items_of-items.result.now in
    let i = c.loop-index.index in
    let name = c.name-item.result in
    let within = rw c.deref-name-items.ensures.value at c.loop-index-test.true in
    let name_is : get_or names i name ≡ name = sym (rw c.deref-name-items.ensures.value at c.name-item.is) in
    let next = rw name_is at (heads-more names items i name within) in
    c.in_ok-heads.ensures ∙ ap (λ (hs : List Head). hs ++ option_map_or (λ (e : Expr). head_of name (expression_of e) ∷ []) (slice_get items i) []) c.loop-index.invariant ∙ sym next
