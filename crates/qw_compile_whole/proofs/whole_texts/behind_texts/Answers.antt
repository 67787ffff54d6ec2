use Rattle.std.proofs.Common.{◌≡◌, ◌∙◌, ◌++◌, [], IsUtf8, List, ap, subst, sym, append-nil}
use Rattle.std.specs.List.{AllByRecursion, flat_map}
use Rattle.qw_scalar.specs.Texts.{texts_in, texts_within}
use Rattle.qw_scalar.specs.declared.expression.Cond.{Cond}
use Rattle.qw_scalar.specs.declared.expression.Expr.{Expr}
use Rattle.qw_meaning.specs.Query.{QueryParts}
use Rattle.qw_physical.proofs.Reading.{if_ok}
use Rattle.qw_leaves.specs.Leaves.{leaves_in, leaves_within, texts_among}
use Rattle.qw_compile.proofs.TextsWithin.{texts_gathered, utf8_gathered}
use Rattle.qw_compile_whole.proofs.whole_texts.behind_texts.Goals as goal

pub returns-clause-texts : goal.returns-clause-texts
returns-clause-texts c =
    let q = c.args.query.now in
    let d : QueryParts = record { sources = []; conjuncts = q.having; items = q.items } in
    let conjuncts = c.in_ok-from_conjuncts.ensures.0 ∙ ap (λ (l : List Cond). c.new-leaves.result.items ++ flat_map leaves_within l) c.having.ensures.having in
    let items = c.in_ok-from_items.ensures.0 ∙ ap (λ (l : List Expr). c.from_conjuncts.new.leaves.items ++ flat_map leaves_in l) c.items.ensures.items in
    let all = ap texts_among c.deref.ensures.value
    ∙ texts_gathered d c.new-leaves.result.items c.new-leaves.result.items c.from_conjuncts.new.leaves.items c.from_items.new.leaves.items c.new-leaves.ensures.items (sym (append-nil c.new-leaves.result.items)) conjuncts items in
    if_ok c.texts_of.result (λ texts. texts.items ≡ texts_among c.deref.result.now) (λ texts. texts.items ≡ flat_map texts_within q.having ++ flat_map texts_in q.items) (λ texts is. is ∙ all) c.texts_of.ensures

pub returns-clause-utf8 : goal.returns-clause-utf8
returns-clause-utf8 c =
    let all = utf8_gathered c.new-leaves.result.items c.new-leaves.result.items c.from_conjuncts.new.leaves.items c.from_items.new.leaves.items [] (flat_map leaves_within c.having.result.now) (flat_map leaves_in c.items.result.now) c.new-leaves.ensures.items
    (sym (append-nil c.new-leaves.result.items)) c.in_ok-from_conjuncts.ensures.0 c.in_ok-from_items.ensures.0 tt c.in_ok-from_conjuncts.ensures.1 c.in_ok-from_items.ensures.1 in
    if_ok c.texts_of.result (λ texts. texts.items ≡ texts_among c.deref.result.now) (λ texts. AllByRecursion IsUtf8 texts.items)
    (λ texts is. subst (AllByRecursion IsUtf8) (sym (is ∙ ap texts_among c.deref.ensures.value)) all) c.texts_of.ensures
