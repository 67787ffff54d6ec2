use Rattle.std.proofs.Common.{◌≡◌, ◌∙◌, ◌++◌, IsUtf8, List, ap, subst, sym}
use Rattle.std.specs.List.{AllByRecursion, flat_map}
use Rattle.qw_scalar.specs.declared.expression.Cond.{Cond}
use Rattle.qw_scalar.specs.declared.expression.Expr.{Expr}
use Rattle.qw_meaning.specs.declared.query.Source.{Source}
use Rattle.qw_algebra.specs.Sizes.{tests_on}
use Rattle.qw_physical.proofs.Reading.{if_ok}
use Rattle.qw_leaves.specs.Leaves.{leaves_in, leaves_within, texts_among}
use Rattle.qw_compile.specs.WrittenTexts.{texts_of_query}
use Rattle.qw_compile.proofs.TextsWithin.{texts_gathered, utf8_gathered}
use Rattle.qw_compile.proofs.written_texts.written_texts.Goals as goal

pub returns-clause-texts : goal.returns-clause-texts
returns-clause-texts c =
    let d = c.args.query.now in
    let on = c.in_ok-from_sources.ensures.0 ∙ ap (λ (l : List Source). c.new-leaves.result.items ++ flat_map leaves_within (tests_on l)) c.sources.ensures.sources in
    let conjuncts = c.in_ok-from_conjuncts.ensures.0 ∙ ap (λ (l : List Cond). c.from_sources.new.leaves.items ++ flat_map leaves_within l) c.conjuncts.ensures.conjuncts in
    let items = c.in_ok-from_items.ensures.0 ∙ ap (λ (l : List Expr). c.from_conjuncts.new.leaves.items ++ flat_map leaves_in l) c.items.ensures.items in
    let all = ap texts_among c.deref.ensures.value ∙ texts_gathered d c.new-leaves.result.items c.from_sources.new.leaves.items c.from_conjuncts.new.leaves.items c.from_items.new.leaves.items c.new-leaves.ensures.items on conjuncts items in
    if_ok c.texts_of.result (λ texts. texts.items ≡ texts_among c.deref.result.now) (λ texts. texts.items ≡ texts_of_query d) (λ texts is. is ∙ all) c.texts_of.ensures

pub returns-clause-utf8 : goal.returns-clause-utf8
returns-clause-utf8 c =
    let all =
    utf8_gathered c.new-leaves.result.items c.from_sources.new.leaves.items c.from_conjuncts.new.leaves.items c.from_items.new.leaves.items (flat_map leaves_within (tests_on c.sources.result.now)) (flat_map leaves_within c.conjuncts.result.now) (flat_map leaves_in c.items.result.now)
    c.new-leaves.ensures.items c.in_ok-from_sources.ensures.0 c.in_ok-from_conjuncts.ensures.0 c.in_ok-from_items.ensures.0 c.in_ok-from_sources.ensures.1 c.in_ok-from_conjuncts.ensures.1 c.in_ok-from_items.ensures.1 in
    if_ok c.texts_of.result (λ texts. texts.items ≡ texts_among c.deref.result.now) (λ texts. AllByRecursion IsUtf8 texts.items)
    (λ texts is. subst (AllByRecursion IsUtf8) (sym (is ∙ ap texts_among c.deref.ensures.value)) all) c.texts_of.ensures
