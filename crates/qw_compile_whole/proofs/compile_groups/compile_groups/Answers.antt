use Rattle.std.proofs.Common.{◌≡◌, ◌≤◌, Bool, List, length, ap, sym, subst, arith}
use Rattle.std.proofs.lemmas.Bool.{eqb-false, eqb-true}
use Rattle.qw_map.specs.Layout.{Layout}
use Rattle.qw_module.specs.declared.module.Module.{Module}
use Rattle.qw_grouped.specs.declared.query.GroupedColumn.{GroupedColumn}
use Rattle.qw_grouped.specs.Query.{grouped_of}
use Rattle.qw_grouped.specs.Whole as asked
use Rattle.qw_promise.specs.Compiled.{IsCompiled}
use Rattle.qw_compile.specs.declared.query_statement.QueryStatement.{QueryStatement}
use Rattle.qw_whole.specs.Layouts.{IsLayoutOf}
use Rattle.qw_whole.specs.WholePromises.{promise_of_whole}
use Rattle.qw_compile_whole.specs.DistinctOf.{IsDistinctOf}
use Rattle.qw_compile_whole.specs.SingleOf.{IsSingleOf}
use Rattle.qw_compile_whole.specs.StatementOf.{IsStatementOf}
use Rattle.qw_compile_whole.proofs.DistinctWhole.{distinct_whole}
use Rattle.qw_compile_whole.proofs.Finishes.{ok_finished}
use Rattle.qw_compile_whole.proofs.SingleDistinct.{single_asked}
use Rattle.qw_compile_whole.proofs.SingleWhole.{single_whole}
use Rattle.qw_compile_whole.proofs.WholeFinished.{whole_finished}
use Rattle.qw_compile_whole.proofs.WholeLayouts.{grouped_told}
use Rattle.qw_compile_whole.proofs.compile_groups.compile_groups.Goals as goal

pub returns-in_ok-single-clause-compiled : goal.returns-in_ok-single-clause-compiled
returns-in_ok-single-clause-compiled c =
    let q = c.args.query.now in
    let none : length c.args.query.now.columns ≡ 0 = omega (arith, eqb-true (length c.columns.result.now) 0 (sym c.if-is_empty.ensures), ap (λ (l : List GroupedColumn). length l) c.columns.ensures.columns) in
    ok_finished (λ (x : QueryStatement). IsSingleOf c.args.query.now x.layout x.block.code.items x.locals.items)
    (λ (l : Layout) (m : Module). IsCompiled (promise_of_whole (record { body = asked.grouped (grouped_of c.args.query.now); distinct = c.args.distinct })) l m) c.in_ok-single.single c.finish.result c.in_ok-single.ensures.made c.finish.ensures.finished
    (λ made compiled h f.
    single_asked (grouped_of q) c.sources-sources.ensures.kept none c.args.distinct made.layout compiled.module
    (single_whole c.order_laws.ensures.rows c.order_laws.ensures.same q c.sources-sources.ensures.kept none c.requires.sized made.layout made.block.code.items made.locals.items h f.small c.requires.alike f.few_steps compiled.module f.is))

pub returns-in_ok-entered-clause-compiled : goal.returns-in_ok-entered-clause-compiled
returns-in_ok-entered-clause-compiled c =
    let q = c.args.query.now in
    let some : 1 ≤ length c.args.query.now.columns = omega (arith, eqb-false (length c.columns.result.now) 0 (sym c.if-is_empty.ensures), ap (λ (l : List GroupedColumn). length l) c.columns.ensures.columns) in
    ok_finished (λ (x : QueryStatement). IsDistinctOf c.args.query.now x.layout x.block.code.items x.locals.items)
    (λ (l : Layout) (m : Module). IsCompiled (promise_of_whole (record { body = asked.grouped (grouped_of c.args.query.now); distinct = c.args.distinct })) l m) c.in_ok-entered.entered c.finish-then-distinct.result c.in_ok-entered.ensures.made c.finish-then-distinct.ensures.finished
    (λ made compiled h f.
    subst (λ (d : Bool). IsCompiled (promise_of_whole (record { body = asked.grouped (grouped_of c.args.query.now); distinct = d })) made.layout compiled.module) (sym c.if-distinct.true)
    (distinct_whole c.order_laws.ensures.rows c.order_laws.ensures.same q c.sources-sources.ensures.kept some c.requires.sized made.layout made.block.code.items made.locals.items h f.small c.requires.alike f.few_steps compiled.module f.is))

pub returns-in_ok-grouped-clause-compiled : goal.returns-in_ok-grouped-clause-compiled
returns-in_ok-grouped-clause-compiled c =
    let q = c.args.query.now in
    let some : 1 ≤ length c.args.query.now.columns = omega (arith, eqb-false (length c.columns.result.now) 0 (sym c.if-is_empty.ensures), ap (λ (l : List GroupedColumn). length l) c.columns.ensures.columns) in
    ok_finished (λ (x : QueryStatement). IsStatementOf c.args.query.now x.layout x.block.code.items x.locals.items)
    (λ (l : Layout) (m : Module). IsCompiled (promise_of_whole (record { body = asked.grouped (grouped_of c.args.query.now); distinct = c.args.distinct })) l m) c.in_ok-grouped.grouped c.finish-else-distinct.result c.in_ok-grouped.ensures.made c.finish-else-distinct.ensures.finished
    (λ made compiled h f.
    subst (λ (d : Bool). IsCompiled (promise_of_whole (record { body = asked.grouped (grouped_of c.args.query.now); distinct = d })) made.layout compiled.module) (sym c.if-distinct.false)
    (whole_finished c.order_laws.ensures.rows c.order_laws.ensures.same q c.sources-sources.ensures.kept some c.requires.sized made.layout made.block.code.items made.locals.items h f.small c.requires.alike f.few_steps compiled.module f.is))

pub returns-in_ok-single-clause-layout : goal.returns-in_ok-single-clause-layout
returns-in_ok-single-clause-layout c =
    ok_finished (λ (x : QueryStatement). IsSingleOf c.args.query.now x.layout x.block.code.items x.locals.items)
    (λ (l : Layout) (m : Module). IsLayoutOf (record { body = asked.grouped (grouped_of c.args.query.now); distinct = c.args.distinct }) l) c.in_ok-single.single c.finish.result c.in_ok-single.ensures.made c.finish.ensures.finished
    (λ made compiled h f. grouped_told c.args.query.now c.args.distinct made.layout h.before h.kept h.columns h.used h.before_is h.before_texts h.are h.used_at h.made.columns_are h.made.octets_are)

pub returns-in_ok-entered-clause-layout : goal.returns-in_ok-entered-clause-layout
returns-in_ok-entered-clause-layout c =
    ok_finished (λ (x : QueryStatement). IsDistinctOf c.args.query.now x.layout x.block.code.items x.locals.items)
    (λ (l : Layout) (m : Module). IsLayoutOf (record { body = asked.grouped (grouped_of c.args.query.now); distinct = c.args.distinct }) l) c.in_ok-entered.entered c.finish-then-distinct.result c.in_ok-entered.ensures.made c.finish-then-distinct.ensures.finished
    (λ made compiled h f. grouped_told c.args.query.now c.args.distinct made.layout h.before h.kept h.columns h.used h.before_is h.before_texts h.are h.used_at h.made.columns_are h.made.octets_are)

pub returns-in_ok-grouped-clause-layout : goal.returns-in_ok-grouped-clause-layout
returns-in_ok-grouped-clause-layout c =
    ok_finished (λ (x : QueryStatement). IsStatementOf c.args.query.now x.layout x.block.code.items x.locals.items)
    (λ (l : Layout) (m : Module). IsLayoutOf (record { body = asked.grouped (grouped_of c.args.query.now); distinct = c.args.distinct }) l) c.in_ok-grouped.grouped c.finish-else-distinct.result c.in_ok-grouped.ensures.made c.finish-else-distinct.ensures.finished
    (λ made compiled h f. grouped_told c.args.query.now c.args.distinct made.layout h.before h.kept h.columns h.used h.before_is h.before_texts h.are h.used_at h.made.columns_are h.made.octets_are)
