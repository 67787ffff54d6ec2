use Rattle.std.proofs.Common.{Bool, IfOk, subst, sym}
use Rattle.qw_map.specs.Layout.{Layout}
use Rattle.qw_module.specs.declared.module.Module.{Module}
use Rattle.qw_meaning.specs.Query.{query_of}
use Rattle.qw_grouped.specs.Whole as asked
use Rattle.qw_promise.specs.Compiled.{IsCompiled}
use Rattle.qw_promise.specs.Promise.{Promise}
use Rattle.qw_compile.specs.declared.compile.Compiled.{Compiled}
use Rattle.qw_compile.specs.declared.query_statement.QueryStatement.{QueryStatement}
use Rattle.qw_whole.specs.Layouts.{IsLayoutOf}
use Rattle.qw_whole.specs.WholePromises.{promise_of_whole}
use Rattle.qw_compile_whole.specs.PlainDistinctOf.{IsPlainDistinctOf}
use Rattle.qw_compile_whole.proofs.Finishes.{ok_finished}
use Rattle.qw_compile_whole.proofs.PlainDistinctFinished.{plain_distinct_finished}
use Rattle.qw_compile_whole.proofs.WholeCompiled.{plain_same}
use Rattle.qw_compile_whole.proofs.WholeLayouts.{distinct_told, plain_told}
use Rattle.qw_compile_whole.proofs.compile_plain.compile_plain.Goals as goal

pub returns-else-distinct-clause-compiled : goal.returns-else-distinct-clause-compiled
returns-else-distinct-clause-compiled c =
    subst (λ (d : Bool). IfOk c.compile.result (λ (compiled : Compiled). IsCompiled (promise_of_whole (record { body = asked.plain (query_of c.args.query.now); distinct = d })) compiled.layout compiled.module)) (sym c.if-distinct.false)
    (subst (λ (p : Promise). IfOk c.compile.result (λ (compiled : Compiled). IsCompiled p compiled.layout compiled.module)) (sym (plain_same (query_of c.args.query.now))) c.compile.ensures.compiled)

pub returns-in_ok-made-clause-compiled : goal.returns-in_ok-made-clause-compiled
returns-in_ok-made-clause-compiled c =
    ok_finished (λ (x : QueryStatement). IsPlainDistinctOf c.args.query.now x.layout x.block.code.items x.locals.items)
    (λ (l : Layout) (m : Module). IsCompiled (promise_of_whole (record { body = asked.plain (query_of c.args.query.now); distinct = c.args.distinct })) l m) c.in_ok-made.made c.finish.result c.in_ok-made.ensures.made c.finish.ensures.finished
    (λ made compiled h f.
    subst (λ (d : Bool). IsCompiled (promise_of_whole (record { body = asked.plain (query_of c.args.query.now); distinct = d })) made.layout compiled.module) (sym c.if-distinct.true)
    (plain_distinct_finished c.order_laws.ensures.rows c.order_laws.ensures.same c.args.query.now made.layout made.block.code.items made.locals.items h f.small c.requires.alike f.few_steps compiled.module f.is))

pub returns-else-distinct-clause-layout : goal.returns-else-distinct-clause-layout
returns-else-distinct-clause-layout c = plain_told c.args.query.now c.args.distinct c.compile.result c.compile.ensures.columns c.compile.ensures.texts

pub returns-in_ok-made-clause-layout : goal.returns-in_ok-made-clause-layout
returns-in_ok-made-clause-layout c =
    ok_finished (λ (x : QueryStatement). IsPlainDistinctOf c.args.query.now x.layout x.block.code.items x.locals.items)
    (λ (l : Layout) (m : Module). IsLayoutOf (record { body = asked.plain (query_of c.args.query.now); distinct = c.args.distinct }) l) c.in_ok-made.made c.finish.result c.in_ok-made.ensures.made c.finish.ensures.finished
    (λ made compiled h f. distinct_told c.args.query.now c.args.distinct made.layout h.columns h.used h.are.read h.used_at h.made.columns_are h.made.octets_are)
