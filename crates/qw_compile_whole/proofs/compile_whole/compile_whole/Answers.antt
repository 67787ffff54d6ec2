use Rattle.std.proofs.Common.{IfOk, subst}
use Rattle.qw_meaning.specs.Select.{entries_of}
use Rattle.qw_grouped.specs.Whole.{Whole, sources_in}
use Rattle.qw_grouped.specs.WholeQuery.{body_of}
use Rattle.qw_grouped.specs.declared.whole.Body.{Body}
use Rattle.qw_promise.specs.Compiled.{IsCompiled}
use Rattle.qw_promise.specs.Promise.{Promise}
use Rattle.qw_emit.specs.Alike.{AreAlike}
use Rattle.qw_compile.specs.declared.compile.Compiled.{Compiled}
use Rattle.qw_whole.specs.Layouts.{IsLayoutOf}
use Rattle.qw_compile_whole.specs.ShortQueries.{IsShortAsked}
use Rattle.qw_compile_whole.proofs.WholeCompiled.{groups_promised, groups_whole, plain_promised, plain_whole}
use Rattle.qw_compile_whole.proofs.compile_whole.compile_whole.Goals as goal

pub compile_plain-requires-clause-alike : goal.compile_plain-requires-clause-alike
compile_plain-requires-clause-alike c = subst (λ (b : Body). AreAlike (entries_of (sources_in (body_of b)))) c.in-Plain.is c.requires.alike

pub compile_groups-requires-clause-alike : goal.compile_groups-requires-clause-alike
compile_groups-requires-clause-alike c = subst (λ (b : Body). AreAlike (entries_of (sources_in (body_of b)))) c.in-Grouped.is c.requires.alike

pub returns-in-Plain-clause-compiled : goal.returns-in-Plain-clause-compiled
returns-in-Plain-clause-compiled c =
    subst (λ (p : Promise). IfOk c.compile_plain.result (λ (made : Compiled). IsCompiled p made.layout made.module)) (plain_promised c.args.query.now c.in-Plain.plain c.in-Plain.is) c.compile_plain.ensures.compiled

pub returns-in-Plain-clause-layout : goal.returns-in-Plain-clause-layout
returns-in-Plain-clause-layout c =
    subst (λ (w : Whole). IfOk c.compile_plain.result (λ (made : Compiled). IsLayoutOf w made.layout)) (plain_whole c.args.query.now c.in-Plain.plain c.in-Plain.is) c.compile_plain.ensures.layout

pub returns-in-Plain-clause-short : goal.returns-in-Plain-clause-short
returns-in-Plain-clause-short c = λ fits. c.compile_plain.ensures.short (subst (λ (b : Body). IsShortAsked b c.args.query.now.distinct) c.in-Plain.is fits)

pub returns-in-Grouped-clause-compiled : goal.returns-in-Grouped-clause-compiled
returns-in-Grouped-clause-compiled c =
    subst (λ (p : Promise). IfOk c.compile_groups.result (λ (made : Compiled). IsCompiled p made.layout made.module)) (groups_promised c.args.query.now c.in-Grouped.grouped c.in-Grouped.is) c.compile_groups.ensures.compiled

pub returns-in-Grouped-clause-layout : goal.returns-in-Grouped-clause-layout
returns-in-Grouped-clause-layout c =
    subst (λ (w : Whole). IfOk c.compile_groups.result (λ (made : Compiled). IsLayoutOf w made.layout)) (groups_whole c.args.query.now c.in-Grouped.grouped c.in-Grouped.is) c.compile_groups.ensures.layout

pub returns-in-Grouped-clause-short : goal.returns-in-Grouped-clause-short
returns-in-Grouped-clause-short c = λ fits. c.compile_groups.ensures.short (subst (λ (b : Body). IsShortAsked b c.args.query.now.distinct) c.in-Grouped.is fits)
