use Rattle.std.proofs.Common.{◌≡◌, ◌++◌, ◌∷◌, [], false, true, IsSome, Option, List, length, map, sym, ap, subst, arith}
use Rattle.qw_physical.specs.Coded.{pipeline_of}
use Rattle.qw_physical.specs.declared.pipeline.Pipeline.{Pipeline}
use Rattle.qw_operator.specs.Grouping.{CanGroup}
use Rattle.qw_compile_whole.specs.GroupedPlaced.{LastSelects, Selects, group_over}
use Rattle.qw_compile_whole.specs.StatementAround.{ArePlacedPasses}
use Rattle.qw_compile_whole.specs.declared.statement_around.PlacedPasses.{PlacedPasses}
use Rattle.qw_compile_whole.proofs.EnterPlacing.{distinct_few, distinct_made}
use Rattle.qw_compile_whole.proofs.StatementAround.{behind_placed, some_of, walk_placed, words_short}
use Rattle.qw_compile_whole.proofs.statements.distinct_statement_of.Goals as goal

pub emit_distinct_parts-requires-clause-placed : goal.emit_distinct_parts-requires-clause-placed
emit_distinct_parts-requires-clause-placed c = (some_of (ArePlacedPasses c.args.tables c.args.texts.items c.args.pipelines.items c.args.behind c.args.columns.now) _ _ c.in-Some.is c.in_ok-found.ensures.placed).placed

pub emit_distinct_parts-requires-clause-many : goal.emit_distinct_parts-requires-clause-many
emit_distinct_parts-requires-clause-many c =
    let are = some_of (ArePlacedPasses c.args.tables c.args.texts.items c.args.pipelines.items c.args.behind c.args.columns.now) _ _ c.in-Some.is c.in_ok-found.ensures.placed in
    omega (arith, ap (λ (l : List Pipeline). length l) are.pipelines_are, c.requires.tables, c.requires.few)

pub emit_distinct_parts-requires-clause-can : goal.emit_distinct_parts-requires-clause-can
emit_distinct_parts-requires-clause-can c = (some_of (ArePlacedPasses c.args.tables c.args.texts.items c.args.pipelines.items c.args.behind c.args.columns.now) _ _ c.in-Some.is c.in_ok-found.ensures.placed).can

pub emit_distinct_parts-requires-clause-groups : goal.emit_distinct_parts-requires-clause-groups
emit_distinct_parts-requires-clause-groups c =
    let are = some_of (ArePlacedPasses c.args.tables c.args.texts.items c.args.pipelines.items c.args.behind c.args.columns.now) _ _ c.in-Some.is c.in_ok-found.ensures.placed in
    subst (λ (l : List Pipeline). LastSelects (λ items. CanGroup (group_over (length l) c.args.groups.now.key.items c.args.groups.now.values.items items)) (map pipeline_of l)) (sym are.pipelines_are) c.requires.groups

pub emit_distinct_parts-requires-clause-enters : goal.emit_distinct_parts-requires-clause-enters
emit_distinct_parts-requires-clause-enters c =
    let are = some_of (ArePlacedPasses c.args.tables c.args.texts.items c.args.pipelines.items c.args.behind c.args.columns.now) _ _ c.in-Some.is c.in_ok-found.ensures.placed in
    behind_placed c.args.tables c.args.texts.items c.args.pipelines.items c.args.behind c.args.columns.now c.in-Some.field-0 are c.args.groups.now.key.items c.args.groups.now.values.items c.requires.enters

pub emit_distinct_parts-requires-clause-walks : goal.emit_distinct_parts-requires-clause-walks
emit_distinct_parts-requires-clause-walks c =
    let are = some_of (ArePlacedPasses c.args.tables c.args.texts.items c.args.pipelines.items c.args.behind c.args.columns.now) _ _ c.in-Some.is c.in_ok-found.ensures.placed in
    walk_placed c.args.tables c.args.texts.items c.args.pipelines.items c.args.behind c.args.columns.now c.in-Some.field-0 are c.args.again.now.columns.key.items c.args.again.now.columns.values.items (pipeline_of c.args.again.now.pipeline) c.requires.walks

pub statement_around-requires-clause-literals : goal.statement_around-requires-clause-literals
statement_around-requires-clause-literals c = (some_of (ArePlacedPasses c.args.tables c.args.texts.items c.args.pipelines.items c.args.behind c.args.columns.now) _ _ c.in-Some.is c.in_ok-found.ensures.placed).short

pub returns-clause-made : goal.returns-clause-made
returns-clause-made c =
    let are = some_of (ArePlacedPasses c.args.tables c.args.texts.items c.args.pipelines.items c.args.behind c.args.columns.now) _ _ c.in-Some.is c.in_ok-found.ensures.placed in
    distinct_made c.args.tables c.args.texts.items c.args.pipelines.items c.args.behind c.args.columns.now c.in-Some.field-0 are c.args.groups.now.key.items c.args.groups.now.values.items c.args.again.now.columns.key.items c.args.again.now.columns.values.items c.args.again.now.pipeline c.args.used.items c.in_ok-emitted.emitted c.in_ok-made.made c.in_ok-emitted.ensures.emits
    (c.in_ok-made.ensures.around c.args.texts.items (c.args.pipelines.items ++ c.args.behind ∷ []) are.are)

pub returns-in_default-clause-there : goal.returns-in_default-clause-there
returns-in_default-clause-there c = λ short few octets.
    let some : false ≡ true = subst (λ (o : Option PlacedPasses). IsSome o) c.in_default.is (c.in_ok-found.ensures.there _ short few octets) in
    absurd cc

pub returns-clause-short : goal.returns-clause-short
returns-clause-short c = λ short few once.
    let ps = c.args.pipelines.items in
    let b = c.args.behind in
    let are = some_of (ArePlacedPasses c.args.tables c.args.texts.items c.args.pipelines.items c.args.behind c.args.columns.now) _ _ c.in-Some.is c.in_ok-found.ensures.placed in
    let shows = subst (λ (p : Pipeline). Selects (λ items. length items ≡ length c.args.again.now.columns.key.items) (pipeline_of p).sink) (sym are.behind_is) c.requires.same in
    let emitted = distinct_few c.args.tables c.args.texts.items ps b c.args.columns.now c.in-Some.field-0 are c.args.again.now.pipeline (length c.args.groups.now.key.items) (length c.args.groups.now.values.items) (length c.args.again.now.columns.key.items) (length c.args.again.now.columns.values.items) _ _ once c.requires.stand
    c.requires.enters c.requires.walks short c.requires.alone.0 c.requires.alone.1 c.requires.shown _ (c.in_ok-emitted.ensures.short shows) in
    (c.in_ok-made.ensures.short c.args.texts.items (ps ++ b ∷ []) are.are few (words_short ps b _ short) emitted).0

pub returns-clause-few_locals : goal.returns-clause-few_locals
returns-clause-few_locals c = λ short few once.
    let ps = c.args.pipelines.items in
    let b = c.args.behind in
    let are = some_of (ArePlacedPasses c.args.tables c.args.texts.items c.args.pipelines.items c.args.behind c.args.columns.now) _ _ c.in-Some.is c.in_ok-found.ensures.placed in
    let shows = subst (λ (p : Pipeline). Selects (λ items. length items ≡ length c.args.again.now.columns.key.items) (pipeline_of p).sink) (sym are.behind_is) c.requires.same in
    let emitted = distinct_few c.args.tables c.args.texts.items ps b c.args.columns.now c.in-Some.field-0 are c.args.again.now.pipeline (length c.args.groups.now.key.items) (length c.args.groups.now.values.items) (length c.args.again.now.columns.key.items) (length c.args.again.now.columns.values.items) _ _ once c.requires.stand
    c.requires.enters c.requires.walks short c.requires.alone.0 c.requires.alone.1 c.requires.shown _ (c.in_ok-emitted.ensures.short shows) in
    (c.in_ok-made.ensures.short c.args.texts.items (ps ++ b ∷ []) are.are few (words_short ps b _ short) emitted).1
