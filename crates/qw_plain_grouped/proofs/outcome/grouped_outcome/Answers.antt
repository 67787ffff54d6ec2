use Rattle.std.proofs.Common.{◌≡◌, ◌∙◌, IfOk, List, [], map, sym, ap, subst}
use Rattle.std.specs.List.{AllByRecursion, AllZip}
use Rattle.qw_types.specs.declared.value.Val.{Val}
use Rattle.qw_scalar.specs.Typing.{IsValueOf, kind_of}
use Rattle.qw_meaning.specs.Flow.{Flow}
use Rattle.qw_meaning.specs.Outcome.{Raises, Rows, ended, flow, outcome}
use Rattle.qw_meaning.specs.Query.{query_of}
use Rattle.qw_meaning.specs.Select.{IsSpecification}
use Rattle.qw_plain.specs.Answers.{outcome_of}
use Rattle.qw_grouped.specs.Grouped.{Grouped, front}
use Rattle.qw_grouped.specs.Query.{grouped_of}
use Rattle.qw_grouped.proofs.TypedRows.{rows_typed}
use Rattle.qw_plain_grouped.specs.Inner.Outcomes.{outcome_behind}
use Rattle.qw_plain_grouped.proofs.Steps.{raised_before, rows_before}
use Rattle.qw_plain_grouped.proofs.outcome.grouped_outcome.Goals as goal

pub returns-in-Raises : goal.returns-in-Raises
returns-in-Raises c =
    let tables : List (List (List Val)) = map (λ t. t.items) c.args.tables.now in
    let q : Grouped = grouped_of c.args.query.now in
    let before : Flow (List Val) = flow (front q) tables in
    let raises : ended before.rows before.codes ≡ Raises c.in-Raises.codes.items =
    sym (c.in_ok-codes.ensures ∙ ap (λ s. outcome s tables) c.in_ok-front.ensures) ∙ ap outcome_of c.in-Raises.is in
    sym (raised_before q before.rows before.codes c.in-Raises.codes.items raises)

pub behind_groups-requires : goal.behind_groups-requires
behind_groups-requires c =
    let tables : List (List (List Val)) = map (λ t. t.items) c.args.tables.now in
    let q : Grouped = grouped_of c.args.query.now in
    let before : Flow (List Val) = flow (front q) tables in
    let rows : ended before.rows before.codes ≡ Rows c.in-Rows.rows.items =
    sym (c.in_ok-codes.ensures ∙ ap (λ s. outcome s tables) c.in_ok-front.ensures) ∙ ap outcome_of c.in-Rows.is in
    let found : before.rows ≡ c.deref.result.now = ap (λ (f : Flow (List Val)). f.rows) (rows_before before.rows c.in-Rows.rows.items before.codes rows) ∙ sym c.deref.ensures.value in
    let specification : IsSpecification (front q) = subst IsSpecification c.in_ok-front.ensures (subst (λ p. IsSpecification (query_of p)) c.front.view_is c.front.invariant) in
    record { typed = subst (AllByRecursion (AllZip IsValueOf (map kind_of (front q).items))) found (rows_typed (front q) tables specification c.requires.rows) }

pub returns : goal.returns
returns c =
    let tables : List (List (List Val)) = map (λ t. t.items) c.args.tables.now in
    let q : Grouped = grouped_of c.args.query.now in
    let before : Flow (List Val) = flow (front q) tables in
    let rows : ended before.rows before.codes ≡ Rows c.in-Rows.rows.items =
    sym (c.in_ok-codes.ensures ∙ ap (λ s. outcome s tables) c.in_ok-front.ensures) ∙ ap outcome_of c.in-Rows.is in
    let found : ◌≡◌ {A = Flow (List Val)} (record { rows = c.deref.result.now; codes = [] }) before =
    ap (λ (r : List (List Val)). record { rows = r; codes = [] }) c.deref.ensures.value ∙ sym (rows_before before.rows c.in-Rows.rows.items before.codes rows) in
    subst (λ f. IfOk c.behind_groups.result (λ answer. outcome_of answer ≡ outcome_behind q f)) found c.behind_groups.ensures
