-- A query, grouped or not, promises what its specification does, or what its grouped query does; and its layout is theirs.
use Rattle.std.proofs.Common.{◌≡◌, false, refl, sym, ap}
use Rattle.qw_meaning.specs.Query.{QueryParts, query_of}
use Rattle.qw_meaning.specs.Select.{Specification}
use Rattle.qw_grouped.specs.Query.{GroupedParts, grouped_of}
use Rattle.qw_grouped.specs.Whole.{Whole, grouped, plain}
use Rattle.qw_grouped.specs.WholeQuery.{body_of, whole_of}
use Rattle.qw_grouped.specs.declared.whole.Body.{Body}
use Rattle.qw_grouped.specs.declared.whole.Body.TheVariants.{Grouped, Plain}
use Rattle.qw_grouped.specs.declared.whole.WholeQuery.{WholeQuery}
use Rattle.qw_compile.specs.PlannedQueries.{promise_of}
use Rattle.qw_whole.specs.WholePromises.{promise_of_whole}

-- without DISTINCT
pub plain_same : (specification : Specification) → promise_of_whole (record { body = plain specification; distinct = false }) ≡ promise_of specification
plain_same specification = refl

pub plain_whole : (query : WholeQuery) (parts : QueryParts) → query.body ≡ Plain parts → record { body = plain (query_of parts); distinct = query.distinct } ≡ whole_of query
plain_whole query parts is = ap (λ (b : Body). let whole : Whole = record { body = body_of b; distinct = query.distinct } in whole) (sym is)

pub groups_whole : (query : WholeQuery) (parts : GroupedParts) → query.body ≡ Grouped parts → record { body = grouped (grouped_of parts); distinct = query.distinct } ≡ whole_of query
groups_whole query parts is = ap (λ (b : Body). let whole : Whole = record { body = body_of b; distinct = query.distinct } in whole) (sym is)

pub plain_promised : (query : WholeQuery) (parts : QueryParts) → query.body ≡ Plain parts → promise_of_whole (record { body = plain (query_of parts); distinct = query.distinct }) ≡ promise_of_whole (whole_of query)
plain_promised query parts is = ap (λ (b : Body). promise_of_whole (record { body = body_of b; distinct = query.distinct })) (sym is)

pub groups_promised : (query : WholeQuery) (parts : GroupedParts) → query.body ≡ Grouped parts → promise_of_whole (record { body = grouped (grouped_of parts); distinct = query.distinct }) ≡ promise_of_whole (whole_of query)
groups_promised query parts is = ap (λ (b : Body). promise_of_whole (record { body = body_of b; distinct = query.distinct })) (sym is)
