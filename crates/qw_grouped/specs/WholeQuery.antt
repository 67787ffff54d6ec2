-- The query that one in the code is.
use Rattle.qw_meaning.specs.Query.{query_of}
use Rattle.qw_grouped.specs.Query.{grouped_of}
use Rattle.qw_grouped.specs.Whole.{Body, Whole, grouped, plain}
use Rattle.qw_grouped.specs.declared.whole.Body as coded_body
use Rattle.qw_grouped.specs.declared.whole.Body.TheVariants as coded
use Rattle.qw_grouped.specs.declared.whole.WholeQuery as coded_whole

abbrev pub body_of : coded_body.Body → Body
body_of (coded.Plain parts) = plain (query_of parts)
body_of (coded.Grouped parts) = grouped (grouped_of parts)

abbrev pub whole_of : coded_whole.WholeQuery → Whole
whole_of query = record { body = body_of query.body; distinct = query.distinct }
