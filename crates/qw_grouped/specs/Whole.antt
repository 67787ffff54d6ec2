-- A query, grouped or not, with DISTINCT or without, and what it comes to over the tables of the schema (ISO/IEC 9075:1992, 7.9, 22.1).
use Rattle.std.specs.Prelude.{Bool, true, false, List}
use Rattle.qw_types.specs.declared.value.Val.{Val}
use Rattle.qw_meaning.specs.Flow.{Flow}
use Rattle.qw_meaning.specs.Outcome.{Outcome, ended, flow}
use Rattle.qw_meaning.specs.Select.{IsSpecification, Source, Specification}
use Rattle.qw_grouped.specs.Grouped.{Grouped, IsGrouped}
use Rattle.qw_grouped.specs.Groups.{grouped_flow, once}

pub data Body : Type 0 where
  plain : Specification → Body
  grouped : Grouped → Body

pub record Whole : Type 0 where
  pub body : Body
  pub distinct : Bool

-- the sources of FROM
abbrev pub sources_in : Body → List Source
sources_in (plain specification) = specification.sources
sources_in (grouped query) = query.sources

abbrev pub body_flow : Body → List (List (List Val)) → Flow (List Val)
body_flow (plain specification) tables = flow specification tables
body_flow (grouped query) tables = grouped_flow query tables

-- DISTINCT gives each row once
abbrev pub if_distinct : Bool → List (List Val) → List (List Val)
if_distinct false rows = rows
if_distinct true rows = once rows

abbrev pub whole_flow : Whole → List (List (List Val)) → Flow (List Val)
whole_flow query tables = record { rows = if_distinct query.distinct (body_flow query.body tables).rows; codes = (body_flow query.body tables).codes }

abbrev pub whole_outcome : Whole → List (List (List Val)) → Outcome
whole_outcome query tables = ended (whole_flow query tables).rows (whole_flow query tables).codes

abbrev pub IsBody : Body → Type 0
IsBody (plain specification) = IsSpecification specification
IsBody (grouped query) = IsGrouped query
