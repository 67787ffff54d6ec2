-- Where there is no local for a guard, what is emitted is what it is where nothing is counted.
use Rattle.std.proofs.Common.{ℕ, inl, inr, Bool, true, false, None, List, [], ◌∷◌, sym, ◌∙◌, subst}
use Rattle.qw_module.specs.declared.instruction.ValType.{ValType}
use Rattle.qw_low.specs.Syntax.{Statement}
use Rattle.qw_expr.specs.Computes.{Known}
use Rattle.qw_expr.specs.declared.emitter.Emitter.{Emitter}
use Rattle.qw_read.specs.declared.reader.Reader.{Reader}
use Rattle.qw_scalar.specs.Expression.{Condition}
use Rattle.qw_table.specs.declared.key.Field.{Field}
use Rattle.qw_physical.specs.Physical.{Operator, Probe, filter, probe}
use Rattle.qw_operator.specs.Carries.{EmitsRow, EmitsTo, IsCarriedTo, IsFiltered, IsLookedUp, IsOuterProbed, IsProbed, IsReadRow, IsRowOf}
use Rattle.qw_operator.specs.Grouping.{Group, IsGrouped}
use Rattle.qw_operator.specs.Puts.{IsGroupedWithin, IsOneGroupWithin}
use Rattle.qw_operator.specs.OneGroup.{IsOneGroup}

-- ---- whatever is innermost, and what follows from it
filtered_map : (known : List Known) (next : ℕ) (cs : List Condition) (One Other : (next : ℕ) → Statement → List ValType → Type 0) (a : Statement) (own : List ValType) → ((after : ℕ) (b : Statement) (more : List ValType) → One after b more → Other after b more) →
    IsFiltered known next cs One a own → IsFiltered known next cs Other a own
filtered_map known next cs One Other a own follows h =
    record { tests = h.tests; ends = h.ends; tests_own = h.tests_own; rest = h.rest; rest_own = h.rest_own; is = h.is; own_is = h.own_is; decided = h.decided; onward = follows _ h.rest h.rest_own h.onward }

probed_map : (known : List Known) (next : ℕ) (p : Probe) (One Other : List Known → (next : ℕ) → Statement → List ValType → Type 0) (a : Statement) (own : List ValType) → ((held : List Known) (after : ℕ) (b : Statement) (more : List ValType) → One held after b more → Other held after b more) →
    IsProbed known next p One a own → IsProbed known next p Other a own
probed_map known next p One Other a own follows h = record {
  items = h.items;
  key_own = h.key_own;
  key = h.key;
  look_up = h.look_up;
  reads = h.reads;
  rest = h.rest;
  rest_own = h.rest_own;
  is = h.is;
  own_is = h.own_is;
  computed = h.computed;
  key_is = h.key_is;
  probes = h.probes;
  reading = h.reading;
  filtered = filtered_map _ _ p.on (One _) (Other _) h.rest h.rest_own (follows _) h.filtered;
}

outer_map : (known : List Known) (next : ℕ) (p : Probe) (One Other : List Known → (next : ℕ) → Statement → List ValType → Type 0) (a : Statement) (own : List ValType) → ((held : List Known) (after : ℕ) (b : Statement) (more : List ValType) → One held after b more → Other held after b more) →
    IsOuterProbed known next p One a own → IsOuterProbed known next p Other a own
outer_map known next p One Other a own follows h = record {
  items = h.items;
  key_own = h.key_own;
  key = h.key;
  look_up = h.look_up;
  reads = h.reads;
  tests = h.tests;
  ends = h.ends;
  tests_own = h.tests_own;
  rest = h.rest;
  rest_own = h.rest_own;
  is = h.is;
  own_is = h.own_is;
  computed = h.computed;
  key_is = h.key_is;
  probes = h.probes;
  reading = h.reading;
  decided = h.decided;
  onward = follows _ _ h.rest h.rest_own h.onward;
}

looked_up_map : (outer : Bool) (known : List Known) (next : ℕ) (p : Probe) (One Other : List Known → (next : ℕ) → Statement → List ValType → Type 0) (a : Statement) (own : List ValType) →
    ((held : List Known) (after : ℕ) (b : Statement) (more : List ValType) → One held after b more → Other held after b more) → IsLookedUp outer known next p One a own → IsLookedUp outer known next p Other a own
looked_up_map false known next p One Other a own follows h = probed_map known next p One Other a own follows h
looked_up_map true known next p One Other a own follows h = outer_map known next p One Other a own follows h

module _ (One Other : List Known → (next : ℕ) → Statement → List ValType → Type 0) (follows : (known : List Known) (next : ℕ) (a : Statement) (own : List ValType) → One known next a own → Other known next a own) where
  carried_map : (operators : List Operator) (known : List Known) (next : ℕ) (a : Statement) (own : List ValType) → IsCarriedTo One known next operators a own → IsCarriedTo Other known next operators a own
  carried_map [] known next a own h = follows known next a own h
  carried_map (filter cs ∷ operators) known next a own h =
      filtered_map known next cs (λ after b more. IsCarriedTo One known after operators b more) (λ after b more. IsCarriedTo Other known after operators b more) a own (λ after b more rest. carried_map operators known after b more rest) h
  carried_map (probe p ∷ operators) known next a own h =
      looked_up_map p.outer known next p (λ held after b more. IsCarriedTo One held after operators b more) (λ held after b more. IsCarriedTo Other held after operators b more) a own (λ held after b more rest. carried_map operators held after b more rest) h

  pub emits_map : (known : List Known) (operators : List Operator) (old new : Emitter) → EmitsTo One known operators old new → EmitsTo Other known operators old new
  emits_map known operators old new h =
      record { first_is = h.first_is; statement = h.statement; own = h.own; code_is = h.code_is; own_is = h.own_is; carried = carried_map operators known _ h.statement h.own h.carried }

  read_row_map : (literals : List Known) (readers : List Reader) (next : ℕ) (cs : List Condition) (operators : List Operator) (a : Statement) (own : List ValType) → IsReadRow One literals readers next cs operators a own → IsReadRow Other literals readers next cs operators a own
  read_row_map literals readers next cs operators a own h = record {
    tests = h.tests;
    ends = h.ends;
    tests_own = h.tests_own;
    reads = h.reads;
    rest = h.rest;
    rest_own = h.rest_own;
    is = h.is;
    own_is = h.own_is;
    decided = h.decided;
    reading = h.reading;
    carried = carried_map operators _ _ h.rest h.rest_own h.carried;
  }

  row_of_map : (literals : List Known) (readers : List Reader) (next : ℕ) (cs : List Condition) (operators : List Operator) (a : Statement) (own : List ValType) → IsRowOf One literals readers next cs operators a own → IsRowOf Other literals readers next cs operators a own
  row_of_map literals readers next cs operators a own (inl read) = inl (read_row_map literals readers next cs operators a own read)
  row_of_map literals readers next cs operators a own (inr h) = inr (record {
    first = h.first;
    others = h.others;
    cs_are = h.cs_are;
    is_tested = h.is_tested;
    unknown = h.unknown;
    guard = h.guard;
    out = h.out;
    inner = h.inner;
    inner_own = h.inner_own;
    is = h.is;
    own_is = h.own_is;
    tests = h.tests;
    within = read_row_map literals _ _ cs operators h.inner h.inner_own h.within;
  })

  pub row_map : (literals : List Known) (readers : List Reader) (operators : List Operator) (old new : Emitter) → EmitsRow One literals readers operators old new → EmitsRow Other literals readers operators old new
  row_map literals readers operators old new h = record {
    first_is = h.first_is;
    statement = h.statement;
    own = h.own;
    code_is = h.code_is;
    own_is = h.own_is;
    row = row_of_map literals readers _ _ _ h.statement h.own h.row;
  }

-- ---- a row that is put into its group
pub unguarded : (fields : List Field) (known : List Known) (next : ℕ) (g : Group) (a : Statement) (own : List ValType) → IsGroupedWithin None fields known next g a own → IsGrouped fields known next g a own
unguarded fields known next g a own h = subst (λ (b : Statement). IsGrouped fields known next g b own) (h.grouped.is ∙ sym h.is) h.grouped

pub unguarded_one : (fields : List Field) (known : List Known) (next : ℕ) (g : Group) (a : Statement) (own : List ValType) → IsOneGroupWithin None fields known next g a own → IsOneGroup fields known next g a own
unguarded_one fields known next g a own h = subst (λ (b : Statement). IsOneGroup fields known next g b own) (h.grouped.is ∙ sym h.is) h.grouped
