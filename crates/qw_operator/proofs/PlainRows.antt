-- The block of a row whatever is innermost, and the same with something else there: where the one spares a local, the other counts it down.
use Rattle.std.proofs.Common.{ℕ, ◌+◌, ◌*◌, inl, inr, Bool, true, false, Option, Some, None, List, [], ◌∷◌, ◌++◌, length, map, refl, sym, subst}
use Rattle.qw_module.specs.declared.instruction.Load.TheVariants as loads
use Rattle.qw_module.specs.declared.instruction.ValType.{ValType}
use Rattle.qw_module.specs.declared.instruction.ValType.TheVariants.{I32}
use Rattle.qw_scalar.specs.Expression.{Condition}
use Rattle.qw_low.specs.Syntax.{Statement, conditional, load, local, seq, skip}
use Rattle.qw_feed.specs.Stages.{Test, items_block, tests_block}
use Rattle.qw_limit.specs.Counting.{CountsDown, Spares}
use Rattle.qw_limit.proofs.CountedBlocks.{spares_counts, tests_count}
use Rattle.qw_expr.specs.Computes.{Known}
use Rattle.qw_read.specs.NullTests.{test_types}
use Rattle.qw_read.specs.Reading.{known_of}
use Rattle.qw_read.specs.declared.reader.Reader.{Reader}
use Rattle.qw_table.specs.Joins.{Probes, guarded, unless_null}
use Rattle.qw_table.specs.Outer.{OuterProbes, goes_on, outer_choice, outer_front, outer_walk}
use Rattle.qw_table.specs.Tables.{probe_block}
use Rattle.qw_table.specs.declared.key.Field.{Field}
use Rattle.qw_physical.specs.Physical.{Operator, Probe, filter, probe}
use Rattle.qw_operator.specs.Carries.{IsCarriedTo, IsFiltered, IsGuardedRow, IsLookedUp, IsOuterProbed, IsProbed, IsReadRow, IsRow, behind_filter, clear_block, directory, first_filter, known_entry}
use Rattle.qw_operator.specs.Guarded.{picked, sure_where}

module _ (z : ℕ) where
  -- where the one block spares the local, the other counts down
  abbrev pub Follows : (plain a : Statement) → Type 0
  Follows plain a = Spares z plain → CountsDown z a

  -- ---- a lookup around them
  unless_follows : (null : Option ℕ) (plain a : Statement) → Follows plain a → Follows (unless_null null plain) (unless_null null a)
  unless_follows None plain a follows h = follows h
  unless_follows (Some n) plain a follows h = inl (tt, follows h.1)

  guarded_follows : (key : List Field) (plain a : Statement) → Follows plain a → Follows (guarded key plain) (guarded key a)
  guarded_follows [] plain a follows h = follows h
  guarded_follows (f ∷ key) plain a follows h = unless_follows f.cell.null (guarded key plain) (guarded key a) (guarded_follows key plain a follows) h

  probe_follows : (d h x : ℕ) (test : Test) (plain a : Statement) → Follows plain a → Follows (probe_block d h x test plain) (probe_block d h x test a)
  probe_follows d h x test plain a follows spares = (spares.0, (spares_counts z test.block spares.1.0, (inl (follows spares.1.1.0.0, tt), spares.1.1.1)))

  outer_follows : (m w g x : ℕ) (test : Test) (try clear plain a : Statement) → Follows plain a → Follows (outer_walk m w g x test try clear plain) (outer_walk m w g x test try clear a)
  outer_follows m w g x test try clear plain a follows spares =
      let turn = spares.1.1 in (
        spares.0,
        (
          spares.1.0,
          (
            turn.0,
            (
              spares_counts z (outer_choice m w g x test try clear) turn.1.0,
              (inl ((follows turn.1.1.0.0.0, turn.1.1.0.0.1), tt), spares_counts z (conditional (local x) (load x (loads.Full I32) 0 (local x)) skip) turn.1.1.1),
            ),
          ),
        ),
      )

  -- ---- conjuncts and lookups, whatever is within them
  filtered_plain : (known : List Known) (next : ℕ) (cs : List Condition) (Plain Other : (next : ℕ) → Statement → List ValType → Type 0) (a : Statement) (own : List ValType) →
      ((after : ℕ) (b : Statement) (more : List ValType) → Other after b more → (plain : Statement) × Plain after plain more × Follows plain b) →
      IsFiltered known next cs Other a own → (plain : Statement) × IsFiltered known next cs Plain plain own × Follows plain a
  filtered_plain known next cs Plain Other a own plain_of h =
      let rest = plain_of (next + length h.tests_own) h.rest h.rest_own h.onward in (
        tests_block h.tests rest.0,
        record { tests = h.tests; ends = h.ends; tests_own = h.tests_own; rest = rest.0; rest_own = h.rest_own; is = refl; own_is = h.own_is; decided = h.decided; onward = rest.1 },
        λ spares. subst (CountsDown z) (sym h.is) (tests_count z h.tests rest.0 h.rest rest.2 spares),
      )

  probed_plain : (known : List Known) (next : ℕ) (p : Probe) (Plain Other : List Known → (next : ℕ) → Statement → List ValType → Type 0) (a : Statement) (own : List ValType) →
      ((held : List Known) (after : ℕ) (b : Statement) (more : List ValType) → Other held after b more → (plain : Statement) × Plain held after plain more × Follows plain b) →
      IsProbed known next p Other a own → (plain : Statement) × IsProbed known next p Plain plain own × Follows plain a
  probed_plain known next p Plain Other a own plain_of h =
      let free : ℕ = next + length h.key_own in
      let held : List Known = known_entry (free + 14) p.kept ++ known in
      let rest = filtered_plain held (free + 14 + 3 * length p.kept) p.on (Plain held) (Other held) h.rest h.rest_own (plain_of held) h.filtered in
      let test : Test = record { out = local (free + 5); block = h.probes.test } in
      let found : Statement = probe_block (directory p.table) (free + 3) (free + 4) test (seq h.reads h.rest) in
      let plain_found : Statement = probe_block (directory p.table) (free + 3) (free + 4) test (seq h.reads rest.0) in
      let look_up : Statement = guarded h.key (seq h.probes.find plain_found) in
      let plain_probes : Probes (directory p.table) h.key free (seq h.reads rest.0) look_up = record { find = h.probes.find; finds = h.probes.finds; test = h.probes.test; tests = h.probes.tests; is = refl } in (
        seq (items_block h.items) look_up,
        record {
          items = h.items;
          key_own = h.key_own;
          key = h.key;
          look_up = look_up;
          reads = h.reads;
          rest = rest.0;
          rest_own = h.rest_own;
          is = refl;
          own_is = h.own_is;
          computed = h.computed;
          key_is = h.key_is;
          probes = plain_probes;
          reading = h.reading;
          filtered = rest.1;
        },
        λ spares. subst (CountsDown z) (sym h.is) (
          spares_counts z (items_block h.items) spares.0,
          subst (CountsDown z) (sym h.probes.is) (guarded_follows h.key (seq h.probes.find plain_found) (seq h.probes.find found)
              (λ both. (
                spares_counts z h.probes.find both.0,
                probe_follows (directory p.table) (free + 3) (free + 4) test (seq h.reads rest.0) (seq h.reads h.rest) (λ inner. (spares_counts z h.reads inner.0, rest.2 inner.1)) both.1,
              ))
              spares.1),
        ),
      )

  outer_plain : (known : List Known) (next : ℕ) (p : Probe) (Plain Other : List Known → (next : ℕ) → Statement → List ValType → Type 0) (a : Statement) (own : List ValType) →
      ((held : List Known) (after : ℕ) (b : Statement) (more : List ValType) → Other held after b more → (plain : Statement) × Plain held after plain more × Follows plain b) →
      IsOuterProbed known next p Other a own → (plain : Statement) × IsOuterProbed known next p Plain plain own × Follows plain a
  outer_plain known next p Plain Other a own plain_of h =
      let free : ℕ = next + length h.key_own in
      let held : List Known = known_entry (free + 17) p.kept ++ known in
      let rest = plain_of held (free + 17 + 3 * length p.kept + length h.tests_own) h.rest h.rest_own h.onward in
      let test : Test = record { out = local (free + 8); block = h.probes.test } in
      let try : Statement = seq h.reads (tests_block h.tests (goes_on (free + 2))) in
      let clear : Statement = clear_block (free + 17) p.kept in
      let front : Statement = outer_front (directory p.table) h.key (free + 6) (free + 7) h.probes.find in
      let look_up : Statement = seq front (outer_walk free (free + 1) (free + 2) (free + 7) test try clear rest.0) in
      let plain_probes : OuterProbes (directory p.table) h.key free try clear rest.0 look_up = record { find = h.probes.find; finds = h.probes.finds; test = h.probes.test; tests = h.probes.tests; is = refl } in (
        seq (items_block h.items) look_up,
        record {
          items = h.items;
          key_own = h.key_own;
          key = h.key;
          look_up = look_up;
          reads = h.reads;
          tests = h.tests;
          ends = h.ends;
          tests_own = h.tests_own;
          rest = rest.0;
          rest_own = h.rest_own;
          is = refl;
          own_is = h.own_is;
          computed = h.computed;
          key_is = h.key_is;
          probes = plain_probes;
          reading = h.reading;
          decided = h.decided;
          onward = rest.1;
        },
        λ spares. subst (CountsDown z) (sym h.is) (
          spares_counts z (items_block h.items) spares.0,
          subst (CountsDown z) (sym h.probes.is) (
            spares_counts z front spares.1.0,
            outer_follows free (free + 1) (free + 2) (free + 7) test try clear rest.0 h.rest rest.2 spares.1.1,
          ),
        ),
      )

  looked_up_plain : (outer : Bool) (known : List Known) (next : ℕ) (p : Probe) (Plain Other : List Known → (next : ℕ) → Statement → List ValType → Type 0) (a : Statement) (own : List ValType) →
      ((held : List Known) (after : ℕ) (b : Statement) (more : List ValType) → Other held after b more → (plain : Statement) × Plain held after plain more × Follows plain b) →
      IsLookedUp outer known next p Other a own → (plain : Statement) × IsLookedUp outer known next p Plain plain own × Follows plain a
  looked_up_plain false known next p Plain Other a own plain_of h = probed_plain known next p Plain Other a own plain_of h
  looked_up_plain true known next p Plain Other a own plain_of h = outer_plain known next p Plain Other a own plain_of h

  -- ---- all operators, and a row of the scan
  module _ (Plain Other : List Known → (next : ℕ) → Statement → List ValType → Type 0)
      (plain_of : (known : List Known) (next : ℕ) (a : Statement) (own : List ValType) → Other known next a own → (plain : Statement) × Plain known next plain own × Follows plain a) where
    pub carried_plain : (operators : List Operator) (known : List Known) (next : ℕ) (a : Statement) (own : List ValType) → IsCarriedTo Other known next operators a own → (plain : Statement) × IsCarriedTo Plain known next operators plain own × Follows plain a
    carried_plain [] known next a own h = plain_of known next a own h
    carried_plain (filter cs ∷ operators) known next a own h =
        filtered_plain known next cs (λ after b more. IsCarriedTo Plain known after operators b more) (λ after b more. IsCarriedTo Other known after operators b more) a own (λ after b more rest. carried_plain operators known after b more rest) h
    carried_plain (probe p ∷ operators) known next a own h =
        looked_up_plain p.outer known next p (λ held after b more. IsCarriedTo Plain held after operators b more) (λ held after b more. IsCarriedTo Other held after operators b more) a own (λ held after b more rest. carried_plain operators held after b more rest) h

    read_row_plain : (literals : List Known) (readers : List Reader) (next : ℕ) (cs : List Condition) (operators : List Operator) (a : Statement) (own : List ValType) → IsReadRow Other literals readers next cs operators a own →
        (plain : Statement) × IsReadRow Plain literals readers next cs operators plain own × Follows plain a
    read_row_plain literals readers next cs operators a own h =
        let rest = carried_plain operators (literals ++ map known_of readers) (next + length h.tests_own) h.rest h.rest_own h.carried in (
          tests_block h.tests (seq h.reads rest.0),
          record {
            tests = h.tests;
            ends = h.ends;
            tests_own = h.tests_own;
            reads = h.reads;
            rest = rest.0;
            rest_own = h.rest_own;
            is = refl;
            own_is = h.own_is;
            decided = h.decided;
            reading = h.reading;
            carried = rest.1;
          },
          λ spares. subst (CountsDown z) (sym h.is) (tests_count z h.tests (seq h.reads rest.0) (seq h.reads h.rest) (λ inner. (spares_counts z h.reads inner.0, rest.2 inner.1)) spares),
        )

    guarded_row_plain : (literals : List Known) (readers : List Reader) (next : ℕ) (cs : List Condition) (operators : List Operator) (a : Statement) (own : List ValType) → IsGuardedRow Other literals readers next cs operators a own →
        (plain : Statement) × IsGuardedRow Plain literals readers next cs operators plain own × Follows plain a
    guarded_row_plain literals readers next cs operators a own h =
        let test : Test = record { out = h.out; block = h.guard } in
        let inner = read_row_plain literals (map (sure_where h.is_tested) readers) (next + length (test_types (picked h.is_tested readers))) cs operators h.inner h.inner_own h.within in (
          tests_block (test ∷ []) inner.0,
          record {
            first = h.first;
            others = h.others;
            cs_are = h.cs_are;
            is_tested = h.is_tested;
            unknown = h.unknown;
            guard = h.guard;
            out = h.out;
            inner = inner.0;
            inner_own = h.inner_own;
            is = refl;
            own_is = h.own_is;
            tests = h.tests;
            within = inner.1;
          },
          λ spares. subst (CountsDown z) (sym h.is) (tests_count z (test ∷ []) inner.0 h.inner inner.2 spares),
        )

    pub row_plain : (literals : List Known) (readers : List Reader) (next : ℕ) (operators : List Operator) (a : Statement) (own : List ValType) → IsRow Other literals readers next operators a own →
        (plain : Statement) × IsRow Plain literals readers next operators plain own × Follows plain a
    row_plain literals readers next operators a own (inl read) =
        let made = read_row_plain literals readers next (first_filter operators) (behind_filter operators) a own read in
        (made.0, inl made.1, made.2)
    row_plain literals readers next operators a own (inr guarded) =
        let made = guarded_row_plain literals readers next (first_filter operators) (behind_filter operators) a own guarded in
        (made.0, inr made.1, made.2)
