-- One of the first five locals may be of another type: what is known, what is read and the blocks' own locals are declared all the same.
use Rattle.std.proofs.Common.{◌≡◌, ◌≢◌, ℕ, ◌+◌, ◌<◌, ◌≤◌, Option, Some, None, List, [], ◌∷◌, map, slice_get, slice_set, ◌∙◌, arith}
use Rattle.std.specs.List.{AllByRecursion}
use Rattle.qw_types.specs.declared.kind.Kind.{Kind}
use Rattle.qw_types.specs.declared.kind.Kind.TheVariants as kind
use Rattle.qw_map.proofs.TurnFacts.{slice_get-set_other}
use Rattle.qw_module.specs.declared.instruction.ValType.{ValType}
use Rattle.qw_low.specs.declared.cell.Cell.{Cell}
use Rattle.qw_expr.specs.Cells.{DeclaresKind, DeclaresNull}
use Rattle.qw_expr.specs.Computes.{Known, AreDeclared}
use Rattle.qw_read.specs.Reading.{AreBases, known_of}
use Rattle.qw_read.specs.declared.reader.Reader.{Reader}
use Rattle.qw_feed.specs.Cells.{UsesNull}
use Rattle.qw_feed.specs.Stages.{Among}
use Rattle.qw_physical.specs.Physical.{Operator, filter, probe}
use Rattle.qw_operator.proofs.CarriedTyped.{AreLed, IsReaderDeclared}
use Rattle.qw_operator.proofs.Promised.{AreOwn}
use Rattle.qw_operator.proofs.Seen.{AreWithin}

module _ (z : ℕ) (low : z < 5) (t : ValType) (types : List ValType) where
  abbrev pub others : List ValType
  others = slice_set types z t

  pub same_other : (i : ℕ) → i ≢ z → slice_get others i ≡ slice_get types i
  same_other i other = slice_get-set_other types z i t other

  high : (i : ℕ) → 5 ≤ i → slice_get others i ≡ slice_get types i
  high i behind = same_other i (λ e. omega (arith, e, behind, low))

  kind_again : (c : Cell) (k : Option Kind) → 5 ≤ c.value → 5 ≤ c.length → DeclaresKind types c k → DeclaresKind others c k
  kind_again c None v l h = tt
  kind_again c (Some (kind.Number s)) v l h = high c.value v ∙ h
  kind_again c (Some kind.Date) v l h = high c.value v ∙ h
  kind_again c (Some kind.Text) v l h = (high c.value v ∙ h.0, high c.length l ∙ h.1)

  null_again : (n : ℕ) (null : Option ℕ) → UsesNull (Among n) null → DeclaresNull types null → DeclaresNull others null
  null_again n None uses h = tt
  null_again n (Some x) uses h = high x uses.0 ∙ h

  pub known_again : (n : ℕ) (known : List Known) → AreWithin n known → AreDeclared types known → AreDeclared others known
  known_again n [] within h = tt
  known_again n (k ∷ known) within h =
      ((kind_again k.operand.cell k.operand.kind within.0.0.0 within.0.1.0 h.0.0, null_again n k.operand.cell.null within.0.2 h.0.1), known_again n known within.1 h.1)

  pub own_again : (next : ℕ) (own : List ValType) → 5 ≤ next → AreOwn types next own → AreOwn others next own
  own_again next own behind h i v there = high (next + i) (omega (arith, behind)) ∙ h i v there

  pub led_again : (operators : List Operator) → AreLed types operators → AreLed others operators
  led_again [] h = tt
  led_again (filter cs ∷ operators) h = led_again operators h
  led_again (probe p ∷ operators) h = (high (5 + p.table) (omega arith) ∙ h.0, led_again operators h.1)

  -- readers, by where their counters, their parts' addresses and their values are
  module _ (left end from below n : ℕ) (left_high : 5 ≤ left) (end_high : 5 ≤ end) (from_high : 5 ≤ from) where
    reader_again : (r : Reader) → (r.left ≡ left) × (r.end ≡ end) → AreBases from below r → AreWithin n (known_of r ∷ []) → IsReaderDeclared types r → IsReaderDeclared others r
    reader_again r counted bases within h = (
      high r.left (omega (arith, counted.0, left_high)) ∙ h.0,
      high r.end (omega (arith, counted.1, end_high)) ∙ h.1,
      record {
        values = let one = bases.values in high r.values (omega (arith, one.0, from_high)) ∙ h.2.values;
        octets = λ is. (let one = bases.octets is in high r.octets (omega (arith, one.0, from_high)) ∙ h.2.octets is);
        nulls = λ is. (let one = bases.nulls is in high r.nulls (omega (arith, one.0, from_high)) ∙ h.2.nulls is);
      },
      (kind_again r.cell (Some _) within.0.0.0 within.0.1.0 h.3.0, null_again n r.cell.null within.0.2 h.3.1),
    )

    pub readers_again : (readers : List Reader) → AllByRecursion (λ (r : Reader). (r.left ≡ left) × (r.end ≡ end)) readers → AllByRecursion (AreBases from below) readers → AreWithin n (map known_of readers) → AllByRecursion (IsReaderDeclared types) readers →
        AllByRecursion (IsReaderDeclared others) readers
    readers_again [] counted bases within h = tt
    readers_again (r ∷ readers) counted bases within h = (reader_again r counted.0 bases.0 (within.0, tt) h.0, readers_again readers counted.1 bases.1 within.1 h.1)
