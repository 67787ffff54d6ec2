-- What a table's files come to where the words have neither parts of tables nor a text for null.
use Rattle.std.proofs.Common.{◌≡◌, ℕ, suc, ◌≤◌, List, [], ◌∷◌, length, refl, sym, subst, arith, None}
use Rattle.qw_types.specs.Contents.{Contents}
use Rattle.qw_types.specs.declared.schema.Table.{Table}
use Rattle.qw_csv.specs.Loading.{IsFirstPartFault, LoadsParts}
use Rattle.qw_csv.specs.declared.loading.LoadFault.{LoadFault}
use Rattle.qw_csv.proofs.PartLaws.{fails_only, first_only, loads_part, part_fails, part_loads}
use Rattle.qw_top.specs.FileNames.{table_file_of}
use Rattle.qw_top.specs.Limits.{most_table_octets}
use Rattle.qw_top.specs.Plain.{IsPlainFault, IsPlainTable, plain_names}
use Rattle.qw_top.specs.Top.{Files, HoldAll, IsFaultyPart, IsLongPart, IsTooLong, TableIs}

module _ (files : Files) (schema folder queries : List ℕ) (table : Table) where
  pub plain_rows : (contents : Contents) → TableIs files (plain_names schema folder queries) table contents → IsPlainTable files folder table contents
  plain_rows contents h = by_parts h.parts h.held h.loads
    where
      by_parts : (parts : List (List ℕ)) → HoldAll files (plain_names schema folder queries) table.name parts → LoadsParts table None parts contents.rows → IsPlainTable files folder table contents
      by_parts [] held loads = absurd (omega (arith, held.all))
      by_parts (bytes ∷ []) held loads = record { bytes = bytes; file = held.each.0; loads = loads_part table bytes contents.rows loads; columns = h.columns }
      by_parts (bytes ∷ other ∷ parts) held loads = absurd (omega (arith, held.all))

  pub rows_plain : (contents : Contents) → IsPlainTable files folder table contents → TableIs files (plain_names schema folder queries) table contents
  rows_plain contents h = record {
    parts = h.bytes ∷ [];
    held = record { each = (h.file, tt); all = refl };
    loads = part_loads table h.bytes contents.rows h.loads;
    columns = h.columns;
  }

  pub plain_long : (part : ℕ) → IsLongPart files (plain_names schema folder queries) table part → (part ≡ 1) × IsTooLong files (table_file_of folder table.name) most_table_octets
  plain_long part (next, long) = (omega (arith, next.next, next.few), long)

  pub long_plain : (part : ℕ) → (part ≡ 1) × IsTooLong files (table_file_of folder table.name) most_table_octets → IsLongPart files (plain_names schema folder queries) table part
  long_plain part (is, long) = (record { before = []; held = tt; next = is; few = omega (arith, is) }, long)

  pub plain_fault : (part : ℕ) (fault : LoadFault) → IsFaultyPart files (plain_names schema folder queries) table part fault → (part ≡ 1) × IsPlainFault files folder table fault
  plain_fault part fault ([], held, fails) = absurd (omega (arith, held.all))
  plain_fault part fault (bytes ∷ [], held, fails) =
      let one = first_only table bytes part fault fails in
      (one, (bytes, held.each.0, fails_only table bytes fault (subst (λ (n : ℕ). IsFirstPartFault table None (bytes ∷ []) n fault) one fails)))
  plain_fault part fault (bytes ∷ other ∷ parts, held, fails) = absurd (omega (arith, held.all))

  pub fault_plain : (part : ℕ) (fault : LoadFault) → (part ≡ 1) × IsPlainFault files folder table fault → IsFaultyPart files (plain_names schema folder queries) table part fault
  fault_plain part fault (is, (bytes, file, fails)) = (
    bytes ∷ [],
    record { each = (file, tt); all = refl },
    subst (λ (n : ℕ). IsFirstPartFault table None (bytes ∷ []) n fault) (sym is) (part_fails table bytes fault fails),
  )
