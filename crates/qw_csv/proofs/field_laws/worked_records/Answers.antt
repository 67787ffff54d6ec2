use Rattle.std.proofs.Common.{◌∷◌, [], pos, None, ◌≡◌, length, true, refl, arith}
use Rattle.std.specs.Prelude.{codes}
use Rattle.std.specs.Str.{chars, is_utf8}
use lib.Utf8.{encode}
use Rattle.csv.specs.Machine.{next_record}
use Rattle.csv.specs.Reading.{Reached, strip_bom}
use Rattle.csv.specs.declared.parser.State.TheVariants.{StartRecord}
use Rattle.std.proofs.lemmas.Str.{IsUtf8-from_is_utf8}
use Rattle.qw_types.specs.Numeral.{IsNumberOf}
use Rattle.qw_types.specs.declared.value.Ty.TheVariants.{Integer}
use Rattle.qw_types.specs.declared.value.Val.TheVariants as val
use Rattle.qw_csv.specs.Loading.{AreAllRecords, AreFirstRecords, IsRecordOf}
use Rattle.qw_csv.specs.Worked.{faulty_part, two_columns, two_line_part}
use Rattle.qw_csv.proofs.field_laws.worked_records.Goals as goal

one : IsNumberOf Integer (codes "1") (pos 1)
one = record { shows = record { form = refl; fine = refl; value = refl }; range = search arith }

lines : is_utf8 (codes "x\ny") ≡ true
unfolding chars is_utf8 encode
lines = refl

lines_long : length (chars (codes "x\ny")) ≡ 3
unfolding chars
lines_long = refl

row_is : IsRecordOf None two_columns.columns (codes "1" ∷ codes "x\ny" ∷ []) (val.Num (pos 1) ∷ val.Text (codes "x\ny") ∷ [])
row_is = (one, ((refl, record { utf8 = IsUtf8-from_is_utf8 _ lines; short = omega (arith, lines_long) }), tt))

all_records : AreAllRecords two_line_part ((codes "A" ∷ codes "B" ∷ []) ∷ (codes "1" ∷ codes "x\ny" ∷ []) ∷ [])
unfolding Reached next_record strip_bom
all_records = (StartRecord, [], (((codes "A" ∷ codes "B" ∷ []), StartRecord, codes "\n1,\"x\ny\"\n"), refl, refl, (((codes "1" ∷ codes "x\ny" ∷ []), StartRecord, []), refl, refl, (refl, refl))), refl)

first_records : AreFirstRecords faulty_part ((codes "A" ∷ codes "B" ∷ []) ∷ (codes "1" ∷ codes "x\ny" ∷ []) ∷ (codes "z" ∷ [] ∷ []) ∷ [])
unfolding Reached next_record strip_bom
first_records = (StartRecord, [], (((codes "A" ∷ codes "B" ∷ []), StartRecord, codes "\n1,\"x\ny\"\nz,\n"), refl, refl, (((codes "1" ∷ codes "x\ny" ∷ []), StartRecord, codes "z,\n"), refl, refl, (((codes "z" ∷ [] ∷ []), StartRecord, []), refl, refl, (refl, refl)))))

pub returns-clause-two_lines : goal.returns-clause-two_lines
returns-clause-two_lines c = record { header = codes "A" ∷ codes "B" ∷ []; records = (codes "1" ∷ codes "x\ny" ∷ []) ∷ []; all = all_records; named = refl; each = (row_is, tt) }

pub returns-clause-behind : goal.returns-clause-behind
returns-clause-behind c = (
  (val.Num (pos 1) ∷ val.Text (codes "x\ny") ∷ []) ∷ [],
  codes "z" ∷ [] ∷ [],
  record { header = codes "A" ∷ codes "B" ∷ []; records = (codes "1" ∷ codes "x\ny" ∷ []) ∷ []; first = first_records; named = refl; each = (row_is, tt) },
  (omega arith, refl, refl, refl),
)
