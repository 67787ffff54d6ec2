use Rattle.std.proofs.Common.{arith, rules, w32, w64}
use Rattle.std.specs.Prelude.{FitsSigned}
use Rattle.std.proofs.lemmas.Int.{to_z-of_z}
use Rattle.std.proofs.lemmas.List.{length-map}
use Rattle.qw_types.specs.declared.value.Val.TheVariants as val
use Rattle.qw_csv.specs.Inner.Storage.{texts_from}
use Rattle.qw_csv.proofs.StorageLemmas.{get_map, length-texts, number_in_place}
use Rattle.qw_csv.proofs.storage.Cells.get.Goals as goal

pub get-requires-clause-row : goal.get-requires-clause-row
get-requires-clause-row c =
    let ends = c.in-Texts.texts.ends.items in
    let octets = c.in-Texts.texts.octets.items in
    let row = rw c.in-Texts.is at c.requires.row in
    omega (arith, row, length-map (texts_from 0 ends octets) val.Text, length-texts 0 ends octets)

pub returns-in-Integers : goal.returns-in-Integers
returns-in-Integers c =
    let range : FitsSigned w64 c.from.result = search rules in
    let row = rw c.in-Integers.is at c.requires.row in
    let small : FitsSigned w32 c.index.result.now = search rules in
    rw (to_z-of_z w64 c.from.result range, c.from.ensures, c.in-Integers.is, to_z-of_z w32 c.index.result.now small)
    (number_in_place val.Num c.in-Integers.numbers.items c.args.row c.index.result.now row c.index.ensures)

pub returns-in-Decimals : goal.returns-in-Decimals
returns-in-Decimals c =
    let range : FitsSigned w64 c.index-in-Decimals.result.now = search rules in
    let row = rw c.in-Decimals.is at c.requires.row in
    rw (to_z-of_z w64 c.index-in-Decimals.result.now range, c.in-Decimals.is)
    (number_in_place val.Num c.in-Decimals.numbers.items c.args.row c.index-in-Decimals.result.now row c.index-in-Decimals.ensures)

pub returns-in-Dates : goal.returns-in-Dates
returns-in-Dates c =
    let range : FitsSigned w32 c.index-in-Dates.result.now = search rules in
    let row = rw c.in-Dates.is at c.requires.row in
    rw (to_z-of_z w32 c.index-in-Dates.result.now range, c.in-Dates.is)
    (number_in_place val.Date c.in-Dates.dates.items c.args.row c.index-in-Dates.result.now row c.index-in-Dates.ensures)

pub returns-in-Texts : goal.returns-in-Texts
returns-in-Texts c =
    rw c.in-Texts.is (get_map val.Text (texts_from 0 c.in-Texts.texts.ends.items c.in-Texts.texts.octets.items) c.args.row c.get.result.now c.get.ensures)
