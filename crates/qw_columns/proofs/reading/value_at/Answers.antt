use Rattle.std.proofs.Common.{◌≡◌, ◌∙◌, List, Some, ap, false, refl, sym, true}
use Rattle.std.proofs.lemmas.Result.{IfOk-weaker}
use Rattle.qw_types.specs.Contents.{Contents}
use Rattle.qw_types.specs.declared.value.Val.{Val}
use Rattle.qw_map.specs.Columns.{is_null_at, stored_at}
use Rattle.qw_columns.specs.Mapped.{IsMapOf, value_in}
use Rattle.qw_columns.proofs.ReadLemmas.{bit_inside, found, named, names_of, read_null, read_stored, readable}
use Rattle.qw_columns.proofs.reading.value_at.Goals as goal

pub column-column_type-requires : goal.column-column_type-requires
column-column_type-requires c =
    let here = named c.args.map.now c.args.memory.now.octets c.requires.0 c.args.table c.args.column c.args.row c.requires.1 c.requires.2 in
    rw (here.2.type_is) refl

pub is_null-requires-clause-inside : goal.is_null-requires-clause-inside
is_null-requires-clause-inside c =
    let map = c.args.map.now in
    let memory = c.args.memory.now.octets in
    let i = c.args.table in
    let j = c.args.column in
    let row = c.args.row in
    let type = c.column-column_type.result in
    let placed = c.placed-placed.result in
    let names = names_of map memory c.requires.0 i j row type placed c.requires.1 c.requires.2 c.column-column_type.ensures c.placed-placed.ensures in
    let here = found map memory c.requires.0 i j row type placed c.requires.1 names in
    bit_inside memory type.ty type.not_null placed here.values row here.holds names.within

pub returns-then-is_null-clause-value : goal.returns-then-is_null-clause-value
returns-then-is_null-clause-value c tables is =
    let map = c.args.map.now in
    let memory = c.args.memory.now.octets in
    let i = c.args.table in
    let j = c.args.column in
    let row = c.args.row in
    let type = c.column-column_type.result in
    let placed = c.placed-placed.result in
    let names = names_of map memory c.requires.0 i j row type placed c.requires.1 c.requires.2 c.column-column_type.ensures c.placed-placed.ensures in
    let here = found map memory tables i j row type placed is names in
    let null : is_null_at memory type.not_null placed row ≡ true = cc (c.if-is_null.true, c.is_null.ensures) in
    here.value_is ∙ ap (λ (v : Val). Some v) (read_null memory type.ty type.not_null placed row here.value (here.holds.each row here.value here.there) null)

pub stored_value-requires-clause-readable : goal.stored_value-requires-clause-readable
stored_value-requires-clause-readable c =
    let map = c.args.map.now in
    let memory = c.args.memory.now.octets in
    let i = c.args.table in
    let j = c.args.column in
    let row = c.args.row in
    let type = c.column-column_type.result in
    let placed = c.placed-placed.result in
    let names = names_of map memory c.requires.0 i j row type placed c.requires.1 c.requires.2 c.column-column_type.ensures c.placed-placed.ensures in
    let here = found map memory c.requires.0 i j row type placed c.requires.1 names in
    readable memory type.ty type.not_null placed here.values row here.value here.holds here.there here.typed names.within

pub returns-clause-value : goal.returns-clause-value
returns-clause-value c =
    let map = c.args.map.now in
    let memory = c.args.memory.now.octets in
    let i = c.args.table in
    let j = c.args.column in
    let row = c.args.row in
    let type = c.column-column_type.result in
    let placed = c.placed-placed.result in
    let names = names_of map memory c.requires.0 i j row type placed c.requires.1 c.requires.2 c.column-column_type.ensures c.placed-placed.ensures in
    let some : is_null_at memory type.not_null placed row ≡ false = cc (c.if-is_null.false, c.is_null.ensures) in
    IfOk-weaker c.stored_value.result (λ (value : Val). value ≡ stored_at memory type.ty placed row)
    (λ (value : Val). (tables : List Contents) → IsMapOf map memory tables → value_in tables i j row ≡ Some value)
    (λ value read tables is.
    let here = found map memory tables i j row type placed is names in
    let same : here.value ≡ value = read_stored memory type.ty type.not_null placed row here.value (here.holds.each row here.value here.there) some ∙ sym read in
    here.value_is ∙ ap (λ (v : Val). Some v) same)
    c.stored_value.ensures.value
