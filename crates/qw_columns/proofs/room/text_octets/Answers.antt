use Rattle.std.proofs.Common.{◌≡◌, arith, length, sym}
use Rattle.qw_types.specs.Value.{text_octets}
use Rattle.qw_map.specs.Columns.{column_values}
use Rattle.qw_columns.proofs.CellPlaces.{other_type, texts_long}
use Rattle.qw_columns.proofs.RoomLemmas.{loaded_octets, no_octets, there}
use Rattle.qw_columns.proofs.room.text_octets.Goals as goal

-- how many octets texts have
all : (c : goal.In-Texts) → text_octets (column_values c.args.loaded.now.rows c.args.column) ≡ length c.in-Texts.octets.now
all c =
    let type = there c.args.loaded.now.columns c.args.column c.requires.column in
    sym (texts_long type.0.ty c.in-Texts.ends c.in-Texts.octets (column_values c.args.loaded.now.rows c.args.column) (rw c.in-Texts.is at (c.cells.ensures type.0 type.1)))

pub returns-in-Texts-clause-octets : goal.returns-in-Texts-clause-octets
returns-in-Texts-clause-octets c = sym (all c)

pub returns-in-Texts-clause-limit : goal.returns-in-Texts-clause-limit
returns-in-Texts-clause-limit c = omega (arith, all c, loaded_octets c.args.loaded.now c.args.column c.requires.loaded c.requires.column)

pub returns-in_default : goal.returns-in_default
returns-in_default c =
    let type = there c.args.loaded.now.columns c.args.column c.requires.column in
    record {
      octets = sym (no_octets c.args.loaded.now c.args.column type.0 c.requires.loaded type.1
          (other_type type.0.ty c.cells.result (column_values c.args.loaded.now.rows c.args.column) c.in_default.not-Texts (c.cells.ensures type.0 type.1)));
      limit = omega arith;
    }
