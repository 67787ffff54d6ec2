-- What the cells of a column take of its place.
use Rattle.std.proofs.Common.{◌≡◌, ◌≤◌, ◌+◌, ◌*◌, refl, ap, ℕ, ℤ, List, length, map, arith, Bor}
use Rattle.std.proofs.lemmas.List.{length-map}
use Rattle.qw_types.specs.Value.{text_octets}
use Rattle.qw_types.specs.declared.value.Ty.{Ty}
use Rattle.qw_types.specs.declared.value.Ty.TheVariants as ty
use Rattle.qw_types.specs.declared.value.Val.{Val}
use Rattle.qw_types.specs.declared.value.Val.TheVariants as val
use Rattle.qw_csv.specs.Cells.{AreCellsFor, AreTexts, number_in}
use Rattle.qw_csv.specs.declared.column_cells.ColumnCells.{ColumnCells}
use Rattle.qw_csv.specs.declared.column_cells.ColumnCells.TheVariants as cells
use Rattle.qw_csv.proofs.CellFacts.{together_long}
use Rattle.qw_map.specs.Columns.{placed_at, values_size}
use Rattle.qw_map.specs.declared.layout.Placed.{Placed}
use Rattle.qw_columns.specs.Inner.Writing.{HasNumbers, HasStarts, HasTexts, HasValues}
use Rattle.qw_columns.proofs.WriteLemmas.{numbers_of}

-- ---- numbers of four octets
module _ (type : Ty) (numbers : Bor (List ℤ)) (values : List Val) (are : AreCellsFor type (cells.Short numbers) values) where
  pub short_room : (placed : Placed) (limit : ℕ) → placed ≡ placed_at placed.values type values → placed.nulls ≤ limit → placed.values + 4 * length numbers.now ≤ limit
  short_room placed limit is room = of_type type are is
    where
      enough : (t : Ty) → values_size t (length values) ≡ 4 * length values → numbers.now ≡ map number_in values → placed ≡ placed_at placed.values t values
          → placed.values + 4 * length numbers.now ≤ limit
      enough t size these here =
          let long : length numbers.now ≡ length values = rw these (length-map values number_in) in
          let octets = ap (λ (p : Placed). p.octets) here in
          let nulls = ap (λ (p : Placed). p.nulls) here in
          omega (arith, long, octets, nulls, size, room)

      of_type : (t : Ty) → AreCellsFor t (cells.Short numbers) values → placed ≡ placed_at placed.values t values → placed.values + 4 * length numbers.now ≤ limit
      of_type ty.Integer these here = enough ty.Integer refl these here
      of_type (ty.Decimal precision scale) these here = absurd these
      of_type ty.Date these here = enough ty.Date refl these here
      of_type (ty.Varchar limit') these here = absurd these

  pub short_there : (memory : List ℕ) (placed : Placed) → HasNumbers memory placed.values 4 (map val.Num numbers.now) (length numbers.now) → HasValues memory type placed values
  short_there memory placed has = of_type type are
    where
      of_type : (t : Ty) → AreCellsFor t (cells.Short numbers) values → HasValues memory t placed values
      of_type ty.Integer these = numbers_of memory placed.values 4 numbers.now values these has
      of_type (ty.Decimal precision scale) these = absurd these
      of_type ty.Date these = numbers_of memory placed.values 4 numbers.now values these has
      of_type (ty.Varchar limit) these = absurd these

-- ---- numbers of eight
module _ (type : Ty) (numbers : Bor (List ℤ)) (values : List Val) (are : AreCellsFor type (cells.Long numbers) values) where
  pub long_room : (placed : Placed) (limit : ℕ) → placed ≡ placed_at placed.values type values → placed.nulls ≤ limit → placed.values + 8 * length numbers.now ≤ limit
  long_room placed limit is room = of_type type are is
    where
      of_type : (t : Ty) → AreCellsFor t (cells.Long numbers) values → placed ≡ placed_at placed.values t values → placed.values + 8 * length numbers.now ≤ limit
      of_type ty.Integer these here = absurd these
      of_type (ty.Decimal precision scale) these here =
          let long : length numbers.now ≡ length values = rw these (length-map values number_in) in
          let octets = ap (λ (p : Placed). p.octets) here in
          let nulls = ap (λ (p : Placed). p.nulls) here in
          omega (arith, long, octets, nulls, room)
      of_type ty.Date these here = absurd these
      of_type (ty.Varchar limit') these here = absurd these

  pub long_there : (memory : List ℕ) (placed : Placed) → HasNumbers memory placed.values 8 (map val.Num numbers.now) (length numbers.now) → HasValues memory type placed values
  long_there memory placed has = of_type type are
    where
      of_type : (t : Ty) → AreCellsFor t (cells.Long numbers) values → HasValues memory t placed values
      of_type ty.Integer these = absurd these
      of_type (ty.Decimal precision scale) these = numbers_of memory placed.values 8 numbers.now values these has
      of_type ty.Date these = absurd these
      of_type (ty.Varchar limit) these = absurd these

-- ---- texts
module _ (type : Ty) (ends octets : Bor (List ℕ)) (values : List Val) (are : AreCellsFor type (cells.Texts ends octets) values) where
  pub texts_are : AreTexts ends.now octets.now values
  texts_are = of_type type are
    where
      of_type : (t : Ty) → AreCellsFor t (cells.Texts ends octets) values → AreTexts ends.now octets.now values
      of_type ty.Integer these = absurd these
      of_type (ty.Decimal precision scale) these = absurd these
      of_type ty.Date these = absurd these
      of_type (ty.Varchar limit) these = these

  -- as many octets as texts have together
  pub texts_long : length octets.now ≡ text_octets values
  texts_long = rw (texts_are.together) (together_long values)

  -- offsets end where the octets of texts begin, and these where the null bits do
  pub texts_room : (placed : Placed) → placed ≡ placed_at placed.values type values
      → (placed.values + 4 * length ends.now + 4 ≤ placed.octets) × (placed.octets + length octets.now ≤ placed.nulls)
  texts_room placed is = of_type type are is
    where
      of_type : (t : Ty) → AreCellsFor t (cells.Texts ends octets) values → placed ≡ placed_at placed.values t values
          → (placed.values + 4 * length ends.now + 4 ≤ placed.octets) × (placed.octets + length octets.now ≤ placed.nulls)
      of_type ty.Integer these here = absurd these
      of_type (ty.Decimal precision scale) these here = absurd these
      of_type ty.Date these here = absurd these
      of_type (ty.Varchar limit) these here =
          let start = ap (λ (p : Placed). p.octets) here in
          let nulls = ap (λ (p : Placed). p.nulls) here in
          (omega (arith, these.many, start), omega (arith, texts_long, start, nulls))

  pub texts_there : (memory : List ℕ) (placed : Placed) → HasStarts memory placed.values values (length values + 1) → HasTexts memory placed.octets values (length values)
      → HasValues memory type placed values
  texts_there memory placed starts texts = of_type type are
    where
      of_type : (t : Ty) → AreCellsFor t (cells.Texts ends octets) values → HasValues memory t placed values
      of_type ty.Integer these = absurd these
      of_type (ty.Decimal precision scale) these = absurd these
      of_type ty.Date these = absurd these
      of_type (ty.Varchar limit) these = (starts, texts)

-- cells that are no texts are of another type
pub other_type : (type : Ty) (kept : ColumnCells) (values : List Val) → ((ends octets : Bor (List ℕ)) → kept ≡ cells.Texts ends octets → ⊥) → AreCellsFor type kept values
    → (limit : ℕ) → type ≡ ty.Varchar limit → ⊥
other_type type kept values other are limit is = of_cells kept other (rw is at are)
  where
    of_cells : (k : ColumnCells) → ((ends octets : Bor (List ℕ)) → k ≡ cells.Texts ends octets → ⊥) → AreCellsFor (ty.Varchar limit) k values → ⊥
    of_cells (cells.Short numbers) never these = these
    of_cells (cells.Long numbers) never these = these
    of_cells (cells.Texts ends octets) never these = never ends octets refl
