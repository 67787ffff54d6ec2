-- The lines of rows that are chained in the memory.
use Rattle.std.proofs.Common.{◌≡◌, ℕ, zero, suc, ◌+◌, ◌*◌, ◌<◌, List, [], ◌∷◌, ◌++◌, Option, Some, None, IsSome, Vec, Global, length, map, get_or, refl, sym, ap, ◌∙◌, append_assoc, ⊎_elim, arith}
use Rattle.std.specs.Prelude.{◌==◌}
use Rattle.std.proofs.lemmas.Bool.{cases_Bool, false≢true}
use Rattle.std.proofs.lemmas.Option.{none-some, same_Some}
use Rattle.csv.specs.declared.writer.Writer.{Writer}
use Rattle.qw_types.specs.declared.kind.Kind.{Kind}
use Rattle.qw_types.specs.declared.value.Val.{Val}
use Rattle.qw_linear.specs.Memory.{number_at}
use Rattle.qw_map.specs.Areas.{Area, World}
use Rattle.qw_map.specs.Layout.{Layout, cell_at, cells_at, row_at, rows_at, rows_from, text_areas}
use Rattle.qw_map.proofs.ResultLemmas.{parts_of}
use Rattle.qw_map.proofs.ResultRows.{IsRead, descriptor-covered, next-there, read-more, read-none}
use Rattle.qw_sink.specs.declared.sink.Head.{Head}
use Rattle.qw_sink.specs.Sink.{line_of, printed_row, report_of_rows, rows_line, text_of_rows}
use Rattle.qw_sink.specs.Inner.Sink.{HasWritten}
use Rattle.qw_sink.proofs.SinkLemmas.{text_of_rows-none, text_of_rows-push}

-- ---- the cells of a row

-- the cell of a number in a row of cells
pub record IsCell (texts : List Area) (memory : List ℕ) (kinds : List Kind) (cells k : ℕ) (d : Kind) (row : List Val) : Type 0 where
  pub value : Val
  pub is : cell_at texts memory (cells + 16 * k) (get_or kinds k d) ≡ Some value
  pub at : value ≡ get_or row k value

pub cell-of : (texts : List Area) (memory : List ℕ) (kinds : List Kind) (cells k : ℕ) (d : Kind) (row : List Val) → k < length kinds →
    cells_at texts memory cells kinds ≡ Some row → IsCell texts memory kinds cells k d row
cell-of texts memory [] cells k d row within is = absurd (omega (arith, within))
cell-of texts memory (kind ∷ kinds) cells zero d row within is =
    let parts = parts_of (cell_at texts memory cells kind) (cells_at texts memory (cells + 16) kinds) row is in
    let first : cells + 16 * 0 ≡ cells = omega arith in
    rw parts.all_is (record { value = parts.one; is = rw first parts.first_is; at = refl })
cell-of texts memory (kind ∷ kinds) cells (suc k) d row within is =
    let parts = parts_of (cell_at texts memory cells kind) (cells_at texts memory (cells + 16) kinds) row is in
    let next = cell-of texts memory kinds (cells + 16) k d parts.others (omega (arith, within)) parts.rest_is in
    let place : cells + 16 * suc k ≡ cells + 16 + 16 * k = omega arith in
    rw parts.all_is (record { value = next.value; is = rw place next.is; at = next.at })

-- a row has as many values as there are kinds
pub cells-many : (texts : List Area) (memory : List ℕ) (kinds : List Kind) (cells : ℕ) (row : List Val) → cells_at texts memory cells kinds ≡ Some row → length row ≡ length kinds
cells-many texts memory [] cells row is = ap length (sym (same_Some [] row is))
cells-many texts memory (kind ∷ kinds) cells row is =
    let parts = parts_of (cell_at texts memory cells kind) (cells_at texts memory (cells + 16) kinds) row is in
    ap length parts.all_is ∙ ap suc (cells-many texts memory kinds (cells + 16) parts.others parts.rest_is)

-- ---- the rows of a chain

-- what is there
pub there-is : {T : Type 0} (o : Option T) → IsSome o → (x : T) × (o ≡ Some x)
there-is None there = absurd (false≢true there)
there-is (Some x) there = (x, refl)

-- the rows of a descriptor are those of the chain that it leads to
pub rows-behind : (layout : Layout) (w : World) (memory : List ℕ) (descriptor : ℕ) (rows : List (List Val)) → rows_at layout w memory descriptor ≡ Some rows →
    rows_from layout.cells (text_areas layout w descriptor) w.own memory (number_at memory (descriptor + 16) 8) (number_at memory (descriptor + 8) 4) ≡ Some rows
rows-behind layout w memory descriptor rows is = rw (descriptor-covered layout w memory descriptor (rw is refl)) at is

-- a chain has as many rows as its count says
pub rows-many : (kinds : List Kind) (texts own : List Area) (memory : List ℕ) (count at : ℕ) (rows : List (List Val)) → rows_from kinds texts own memory count at ≡ Some rows →
    length rows ≡ count
rows-many kinds texts own memory zero at rows is = ⊎_elim
    (λ ends. ap length (sym (same_Some [] rows (rw ends at is))))
    (λ goes_on. absurd (none-some rows (rw goes_on at is)))
    (cases_Bool (at == 0))
rows-many kinds texts own memory (suc count) at rows is =
    let parts = parts_of (row_at kinds texts own memory at) (rows_from kinds texts own memory count (number_at memory at 4)) rows is in
    ap length parts.all_is ∙ ap suc (rows-many kinds texts own memory count (number_at memory at 4) parts.others parts.rest_is)

-- after k of `count` rows: their lines are written behind the header's
pub record AreWritten (header : List Head) (kinds : List Kind) (texts own : List Area) (memory : List ℕ) (count first k at : ℕ) (old new : Writer (Vec ℕ Global)) : Type 0 where
  pub rows : List (List Val)
  pub read : IsRead kinds texts own memory count first k at rows
  pub written : (text : List ℕ) → HasWritten old text → HasWritten new (text ++ text_of_rows header rows)

-- none, behind the line of the header
pub written-none : (header : List Head) (kinds : List Kind) (texts own : List Area) (memory : List ℕ) (count first : ℕ) (old new : Writer (Vec ℕ Global)) →
    ((text : List ℕ) → HasWritten old text → HasWritten new (text ++ line_of (map (λ (h : Head). h.name) header))) → IsSome (rows_from kinds texts own memory count first) →
    AreWritten header kinds texts own memory count first 0 first old new
written-none header kinds texts own memory count first old new names there = record {
  rows = [];
  read = read-none kinds texts own memory count first there;
  written = λ text was. rw (text_of_rows-none header) (names text was);
}

-- one more
pub written-more : (header : List Head) (kinds : List Kind) (texts own : List Area) (memory : List ℕ) (count first k at next : ℕ) (old now new : Writer (Vec ℕ Global)) → k < count →
    ((row : List Val) → cells_at texts memory (at + 8) kinds ≡ Some row → (text : List ℕ) → HasWritten now text → HasWritten new (text ++ line_of (printed_row header row))) →
    next ≡ number_at memory at 4 → AreWritten header kinds texts own memory count first k at old now → AreWritten header kinds texts own memory count first (k + 1) next old new
written-more header kinds texts own memory count first k at next old now new within line link so_far =
    by_row (cells_at texts memory (at + 8) kinds) refl (next-there kinds texts own memory count first k at so_far.rows within so_far.read)
  where
    by_row : (o : Option (List Val)) → cells_at texts memory (at + 8) kinds ≡ o → IsSome o → AreWritten header kinds texts own memory count first (k + 1) next old new
    by_row None is there = absurd (false≢true there)
    by_row (Some row) is there = record {
      rows = so_far.rows ++ row ∷ [];
      read = read-more kinds texts own memory count first k at next so_far.rows row within is link so_far.read;
      written = λ text was.
          let grown = text_of_rows-push header so_far.rows row in
          let whole : text ++ text_of_rows header (so_far.rows ++ row ∷ []) ≡ (text ++ text_of_rows header so_far.rows) ++ line_of (printed_row header row) =
          ap (λ t. text ++ t) grown ∙ sym (append_assoc text (text_of_rows header so_far.rows) (line_of (printed_row header row))) in
          rw whole (line row is (text ++ text_of_rows header so_far.rows) (so_far.written text was));
    }

-- the part of the report: the headline with the number of rows, and their lines
pub part-whole : (report line middle whole : List ℕ) (number count : ℕ) (header : List Head) (rows : List (List Val)) → whole ≡ middle ++ text_of_rows header rows →
    middle ≡ report ++ line → line ≡ rows_line number count → length rows ≡ count → whole ≡ report ++ report_of_rows number header rows
part-whole report line middle whole number count header rows whole_is middle_is line_is many =
    whole_is ∙ ap (λ t. t ++ text_of_rows header rows) (middle_is ∙ ap (λ t. report ++ t) (line_is ∙ ap (rows_line number) (sym many)))
    ∙ append_assoc report (rows_line number (length rows)) (text_of_rows header rows)
