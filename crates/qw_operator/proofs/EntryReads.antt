-- The columns that an entry keeps come into locals, as what is known of the row with the entry.
use Rattle.std.proofs.Common.{◌≡◌, ℕ, zero, suc, ◌+◌, ◌*◌, ◌<◌, ◌≤◌, ◌^◌, ◌≤ℤ◌, ℤ, pos, negsuc, unsigned_abs, not, if◌then◌else◌, Bool, true, false, Option, Some, None, List, [], ◌∷◌, ◌++◌, drop, length, length-append, map, Ok, Result, slice_get, refl, sym, ap, ◌∙◌, subst, arith}
use Rattle.std.proofs.lemmas.Int.{ints}
use Rattle.qw_types.specs.Kind.{type_kind}
use Rattle.qw_types.specs.Value.{type_scale}
use Rattle.qw_types.specs.declared.code.Code.{Code}
use Rattle.qw_types.specs.declared.kind.Kind.{Kind}
use Rattle.qw_types.specs.declared.kind.Kind.TheVariants as kind
use Rattle.qw_types.specs.declared.value.Ty.{Ty}
use Rattle.qw_types.specs.declared.value.Ty.TheVariants as ty
use Rattle.qw_types.specs.declared.value.Val.{Val}
use Rattle.qw_types.specs.declared.value.Val.TheVariants as val
use Rattle.qw_module.specs.declared.instruction.ValType.{ValType}
use Rattle.qw_module.specs.declared.instruction.ValType.TheVariants.{I32, I64}
use Rattle.qw_low.specs.declared.cell.Cell.{Cell}
use Rattle.qw_low.specs.Syntax.{Statement}
use Rattle.qw_low.specs.State.{Part, Own, Address, Cells, LowState}
use Rattle.qw_low.specs.Meaning.{meaning}
use Rattle.qw_low.specs.Promise.{Ends}
use Rattle.qw_low.specs.Size.{size}
use Rattle.qw_low.specs.Raising.{Kept}
use Rattle.qw_low.specs.Held.{SaysNull, SaysValue}
use Rattle.qw_low.proofs.LessKnown.{IsLess, seen}
use Rattle.qw_low.proofs.Promises.{Ends-then, Ends-weaker}
use Rattle.qw_low.proofs.Results.{Kept-same, Kept-then}
use Rattle.qw_expr.specs.Cells as exprs
use Rattle.qw_expr.specs.Cells.{IsWithin, DeclaresKind, DeclaresNull}
use Rattle.qw_expr.specs.Computes.{Known, AreDeclared}
use Rattle.qw_expr.specs.Computes as computes
use Rattle.qw_read.specs.Reading.{most_of}
use Rattle.qw_feed.specs.Cells.{HasCell, HasCells, UsesNull}
use Rattle.qw_feed.specs.Stages.{Among}
use Rattle.qw_feed.proofs.Frames.{Never}
use Rattle.qw_table.specs.Entries.{HoldsValue, LeadsWhere, MayBe, Stands, cell_from, cell_types}
use Rattle.qw_physical.specs.declared.pipeline.ReadColumn.{ReadColumn}
use Rattle.qw_operator.specs.Carries.{ReadsEntry, entry_types, known_entry}
use Rattle.qw_operator.specs.Takes.{AreSized, anywhere}
use Rattle.qw_operator.proofs.PairRows.{AreAt, AreStored, IsHeld, held_kind}
use Rattle.qw_operator.proofs.Promised.{AreOwn, first_own_types, rest_own_types}
use Rattle.qw_operator.proofs.Seen.{AreWithin, StandsIn, held_later, less_kept, lies_later, longer_kept, stands_later, stands_more}
use Rattle.qw_operator.proofs.Stood.{cell_map, cells_map}

-- ---- values of columns
integer_small : (z : ℤ) → negsuc 2147483647 ≤ℤ z → z ≤ℤ pos 2147483647 → unsigned_abs z ≤ 2 ^ 31
integer_small (pos m) least greatest = omega (arith, ints, greatest)
integer_small (negsuc m) least greatest = omega (arith, ints, least)

within_most : (type : Ty) (b : Bool) (v : Val) → IsHeld type b v → IsWithin (most_of type) v
within_most type b val.Null is = tt
within_most ty.Integer b (val.Num z) is = integer_small z is.0 is.1
within_most (ty.Decimal precision scale) b (val.Num z) is = omega (arith, is)
within_most ty.Date b (val.Num z) is = absurd is
within_most (ty.Varchar limit) b (val.Num z) is = absurd is
within_most type b (val.Date d) is = tt
within_most type b (val.Text octets) is = tt

may_be : (type : Ty) (b : Bool) (v : Val) → IsHeld type b v → MayBe (not b) v
may_be type b val.Null is = ap not is
may_be type b (val.Num z) is = tt
may_be type b (val.Date d) is = tt
may_be type b (val.Text t) is = tt

-- ---- the cells behind the key's
pub cells_behind : (Text : Part → ℕ → List ℕ → Type 0) (c : Cells) (k at n : ℕ) (vs : List Val) → HasCells Text c k at vs → HasCells Text c k (at + 16 * n) (drop n vs)
cells_behind Text c k at zero vs h = let place : at ≡ at + 16 * 0 = omega arith in subst (λ (p : ℕ). HasCells Text c k p vs) place h
cells_behind Text c k at (suc n) [] h = tt
cells_behind Text c k at (suc n) (v ∷ vs) h =
    let place : at + 16 + 16 * n ≡ at + 16 * suc n = omega arith in
    subst (λ (p : ℕ). HasCells Text c k p (drop n vs)) place (cells_behind Text c k (at + 16) n vs h.1)

-- ---- where what is known of an entry is
null_among : (free last : ℕ) (b : Bool) → 5 ≤ free → free < last → UsesNull (Among last) (if b then Some free else None)
null_among free last true low room = (low, room)
null_among free last false low room = tt

pub entry_within : (free last : ℕ) (columns : List ReadColumn) → 5 ≤ free → free + 3 * length columns ≤ last → AreWithin last (known_entry free columns)
entry_within free last [] low room = tt
entry_within free last (c ∷ columns) low room = (
  ((omega (arith, low), omega (arith, room)), (omega (arith, low), omega (arith, room)), null_among free last (not c.not_null) low (omega (arith, room))),
  entry_within (free + 3) last columns (omega (arith, low)) (omega (arith, room)),
)

pub entry_told : (free : ℕ) (columns : List ReadColumn) → map (λ (k : Known). k.expression) (known_entry free columns) ≡ map (λ (k : Known). k.expression) (map anywhere columns)
entry_told free [] = refl
entry_told free (c ∷ columns) = ap (λ (l : _). (anywhere c).expression ∷ l) (entry_told (free + 3) columns)

-- ---- a value that is read
module _ (c : Cells) (row : List Val) (most fuel : ℕ) where
  -- what its locals hold, where the text that it may be stands among what is seen
  text_seen : (free : ℕ) (null : Option ℕ) (k at : ℕ) (v : Val) (t u : LowState) → Kept free t u → HasCell (StandsIn c t) t.cells k at v → HoldsValue (record { value = free + 1; length = free + 2; null = null }) v u → LeadsWhere t.cells k at (free + 1) v u →
      exprs.HoldsValue (record { value = free + 1; length = free + 2; null = null }) v (seen c u)
  text_seen free null k at val.Null t u kept has holds leads = null_seen null holds
    where
      null_seen : (null : Option ℕ) → SaysNull u null → SaysNull (seen c u) null
      null_seen None h = h
      null_seen (Some x) h = h
  text_seen free null k at (val.Num z) t u kept has holds leads = (holds.0, holds.1, says_seen null holds.2)
    where
      says_seen : (null : Option ℕ) → SaysValue u null → SaysValue (seen c u) null
      says_seen None h = h
      says_seen (Some x) h = h
  text_seen free null k at (val.Date d) t u kept has holds leads = (holds.0, says_seen null holds.1)
    where
      says_seen : (null : Option ℕ) → SaysValue u null → SaysValue (seen c u) null
      says_seen None h = h
      says_seen (Some x) h = h
  text_seen free null k at (val.Text x) t u kept has holds leads = (
    record {
      part = has.0;
      offset = has.1;
      is_at = leads ∙ has.2;
      is_long = holds.0.is_long;
      short = has.4.1;
      lies = lies_later c t u has.0 has.1 x (longer_kept free t u kept) has.4.2;
    },
    says_seen null holds.1,
  )
    where
      says_seen : (null : Option ℕ) → SaysValue u null → SaysValue (seen c u) null
      says_seen None h = h
      says_seen (Some x) h = h

  cells_later : (free : ℕ) (t u : LowState) (k at : ℕ) (vs : List Val) → Kept free t u → HasCells (StandsIn c t) t.cells k at vs → HasCells (StandsIn c u) u.cells k at vs
  cells_later free t u k at vs kept h =
      subst (λ (d : Cells). HasCells (StandsIn c u) d k at vs) (sym (ap (λ (r : LowState). r.cells) kept.others))
      (cells_map (StandsIn c t) (StandsIn c u) t.cells k at vs (λ p o octets. stands_later c t u p o octets (longer_kept free t u kept)) h)

  pub reads_end : (columns : List ReadColumn) (at entry free : ℕ) (a : Statement) (values : List Val) (k o : ℕ) (t : LowState) → ReadsEntry at entry free columns a → 5 ≤ free → entry < free → AreSized columns → AreStored columns values → AreAt row columns values → IsLess c t.cells →
      slice_get t.locals entry ≡ Some (Address (Own k) o) → HasCells (StandsIn c t) t.cells k (o + at) values → free + 3 * length columns ≤ length t.locals →
      Ends (size a) (λ u. Kept free t u × computes.AreHeld (known_entry free columns) row (seen c u)) Never (λ code. ⊥) (meaning most fuel a t)
  reads_end [] at entry free a values k o t reads high low sized stored there less leads has room =
      subst (λ (b : Statement). Ends (size b) (λ u. Kept free t u × Unit {0}) Never (λ code. ⊥) (meaning most fuel b t)) (sym reads) (omega arith, (Kept-same free t, tt))
  reads_end (d ∷ columns) at entry free a [] k o t reads high low sized stored there less leads has room = absurd there
  reads_end (d ∷ columns) at entry free a (v ∷ values) k o t reads high low sized stored there less leads has room =
      let cell : Cell = cell_from free (not d.not_null) in
      let Post : LowState → Type 0 = λ u. Kept free t u × computes.AreHeld (known_entry free (d ∷ columns)) row (seen c u) in
      let Mid : LowState → Type 0 = λ u. Kept free t u × HoldsValue cell v u × LeadsWhere t.cells k (o + at) (free + 1) v u in
      let further : o + at + 16 ≡ o + (at + 16) = omega arith in
      subst (λ (b : Statement). Ends (size b) Post Never (λ code. ⊥) (meaning most fuel b t)) (sym reads.2)
      (Ends-then Post Never (λ code. ⊥) (size reads.0) (size reads.1) Mid (meaning most fuel reads.0 t) (meaning most fuel reads.1)
      (reads.3.runs most fuel t k o v (held_kind d.ty d.not_null v sized.0 stored.0) (may_be d.ty d.not_null v stored.0) leads
      (cell_map (StandsIn c t) (Stands t) t.cells k (o + at) v (λ p i octets. stands_more c t p i octets less) has.0) (omega (arith, room)))
      (λ u mid.
      Ends-weaker (size reads.1) (size reads.1) (λ w. Kept (free + 3) u w × computes.AreHeld (known_entry (free + 3) columns) row (seen c w)) Post Never Never (λ code. ⊥) (λ code. ⊥) (meaning most fuel reads.1 u) (omega arith)
      (λ w done. (
        Kept-then free (free + 3) t u w (omega arith) mid.0 done.0,
        (
          (held_later c (Among (free + 3)) u w (longer_kept (free + 3) u w done.0) (λ i among. done.0.below i among.1)
              (record { expression = (anywhere d).expression; operand = record { cell = cell; kind = Some (type_kind d.ty); scale = type_scale d.ty; most = most_of d.ty } } ∷ []) row
              (((omega (arith, high), omega arith), (omega (arith, high), omega arith), null_among free (free + 3) (not d.not_null) high (omega arith)), tt)
              ((v, ap (λ (x : Val). let r : Result Val Code = Ok x in r) there.0, (text_seen free cell.null k (o + at) v t u mid.0 has.0 mid.1 mid.2, within_most d.ty d.not_null v stored.0)), tt)).0,
          done.1,
        ),
      ))
      (λ w x. x) (λ code x. x)
      (reads_end columns (at + 16) entry (free + 3) reads.1 values k o u reads.4 (omega (arith, high)) (omega (arith, low)) sized.1 stored.1 there.1 (less_kept c free t u mid.0 less) (mid.0.below entry low ∙ leads)
      (subst (λ (p : ℕ). HasCells (StandsIn c u) u.cells k p values) further (cells_later free t u k (o + at + 16) values mid.0 has.1)) (omega (arith, room, mid.0.many)))))

-- ---- how it is declared
null_declared : (types : List ValType) (free : ℕ) (b : Bool) → slice_get types free ≡ Some I32 → DeclaresNull types (if b then Some free else None)
null_declared types free true so = so
null_declared types free false so = tt

pub cell_three : (kd : Kind) → length (cell_types kd) ≡ 3
cell_three (kind.Number s) = refl
cell_three kind.Date = refl
cell_three kind.Text = refl

cell_declared : (types : List ValType) (kd : Kind) (free : ℕ) (b : Bool) → AreOwn types free (cell_types kd) → DeclaresKind types (cell_from free b) (Some kd) × DeclaresNull types (if b then Some free else None)
cell_declared types (kind.Number s) free b own = (own 1 I64 refl, null_declared types free b (subst (λ (i : ℕ). slice_get types i ≡ Some I32) (omega arith) (own 0 I32 refl)))
cell_declared types kind.Date free b own = (own 1 I64 refl, null_declared types free b (subst (λ (i : ℕ). slice_get types i ≡ Some I32) (omega arith) (own 0 I32 refl)))
cell_declared types kind.Text free b own = ((own 1 I32 refl, own 2 I32 refl), null_declared types free b (subst (λ (i : ℕ). slice_get types i ≡ Some I32) (omega arith) (own 0 I32 refl)))

pub entry_many : (columns : List ReadColumn) → length (entry_types columns) ≡ 3 * length columns
entry_many [] = refl
entry_many (c ∷ columns) =
    let rest = entry_many columns in
    let three = cell_three (type_kind c.ty) in
    let all = length-append (cell_types (type_kind c.ty)) (entry_types columns) in
    omega (arith, rest, three, all)

pub entry_declared : (types : List ValType) (free : ℕ) (columns : List ReadColumn) → AreOwn types free (entry_types columns) → AreDeclared types (known_entry free columns)
entry_declared types free [] own = tt
entry_declared types free (c ∷ columns) own =
    let first : List ValType = cell_types (type_kind c.ty) in
    let rest : List ValType = entry_types columns in
    let one = cell_declared types (type_kind c.ty) free (not c.not_null) (first_own_types types free (first ++ rest) first rest refl own) in (
      (one.0, one.1),
      entry_declared types (free + 3) columns (subst (λ (n : ℕ). AreOwn types (free + n) rest) (cell_three (type_kind c.ty)) (rest_own_types types free (first ++ rest) first rest refl own)),
    )
