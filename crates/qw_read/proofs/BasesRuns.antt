-- What the block comes to that loads the addresses of a column's parts.
use Rattle.std.proofs.Common.{◌≡◌, ◌≢◌, ℕ, ◌+◌, ◌*◌, ◌<◌, ◌≤◌, not, Bool, true, false, List, length, Option, Some, slice_get, if◌then◌else◌, refl, sym, ap, ◌∙◌, subst, arith}
use Rattle.qw_map.proofs.TurnFacts.{slice_get-set_same, slice_get-set_other}
use Rattle.qw_types.specs.declared.value.Ty.{Ty}
use Rattle.qw_types.specs.declared.value.Ty.TheVariants as ty
use Rattle.qw_map.specs.Columns.{values_size}
use Rattle.qw_map.specs.Layout.{entry_offset, is_text}
use Rattle.qw_map.specs.declared.layout.Used.{Used}
use Rattle.qw_module.specs.declared.instruction.ValType.{ValType}
use Rattle.qw_module.specs.declared.instruction.ValType.TheVariants.{I32}
use Rattle.qw_module.specs.declared.instruction.Load.TheVariants.{Full}
use Rattle.qw_low.specs.Syntax.{Statement, local, advance, seq}
use Rattle.qw_low.specs.State.{Part, Column, Own, Value, Number, Address, LowState}
use Rattle.qw_low.specs.Meaning.{value, advanced, cost, meaning}
use Rattle.qw_low.specs.Typing.{IsTyped}
use Rattle.qw_low.specs.Size.{size}
use Rattle.qw_low.specs.Begin.{KnowsEntry}
use Rattle.qw_low.specs.Promise.{Ends}
use Rattle.qw_low.specs.Raising.{Kept}
use Rattle.qw_low.proofs.Promises.{Ends-weaker, Ends-then}
use Rattle.qw_low.proofs.BlockSteps.{load_ends, assign_then}
use Rattle.qw_low.proofs.Results.{Kept-same, Kept-set}
use Rattle.qw_read.specs.declared.reader.Reader.{Reader}
use Rattle.qw_read.specs.Reading.{HasOctets, place_of, AreBases, HasBases, HasEnd, DeclaresBases, Begins}
use Rattle.qw_read.specs.Inner.Blocks.{base_block, end_at, to_end_block, begin_block}
use Rattle.qw_read.proofs.Addresses.{put, advanced_to}

abbrev pub Never : LowState → Type 0
Never s = ⊥

abbrev pub NoCode : ℕ → Type 0
NoCode code = ⊥

if_true : (b : Bool) (x y : Value) → b ≡ true → (if b then x else y) ≡ x
if_true true x y is = refl
if_true false x y is = absurd cc

if_false : (b : Bool) (x y : Value) → b ≡ false → (if b then x else y) ≡ y
if_false true x y is = absurd cc
if_false false x y is = refl

not_true : (b : Bool) → not b ≡ true → b ≡ false
not_true true is = absurd cc
not_true false is = refl

-- Since `s` nothing has changed but locals from `n` on, and since `t` only one local, where it was wanted; it holds a value.
pub record Based (n : ℕ) (b : Bool) (x : ℕ) (v : Value) (s t u : LowState) : Type 0 where
  pub kept : Kept n s u
  pub held : b ≡ true → slice_get u.locals x ≡ Some v
  pub others : (i : ℕ) → (b ≡ true → i ≢ x) → slice_get u.locals i ≡ slice_get t.locals i

base_ends : (pages fuel n x o : ℕ) (b : Bool) (p : Part) (s t : LowState) → Kept n s t → 1 ≤ n → (b ≡ true → (n ≤ x) × (x < length s.locals)) → slice_get s.locals 0 ≡ Some (Address (Own 0) 0) →
    (b ≡ true → s.cells (Own 0) o 4 ≡ Some (Address p 0)) → Ends (size (base_block b x o)) (Based n b x (Address p 0) s t) Never NoCode (meaning pages fuel (base_block b x o) t)
base_ends pages fuel n x o true p s t kept some room base known =
    let there = room refl in
    let low : x < length t.locals = omega (arith, kept.many, there.1) in
    load_ends (Based n true x (Address p 0) s t) Never NoCode pages fuel t x (Full I32) o (local 0) (Own 0) 0 o (Address p 0) (Address p 0) (kept.below 0 (omega (arith, some)) ∙ base) (omega arith)
    (ap (λ (u : LowState). u.cells (Own 0) o 4) kept.others ∙ known refl) refl low
    (record {
      kept = Kept-set n s t x (Address p 0) kept there.0;
      held = λ is. slice_get-set_same t.locals x (Address p 0) low;
      others = λ i other. slice_get-set_other t.locals x i (Address p 0) (other refl);
    })
base_ends pages fuel n x o false p s t kept some room base known = (omega arith, record { kept = kept; held = λ is. absurd cc; others = λ i other. refl })

-- where the values end
end_is : (type : Ty) (rows part : ℕ) (r : Reader) (t : LowState) → HasOctets t.columns part (values_size type rows) → slice_get t.locals r.values ≡ Some (Address (Column part) 0) →
    slice_get t.locals r.end ≡ Some (Number (4 * rows)) → value t (end_at type r) ≡ Some (Address (Column part) (place_of type rows))
end_is ty.Integer rows part r t large begins ends = rw (begins, ends) (advanced_to t (Column part) 0 (4 * rows) (4 * rows) large.0 large.1 (omega arith) (omega (arith, large.2)))
end_is (ty.Decimal precision scale) rows part r t large begins ends =
    let half : value t (advance (local r.values) (local r.end)) ≡ Some (Address (Column part) (4 * rows)) =
    rw (begins, ends) (advanced_to t (Column part) 0 (4 * rows) (4 * rows) large.0 large.1 (omega arith) (omega (arith, large.2))) in
    ap (λ (a : Option Value). advanced t a (slice_get t.locals r.end)) half ∙ ap (λ (a : Option Value). advanced t (Some (Address (Column part) (4 * rows))) a) ends
    ∙ advanced_to t (Column part) (4 * rows) (4 * rows) (8 * rows) large.0 large.1 (omega arith) (omega (arith, large.2))
end_is ty.Date rows part r t large begins ends = rw (begins, ends) (advanced_to t (Column part) 0 (4 * rows) (4 * rows) large.0 large.1 (omega arith) (omega (arith, large.2)))
end_is (ty.Varchar limit) rows part r t large begins ends = rw (begins, ends) (advanced_to t (Column part) 0 (4 * rows) (4 * rows) large.0 large.1 (omega arith) (omega (arith, large.2)))

module _ (pages fuel n rows : ℕ) (r : Reader) (used : Used) (s : LowState) (type_is : used.ty ≡ r.ty) (null_is : used.not_null ≡ r.not_null) (entry : KnowsEntry s.cells r.index used rows)
    (large : HasOctets s.columns (3 * r.index) (values_size r.ty rows)) (base : slice_get s.locals 0 ≡ Some (Address (Own 0) 0)) (some : 1 ≤ n) (ends : HasEnd n rows r s) (bases : AreBases n (length s.locals) r) where
  octets_known : is_text r.ty ≡ true → s.cells (Own 0) (entry_offset r.index + 8) 4 ≡ Some (Address (Column (3 * r.index + 1)) 0)
  octets_known is = entry.2 ∙ ap (λ (v : Value). Some v) (if_true (is_text used.ty) (Address (Column (3 * r.index + 1)) 0) (Number 0) (ap is_text type_is ∙ is))

  nulls_known : not r.not_null ≡ true → s.cells (Own 0) (entry_offset r.index + 4) 4 ≡ Some (Address (Column (3 * r.index + 2)) 0)
  nulls_known is = entry.1 ∙ ap (λ (v : Value). Some v) (if_false used.not_null (Number 0) (Address (Column (3 * r.index + 2)) 0) (null_is ∙ not_true r.not_null is))

  abbrev Began : LowState → Type 0
  Began t = Kept n s t × HasBases rows r t

  abbrev ending : Value
  ending = Address (Column (3 * r.index)) (place_of r.ty rows)

  abbrev First : LowState → Type 0
  First = Based n true r.values ending s s

  abbrev Second : LowState → LowState → Type 0
  Second = Based n (is_text r.ty) r.octets (Address (Column (3 * r.index + 1)) 0) s

  abbrev Third : LowState → LowState → Type 0
  Third = Based n (not r.not_null) r.nulls (Address (Column (3 * r.index + 2)) 0) s

  all_held : (t u w : LowState) → First t → Second t u → Third u w → Began w
  all_held t u w first second third = (
    third.kept,
    record {
      values = third.others r.values (λ is same. (bases.nulls (not_true r.not_null is)).2 (sym same)) ∙ (second.others r.values (λ is same. (bases.octets is).2 (sym same)) ∙ first.held refl);
      octets = λ is. third.others r.octets (λ null same. (bases.nulls (not_true r.not_null null)).3 is (sym same)) ∙ second.held is;
      nulls = λ is. third.held (ap not is);
    },
  )

  -- from where the values begin to where they end
  moved : (t : LowState) → Based n true r.values (Address (Column (3 * r.index)) 0) s s t → (value t (end_at r.ty r) ≡ Some ending) × (r.values < length t.locals) × First (put t r.values ending)
  moved t one =
      let low : r.values < length t.locals = omega (arith, one.kept.many, bases.values.1) in
      let large_here : HasOctets t.columns (3 * r.index) (values_size r.ty rows) = subst (λ (u : LowState). HasOctets u.columns (3 * r.index) (values_size r.ty rows)) (sym one.kept.others) large in (
        end_is r.ty rows (3 * r.index) r t large_here (one.held refl) (one.kept.below r.end ends.0 ∙ ends.1),
        low,
        record {
          kept = Kept-set n s t r.values ending one.kept bases.values.0;
          held = λ is. slice_get-set_same t.locals r.values ending low;
          others = λ i other. slice_get-set_other t.locals r.values i ending (other refl) ∙ one.others i other;
        },
      )

  pub begin_ends : Ends (size (begin_block r)) Began Never NoCode (meaning pages fuel (begin_block r) s)
  begin_ends =
      let second : Statement = base_block (is_text r.ty) r.octets (entry_offset r.index + 8) in
      let third : Statement = base_block (not r.not_null) r.nulls (entry_offset r.index + 4) in
      let steps : ℕ = cost (end_at r.ty r) + 1 in
      Ends-then Began Never NoCode 3 (steps + (size second + size third)) (Based n true r.values (Address (Column (3 * r.index)) 0) s s) (meaning pages fuel (base_block true r.values (entry_offset r.index)) s)
      (meaning pages fuel (seq (to_end_block r.ty r) (seq second third)))
      (base_ends pages fuel n r.values (entry_offset r.index) true (Column (3 * r.index)) s s (Kept-same n s) some (λ is. bases.values) base (λ is. entry.0))
      (λ a zeroth.
      let further = moved a zeroth in
      let t : LowState = put a r.values ending in
      let one : First t = further.2 in
      assign_then Began Never NoCode pages fuel a (size second + size third) (seq second third) r.values (end_at r.ty r) ending further.0 further.1
      (Ends-then Began Never NoCode (size second) (size third) (Second t) (meaning pages fuel second t) (meaning pages fuel third)
      (base_ends pages fuel n r.octets (entry_offset r.index + 8) (is_text r.ty) (Column (3 * r.index + 1)) s t one.kept some (λ is. let b = bases.octets is in (b.0, b.1)) base octets_known)
      (λ u two. Ends-weaker (size third) (size third) (Third u) Began Never Never NoCode NoCode (meaning pages fuel third u) (omega arith) (λ w three. all_held t u w one two three) (λ w x. x) (λ code x. x)
      (base_ends pages fuel n r.nulls (entry_offset r.index + 4) (not r.not_null) (Column (3 * r.index + 2)) s u two.kept some (λ is. let b = bases.nulls (not_true r.not_null is) in (b.0, b.1)) base nulls_known))))

-- ---- types and size
base_typed : (types : List ValType) (b : Bool) (x o : ℕ) → slice_get types 0 ≡ Some I32 → (b ≡ true → slice_get types x ≡ Some I32) → IsTyped types (base_block b x o)
base_typed types true x o first is = (is refl, first)
base_typed types false x o first is = tt

base_short : (b : Bool) (x o : ℕ) → size (base_block b x o) ≤ 3
base_short true x o = omega arith
base_short false x o = omega arith

to_end_typed : (types : List ValType) (type : Ty) (r : Reader) → slice_get types r.values ≡ Some I32 → slice_get types r.end ≡ Some I32 → IsTyped types (to_end_block type r)
to_end_typed types ty.Integer r values end = (I32, values, (values, end, refl))
to_end_typed types (ty.Decimal precision scale) r values end = (I32, values, ((values, end, refl), end, refl))
to_end_typed types ty.Date r values end = (I32, values, (values, end, refl))
to_end_typed types (ty.Varchar limit) r values end = (I32, values, (values, end, refl))

-- the octets of texts and a second advance don't come together
begin_short : (type : Ty) (b : Bool) (r : Reader) (x y o p : ℕ) → 3 + (size (to_end_block type r) + (size (base_block (is_text type) x o) + size (base_block b y p))) ≤ 13
begin_short ty.Integer b r x y o p = omega (arith, base_short b y p)
begin_short (ty.Decimal precision scale) b r x y o p = omega (arith, base_short b y p)
begin_short ty.Date b r x y o p = omega (arith, base_short b y p)
begin_short (ty.Varchar limit) b r x y o p = omega (arith, base_short b y p)

pub begin_typed : (types : List ValType) (r : Reader) → slice_get types 0 ≡ Some I32 → slice_get types r.end ≡ Some I32 → DeclaresBases types r → IsTyped types (begin_block r)
begin_typed types r first end declared = (
  base_typed types true r.values (entry_offset r.index) first (λ is. declared.values),
  (
    to_end_typed types r.ty r declared.values end,
    (
      base_typed types (is_text r.ty) r.octets (entry_offset r.index + 8) first declared.octets,
      base_typed types (not r.not_null) r.nulls (entry_offset r.index + 4) first (λ is. declared.nulls (not_true r.not_null is)),
    ),
  ),
)

pub begin_begins : (r : Reader) → Begins r (begin_block r)
begin_begins r = record {
  runs = λ pages fuel n rows used s type_is null_is entry large base some ends bases. begin_ends pages fuel n rows r used s type_is null_is entry large base some ends bases;
  typed = λ types first end declared. begin_typed types r first end declared;
  short = begin_short r.ty (not r.not_null) r r.octets r.nulls (entry_offset r.index + 8) (entry_offset r.index + 4);
}
