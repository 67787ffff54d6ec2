-- What blocks promise that lead to the texts of a query: a text literal (ISO/IEC 9075:1992, 5.3, character string literal) is not copied,
-- its octets lie in the first page, behind the descriptor's entries (docs/FORMATS.md).
use Rattle.std.specs.Prelude.{◌≡◌, ◌≢◌, ℕ, ◌+◌, ◌*◌, ◌^◌, ◌<◌, ◌≤◌, List, [], ◌∷◌, length, Some, None, slice_get}
use Rattle.std.specs.List.{AllByRecursion}
use Rattle.qw_types.specs.declared.kind.Kind.TheVariants as kind
use Rattle.qw_types.specs.declared.value.Val.{Val}
use Rattle.qw_types.specs.declared.value.Val.TheVariants as val
use Rattle.qw_scalar.specs.Expression.{text}
use Rattle.qw_module.specs.declared.instruction.ValType.{ValType}
use Rattle.qw_module.specs.declared.instruction.ValType.TheVariants.{I32}
use Rattle.qw_low.specs.Syntax.{Statement}
use Rattle.qw_low.specs.State.{Own, Number, Address, LowState}
use Rattle.qw_low.specs.Meaning.{meaning}
use Rattle.qw_low.specs.Size.{size}
use Rattle.qw_low.specs.Typing.{IsTyped}
use Rattle.qw_low.specs.Held.{LiesAt}
use Rattle.qw_low.specs.Promise.{Ends}
use Rattle.qw_low.specs.Raising.{Kept}
use Rattle.qw_expr.specs.Cells.{Holds, DeclaresValue}
use Rattle.qw_expr.specs.Computes.{Known, AreHeld}
use Rattle.qw_expr.specs.declared.operand.Operand.{Operand}
use Rattle.qw_read.specs.declared.literal.Literal.{Literal}

-- ---- what is known

-- a text that is never null
abbrev pub text_operand : Literal → Operand
text_operand l = record {
  cell = record { value = l.cell.value; length = l.cell.length; null = None };
  kind = Some kind.Text;
  scale = 0;
  most = 0;
}

-- the literals of these texts, in their order, as expressions that are known
abbrev pub known_texts : List Literal → (texts : List (List ℕ)) → List Known
known_texts [] texts = []
known_texts (l ∷ literals) [] = []
known_texts (l ∷ literals) (octets ∷ texts) = record { expression = text octets; operand = text_operand l } ∷ known_texts literals texts

-- ---- where they lie

-- the texts are those of the literals, each as long as its literal says, and lie in the first page where it says
abbrev pub LieThere : LowState → List Literal → (texts : List (List ℕ)) → Type 0
LieThere s [] [] = Unit {0}
LieThere s [] (octets ∷ texts) = ⊥
LieThere s (l ∷ literals) [] = ⊥
LieThere s (l ∷ literals) (octets ∷ texts) = (l.count ≡ length octets) × LiesAt s (Own 0) l.at octets × LieThere s literals texts

-- the literals of texts that lie one behind another, from an offset on
abbrev pub AreFrom : (offset : ℕ) → List Literal → (texts : List (List ℕ)) → Type 0
AreFrom offset [] [] = Unit {0}
AreFrom offset [] (octets ∷ texts) = ⊥
AreFrom offset (l ∷ literals) [] = ⊥
AreFrom offset (l ∷ literals) (octets ∷ texts) = (l.at ≡ offset) × (l.count ≡ length octets) × AreFrom (offset + length octets) literals texts

-- ---- locals

-- the locals of a literal are two, from one on and below another
abbrev pub IsTextIn : (from below : ℕ) → Literal → Type 0
IsTextIn from below l =
    (from ≤ l.cell.value) × (l.cell.value < below) × (from ≤ l.cell.length) × (l.cell.length < below) × (l.cell.length ≢ l.cell.value)

-- the locals of several are behind one another
abbrev pub AreTextsIn : (from below : ℕ) → List Literal → Type 0
AreTextsIn from below [] = from ≤ below
AreTextsIn from below (l ∷ literals) = (next : ℕ) × IsTextIn from next l × AreTextsIn next below literals

-- they hold the place in the first page, and the number of octets, which is one of 32 bits
abbrev pub HasPlace : LowState → Literal → Type 0
HasPlace s l =
    (slice_get s.locals l.cell.value ≡ Some (Address (Own 0) l.at)) × (slice_get s.locals l.cell.length ≡ Some (Number l.count)) × (l.count < 2 ^ 32)

-- ---- what the blocks promise

-- A block that begins where the first local holds the first page's address. It leaves the literal's place and length in its locals, and
-- changes nothing else; so where a text lies there it is held.
pub record LeadsTo (l : Literal) (a : Statement) : Type 0 where
  pub runs : (pages fuel n : ℕ) (octets : List ℕ) (s : LowState) → l.count ≡ length octets → LiesAt s (Own 0) l.at octets →
      slice_get s.locals 0 ≡ Some (Address (Own 0) 0) → IsTextIn n (length s.locals) l →
      Ends (size a) (λ t. Kept n s t × HasPlace t l × Holds (text_operand l) (val.Text octets) t) (λ t. ⊥) (λ code. ⊥) (meaning pages fuel a s)
  pub typed : (types : List ValType) → slice_get types 0 ≡ Some I32 → DeclaresValue types (text_operand l) → IsTyped types a
  pub short : size a ≤ 6

-- The same of several. After it they are held at every row.
pub record LeadsToAll (literals : List Literal) (a : Statement) : Type 0 where
  pub runs : (pages fuel n : ℕ) (texts : List (List ℕ)) (s : LowState) → LieThere s literals texts →
      slice_get s.locals 0 ≡ Some (Address (Own 0) 0) → 1 ≤ n → AreTextsIn n (length s.locals) literals →
      Ends (size a) (λ t. Kept n s t × AllByRecursion (HasPlace t) literals × ((row : List Val) → AreHeld (known_texts literals texts) row t)) (λ t. ⊥) (λ code. ⊥)
      (meaning pages fuel a s)
  pub typed : (types : List ValType) → slice_get types 0 ≡ Some I32 → AllByRecursion (λ l. DeclaresValue types (text_operand l)) literals → IsTyped types a
  pub short : size a ≤ 6 * length literals
