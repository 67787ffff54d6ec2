-- What the blocks come to that put the numbers and the dates of a query into locals.
use Rattle.std.proofs.Common.{◌≡◌, ℕ, ◌+◌, ◌*◌, ◌<◌, ◌≤◌, FitsSigned, List, [], ◌∷◌, length, map, Some, slice_get, slice_set, refl, sym, ◌∙◌, subst, arith, w64}
use Rattle.std.specs.Int.{cast_unsigned}
use Rattle.std.specs.List.{AllByRecursion}
use Rattle.qw_types.specs.declared.value.Val.{Val}
use Rattle.qw_module.specs.declared.instruction.ValType.{ValType}
use Rattle.qw_module.specs.declared.instruction.ValType.TheVariants.{I64}
use Rattle.qw_module.specs.declared.instruction.Const.TheVariants as const
use Rattle.qw_scalar.specs.Expression.{scale_of}
use Rattle.qw_scalar.specs.Typing.{kind_of}
use Rattle.qw_low.specs.Syntax.{Statement, constant_of}
use Rattle.qw_low.specs.State.{Number, LowState}
use Rattle.qw_low.specs.Meaning.{meaning}
use Rattle.qw_low.specs.Typing.{IsTyped}
use Rattle.qw_low.specs.Size.{size}
use Rattle.qw_low.specs.Promise.{Ends}
use Rattle.qw_low.specs.Raising.{Kept}
use Rattle.qw_low.proofs.Promises.{Ends-weaker, Ends-then, assign_ends}
use Rattle.qw_low.proofs.Results.{Kept-same, Kept-set, Kept-then}
use Rattle.qw_wide.proofs.Words.{fits_small, word_below}
use Rattle.qw_expr.specs.Cells.{Holds, DeclaresValue, IsBelow}
use Rattle.qw_expr.specs.Computes.{Known, AreBelow, AreDeclared, AreHeld}
use Rattle.qw_expr.proofs.Literals.{date_assigned, date_fits, number_assigned}
use Rattle.qw_read.specs.declared.constant.Constant.{Constant}
use Rattle.qw_read.specs.declared.constant.Word.{Word}
use Rattle.qw_read.specs.declared.constant.Word.TheVariants as word
use Rattle.qw_read.specs.Constants.{AreConstantsIn, IsSet, IsSmall, Sets, SetsAll, constant_operand, known_constant, literal_of, means, operand_at, word_value}
use Rattle.qw_read.specs.Inner.ConstantBlocks.{constant_block, constants_block}
use Rattle.qw_read.proofs.BasesRuns.{Never, NoCode}

-- ---- one
word_fits : (w : Word) → IsSmall w → FitsSigned w64 (word_value w)
word_fits (word.Number v s) small = fits_small v small
word_fits (word.Date d) small = date_fits d small

word_set : (s : LowState) (x : ℕ) (w : Word) → IsSmall w → x < length s.locals → Holds (operand_at x w) (means w) (record s { locals = slice_set s.locals x (Number (cast_unsigned w64 (word_value w))) })
word_set s x (word.Number v scale) small room = number_assigned s x v scale small room
word_set s x (word.Date d) small room = date_assigned s x d small room

constant_ends : (pages fuel n : ℕ) (c : Constant) (s : LowState) → IsSmall c.word → n ≤ c.local → c.local < length s.locals → Ends 2 (λ t. Kept n s t × IsSet t c) Never NoCode (meaning pages fuel (constant_block c) s)
constant_ends pages fuel n c s small low room =
    let it = Number (cast_unsigned w64 (word_value c.word)) in
    assign_ends (λ t. Kept n s t × IsSet t c) Never NoCode pages fuel c.local (constant_of (const.I64 (cast_unsigned w64 (word_value c.word)))) it s refl room (Kept-set n s s c.local it (Kept-same n s) low, word_set s c.local c.word small room)

declared_word : (types : List ValType) (x : ℕ) (w : Word) → DeclaresValue types (operand_at x w) → slice_get types x ≡ Some I64
declared_word types x (word.Number v s) declared = declared.0
declared_word types x (word.Date d) declared = declared.0

constant_typed : (types : List ValType) (c : Constant) → IsSmall c.word → DeclaresValue types (constant_operand c) → IsTyped types (constant_block c)
constant_typed types c small declared = (I64, declared_word types c.local c.word declared, (word_below (word_value c.word) (word_fits c.word small), refl))

pub constant_sets : (c : Constant) → Sets c (constant_block c)
constant_sets c = record {
  runs = λ pages fuel n s small low room. constant_ends pages fuel n c s small low room;
  typed = λ types small declared. constant_typed types c small declared;
  short = omega arith;
}

-- ---- several, one after another
word_kept : (n : ℕ) (s t : LowState) (x : ℕ) (w : Word) → x < n → Kept n s t → Holds (operand_at x w) (means w) s → Holds (operand_at x w) (means w) t
word_kept n s t x (word.Number v scale) low kept h = (((h.0.0.0, kept.below x low ∙ h.0.0.1, h.0.0.2, h.0.0.3), h.0.1, h.0.2), h.1)
word_kept n s t x (word.Date d) low kept h = (((h.0.0.0, kept.below x low ∙ h.0.0.1, h.0.0.2, h.0.0.3), h.0.1), h.1)

-- where locals below one are as they were
pub sets_same : (s t : LowState) (from below : ℕ) → ((i : ℕ) → from ≤ i → i < below → slice_get t.locals i ≡ slice_get s.locals i) → (constants : List Constant) → AreConstantsIn from below constants → AllByRecursion (IsSet s) constants → AllByRecursion (IsSet t) constants
sets_same s t from below same [] are set = tt
sets_same s t from below same (c ∷ constants) are set = (
  word_same c.local c.word (same c.local are.0 are.1) set.0,
  sets_same s t (c.local + 1) below (λ i low high. same i (omega (arith, low, are.0)) high) constants are.2 set.1,
)
  where
    word_same : (x : ℕ) (w : Word) → slice_get t.locals x ≡ slice_get s.locals x → Holds (operand_at x w) (means w) s → Holds (operand_at x w) (means w) t
    word_same x (word.Number v scale) is h = (((h.0.0.0, is ∙ h.0.0.1, h.0.0.2, h.0.0.3), h.0.1, h.0.2), h.1)
    word_same x (word.Date d) is h = (((h.0.0.0, is ∙ h.0.0.1, h.0.0.2, h.0.0.3), h.0.1), h.1)

pub constants_order : (from below : ℕ) (constants : List Constant) → AreConstantsIn from below constants → from ≤ below
constants_order from below [] are = are
constants_order from below (c ∷ constants) are = let rest = constants_order (c.local + 1) below constants are.2 in omega (arith, are.0, rest)

held_word : (row : List Val) (s : LowState) (x : ℕ) (w : Word) → Holds (operand_at x w) (means w) s → AreHeld (record { expression = literal_of w; operand = operand_at x w } ∷ []) row s
held_word row s x (word.Number v scale) h = ((means (word.Number v scale), refl, h), tt)
held_word row s x (word.Date d) h = ((means (word.Date d), refl, h), tt)

pub constants_held : (row : List Val) (s : LowState) (constants : List Constant) → AllByRecursion (IsSet s) constants → AreHeld (map known_constant constants) row s
constants_held row s [] set = tt
constants_held row s (c ∷ constants) set = ((held_word row s c.local c.word set.0).0, constants_held row s constants set.1)

constants_end : (pages fuel n : ℕ) (constants : List Constant) (s : LowState) → AllByRecursion (λ (c : Constant). IsSmall c.word) constants → AreConstantsIn n (length s.locals) constants →
    Ends (size (constants_block constants)) (λ t. Kept n s t × AllByRecursion (IsSet t) constants) Never NoCode (meaning pages fuel (constants_block constants) s)
constants_end pages fuel n [] s small are = (omega arith, (Kept-same n s, tt))
constants_end pages fuel n (c ∷ constants) s small are =
    let next : ℕ = c.local + 1 in
    let rest : Statement = constants_block constants in
    Ends-then (λ t. Kept n s t × AllByRecursion (IsSet t) (c ∷ constants)) Never NoCode 2 (size rest) (λ t. Kept n s t × IsSet t c) (meaning pages fuel (constant_block c) s) (meaning pages fuel rest)
    (constant_ends pages fuel n c s small.0 are.0 are.1)
    (λ t now.
    Ends-weaker (size rest) (size rest) (λ u. Kept next t u × AllByRecursion (IsSet u) constants) (λ u. Kept n s u × AllByRecursion (IsSet u) (c ∷ constants)) Never Never NoCode NoCode (meaning pages fuel rest t) (omega arith)
    (λ u post. (Kept-then n next s t u (omega (arith, are.0)) now.0 post.0, (word_kept next t u c.local c.word (omega arith) post.0 now.1, post.1))) (λ u x. x) (λ code x. x)
    (constants_end pages fuel next constants t small.1 (subst (λ (k : ℕ). AreConstantsIn next k constants) (sym now.0.many) are.2)))

constants_typed : (types : List ValType) (constants : List Constant) → AllByRecursion (λ (c : Constant). IsSmall c.word) constants → AllByRecursion (λ (c : Constant). DeclaresValue types (constant_operand c)) constants → IsTyped types (constants_block constants)
constants_typed types [] small declared = tt
constants_typed types (c ∷ constants) small declared = (constant_typed types c small.0 declared.0, constants_typed types constants small.1 declared.1)

constants_short : (constants : List Constant) → size (constants_block constants) ≤ 2 * length constants
constants_short [] = omega arith
constants_short (c ∷ constants) = omega (arith, constants_short constants)

pub constants_set : (constants : List Constant) → SetsAll constants (constants_block constants)
constants_set constants = record {
  runs = λ pages fuel n s small are.
      Ends-weaker (size (constants_block constants)) (size (constants_block constants)) (λ t. Kept n s t × AllByRecursion (IsSet t) constants)
      (λ t. Kept n s t × AllByRecursion (IsSet t) constants × ((row : List Val) → AreHeld (map known_constant constants) row t)) Never Never NoCode NoCode
      (meaning pages fuel (constants_block constants) s) (omega arith) (λ t post. (post.0, post.1, λ row. constants_held row t constants post.1)) (λ t x. x) (λ code x. x)
      (constants_end pages fuel n constants s small are);
  typed = λ types small declared. constants_typed types constants small declared;
  short = constants_short constants;
}

-- ---- what is known of them
pub constants_below : (from below : ℕ) (constants : List Constant) → AreConstantsIn from below constants → AreBelow below (map known_constant constants)
constants_below from below [] are = tt
constants_below from below (c ∷ constants) are = (below_word c.local c.word are.1, constants_below (c.local + 1) below constants are.2)
  where
    below_word : (x : ℕ) (w : Word) → x < below → IsBelow below (operand_at x w).cell
    below_word x (word.Number v s) low = (low, low, tt)
    below_word x (word.Date d) low = (low, low, tt)

pub constants_described : (constants : List Constant) → AllByRecursion (λ (q : Known). (q.operand.kind ≡ kind_of q.expression) × (q.operand.scale ≡ scale_of q.expression)) (map known_constant constants)
constants_described [] = tt
constants_described (c ∷ constants) = (described c.local c.word, constants_described constants)
  where
    described : (x : ℕ) (w : Word) → ((operand_at x w).kind ≡ kind_of (literal_of w)) × ((operand_at x w).scale ≡ scale_of (literal_of w))
    described x (word.Number v s) = (refl, refl)
    described x (word.Date d) = (refl, refl)

pub constants_declared : (types : List ValType) (constants : List Constant) → AllByRecursion (λ (c : Constant). DeclaresValue types (constant_operand c)) constants → AreDeclared types (map known_constant constants)
constants_declared types [] declared = tt
constants_declared types (c ∷ constants) declared = (declared.0, constants_declared types constants declared.1)
