-- The literals of a query, one after another: their places, their locals, how these are declared, and what is known of them.
use Rattle.std.proofs.Common.{◌≡◌, ℕ, zero, suc, ◌+◌, ◌*◌, ◌≤◌, Some, List, [], ◌∷◌, ◌++◌, length, slice_get, refl, ap, ◌∙◌, subst, arith, take}
use Rattle.std.specs.List.{AllByRecursion}
use Rattle.qw_module.specs.declared.instruction.ValType.{ValType}
use Rattle.qw_module.specs.declared.instruction.ValType.TheVariants.{I32, I64}
use Rattle.qw_scalar.specs.Expression.{scale_of}
use Rattle.qw_scalar.specs.Typing.{kind_of}
use Rattle.qw_expr.specs.Cells.{DeclaresValue}
use Rattle.qw_expr.specs.Computes.{Known}
use Rattle.qw_read.specs.Texts.{text_operand, known_texts, AreFrom, AreTextsIn}
use Rattle.qw_read.specs.Constants.{AreConstantsIn, constant_operand, operand_at}
use Rattle.qw_read.specs.declared.constant.Constant.{Constant}
use Rattle.qw_read.specs.declared.constant.Word.{Word}
use Rattle.qw_read.specs.declared.literal.Literal.{Literal}
use Rattle.qw_compile.specs.QueryLocals.{text_types, word_types}
use Rattle.qw_compile.specs.Literals.{constants_from}
use Rattle.qw_compile.specs.Literals.{literals_from}
use Rattle.qw_expr.specs.declared.known.Binding.{Binding}
use Rattle.qw_read.specs.declared.constant.Word.TheVariants as word
use Rattle.qw_expr.specs.Bindings as bindings

pub texts_in_locals : (x at : ℕ) (texts : List (List ℕ)) → AreTextsIn x (x + 2 * length texts) (literals_from x at texts)
texts_in_locals x at [] = omega arith
texts_in_locals x at (t ∷ texts) =
    let rest = texts_in_locals (x + 2) (at + length t) texts in
    let same : x + 2 + 2 * length texts ≡ x + 2 * length (t ∷ texts) = omega arith in
    (x + 2, (omega arith, omega arith, omega arith, omega arith, λ e. omega (arith, e)), subst (λ (n : ℕ). AreTextsIn (x + 2) n (literals_from (x + 2) (at + length t) texts)) same rest)

pub texts_from : (x at : ℕ) (texts : List (List ℕ)) → AreFrom at (literals_from x at texts) texts
texts_from x at [] = tt
texts_from x at (t ∷ texts) = (refl, refl, texts_from (x + 2) (at + length t) texts)

pub texts_many : (x at : ℕ) (texts : List (List ℕ)) → length (literals_from x at texts) ≡ length texts
texts_many x at [] = refl
texts_many x at (t ∷ texts) = ap suc (texts_many (x + 2) (at + length t) texts)

pub texts_described : (x at : ℕ) (texts : List (List ℕ)) → AllByRecursion (λ (q : Known). (q.operand.kind ≡ kind_of q.expression) × (q.operand.scale ≡ scale_of q.expression)) (known_texts (literals_from x at texts) texts)
texts_described x at [] = tt
texts_described x at (t ∷ texts) = ((refl, refl), texts_described (x + 2) (at + length t) texts)

pub words_in_locals : (x : ℕ) (words : List Word) → AreConstantsIn x (x + length words) (constants_from x words)
words_in_locals x [] = omega arith
words_in_locals x (w ∷ words) =
    let rest = words_in_locals (x + 1) words in
    let same : x + 1 + length words ≡ x + length (w ∷ words) = omega arith in
    (omega arith, omega arith, subst (λ (n : ℕ). AreConstantsIn (x + 1) n (constants_from (x + 1) words)) same rest)

pub words_many : (x : ℕ) (words : List Word) → length (constants_from x words) ≡ length words
words_many x [] = refl
words_many x (w ∷ words) = ap suc (words_many (x + 1) words)

-- something holds of each
pub words_small : (P : Word → Type 0) (x : ℕ) (words : List Word) → AllByRecursion P words → AllByRecursion (λ (c : Constant). P c.word) (constants_from x words)
words_small P x [] all = tt
words_small P x (w ∷ words) all = (all.0, words_small P (x + 1) words all.1)

pub texts_up : (from below high : ℕ) (literals : List Literal) → below ≤ high → AreTextsIn from below literals → AreTextsIn from high literals
texts_up from below high [] le are = omega (arith, le, are)
texts_up from below high (l ∷ literals) le are = (are.0, are.1, texts_up are.0 below high literals le are.2)

pub words_up : (from below high : ℕ) (constants : List Constant) → below ≤ high → AreConstantsIn from below constants → AreConstantsIn from high constants
words_up from below high [] le are = omega (arith, le, are)
words_up from below high (c ∷ constants) le are = (are.0, omega (arith, le, are.1), words_up (c.local + 1) below high constants le are.2)

pub at_first : {A : Type 0} (types : List A) (at : ℕ) (x : A) (rest : List A) → ((i : ℕ) → slice_get types (at + i) ≡ slice_get (x ∷ rest) i) → slice_get types at ≡ Some x
at_first types at x rest same = let place : at ≡ at + 0 = omega arith in ap (λ (n : ℕ). slice_get types n) place ∙ same 0

pub behind_texts : (types rest : List ValType) (x n : ℕ) → ((i : ℕ) → slice_get types (x + i) ≡ slice_get (text_types n rest) i) → (i : ℕ) → slice_get types (x + 2 * n + i) ≡ slice_get rest i
behind_texts types rest x zero same i = let place : x + 2 * 0 + i ≡ x + i = omega arith in ap (λ (k : ℕ). slice_get types k) place ∙ same i
behind_texts types rest x (suc n) same i =
    let place : x + 2 * suc n + i ≡ x + 2 + 2 * n + i = omega arith in
    ap (λ (k : ℕ). slice_get types k) place ∙ behind_texts types rest (x + 2) n (λ j. let further : x + 2 + j ≡ x + suc (suc j) = omega arith in ap (λ (k : ℕ). slice_get types k) further ∙ same (suc (suc j))) i

pub literals_declared : (types rest : List ValType) (x at : ℕ) (texts : List (List ℕ)) → ((i : ℕ) → slice_get types (x + i) ≡ slice_get (text_types (length texts) rest) i) →
    AllByRecursion (λ (l : Literal). DeclaresValue types (text_operand l)) (literals_from x at texts)
literals_declared types rest x at [] same = tt
literals_declared types rest x at (t ∷ texts) same = (
  ((at_first types x I32 (I32 ∷ text_types (length texts) rest) same, same 1), tt),
  literals_declared types rest (x + 2) (at + length t) texts (λ j. let further : x + 2 + j ≡ x + suc (suc j) = omega arith in ap (λ (k : ℕ). slice_get types k) further ∙ same (suc (suc j))),
)

pub behind_words : (types rest : List ValType) (x n : ℕ) → ((i : ℕ) → slice_get types (x + i) ≡ slice_get (word_types n rest) i) → (i : ℕ) → slice_get types (x + n + i) ≡ slice_get rest i
behind_words types rest x zero same i = let place : x + 0 + i ≡ x + i = omega arith in ap (λ (k : ℕ). slice_get types k) place ∙ same i
behind_words types rest x (suc n) same i =
    let place : x + suc n + i ≡ x + 1 + n + i = omega arith in
    ap (λ (k : ℕ). slice_get types k) place ∙ behind_words types rest (x + 1) n (λ j. let further : x + 1 + j ≡ x + suc j = omega arith in ap (λ (k : ℕ). slice_get types k) further ∙ same (suc j)) i

pub words_declared : (types rest : List ValType) (x : ℕ) (words : List Word) → ((i : ℕ) → slice_get types (x + i) ≡ slice_get (word_types (length words) rest) i) →
    AllByRecursion (λ (c : Constant). DeclaresValue types (constant_operand c)) (constants_from x words)
words_declared types rest x [] same = tt
words_declared types rest x (w ∷ words) same = (
  declared w (at_first types x I64 (word_types (length words) rest) same),
  words_declared types rest (x + 1) words (λ j. let further : x + 1 + j ≡ x + suc j = omega arith in ap (λ (k : ℕ). slice_get types k) further ∙ same (suc j)),
)
  where
    declared : (v : Word) → slice_get types x ≡ Some I64 → DeclaresValue types (operand_at x v)
    declared (word.Number n s) is = (is, tt)
    declared (word.Date d) is = (is, tt)

-- the literals stand in front
pub front : {X : Type 0} (xs ys : List X) → take (length xs) (xs ++ ys) ≡ xs
front [] ys = refl
front (x ∷ xs) ys = ap (λ (l : _). x ∷ l) (front xs ys)

pub take_front : {X : Type 0} (xs ys : List X) (n : ℕ) → n ≡ length xs → take n (xs ++ ys) ≡ xs
take_front xs ys n same = ap (λ (k : ℕ). take k (xs ++ ys)) same ∙ front xs ys

pub texts_long : (ls : List Literal) (ts : List (List ℕ)) → length ls ≡ length ts → length (known_texts ls ts) ≡ length ts
texts_long [] [] same = refl
texts_long [] (t ∷ ts) same = absurd (omega (arith, same))
texts_long (l ∷ ls) [] same = absurd (omega (arith, same))
texts_long (l ∷ ls) (t ∷ ts) same = let rest = texts_long ls ts (omega (arith, same)) in omega (arith, rest)

pub bindings_many : (bs : List Binding) → length (bindings.known_of bs) ≡ length bs
bindings_many [] = refl
bindings_many (b ∷ bs) = ap suc (bindings_many bs)
