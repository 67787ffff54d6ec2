-- Where the texts of a query lie: what a state holds whose locals lead there, when they still lie there, and that they do where a run begins.
use Rattle.std.proofs.Common.{◌≡◌, ℕ, zero, suc, ◌+◌, ◌<◌, ◌≤◌, List, [], ◌∷◌, ◌++◌, length, Some, slice_get, refl, sym, ap, ◌∙◌, subst, arith}
use Rattle.std.specs.List.{AllByRecursion, concat}
use Rattle.std.proofs.lemmas.List.{append_assoc, length-append}
use Rattle.std.proofs.lemmas.Option.{slice_get_within}
use Rattle.qw_types.specs.declared.value.Val.{Val}
use Rattle.qw_types.specs.declared.value.Val.TheVariants as val
use Rattle.qw_linear.specs.Memory.{page}
use Rattle.qw_map.specs.Layout.{Layout, descriptor_size, entry_offset, IsReady}
use Rattle.qw_map.specs.declared.layout.Placed.{Placed}
use Rattle.qw_module.specs.declared.instruction.ValType.{ValType}
use Rattle.qw_low.specs.State.{Own, Value, Number, LowState}
use Rattle.qw_low.specs.Begin.{first_state}
use Rattle.qw_low.specs.Held.{LiesAt}
use Rattle.qw_low.specs.Raising.{Kept}
use Rattle.qw_low.proofs.BeginLemmas.{literals-known}
use Rattle.qw_expr.specs.Cells.{Holds, DeclaresValue}
use Rattle.qw_expr.specs.Computes.{AreHeld, AreBelow, AreDeclared}
use Rattle.qw_read.specs.declared.literal.Literal.{Literal}
use Rattle.qw_read.specs.Texts.{text_operand, known_texts, LieThere, AreFrom, IsTextIn, AreTextsIn, HasPlace}

-- ---- what locals hold that lead to a text
pub place_held : (s : LowState) (l : Literal) (octets : List ℕ) → l.count ≡ length octets → LiesAt s (Own 0) l.at octets → HasPlace s l → Holds (text_operand l) (val.Text octets) s
place_held s l octets long lies has = (
  (
    record {
      part = Own 0;
      offset = l.at;
      is_at = has.0;
      is_long = has.1 ∙ ap (λ (k : ℕ). Some (Number k)) long;
      short = omega (arith, has.2, long);
      lies = lies;
    },
    tt,
  ),
  tt,
)

-- so several texts are held, at every row
pub texts_held : (s : LowState) (row : List Val) (literals : List Literal) (texts : List (List ℕ)) → AllByRecursion (HasPlace s) literals → LieThere s literals texts →
    AreHeld (known_texts literals texts) row s
texts_held s row [] [] has there = tt
texts_held s row [] (octets ∷ texts) has there = absurd there
texts_held s row (l ∷ literals) [] has there = absurd there
texts_held s row (l ∷ literals) (octets ∷ texts) has there =
    ((val.Text octets, refl, place_held s l octets there.0 there.1 has.0), texts_held s row literals texts has.1 there.2)

-- ---- what is known of the literals' locals
pub texts_order : (from below : ℕ) (literals : List Literal) → AreTextsIn from below literals → from ≤ below
texts_order from below [] are = are
texts_order from below (l ∷ literals) are =
    let first = are.1 in
    omega (arith, first.0, first.1, texts_order are.0 below literals are.2)

pub text_more : (from low below high : ℕ) (l : Literal) → low ≤ from → below ≤ high → IsTextIn from below l → IsTextIn low high l
text_more from low below high l down up is = (omega (arith, is.0, down), omega (arith, is.1, up), omega (arith, is.2, down), omega (arith, is.3, up), is.4)

pub texts_below : (from below : ℕ) (literals : List Literal) (texts : List (List ℕ)) → AreTextsIn from below literals → AreBelow below (known_texts literals texts)
texts_below from below [] texts are = tt
texts_below from below (l ∷ literals) [] are = tt
texts_below from below (l ∷ literals) (octets ∷ texts) are =
    let first = are.1 in
    let order : are.0 ≤ below = texts_order are.0 below literals are.2 in
    ((omega (arith, first.1, order), omega (arith, first.3, order), tt), texts_below are.0 below literals texts are.2)

pub texts_declared : (types : List ValType) (literals : List Literal) (texts : List (List ℕ)) → AllByRecursion (λ (l : Literal). DeclaresValue types (text_operand l)) literals →
    AreDeclared types (known_texts literals texts)
texts_declared types [] texts declared = tt
texts_declared types (l ∷ literals) [] declared = tt
texts_declared types (l ∷ literals) (octets ∷ texts) declared = (declared.0, texts_declared types literals texts declared.1)

-- ---- what still lies there
-- locals that are the same, from one on and below another, still lead there
pub places_same : (s t : LowState) (low high : ℕ) → ((i : ℕ) → low ≤ i → i < high → slice_get t.locals i ≡ slice_get s.locals i) → (from : ℕ) (literals : List Literal) → low ≤ from →
    AreTextsIn from high literals → AllByRecursion (HasPlace s) literals → AllByRecursion (HasPlace t) literals
places_same s t low high same from [] down are has = tt
places_same s t low high same from (l ∷ literals) down are has =
    let one = are.1 in
    let order : are.0 ≤ high = texts_order are.0 high literals are.2 in
    let address = has.0 in (
      (
        same l.cell.value (omega (arith, one.0, down)) (omega (arith, one.1, order)) ∙ address.0,
        same l.cell.length (omega (arith, one.2, down)) (omega (arith, one.3, order)) ∙ address.1,
        address.2,
      ),
      places_same s t low high same are.0 literals (omega (arith, one.0, one.1, down)) are.2 has.1,
    )

module _ (s t : LowState) (sized : slice_get t.own 0 ≡ slice_get s.own 0) where
  pub lies_same : (at : ℕ) (octets : List ℕ) → ((i : ℕ) → i < length octets → t.cells (Own 0) (at + i) 1 ≡ s.cells (Own 0) (at + i) 1) → LiesAt s (Own 0) at octets → LiesAt t (Own 0) at octets
  lies_same at octets same lies = record {
    size = lies.size;
    sized = sized ∙ lies.sized;
    inside = lies.inside;
    each = λ i octet found. same i (slice_get_within octets i octet found) ∙ lies.each i octet found;
  }

  -- a text that lies in a stretch of the first page in which nothing was stored
  pub lies_within : (from base at : ℕ) (octets : List ℕ) → ((a b : ℕ) → from ≤ a → a + b ≤ base → t.cells (Own 0) a b ≡ s.cells (Own 0) a b) → from ≤ at → at + length octets ≤ base →
      LiesAt s (Own 0) at octets → LiesAt t (Own 0) at octets
  lies_within from base at octets same behind before lies = lies_same at octets (λ i less. same (at + i) 1 (omega (arith, behind)) (omega (arith, before, less))) lies

  -- several, one behind another
  pub lie_there_within : (from base offset : ℕ) (literals : List Literal) (texts : List (List ℕ)) → ((a b : ℕ) → from ≤ a → a + b ≤ base → t.cells (Own 0) a b ≡ s.cells (Own 0) a b) →
      AreFrom offset literals texts → from ≤ offset → offset + length (concat texts) ≤ base → LieThere s literals texts → LieThere t literals texts
  lie_there_within from base offset [] [] same are behind before there = tt
  lie_there_within from base offset [] (octets ∷ texts) same are behind before there = absurd there
  lie_there_within from base offset (l ∷ literals) [] same are behind before there = absurd there
  lie_there_within from base offset (l ∷ literals) (octets ∷ texts) same are behind before there =
      let long : length (octets ++ concat texts) ≡ length octets + length (concat texts) = length-append octets (concat texts) in (
        there.0,
        lies_within from base l.at octets same (omega (arith, are.0, behind)) (omega (arith, are.0, long, before)) there.1,
        lie_there_within from base (offset + length octets) literals texts same are.2 (omega (arith, behind)) (omega (arith, long, before)) there.2,
      )

pub lies_kept : (n : ℕ) (s t : LowState) (at : ℕ) (octets : List ℕ) → Kept n s t → LiesAt s (Own 0) at octets → LiesAt t (Own 0) at octets
lies_kept n s t at octets kept lies =
    lies_same s t (ap (λ (u : LowState). slice_get u.own 0) kept.others) at octets (λ i less. ap (λ (u : LowState). u.cells (Own 0) (at + i) 1) kept.others) lies

pub lie_there_kept : (n : ℕ) (s t : LowState) (literals : List Literal) (texts : List (List ℕ)) → Kept n s t → LieThere s literals texts → LieThere t literals texts
lie_there_kept n s t [] [] kept there = tt
lie_there_kept n s t [] (octets ∷ texts) kept there = absurd there
lie_there_kept n s t (l ∷ literals) [] kept there = absurd there
lie_there_kept n s t (l ∷ literals) (octets ∷ texts) kept there = (there.0, lies_kept n s t l.at octets kept there.1, lie_there_kept n s t literals texts kept there.2)

-- ---- where a run begins
get-front : (xs ys : List ℕ) (i x : ℕ) → slice_get xs i ≡ Some x → slice_get (xs ++ ys) i ≡ Some x
get-front [] ys i x is = absurd cc
get-front (y ∷ xs) ys zero x is = is
get-front (y ∷ xs) ys (suc i) x is = get-front xs ys i x is

get-behind : (xs ys : List ℕ) (i : ℕ) → slice_get (xs ++ ys) (length xs + i) ≡ slice_get ys i
get-behind [] ys i = let none : 0 + i ≡ i = omega arith in ap (slice_get ys) none
get-behind (x ∷ xs) ys i = let more : suc (length xs) + i ≡ suc (length xs + i) = omega arith in ap (slice_get (x ∷ (xs ++ ys))) more ∙ get-behind xs ys i

module _ (layout : Layout) (placed : List Placed) (tables : List (List (List Val))) (descriptor limit : ℕ) (memory : List ℕ) (locals : List Value)
    (ready : IsReady layout placed tables descriptor limit memory) (small : descriptor_size layout ≤ page) where
  abbrev first : LowState
  first = first_state layout tables limit locals

  abbrev start : ℕ
  start = entry_offset (length layout.columns)

  pub ready_lies : (before octets after : List ℕ) → layout.literals ≡ before ++ (octets ++ after) → LiesAt first (Own 0) (start + length before) octets
  ready_lies before octets after is =
      let many : length layout.literals ≡ length (before ++ (octets ++ after)) = ap (λ (xs : List ℕ). length xs) is in
      let long : length (before ++ (octets ++ after)) ≡ length before + length (octets ++ after) = length-append before (octets ++ after) in
      let rest : length (octets ++ after) ≡ length octets + length after = length-append octets after in
      record {
        size = page;
        sized = refl;
        inside = omega (arith, many, long, rest, small);
        each = λ i octet found.
            let place : start + (length before + i) ≡ start + length before + i = omega arith in
            let there : slice_get layout.literals (length before + i) ≡ Some octet =
            ap (λ (xs : List ℕ). slice_get xs (length before + i)) is ∙ (get-behind before (octets ++ after) i ∙ get-front octets after i octet found) in
            subst (λ (k : ℕ). first.cells (Own 0) k 1 ≡ Some (Number octet)) place (literals-known layout placed tables descriptor limit memory ready (length before + i) octet there);
      }

  texts_from : (before : List ℕ) (literals : List Literal) (texts : List (List ℕ)) → layout.literals ≡ before ++ concat texts → AreFrom (start + length before) literals texts → LieThere first literals texts
  texts_from before [] [] is are = tt
  texts_from before [] (octets ∷ texts) is are = absurd are
  texts_from before (l ∷ literals) [] is are = absurd are
  texts_from before (l ∷ literals) (octets ∷ texts) is are =
      let further : start + length (before ++ octets) ≡ start + length before + length octets = omega (arith, length-append before octets) in (
        are.1,
        subst (λ (k : ℕ). LiesAt first (Own 0) k octets) (sym are.0) (ready_lies before octets (concat texts) is),
        texts_from (before ++ octets) literals texts (is ∙ sym (append_assoc before octets (concat texts))) (subst (λ (k : ℕ). AreFrom k literals texts) (sym further) are.2),
      )

  pub ready_texts : (literals : List Literal) (texts : List (List ℕ)) → layout.literals ≡ concat texts → AreFrom start literals texts → LieThere first literals texts
  ready_texts literals texts is are = let same : start + 0 ≡ start = omega arith in texts_from [] literals texts is (subst (λ (k : ℕ). AreFrom k literals texts) (sym same) are)
