-- What the blocks come to that lead to the texts of a query.
use Rattle.std.proofs.Common.{◌≡◌, ℕ, ◌*◌, ◌^◌, ◌<◌, ◌≤◌, List, [], ◌∷◌, length, length-set, Some, slice_get, refl, sym, ◌∙◌, subst, arith}
use Rattle.std.specs.List.{AllByRecursion}
use Rattle.qw_types.specs.declared.value.Val.{Val}
use Rattle.qw_types.specs.declared.value.Val.TheVariants as val
use Rattle.qw_map.proofs.TurnFacts.{slice_get-set_same, slice_get-set_other}
use Rattle.qw_module.specs.declared.instruction.ValType.{ValType}
use Rattle.qw_module.specs.declared.instruction.ValType.TheVariants.{I32}
use Rattle.qw_low.specs.Syntax.{Statement, local, advance, assign}
use Rattle.qw_low.specs.State.{Own, Number, Address, LowState}
use Rattle.qw_low.specs.Meaning.{meaning}
use Rattle.qw_low.specs.Typing.{IsTyped}
use Rattle.qw_low.specs.Size.{size}
use Rattle.qw_low.specs.Promise.{Ends}
use Rattle.qw_low.specs.Raising.{Kept}
use Rattle.qw_low.proofs.Promises.{Ends-weaker, Ends-then, assign_ends}
use Rattle.qw_low.proofs.BlockSteps.{assign_then}
use Rattle.qw_low.proofs.Results.{Kept-same, Kept-set, Kept-then}
use Rattle.qw_expr.specs.Cells.{Holds, DeclaresValue}
use Rattle.qw_expr.specs.Computes.{AreHeld}
use Rattle.qw_read.specs.declared.literal.Literal.{Literal}
use Rattle.qw_read.specs.Texts.{text_operand, known_texts, LieThere, IsTextIn, AreTextsIn, HasPlace, LeadsTo, LeadsToAll}
use Rattle.qw_read.specs.Inner.Blocks.{i32}
use Rattle.qw_read.specs.Inner.TextBlocks.{literal_block, literals_block}
use Rattle.qw_read.proofs.Addresses.{put, advanced_to}
use Rattle.qw_read.proofs.BasesRuns.{Never, NoCode}
use Rattle.qw_read.proofs.TextPlaces.{place_held, texts_held, texts_order, text_more, lies_kept, lie_there_kept}

-- ---- one literal
-- its numbers are of 32 bits
abbrev pub IsNarrow : Literal → Type 0
IsNarrow l = (l.at < 2 ^ 32) × (l.count < 2 ^ 32)

place_ends : (pages fuel n size_is : ℕ) (l : Literal) (s : LowState) → IsNarrow l → slice_get s.own 0 ≡ Some size_is → l.at ≤ size_is → slice_get s.locals 0 ≡ Some (Address (Own 0) 0) → IsTextIn n (length s.locals) l →
    Ends 6 (λ t. Kept n s t × HasPlace t l) Never NoCode (meaning pages fuel (literal_block l) s)
place_ends pages fuel n size_is l s narrow sized within base is =
    let t : LowState = put s l.cell.value (Address (Own 0) l.at) in
    let many : length t.locals ≡ length s.locals = length-set s.locals l.cell.value (Address (Own 0) l.at) in
    let room : l.cell.length < length t.locals = omega (arith, many, is.3) in
    assign_then (λ u. Kept n s u × HasPlace u l) Never NoCode pages fuel s 2 (assign l.cell.length (i32 l.count)) l.cell.value (advance (local 0) (i32 l.at)) (Address (Own 0) l.at)
    (rw base (advanced_to s (Own 0) 0 l.at l.at size_is sized (omega arith) within)) is.1
    (assign_ends (λ u. Kept n s u × HasPlace u l) Never NoCode pages fuel l.cell.length (i32 l.count) (Number l.count) t refl room (
      Kept-set n s t l.cell.length (Number l.count) (Kept-set n s s l.cell.value (Address (Own 0) l.at) (Kept-same n s) is.0) is.2,
      (
        slice_get-set_other t.locals l.cell.length l.cell.value (Number l.count) (λ same. is.4 (sym same)) ∙ slice_get-set_same s.locals l.cell.value (Address (Own 0) l.at) is.1,
        slice_get-set_same t.locals l.cell.length (Number l.count) room,
        narrow.1,
      ),
    ))

literal_typed : (types : List ValType) (l : Literal) → IsNarrow l → slice_get types 0 ≡ Some I32 → DeclaresValue types (text_operand l) → IsTyped types (literal_block l)
literal_typed types l narrow first declared = (
  (I32, declared.0.0, (first, (narrow.0, refl), refl)),
  (I32, declared.0.1, (narrow.1, refl)),
)

pub literal_leads : (l : Literal) → IsNarrow l → LeadsTo l (literal_block l)
literal_leads l narrow = record {
  runs = λ pages fuel n octets s long lies base is.
      Ends-weaker 6 6 (λ t. Kept n s t × HasPlace t l) (λ t. Kept n s t × HasPlace t l × Holds (text_operand l) (val.Text octets) t) Never Never NoCode NoCode (meaning pages fuel (literal_block l) s) (omega arith)
      (λ t post. (post.0, post.1, place_held t l octets long (lies_kept n s t l.at octets post.0 lies) post.1)) (λ t x. x) (λ code x. x)
      (place_ends pages fuel n lies.size l s narrow lies.sized (let inside = lies.inside in omega (arith, inside)) base is);
  typed = λ types first declared. literal_typed types l narrow first declared;
  short = omega arith;
}

-- ---- several, one after another
place_kept : (n : ℕ) (s t : LowState) (l : Literal) → l.cell.value < n → l.cell.length < n → Kept n s t → HasPlace s l → HasPlace t l
place_kept n s t l low_a low_c kept has = (kept.below l.cell.value low_a ∙ has.0, kept.below l.cell.length low_c ∙ has.1, has.2)

places_end : (pages fuel n : ℕ) (literals : List Literal) (texts : List (List ℕ)) (s : LowState) → AllByRecursion IsNarrow literals → LieThere s literals texts → slice_get s.locals 0 ≡ Some (Address (Own 0) 0) → 1 ≤ n →
    AreTextsIn n (length s.locals) literals →
    Ends (size (literals_block literals)) (λ t. Kept n s t × AllByRecursion (HasPlace t) literals) Never NoCode (meaning pages fuel (literals_block literals) s)
places_end pages fuel n [] [] s narrow there base some are = (omega arith, (Kept-same n s, tt))
places_end pages fuel n [] (octets ∷ texts) s narrow there base some are = absurd there
places_end pages fuel n (l ∷ literals) [] s narrow there base some are = absurd there
places_end pages fuel n (l ∷ literals) (octets ∷ texts) s narrow there base some are =
    let next : ℕ = are.0 in
    let one = are.1 in
    let lies = there.1 in
    let rest : Statement = literals_block literals in
    let order : next ≤ length s.locals = texts_order next (length s.locals) literals are.2 in
    let after : n ≤ next = omega (arith, one.0, one.1) in
    Ends-then (λ t. Kept n s t × AllByRecursion (HasPlace t) (l ∷ literals)) Never NoCode 6 (size rest) (λ t. Kept n s t × HasPlace t l)
    (meaning pages fuel (literal_block l) s) (meaning pages fuel rest)
    (place_ends pages fuel n lies.size l s narrow.0 lies.sized (let inside = lies.inside in omega (arith, inside)) base (text_more n n next (length s.locals) l (omega arith) order one))
    (λ t now.
    let kept = now.0 in
    Ends-weaker (size rest) (size rest) (λ u. Kept next t u × AllByRecursion (HasPlace u) literals) (λ u. Kept n s u × AllByRecursion (HasPlace u) (l ∷ literals)) Never Never NoCode NoCode
    (meaning pages fuel rest t) (omega arith)
    (λ u post. (Kept-then n next s t u after kept post.0, (place_kept next t u l one.1 one.3 post.0 now.1, post.1))) (λ u x. x) (λ code x. x)
    (places_end pages fuel next literals texts t narrow.1 (lie_there_kept n s t literals texts kept there.2) (kept.below 0 (omega (arith, some)) ∙ base) (omega (arith, some, after))
    (subst (λ (k : ℕ). AreTextsIn next k literals) (sym kept.many) are.2)))

literals_typed : (types : List ValType) (literals : List Literal) → AllByRecursion IsNarrow literals → slice_get types 0 ≡ Some I32 →
    AllByRecursion (λ (l : Literal). DeclaresValue types (text_operand l)) literals → IsTyped types (literals_block literals)
literals_typed types [] narrow first declared = tt
literals_typed types (l ∷ literals) narrow first declared = (literal_typed types l narrow.0 first declared.0, literals_typed types literals narrow.1 first declared.1)

literals_short : (literals : List Literal) → size (literals_block literals) ≤ 6 * length literals
literals_short [] = omega arith
literals_short (l ∷ literals) = omega (arith, literals_short literals)

pub literals_lead : (literals : List Literal) → AllByRecursion IsNarrow literals → LeadsToAll literals (literals_block literals)
literals_lead literals narrow = record {
  runs = λ pages fuel n texts s there base some are.
      Ends-weaker (size (literals_block literals)) (size (literals_block literals)) (λ t. Kept n s t × AllByRecursion (HasPlace t) literals)
      (λ t. Kept n s t × AllByRecursion (HasPlace t) literals × ((row : List Val) → AreHeld (known_texts literals texts) row t)) Never Never NoCode NoCode
      (meaning pages fuel (literals_block literals) s) (omega arith)
      (λ t post. (post.0, post.1, λ row. texts_held t row literals texts post.1 (lie_there_kept n s t literals texts post.0 there))) (λ t x. x) (λ code x. x)
      (places_end pages fuel n literals texts s narrow there base some are);
  typed = λ types first declared. literals_typed types literals narrow first declared;
  short = literals_short literals;
}
