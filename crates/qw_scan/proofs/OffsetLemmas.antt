-- Where the things of a vector begin, and what stands there.
use Rattle.std.proofs.Common.{◌≡◌, ℕ, zero, suc, ◌+◌, ◌-◌, ◌<◌, ◌≤◌, List, [], ◌∷◌, ◌++◌, length, map, drop, Option, Some, None, Result, Ok, refl, sym, ap, subst, ◌∙◌, append_assoc, arith}
use Rattle.std.specs.Prelude.{All}
use Rattle.std.proofs.lemmas.List.{append-nil}
use Rattle.std.proofs.lemmas.List.Elements.{All-nil, All-cons}
use Rattle.qw_octet_grammar.specs.declared.fault.BinaryFault.{BinaryFault}
use Rattle.qw_octet_grammar.specs.Grammar.{Grammar}
use Rattle.qw_octet_grammar.specs.Numbers.{u32}
use Rattle.qw_octet_grammar.specs.Vectors.{counted, one_more, vector}
use Rattle.qw_octet_grammar.specs.Reading.{read}
use Rattle.qw_octet_grammar.proofs.GrammarLaws.{bind_ok, ok_is}
use Rattle.qw_module.specs.Typing.{Signature}
use Rattle.qw_binary.specs.Types.{func_type}
use Rattle.qw_binary.specs.Contents.{ExportContents}
use Rattle.qw_binary.specs.Sections.{export}
use Rattle.qw_scan.specs.Read.{mapped, passed_over}
use Rattle.qw_scan.specs.Inner.Over.{type_over, export_over}
use Rattle.qw_scan.specs.Inner.Outlines.{values_of, values_at, IsThere}
use Rattle.qw_scan.specs.Inner.Offsets.{behind_read, offsets, vector_offsets}
use Rattle.qw_scan.specs.Inner.TypesAt.{signature_by, signature_at, IsTypeAt}
use Rattle.qw_scan.specs.Inner.ExportsAt.{export_by, export_at, IsExportAt}
use Rattle.qw_scan.proofs.Suffixes.{rest_at}
use Rattle.qw_scan.proofs.SameOver.{type_same, export_same}

-- ---- so many, one after the other

module _ (g : Grammar (Unit {0})) (whole : List ℕ) where
  one_offset : (n at : ℕ) (rest : List ℕ) → read g (drop at whole) ≡ Ok (tt, rest) → offsets g whole (suc n) at ≡ at ∷ offsets g whole n (length whole - length rest)
  unfolding offsets
  one_offset n at rest e = ap (λ (r : Result (Unit {0} × List ℕ) BinaryFault). at ∷ behind_read (λ x. offsets g whole n) whole r) e

  no_offset : (at : ℕ) → offsets g whole 0 at ≡ []
  unfolding offsets
  no_offset at = refl

  pub offsets_next : (count i at : ℕ) (rest : List ℕ) → i < count → read g (drop at whole) ≡ Ok (tt, rest) →
      offsets g whole (count - i) at ≡ at ∷ offsets g whole (count - (i + 1)) (length whole - length rest)
  offsets_next count i at rest lt e =
      let k : count - i ≡ suc (count - (i + 1)) = omega arith in
      ap (λ (n : ℕ). offsets g whole n at) k ∙ one_offset (count - (i + 1)) at rest e

  pub offsets_end : (count i at : ℕ) → count ≤ i → offsets g whole (count - i) at ≡ []
  unfolding offsets
  offsets_end count i at le = let k : count - i ≡ 0 = omega arith in ap (λ (n : ℕ). offsets g whole n at) k

  -- those so far, and those to come
  pub offsets_more : (before : List ℕ) (count i at : ℕ) (rest total : List ℕ) → i < count → read g (drop at whole) ≡ Ok (tt, rest) → before ++ offsets g whole (count - i) at ≡ total →
      (before ++ at ∷ []) ++ offsets g whole (count - (i + 1)) (length whole - length rest) ≡ total
  offsets_more before count i at rest total lt e so_far =
      append_assoc before (at ∷ []) _ ∙ ap (λ (ns : List ℕ). before ++ ns) (sym (offsets_next count i at rest lt e)) ∙ so_far

  pub offsets_all : (before : List ℕ) (count i at : ℕ) (total : List ℕ) → count ≤ i → before ++ offsets g whole (count - i) at ≡ total → before ≡ total
  offsets_all before count i at total le so_far = sym (append-nil before) ∙ ap (λ (ns : List ℕ). before ++ ns) (sym (offsets_end count i at le)) ∙ so_far

-- ---- what stands there

-- things that are passed over are where they are read
module _ {A : Type 0} (g : Grammar A) (over : Grammar (Unit {0})) (same : (bytes : List ℕ) → read over bytes ≡ mapped passed_over (read g bytes)) (whole : List ℕ)
    (view : ℕ → A) (IsItem : ℕ → Type 0) (views : (at : ℕ) (x : A) (rest : List ℕ) → read g (drop at whole) ≡ Ok (x, rest) → view at ≡ x)
    (items : (at : ℕ) (x : A) (rest : List ℕ) → read g (drop at whole) ≡ Ok (x, rest) → IsItem at) where
  -- these are the offsets of such things
  abbrev pub AreThere : (found : List ℕ) → List A → Type 0
  AreThere found xs = All IsItem found × (map view found ≡ xs)

  abbrev AreBehind : List A → (found : List ℕ) → List A → Type 0
  AreBehind before found xs = All IsItem found × (before ++ map view found ≡ xs)

  counted_are : (n at : ℕ) (before xs : List A) (rest : List ℕ) → read (counted n (one_more g) before) (drop at whole) ≡ Ok (xs, rest) → AreBehind before (offsets over whole n at) xs
  unfolding read counted
  counted_are zero at before xs rest e =
      subst (λ (found : List ℕ). AreBehind before found xs) (sym (no_offset over whole at)) (All-nil IsItem, append-nil before ∙ ap (λ z. z.0) (ok_is (before, drop at whole) (xs, rest) e))
  counted_are (suc n) at before xs rest e =
      let a = bind_ok (read (one_more g before) (drop at whole)) (λ y. read (counted n (one_more g) y.0) y.1) (xs, rest) e in
      let o = bind_ok (read g (drop at whole)) (λ y. Ok (before ++ y.0 ∷ [], y.1)) a.0 a.1 in
      let q = ok_is (before ++ o.0.0 ∷ [], o.0.1) a.0 o.2 in
      let there = rest_at g whole at o.0.0 o.0.1 o.1 in
      let next = length whole - length o.0.1 in
      let later = counted_are n next a.0.0 xs rest (ap (λ (bs : List ℕ). read (counted n (one_more g) a.0.0) bs) (there ∙ ap (λ z. z.1) q) ∙ a.2) in
      let first = one_offset over whole n at o.0.1 (same (drop at whole) ∙ ap (mapped passed_over) o.1) in
      let left = map view (offsets over whole n next) in
      let one : before ++ view at ∷ [] ≡ a.0.0 = ap (λ (x : A). before ++ x ∷ []) (views at o.0.0 o.0.1 o.1) ∙ ap (λ z. z.0) q in
      subst (λ (found : List ℕ). AreBehind before found xs) (sym first)
      (All-cons IsItem at (offsets over whole n next) (items at o.0.0 o.0.1 o.1) later.0, sym (append_assoc before (view at ∷ []) left) ∙ ap (λ (ys : List A). ys ++ left) one ∙ later.1)

  pub vector_are : (at : Option ℕ) → IsThere (vector g) whole at → AreThere (vector_offsets over whole at) (values_at (vector g) whole at)
  unfolding read IsThere values_at
  vector_are None there = (All-nil IsItem, refl)
  vector_are (Some at) there =
      let a = bind_ok (read u32 (drop at whole)) (λ y. read (counted y.0 (one_more g) []) y.1) (there.0, there.1) there.2 in
      let start = rest_at u32 whole at a.0.0 a.0.1 a.1 in
      let are = counted_are a.0.0 (length whole - length a.0.1) [] there.0 there.1 (ap (λ (bs : List ℕ). read (counted a.0.0 (one_more g) []) bs) start ∙ a.2) in
      subst (λ (found : List ℕ). AreThere found (values_at (vector g) whole (Some at))) (sym (ap (behind_read (offsets over whole) whole) a.1))
      (are.0, are.1 ∙ sym (ap values_of there.2))

abbrev pub AreTypes : List ℕ → (found : List ℕ) → List Signature → Type 0
AreTypes whole found xs = All (IsTypeAt whole) found × (map (signature_at whole) found ≡ xs)

type_view : (whole : List ℕ) (at : ℕ) (x : Signature) (rest : List ℕ) → read func_type (drop at whole) ≡ Ok (x, rest) → signature_at whole at ≡ x
unfolding signature_at
type_view whole at x rest e = ap signature_by e

type_there : (whole : List ℕ) (at : ℕ) (x : Signature) (rest : List ℕ) → read func_type (drop at whole) ≡ Ok (x, rest) → IsTypeAt whole at
unfolding IsTypeAt
type_there whole at x rest e = (x, rest, e)

pub type_offsets_are : (whole : List ℕ) (at : Option ℕ) → IsThere (vector func_type) whole at → AreTypes whole (vector_offsets type_over whole at) (values_at (vector func_type) whole at)
type_offsets_are whole = vector_are func_type type_over type_same whole (signature_at whole) (IsTypeAt whole) (type_view whole) (type_there whole)

abbrev pub AreExports : List ℕ → (found : List ℕ) → List ExportContents → Type 0
AreExports whole found xs = All (IsExportAt whole) found × (map (export_at whole) found ≡ xs)

export_view : (whole : List ℕ) (at : ℕ) (x : ExportContents) (rest : List ℕ) → read export (drop at whole) ≡ Ok (x, rest) → export_at whole at ≡ x
unfolding export_at
export_view whole at x rest e = ap export_by e

export_there : (whole : List ℕ) (at : ℕ) (x : ExportContents) (rest : List ℕ) → read export (drop at whole) ≡ Ok (x, rest) → IsExportAt whole at
unfolding IsExportAt
export_there whole at x rest e = (x, rest, e)

pub export_offsets_are : (whole : List ℕ) (at : Option ℕ) → IsThere (vector export) whole at → AreExports whole (vector_offsets export_over whole at) (values_at (vector export) whole at)
export_offsets_are whole = vector_are export export_over export_same whole (export_at whole) (IsExportAt whole) (export_view whole) (export_there whole)
