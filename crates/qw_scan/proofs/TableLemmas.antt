-- The indices of functions' types and the types of globals, read again.
use Rattle.std.proofs.Common.{◌≡◌, ℕ, zero, suc, List, [], ◌∷◌, ◌++◌, drop, map, Option, Some, None, Result, Ok, refl, sym, ap, subst, ◌∙◌}
use Rattle.std.proofs.lemmas.List.{map_push}
use Rattle.qw_octet_grammar.specs.declared.fault.BinaryFault.{BinaryFault}
use Rattle.qw_octet_grammar.specs.Grammar.{Grammar, is}
use Rattle.qw_octet_grammar.specs.Numbers.{u32}
use Rattle.qw_octet_grammar.specs.Vectors.{counted, one_more, vector}
use Rattle.qw_octet_grammar.specs.Reading.{◌>>=◌, read}
use Rattle.qw_octet_grammar.proofs.GrammarLaws.{ok_is}
use Rattle.qw_module.specs.Typing.{GlobalType}
use Rattle.qw_binary.specs.Types.{val_type, mutability}
use Rattle.qw_binary.specs.Instructions.{expression}
use Rattle.qw_binary.specs.Contents.{GlobalContents}
use Rattle.qw_binary.specs.Sections.{global_from, global}
use Rattle.qw_scan.specs.Read.{mapped, passed_over, HasRead}
use Rattle.qw_scan.specs.Inner.Outlines.{values_of, values_at, IsThere}
use Rattle.qw_scan.specs.Inner.Offsets.{kind_from, global_kind}
use Rattle.qw_scan.specs.Inner.Shapes.{shapes}
use Rattle.qw_scan.proofs.Labels.{Numbers}
use Rattle.qw_scan.proofs.Vectors.{shifted, behind_count}
use Rattle.qw_scan.proofs.SamePlaces.{by-is, by-after, by-both}
use Rattle.qw_scan.proofs.SameShapes.{same_shapes}

-- ---- what is there

-- the values that were read there
pub values_there : {A : Type 0} (g : Grammar (List A)) (whole : List ℕ) (at : Option ℕ) (n : ℕ) (xs : List A) (rest : List ℕ) → at ≡ Some n → read g (drop n whole) ≡ Ok (xs, rest) → values_at g whole at ≡ xs
unfolding values_at
values_there g whole at n xs rest at_is e = ap (values_at g whole) at_is ∙ ap values_of e

-- a section that isn't there has nothing
pub nothing_there : {A : Type 0} (g : Grammar (List A)) (whole : List ℕ) (at : Option ℕ) → at ≡ None → values_at g whole at ≡ []
unfolding values_at
nothing_there g whole at none = ap (values_at g whole) none

-- ---- the indices of functions' types

abbrev read_as : List ℕ → List ℕ → Result (List ℕ × List ℕ) BinaryFault
read_as l m = Ok (l, m)

-- the indices behind those of the imported functions
pub numbers_behind : (whole : List ℕ) (at : Option ℕ) (n count : ℕ) (rest before found : List ℕ) → at ≡ Some n → IsThere (vector u32) whole at → read u32 (drop n whole) ≡ Ok (count, rest) →
    HasRead found (read (counted count (one_more u32) before) rest) → found ≡ before ++ values_at (vector u32) whole at
unfolding IsThere
numbers_behind whole at n count rest before found at_is is_there counts has =
    let there = subst (IsThere (vector u32) whole) at_is is_there in
    let first : Numbers count [] rest ≡ read_as there.0 there.1 = behind_count u32 (drop n whole) count rest counts ∙ there.2 in
    let both : Ok (found, has.0) ≡ read_as (before ++ there.0) there.1 = sym has.1 ∙ shifted u32 count before rest ∙ ap (mapped (λ l. before ++ l)) first in
    ap (λ z. z.0) (ok_is (found, has.0) (before ++ there.0, there.1) both) ∙ ap (λ (l : List ℕ). before ++ l) (sym (values_there (vector u32) whole at n there.0 there.1 at_is there.2))

-- ---- the types of globals

module _ {A B : Type 0} (f : A → B) (g : Grammar A) (g' : Grammar B) (same : (bytes : List ℕ) → read g' bytes ≡ mapped f (read g bytes)) where
  one_seen : (before : List A) (bytes : List ℕ) → read (one_more g' (map f before)) bytes ≡ mapped (map f) (read (one_more g before) bytes)
  one_seen before bytes =
      by-both (map f) bytes g g' f (λ x. is (before ++ x ∷ [])) (λ y. is (map f before ++ y ∷ [])) (same bytes) (λ x rest. by-is (map f) rest (before ++ x ∷ []) (map f before ++ f x ∷ []) (map_push f before x))

  pub counted_seen : (n : ℕ) (before : List A) (bytes : List ℕ) → read (counted n (one_more g') (map f before)) bytes ≡ mapped (map f) (read (counted n (one_more g) before) bytes)
  unfolding counted
  counted_seen zero before bytes = by-is (map f) bytes before (map f before) refl
  counted_seen (suc n) before bytes =
      by-both (map f) bytes (one_more g before) (one_more g' (map f before)) (map f) (counted n (one_more g)) (counted n (one_more g')) (one_seen before bytes) (λ xs rest. counted_seen n xs rest)

abbrev type_of_global : GlobalContents → GlobalType
type_of_global global = global.type

kind_same : (bytes : List ℕ) → read global_kind bytes ≡ mapped type_of_global (read global bytes)
kind_same bytes =
    by-after type_of_global bytes val_type _ _ (λ type rest r. by-after type_of_global rest mutability _ _ (λ mutable mid q.
    by-both type_of_global mid expression shapes passed_over _ _ (same_shapes mid) (λ init last. by-is type_of_global last (global_from type mutable init) (kind_from type mutable) refl)))

pub kinds_there : (whole : List ℕ) (at : Option ℕ) (n count : ℕ) (rest : List ℕ) (kinds : List GlobalType) → at ≡ Some n → IsThere (vector global) whole at → read u32 (drop n whole) ≡ Ok (count, rest) →
    HasRead kinds (read (counted count (one_more global_kind) []) rest) → kinds ≡ map type_of_global (values_at (vector global) whole at)
unfolding IsThere read
kinds_there whole at n count rest kinds at_is is_there counts has =
    let there = subst (IsThere (vector global) whole) at_is is_there in
    let first : read (counted count (one_more global) []) rest ≡ Ok (there.0, there.1) = sym (ap (λ r. r >>= λ y. read (counted y.0 (one_more global) []) y.1) counts) ∙ there.2 in
    let both = sym has.1 ∙ counted_seen type_of_global global global_kind kind_same count [] rest ∙ ap (mapped (map type_of_global)) first in
    ap (λ z. z.0) (ok_is (kinds, has.0) (map type_of_global there.0, there.1) both) ∙ ap (map type_of_global) (sym (values_there (vector global) whole at n there.0 there.1 at_is there.2))
