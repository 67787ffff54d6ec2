-- Octets have one fault at most.
use Rattle.std.proofs.Common.{◌≡◌, ◌∙◌, ℕ, zero, suc, ◌+◌, List, [], length, Option, Some, None, slice_get, inl, inr, refl, sym, ap, subst, arith}
use Rattle.std.specs.Prelude.{IsSomeAnd}
use Rattle.qw_octet_grammar.specs.declared.fault.BinaryFault.{BinaryFault}
use Rattle.qw_octet_grammar.specs.declared.fault.BinaryFault.TheVariants as reading
use Rattle.qw_module.specs.declared.module.FuncType.{FuncType}
use Rattle.qw_module.specs.declared.module.Function.{Function}
use Rattle.qw_module.specs.declared.module.Module.{Module}
use Rattle.qw_module.specs.Places.{Typing, tokens_of, IsRefusedAt}
use Rattle.qw_module.specs.Validity.{code_of_body, signature_of, imported_functions, IsTypedFunction, IsValidFunction, IsValid}
use Rattle.qw_module.proofs.PlaceLemmas.{none_refused, one_first_place, typable_body}
use Rattle.qw_binary.specs.Contents.{Contents, contents_of}
use Rattle.qw_binary.specs.Modules.{FirstStuck, SpellsModule}
use Rattle.qw_valid.specs.declared.valid.Part.{Part}
use Rattle.qw_valid.specs.declared.valid.Part.TheVariants as part
use Rattle.qw_valid.specs.declared.valid.ValidFault.{ValidFault}
use Rattle.qw_valid.specs.declared.valid.ValidFault.TheVariants as fault
use Rattle.qw_valid.specs.ValidFaults.{ArePartsValid, HasBody, IsFault, place_of, typing_in, typing_with_signature}
use Rattle.qw_check.specs.Check.{HasFault, SpellsFaulty, SpellsValid}
use Rattle.qw_check.specs.Inner.Faults.{fault_of_reading, fault_of_validation}
use Rattle.qw_check.specs.declared.check.CheckFault.{CheckFault}
use Rattle.qw_check.specs.declared.check.CheckFault.TheVariants as check
use Rattle.qw_check.proofs.Alike.{fault_alike}
use Rattle.std.proofs.lemmas.Bool.{cases_lt}
use Rattle.std.proofs.lemmas.Option.{get_or_from_slice_get, slice_get_within}
use Rattle.std.proofs.Common.{get_or}
use Rattle.std.specs.Option.{option_map_or}

-- ---- one module

-- no place of a valid function is refused
refused_there : (m : Module) (function : Function) (at : ℕ) (o : Option FuncType) → slice_get m.types.items function.type_index ≡ o → IsSomeAnd o (IsTypedFunction m function) →
    IsRefusedAt (typing_in m function) (tokens_of (code_of_body function.body)) at → ⊥
refused_there m function at None e valid refused = absurd valid
refused_there m function at (Some ty) e valid refused =
    let f = typing_with_signature m function (signature_of ty) in
    let is : typing_in m function ≡ f = ap (λ (o : Option FuncType). typing_with_signature m function (option_map_or signature_of o (record { params = []; results = [] }))) e in
    none_refused f (tokens_of (code_of_body function.body)) at (typable_body f (code_of_body function.body) valid.typed)
    (subst (λ (g : Typing). IsRefusedAt g (tokens_of (code_of_body function.body)) at) is refused)

not_refused : (m : Module) (function : Function) (at : ℕ) → IsValidFunction m function → IsRefusedAt (typing_in m function) (tokens_of (code_of_body function.body)) at → ⊥
not_refused m function at valid refused = refused_there m function at (slice_get m.types.items function.type_index) refl valid refused

-- parts by their places
part_at : ℕ → Part
part_at zero = part.Types
part_at (suc zero) = part.Imports
part_at (suc (suc zero)) = part.Functions
part_at (suc (suc (suc zero))) = part.Memory
part_at (suc (suc (suc (suc zero)))) = part.Globals
part_at (suc (suc (suc (suc (suc n))))) = part.Exports

at_place : (p : Part) → part_at (place_of p) ≡ p
unfolding part_at
at_place part.Types = refl
at_place part.Imports = refl
at_place part.Functions = refl
at_place part.Memory = refl
at_place part.Globals = refl
at_place part.Exports = refl

one_part : (m : Module) (p q : Part) → IsFault (fault.Part p) m → IsFault (fault.Part q) m → p ≡ q
one_part m p q (before, fails) (before', fails') =
    elim (cases_lt (place_of p) (place_of q)) [
      | inl less ↦ absurd (fails (before' p less))
      | inr le ↦ elim (cases_lt (place_of q) (place_of p)) [
        | inl less ↦ absurd (fails' (before q less))
        | inr le' ↦ let same : place_of p ≡ place_of q = omega (arith, le, le') in sym (at_place p) ∙ ap part_at same ∙ at_place q
      ]
    ]

one_body : (m : Module) (func at other there : ℕ) → IsFault (fault.Body func at) m → IsFault (fault.Body other there) m → fault.Body func at ≡ fault.Body other there
one_body m func at other there (parts, k, f, func_is, found, earlier, refused) (parts', k', f', func_is', found', earlier', refused') =
    elim (cases_lt k k') [
      | inl less ↦ absurd (not_refused m f at (earlier' k f less found) refused)
      | inr le ↦ elim (cases_lt k' k) [
        | inl less ↦ absurd (not_refused m f' there (earlier k' f' less found') refused')
        | inr le' ↦
            let same : k ≡ k' = omega (arith, le, le') in
            let both : Some f ≡ Some f' = sym found ∙ ap (slice_get m.functions.items) same ∙ found' in
            let function : f ≡ f' = cc in
            let place : at ≡ there = one_first_place (typing_in m f') (tokens_of (code_of_body f'.body)) at there (subst (λ (g : Function). IsRefusedAt (typing_in m g) (tokens_of (code_of_body g.body)) at) function refused) refused' in
            let number : func ≡ other = func_is ∙ ap (λ n. length (imported_functions m) + n) same ∙ sym func_is' in
            rw (place, number) refl
      ]
    ]

one_fault_of : (m : Module) (why other : ValidFault) → (why ≡ fault.NoMemory → ⊥) → (other ≡ fault.NoMemory → ⊥) → IsFault why m → IsFault other m → why ≡ other
one_fault_of m (fault.Part p) (fault.Part q) some some' h k = ap fault.Part (one_part m p q h k)
one_fault_of m (fault.Part p) (fault.Body func at) some some' h k = absurd (h.1 (k.0 p))
one_fault_of m (fault.Body func at) (fault.Part p) some some' h k = absurd (k.1 (h.0 p))
one_fault_of m (fault.Body func at) (fault.Body other there) some some' h k = one_body m func at other there h k
one_fault_of m fault.NoMemory other some some' h k = absurd (some refl)
one_fault_of m (fault.Part p) fault.NoMemory some some' h k = absurd (some' refl)
one_fault_of m (fault.Body func at) fault.NoMemory some some' h k = absurd (some' refl)

valid_at : (m : Module) (number : ℕ) (function : Function) → IsValid m → slice_get m.functions.items number ≡ Some function → IsValidFunction m function
valid_at m number function valid found =
    subst (IsValidFunction m) (get_or_from_slice_get m.functions.items number function function found)
    (valid.functions number function (slice_get_within m.functions.items number function found))

has_body_at : (m : Module) (function : Function) (o : Option FuncType) → slice_get m.types.items function.type_index ≡ o → IsSomeAnd o (IsTypedFunction m function) → HasBody m function
has_body_at m function None e valid = absurd valid
has_body_at m function (Some ty) e valid = (slice_get_within m.types.items function.type_index ty e, valid.numbered)

parts_of : (m : Module) → IsValid m → ArePartsValid m
parts_of m valid part.Types = valid.types
parts_of m valid part.Imports = valid.imports
parts_of m valid part.Functions = λ n d h. let function = get_or m.functions.items n d in has_body_at m function (slice_get m.types.items function.type_index) refl (valid.functions n d h)
parts_of m valid part.Memory = (valid.memories, valid.one_memory)
parts_of m valid part.Globals = valid.globals
parts_of m valid part.Exports = (valid.exports, valid.names)

valid_has_none : (m : Module) (why : ValidFault) → IsValid m → IsFault why m → why ≡ fault.NoMemory
valid_has_none m (fault.Part p) valid h = absurd (h.1 (parts_of m valid p))
valid_has_none m (fault.Body func at) valid (parts, number, function, func_is, found, earlier, refused) = absurd (not_refused m function at (valid_at m number function valid found) refused)
valid_has_none m fault.NoMemory valid h = refl

-- ---- octets

-- a fault of octets is one of reading or one of validation
data Kinds (text : List ℕ) (why : CheckFault) : Type 0 where
  unread : (f : BinaryFault) → FirstStuck text f → why ≡ fault_of_reading f → Kinds text why
  invalid : (f : ValidFault) → SpellsFaulty text f → (f ≡ fault.NoMemory → ⊥) → why ≡ fault_of_validation f → Kinds text why

kinds : (text : List ℕ) (why : CheckFault) → (why ≡ check.NoMemory → ⊥) → HasFault text why → Kinds text why
kinds text check.NotModule some h = unread reading.NotModule h refl
kinds text (check.OutOfProfile what) some h = unread (reading.OutOfProfile what) h refl
kinds text (check.Part p) some h = invalid (fault.Part p) h (λ e. cc) refl
kinds text (check.Body func at) some h = invalid (fault.Body func at) h (λ e. cc) refl
kinds text check.NoMemory some h = absurd (some refl)

module _ (text : List ℕ) (one_module : (a b : Contents) → SpellsModule a text → SpellsModule b text → a ≡ b) (one_stuck : (f g : BinaryFault) → FirstStuck text f → FirstStuck text g → f ≡ g)
    (never_stuck : (a : Contents) (f : BinaryFault) → SpellsModule a text → FirstStuck text f → ⊥) where
  faulty_unique : (why other : ValidFault) → (why ≡ fault.NoMemory → ⊥) → (other ≡ fault.NoMemory → ⊥) → SpellsFaulty text why → SpellsFaulty text other → why ≡ other
  faulty_unique why other some some' h k =
      let same = one_module (contents_of h.m) (contents_of k.m) h.spelled k.spelled in
      one_fault_of k.m why other some some' (fault_alike h.m k.m same why h.faulty) k.faulty

  by_kinds : (why other : CheckFault) → Kinds text why → Kinds text other → why ≡ other
  by_kinds why other (unread f stuck is) (unread g stuck' is') = is ∙ ap fault_of_reading (one_stuck f g stuck stuck') ∙ sym is'
  by_kinds why other (unread f stuck is) (invalid g faulty some is') = absurd (never_stuck (contents_of faulty.m) f faulty.spelled stuck)
  by_kinds why other (invalid f faulty some is) (unread g stuck is') = absurd (never_stuck (contents_of faulty.m) g faulty.spelled stuck)
  by_kinds why other (invalid f faulty some is) (invalid g faulty' some' is') = is ∙ ap fault_of_validation (faulty_unique f g some some' faulty faulty') ∙ sym is'

  pub one_fault : (why other : CheckFault) → (why ≡ check.NoMemory → ⊥) → (other ≡ check.NoMemory → ⊥) → HasFault text why → HasFault text other → why ≡ other
  one_fault why other some some' h k = by_kinds why other (kinds text why some h) (kinds text other some' k)

  valid_unfaulty : (why : ValidFault) → SpellsValid text → SpellsFaulty text why → why ≡ fault.NoMemory
  valid_unfaulty why v h =
      let same = one_module (contents_of h.m) (contents_of v.m) h.spelled v.spelled in
      valid_has_none v.m why v.valid (fault_alike h.m v.m same why h.faulty)

  pub none_of_valid : (why : CheckFault) → SpellsValid text → HasFault text why → why ≡ check.NoMemory
  none_of_valid check.NotModule v h = absurd (never_stuck (contents_of v.m) reading.NotModule v.spelled h)
  none_of_valid (check.OutOfProfile what) v h = absurd (never_stuck (contents_of v.m) (reading.OutOfProfile what) v.spelled h)
  none_of_valid (check.Part p) v h = let e = valid_unfaulty (fault.Part p) v h in cc
  none_of_valid (check.Body func at) v h = let e = valid_unfaulty (fault.Body func at) v h in cc
  none_of_valid check.NoMemory v h = refl
