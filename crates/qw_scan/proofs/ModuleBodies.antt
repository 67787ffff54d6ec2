-- What the check of all bodies says of a module, by what it holds.
use Rattle.std.proofs.Common.{◌≡◌, ℕ, zero, suc, ◌+◌, ◌<◌, Bool, true, false, List, [], ◌∷◌, ◌++◌, length, get_or, map, take, drop, Option, Some, None, slice_get, Result, Ok, Err, All, refl, sym, ap, ap₂, subst, ◌∙◌, arith, length-append, ⊎_elim}
use Rattle.std.proofs.Math.Seq.{take-length}
use Rattle.std.specs.Prelude.{◌==◌, unwrap_or, IsSomeAnd, IfErr, IfSome, OnOk, SomeIff}
use Rattle.std.specs.List.{AllByRecursion, filter_map}
use Rattle.std.specs.Option.{option_map, option_map_or}
use Rattle.std.proofs.lemmas.Bool.{cases_eq, ne_eqb}
use Rattle.std.proofs.lemmas.List.{take_more}
use Rattle.std.proofs.lemmas.Option.{same_Some, slice_get-map, slice_get_within, slice_get-get_or, get_or_from_slice_get}
use Rattle.qw_octet_grammar.specs.declared.fault.BinaryFault.{BinaryFault}
use Rattle.qw_octet_grammar.specs.declared.fault.BinaryFault.TheVariants.{NotModule}
use Rattle.qw_octet_grammar.specs.Grammar.{Grammar, refuse, pick}
use Rattle.qw_octet_grammar.specs.Numbers.{u32}
use Rattle.qw_octet_grammar.specs.Vectors.{counted, vector}
use Rattle.qw_octet_grammar.specs.Reading.{◌>>=◌, filled, read}
use Rattle.qw_octet_grammar.proofs.GrammarLaws.{bind_ok, ok_is}
use Rattle.qw_module.specs.declared.module.FuncType.{FuncType}
use Rattle.qw_module.specs.declared.module.Function.{Function}
use Rattle.qw_module.specs.declared.module.Module.{Module}
use Rattle.qw_module.specs.Syntax.{code_of}
use Rattle.qw_module.specs.Typing.{Signature, GlobalType, Outside}
use Rattle.qw_module.specs.Places.{Typing, tokens_of, IsTypable, IsRefusedAt}
use Rattle.qw_module.specs.Validity.{signature_of, code_of_body, imported_function, imported_memory, imported_functions, functions_of, outside_of, global_type, IsTypedFunction, IsValidFunction}
use Rattle.qw_module.specs.Validity.{signature_in as signature_in_module}
use Rattle.qw_module.proofs.PlaceLemmas.{typed_body}
use Rattle.qw_binary.specs.Contents.{FunctionContents, GlobalContents, Contents, function_contents, global_contents, contents_of}
use Rattle.qw_binary.specs.Sections.{code, next_function, functions}
use Rattle.qw_valid.specs.declared.valid.Part.TheVariants as part
use Rattle.qw_valid.specs.declared.valid.ValidFault.{ValidFault}
use Rattle.qw_valid.specs.declared.valid.ValidFault.TheVariants as fault
use Rattle.qw_valid.specs.ValidFaults.{HasBody, ArePartsValid, typing_with_signature, typing_in, IsFault}
use Rattle.qw_valid.proofs.KindFacts.{map_some}
use Rattle.qw_scan.specs.declared.outline.Outline.{Outline}
use Rattle.qw_scan.specs.Inner.TypesAt.{no_signature}
use Rattle.qw_scan.specs.Inner.Tables.{signature_in}
use Rattle.qw_scan.specs.Inner.Outlines.{values_of, values_at, IsThere, indices_in, contents_in, IsOutline}
use Rattle.qw_scan.specs.Inner.Bodies.{outside_by, typing_by, IsTyped, JudgesAll, code_held}
use Rattle.qw_scan.proofs.OutlineLemmas.{vector_length}
use Rattle.qw_scan.proofs.CodeLemmas.{Codes, one_code, code_parts, sized_code}

-- ---- lists

map_of_map : {X Y Z : Type 0} (f : X → Y) (g : Y → Z) (h : X → Z) (xs : List X) → ((x : X) → g (f x) ≡ h x) → map g (map f xs) ≡ map h xs
map_of_map f g h [] is = refl
map_of_map f g h (x ∷ xs) is = ap₂ (λ z zs. z ∷ zs) (is x) (map_of_map f g h xs is)

same_map : {X Y : Type 0} (f g : X → Y) (xs : List X) → ((x : X) → f x ≡ g x) → map f xs ≡ map g xs
same_map f g [] is = refl
same_map f g (x ∷ xs) is = ap₂ (λ z zs. z ∷ zs) (is x) (same_map f g xs is)

map_behind : {X Y : Type 0} (f : X → Y) (xs ys : List X) → map f (xs ++ ys) ≡ map f xs ++ map f ys
map_behind f [] ys = refl
map_behind f (x ∷ xs) ys = ap (λ zs. f x ∷ zs) (map_behind f xs ys)

-- what holds of all of a list that was mapped holds of each of the list
at_each : {X Y : Type 0} (f : X → Y) (P : Y → Type 0) (xs : List X) → AllByRecursion P (map f xs) → (k : ℕ) (d : X) → k < length xs → P (f (get_or xs k d))
at_each f P [] all k d lt = absurd (omega (arith, lt))
at_each f P (x ∷ xs) all zero d lt = all.0
at_each f P (x ∷ xs) all (suc k) d lt = at_each f P xs all.1 k d (omega (arith, lt))

-- the same of each before one
at_each_before : {X Y : Type 0} (f : X → Y) (P : Y → Type 0) (number : ℕ) (xs : List X) → AllByRecursion P (take number (map f xs)) → (k : ℕ) (x : X) → k < number → slice_get xs k ≡ Some x → P (f x)
at_each_before f P zero xs all k x lt found = absurd (omega (arith, lt))
at_each_before f P (suc number) [] all k x lt found = absurd cc
at_each_before f P (suc number) (y ∷ xs) all zero x lt found = subst (λ z. P (f z)) (some_is y x found) all.0
  where
    some_is : {A : Type 0} (a b : A) → Some a ≡ Some b → a ≡ b
    some_is a b e = cc
at_each_before f P (suc number) (y ∷ xs) all (suc k) x lt found = at_each_before f P number xs all.1 k x (omega (arith, lt)) found

-- ---- what bodies of a module are typed under

module _ (m : Module) where
  signature_same : (index : ℕ) → signature_in (map signature_of m.types.items) index ≡ signature_in_module m index
  signature_same index = ap (λ (o : Option Signature). unwrap_or o no_signature) (slice_get-map signature_of m.types.items index) ∙ by_type (slice_get m.types.items index)
    where
      by_type : (o : Option FuncType) → unwrap_or (option_map signature_of o) no_signature ≡ option_map_or signature_of o no_signature
      by_type None = refl
      by_type (Some ty) = refl

  outside_same : outside_by (contents_of m) ≡ outside_of m
  outside_same =
      let indices = map_of_map function_contents (λ (f : FunctionContents). f.type_index) (λ (f : Function). f.type_index) m.functions.items (λ f. refl) in
      let globals = map_of_map global_contents (λ (g : GlobalContents). g.type) global_type m.globals.items (λ g. refl) in
      let signatures = same_map (signature_in (map signature_of m.types.items)) (signature_in_module m) (functions_of m) signature_same in
      rw (indices, globals, signatures) refl

  pub typing_same : (f : Function) → typing_by (outside_by (contents_of m)) (contents_of m).types (function_contents f) ≡ typing_in m f
  typing_same f = rw (outside_same, signature_same f.type_index) refl

  -- ---- what is found of it

  valid_function : (f : Function) → HasBody m f → IsTyped (outside_by (contents_of m)) (contents_of m).types (function_contents f) → IsValidFunction m f
  valid_function f has typed = by_type (slice_get m.types.items f.type_index) refl
    where
      typable : IsTypable (typing_in m f) (tokens_of (code_of_body f.body))
      typable = subst (λ (g : Typing). IsTypable g (tokens_of (code_of_body f.body))) (typing_same f) typed

      some_is_none : {A : Type 0} (a : A) → Some a ≡ None → ⊥
      some_is_none a e = cc

      by_type : (o : Option FuncType) → slice_get m.types.items f.type_index ≡ o → IsSomeAnd o (IsTypedFunction m f)
      by_type None none = absurd (some_is_none (get_or m.types.items f.type_index no_type) (sym (slice_get-get_or m.types.items f.type_index no_type has.0) ∙ none))
        where
          no_type : FuncType
          no_type = any m.types.items has.0
            where
              any : (ts : List FuncType) → f.type_index < length ts → FuncType
              any [] lt = absurd (omega (arith, lt))
              any (t ∷ ts) lt = t
      by_type (Some ty) found =
          let under = typing_with_signature m f (signature_of ty) in
          let is : typing_in m f ≡ under = ap (λ (o : Option FuncType). typing_with_signature m f (option_map_or signature_of o no_signature)) found in
          record { numbered = has.1; typed = typed_body under (code_of_body f.body) (subst (λ (g : Typing). IsTypable g (tokens_of (code_of_body f.body))) is typable) }

  module _ (parts : ArePartsValid m) where
    has_body : (k : ℕ) (f : Function) → slice_get m.functions.items k ≡ Some f → HasBody m f
    has_body k f found = subst (HasBody m) (get_or_from_slice_get m.functions.items k f f found) (parts part.Functions k f (slice_get_within m.functions.items k f found))

    all_valid : AllByRecursion (IsTyped (outside_by (contents_of m)) (contents_of m).types) (contents_of m).functions → All (IsValidFunction m) m.functions.items
    all_valid typed k d lt =
        valid_function (get_or m.functions.items k d) (parts part.Functions k d lt)
        (at_each function_contents (IsTyped (outside_by (contents_of m)) (contents_of m).types) m.functions.items typed k d lt)

    pub valid_if : (r : Result (Unit {0}) ValidFault) → JudgesAll (outside_by (contents_of m)) (contents_of m).types (length (imported_functions m)) (contents_of m).functions r → OnOk r (All (IsValidFunction m) m.functions.items)
    valid_if (Ok x) judges = all_valid judges
    valid_if (Err why) judges = tt

    pub fault_if : (r : Result (Unit {0}) ValidFault) → JudgesAll (outside_by (contents_of m)) (contents_of m).types (length (imported_functions m)) (contents_of m).functions r → IfErr r (λ why. IsFault why m)
    fault_if (Ok x) judges = tt
    fault_if (Err (fault.Part p)) judges = absurd judges
    fault_if (Err fault.NoMemory) judges = tt
    fault_if (Err (fault.Body func at)) judges =
        let (number, f, func_is, found, typed, refused) = judges in
        let s = map_some function_contents (slice_get m.functions.items number) f (sym (slice_get-map function_contents m.functions.items number) ∙ found) in
        let here = subst (λ (g : FunctionContents). IsRefusedAt (typing_by (outside_by (contents_of m)) (contents_of m).types g) (tokens_of (code_of g.body)) at) (sym s.2) refused in (
          parts,
          number,
          s.0,
          func_is,
          s.1,
          λ k earlier lt there. valid_function earlier (has_body k earlier there) (at_each_before function_contents (IsTyped (outside_by (contents_of m)) (contents_of m).types) number m.functions.items typed k earlier lt there),
          subst (λ (g : Typing). IsRefusedAt g (tokens_of (code_of_body s.0.body)) at) (typing_same s.0) here,
        )

-- the same of a module that holds these
module _ (m : Module) (c : Contents) (same : contents_of m ≡ c) (parts : ArePartsValid m) (r : Result (Unit {0}) ValidFault) where
  judged_same : JudgesAll (outside_by c) c.types (length (filter_map imported_function c.imports)) c.functions r → JudgesAll (outside_by (contents_of m)) (contents_of m).types (length (imported_functions m)) (contents_of m).functions r
  judged_same judges = subst (λ (d : Contents). JudgesAll (outside_by d) d.types (length (filter_map imported_function d.imports)) d.functions r) (sym same) judges

  pub bodies_valid : JudgesAll (outside_by c) c.types (length (filter_map imported_function c.imports)) c.functions r → OnOk r (All (IsValidFunction m) m.functions.items)
  bodies_valid judges = valid_if m parts r (judged_same judges)

  pub bodies_fault : JudgesAll (outside_by c) c.types (length (filter_map imported_function c.imports)) c.functions r → IfErr r (λ why. IsFault why m)
  bodies_fault judges = fault_if m parts r (judged_same judges)

-- ---- the codes of a module, and the indices of their types

code_sized : (index : ℕ) (octets : List ℕ) (f : FunctionContents) (rest : List ℕ) → read (code index) octets ≡ Ok (f, rest) → (size : ℕ) × (mid : List ℕ) × (read u32 octets ≡ Ok (size, mid))
unfolding read
code_sized index octets f rest e =
    let a = bind_ok (read u32 octets) (λ y. read (code_held index) (take y.0 y.1) >>= filled y.0 false y.1) (f, rest) e in
    (a.0.0, a.0.1, a.1)

code_index : (index : ℕ) (octets : List ℕ) (f : FunctionContents) (rest : List ℕ) → read (code index) octets ≡ Ok (f, rest) → f.type_index ≡ index
code_index index octets f rest e =
    let s = code_sized index octets f rest e in
    let held = sized_code index octets s.0 s.1 f rest s.2 e in
    (code_parts index (take s.0 s.1) f held.0 held.1).4

none_left : (own : List ℕ) (before : List FunctionContents) (bytes : List ℕ) (fs : List FunctionContents) (last : List ℕ) → Codes own zero before bytes ≡ Ok (fs, last) → fs ≡ before
unfolding read counted
none_left own before bytes fs last e = sym (ap (λ z. z.0) (ok_is (before, bytes) (fs, last) e))

codes_indices : (own : List ℕ) (n : ℕ) (before : List FunctionContents) (bytes : List ℕ) (fs : List FunctionContents) (last : List ℕ) → length before + n ≡ length own → map (λ (f : FunctionContents). f.type_index) before ≡ take (length before) own →
    Codes own n before bytes ≡ Ok (fs, last) → map (λ (f : FunctionContents). f.type_index) fs ≡ own
codes_indices own zero before bytes fs last count so_far e =
    let all : length before ≡ length own = omega (arith, count) in
    let d = none_left own before bytes fs last e in
    ap (map (λ (f : FunctionContents). f.type_index)) d ∙ so_far ∙ ap (λ (k : ℕ). take k own) all ∙ take-length own
codes_indices own (suc n) before bytes fs last count so_far e =
    let o = one_code own n before bytes fs last e in
    let index : o.0.type_index ≡ get_or own (length before) 0 = code_index (get_or own (length before) 0) bytes o.0 o.1 o.2 in
    let longer : length (before ++ o.0 ∷ []) ≡ length before + 1 = length-append before (o.0 ∷ []) in
    let next : map (λ (f : FunctionContents). f.type_index) (before ++ o.0 ∷ []) ≡ take (length before + 1) own =
    map_behind (λ (f : FunctionContents). f.type_index) before (o.0 ∷ []) ∙ ap₂ (λ (xs : List ℕ) (x : ℕ). xs ++ x ∷ []) so_far index ∙ sym (take_more own (length before) 0 (omega (arith, count))) in
    codes_indices own n (before ++ o.0 ∷ []) o.1 fs last (omega (arith, count, longer)) (next ∙ ap (λ (k : ℕ). take k own) (sym longer)) o.3

behind_count : (own bytes : List ℕ) (count : ℕ) (mid : List ℕ) (fs : List FunctionContents) (last : List ℕ) → read u32 bytes ≡ Ok (count, mid) → read (functions own) bytes ≡ Ok (fs, last) → Codes own (length own) [] mid ≡ Ok (fs, last)
unfolding read
behind_count own bytes count mid fs last sized e =
    let tested = sym (ap (λ (r : Result (ℕ × List ℕ) BinaryFault). r >>= λ y. read (pick (y.0 == length own) (counted y.0 (next_function own) []) (refuse NotModule)) y.1) sized) ∙ e in
    ⊎_elim (λ (same : count ≡ length own). ap (λ (n : ℕ). Codes own n [] mid) (sym same) ∙ found (count == length own) tested) (λ ne. absurd (other (count == length own) (ne_eqb count (length own) ne) tested)) (cases_eq count (length own))
  where
    found : (b : Bool) → read (pick b (counted count (next_function own) []) (refuse NotModule)) mid ≡ Ok (fs, last) → Codes own count [] mid ≡ Ok (fs, last)
    found true h = h
    found false h = absurd cc

    other : (b : Bool) → b ≡ false → read (pick b (counted count (next_function own) []) (refuse NotModule)) mid ≡ Ok (fs, last) → ⊥
    other true differs h = absurd cc
    other false differs h = cc

-- behind their count
pub counted_codes : (own bytes : List ℕ) (count : ℕ) (mid : List ℕ) (fs : List FunctionContents) (last : List ℕ) → read u32 bytes ≡ Ok (count, mid) → read (functions own) bytes ≡ Ok (fs, last) →
    (Codes own (length own) [] mid ≡ Ok (fs, last)) × (map (λ (f : FunctionContents). f.type_index) fs ≡ own)
counted_codes own bytes count mid fs last sized e =
    let codes = behind_count own bytes count mid fs last sized e in
    (codes, codes_indices own (length own) [] mid fs last (omega arith) refl codes)

-- ---- by the outline of a module

no_value : {A : Type 0} (a : A) → Some a ≡ None → ⊥
no_value a e = cc

pub none_typed : {A : Type 0} (g : Grammar (List A)) (P : A → Type 0) (whole : List ℕ) (at : Option ℕ) → at ≡ None → AllByRecursion P (values_at g whole at)
unfolding values_at
none_typed g P whole None none = tt
none_typed g P whole (Some at) none = absurd (no_value at none)

pub none_more : {A : Type 0} (g : Grammar (List A)) (whole : List ℕ) (at : Option ℕ) (before : List A) (count : ℕ) → at ≡ None → count ≡ length before → count ≡ length (before ++ values_at g whole at)
unfolding values_at
none_more g whole None before count none is = omega (arith, is, length-append before [])
none_more g whole (Some at) before count none is = absurd (no_value at none)

-- what stands there
pub values_there : {A : Type 0} (g : Grammar (List A)) (whole : List ℕ) (at : Option ℕ) (n : ℕ) → at ≡ Some n → IsThere g whole at → (values : List A) × (rest : List ℕ) × (read g (drop n whole) ≡ Ok (values, rest)) × (values_at g whole at ≡ values)
unfolding values_at IsThere
values_there g whole None n some there = absurd (no_value n (sym some))
values_there g whole (Some at) n some there =
    let same : at ≡ n = same_Some at n some in
    (there.0, there.1, ap (λ (k : ℕ). read g (drop k whole)) (sym same) ∙ there.2, ap values_of there.2)

pub count_there : {A : Type 0} (g : Grammar A) (whole : List ℕ) (at : Option ℕ) (n count : ℕ) (mid : List ℕ) → at ≡ Some n → read u32 (drop n whole) ≡ Ok (count, mid) → IsThere (vector g) whole at → length (values_at (vector g) whole at) ≡ count
count_there g whole at n count mid some sized there =
    let v = values_there (vector g) whole at n some there in
    ap (λ (xs : List _). length xs) v.3 ∙ vector_length g (drop n whole) count mid v.0 v.1 sized v.2

-- how many there are, imported and not
pub counted_in_all : {A : Type 0} (g : Grammar A) (whole : List ℕ) (at : Option ℕ) (n count : ℕ) (mid : List ℕ) (imported : List A) (before : ℕ) → at ≡ Some n → read u32 (drop n whole) ≡ Ok (count, mid) → before ≡ length imported → IsThere (vector g) whole at →
    before + count ≡ length (imported ++ values_at (vector g) whole at)
counted_in_all g whole at n count mid imported before some sized is there =
    omega (arith, is, count_there g whole at n count mid some sized there, length-append imported (values_at (vector g) whole at))

pub sum_is : (r : Option ℕ) (P : Type 0) (sum total : ℕ) → SomeIff r P sum → sum ≡ total → IfSome r (λ n. n ≡ total)
sum_is None P sum total answer same = tt
sum_is (Some n) P sum total answer same = answer.1 ∙ same

module _ (whole : List ℕ) (o : Outline) (outline : IsOutline whole o) where
  pub judged_codes : (types : List Signature) (indices : List ℕ) (globals : List GlobalType) (memories imported : ℕ) (own : List ℕ) (at count : ℕ) (mid : List ℕ) (r : Result (Unit {0}) ValidFault) →
      types ≡ (contents_in whole o).types → indices ≡ filter_map imported_function (contents_in whole o).imports ++ indices_in whole o → globals ≡ map (λ (g : GlobalContents). g.type) (contents_in whole o).globals →
      memories ≡ length (filter_map imported_memory (contents_in whole o).imports ++ (contents_in whole o).memories) → imported ≡ length (filter_map imported_function (contents_in whole o).imports) → own ≡ indices_in whole o →
      o.codes ≡ Some at → read u32 (drop at whole) ≡ Ok (count, mid) →
      ((fs : List FunctionContents) (last : List ℕ) → Codes own (length own) [] mid ≡ Ok (fs, last) → JudgesAll (record { functions = map (signature_in types) indices; globals = globals; memories = memories }) types imported fs r) →
      JudgesAll (outside_by (contents_in whole o)) (contents_in whole o).types (length (filter_map imported_function (contents_in whole o).imports)) (contents_in whole o).functions r
  judged_codes types indices globals memories imported own at count mid r types_are indices_are globals_are memories_are imported_are own_is some sized judges =
      let c = contents_in whole o in
      let v = values_there (functions (indices_in whole o)) whole o.codes at some outline.codes in
      let k = counted_codes (indices_in whole o) (drop at whole) count mid v.0 v.1 sized v.2 in
      let own_codes : Codes own (length own) [] mid ≡ Ok (v.0, v.1) = ap (λ (ns : List ℕ). Codes ns (length ns) [] mid) own_is ∙ k.0 in
      let first = judges v.0 v.1 own_codes in
      let functions_are : c.functions ≡ v.0 = v.3 in
      let types_of_codes : map (λ (f : FunctionContents). f.type_index) c.functions ≡ indices_in whole o = ap (map (λ (f : FunctionContents). f.type_index)) functions_are ∙ k.1 in
      let all_indices : indices ≡ filter_map imported_function c.imports ++ map (λ (f : FunctionContents). f.type_index) c.functions = indices_are ∙ ap (λ (ns : List ℕ). filter_map imported_function c.imports ++ ns) (sym types_of_codes) in
      let outside_is : record { functions = map (signature_in types) indices; globals = globals; memories = memories } ≡ outside_by c = outside_from c types indices globals memories types_are all_indices globals_are memories_are in
      let second = subst (λ (x : Outside). JudgesAll x types imported v.0 r) outside_is first in
      let third = subst (λ (x : List Signature). JudgesAll (outside_by c) x imported v.0 r) types_are second in
      let fourth = subst (λ (x : ℕ). JudgesAll (outside_by c) c.types x v.0 r) imported_are third in
      subst (λ (x : List FunctionContents). JudgesAll (outside_by c) c.types (length (filter_map imported_function c.imports)) x r) (sym functions_are) fourth
    where
      outside_from : (c : Contents) (types : List Signature) (indices : List ℕ) (globals : List GlobalType) (memories : ℕ) → types ≡ c.types → indices ≡ filter_map imported_function c.imports ++ map (λ (f : FunctionContents). f.type_index) c.functions →
          globals ≡ map (λ (g : GlobalContents). g.type) c.globals → memories ≡ length (filter_map imported_memory c.imports ++ c.memories) →
          record { functions = map (signature_in types) indices; globals = globals; memories = memories } ≡ outside_by c
      outside_from c types indices globals memories a b d e = rw (a, b, d, e) refl
