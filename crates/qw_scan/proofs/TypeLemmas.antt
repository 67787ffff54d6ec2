-- The types that a vector of them stands for, by its octets.
use Rattle.std.proofs.Common.{◌≡◌, ℕ, zero, suc, ◌+◌, ◌-◌, ◌<◌, ◌≤◌, Bool, true, false, cond, List, [], ◌∷◌, ◌++◌, length, get_or, map, take, drop, Option, Some, Ok, Err, refl, sym, ap, ap₂, subst, ◌∙◌, append_assoc, arith}
use Rattle.std.specs.Prelude.{◌↔◌, All, IsTrue, slice_get, unwrap_or}
use Rattle.std.specs.List.{AllByRecursion}
use Rattle.std.specs.Option.{option_map}
use Rattle.std.proofs.lemmas.Option.{slice_get-map, slice_get_within, get_or_from_slice_get}
use Rattle.std.proofs.lemmas.List.Elements.{All-get_or, All-from_recursion, recursion_from_All}
use Rattle.std.specs.Prelude.{◌==◌}
use Rattle.std.proofs.lemmas.List.{append-nil, drop_all, drop_more}
use Rattle.qw_octet_grammar.specs.declared.fault.BinaryFault.TheVariants.{NotModule, OutOfProfile}
use Rattle.qw_octet_grammar.specs.declared.fault.What.TheVariants.{Float}
use Rattle.qw_octet_grammar.specs.Grammar.{is, refuse, after, settle, pick}
use Rattle.qw_octet_grammar.specs.Numbers.{u32}
use Rattle.qw_octet_grammar.specs.Vectors.{counted, one_more, vector}
use Rattle.qw_octet_grammar.specs.Reading.{◌>>=◌, read}
use Rattle.qw_octet_grammar.proofs.GrammarLaws.{bind_ok, ok_is}
use Rattle.qw_octet_grammar.proofs.Loops.{tail_of}
use Rattle.qw_module.specs.declared.instruction.ValType.{ValType}
use Rattle.qw_module.specs.declared.instruction.ValType.TheVariants.{I32, I64}
use Rattle.qw_module.specs.Typing.{Signature}
use Rattle.qw_binary.specs.Types.{val_type, func_type}
use Rattle.qw_scan.specs.Inner.TypesAt.{type_by, no_signature, signature_by, signature_at, IsTypeAt}
use Rattle.qw_scan.specs.Inner.Tables.{signature_in}
use Rattle.qw_scan.specs.Inner.Parts.{HasOneResult}

-- an octet that is read as a type
module _ (bytes : List ℕ) (x : ValType) (mid : List ℕ) where
  of_tests : (p q r s : Bool) → read (settle (cond p (Ok I32) (cond q (Ok I64) (cond r (Err (OutOfProfile Float)) (cond s (Err (OutOfProfile Float)) (Err NotModule)))))) bytes ≡ Ok (x, mid) →
      (cond p I32 I64 ≡ x) × (bytes ≡ mid)
  unfolding read
  of_tests true q r s e = let z = ok_is (I32, bytes) (x, mid) e in (ap (λ w. w.0) z, ap (λ w. w.1) z)
  of_tests false true r s e = let z = ok_is (I64, bytes) (x, mid) e in (ap (λ w. w.0) z, ap (λ w. w.1) z)
  of_tests false false true s e = absurd cc
  of_tests false false false true e = absurd cc
  of_tests false false false false e = absurd cc

  type-is : (b : ℕ) → read val_type (b ∷ bytes) ≡ Ok (x, mid) → (type_by b ≡ x) × (bytes ≡ mid)
  unfolding read
  type-is b e = of_tests (b == 0x7F) (b == 0x7E) (b == 0x7D) (b == 0x7C) e

counted-types : (n : ℕ) (before : List ValType) (bytes : List ℕ) (types : List ValType) (rest : List ℕ) → read (counted n (one_more val_type) before) bytes ≡ Ok (types, rest) →
    (n ≤ length bytes) × (before ++ map type_by (take n bytes) ≡ types) × (drop n bytes ≡ rest)
unfolding read counted
counted-types zero before bytes types rest e =
    let q = ok_is (before, bytes) (types, rest) e in
    (omega arith, append-nil before ∙ ap (λ z. z.0) q, ap (λ z. z.1) q)
counted-types (suc n) before [] types rest e = absurd cc
counted-types (suc n) before (b ∷ bytes) types rest e =
    let a = bind_ok (read (one_more val_type before) (b ∷ bytes)) (λ y. read (counted n (one_more val_type) y.0) y.1) (types, rest) e in
    let o = bind_ok (read val_type (b ∷ bytes)) (λ y. Ok (before ++ y.0 ∷ [], y.1)) a.0 a.1 in
    let q = ok_is (before ++ o.0.0 ∷ [], o.0.1) a.0 o.2 in
    let t = type-is bytes o.0.0 o.0.1 b o.1 in
    let same : bytes ≡ a.0.1 = t.1 ∙ ap (λ z. z.1) q in
    let r = counted-types n a.0.0 a.0.1 types rest a.2 in
    let one : before ++ type_by b ∷ [] ≡ a.0.0 = ap (λ (x : ValType). before ++ x ∷ []) t.0 ∙ ap (λ z. z.0) q in (
      omega (arith, r.0, ap (λ (bs : List ℕ). length bs) same),
      sym (append_assoc before (type_by b ∷ []) (map type_by (take n bytes))) ∙ ap₂ (λ (ts : List ValType) (bs : List ℕ). ts ++ map type_by (take n bs)) one same ∙ r.1,
      ap (λ (bs : List ℕ). drop n bs) same ∙ r.2,
    )

-- behind its count
pub vector_types : (bytes : List ℕ) (n : ℕ) (mid : List ℕ) (types : List ValType) (rest : List ℕ) → read u32 bytes ≡ Ok (n, mid) → read (vector val_type) bytes ≡ Ok (types, rest) →
    (n ≤ length mid) × (map type_by (take n mid) ≡ types) × (drop n mid ≡ rest)
unfolding read
vector_types bytes n mid types rest h e =
    counted-types n [] mid types rest (sym (ap (λ r. r >>= λ y. read (counted y.0 (one_more val_type) []) y.1) h) ∙ e)

-- the two vectors of a function's type
abbrev pub HasVectors : Signature → List ℕ → Type 0
HasVectors s vectors = (mid last : List ℕ) × (read (vector val_type) vectors ≡ Ok (s.params, mid)) × (read (vector val_type) mid ≡ Ok (s.results, last))

pub type_vectors : (b : ℕ) (vectors : List ℕ) (s : Signature) (rest : List ℕ) → read func_type (b ∷ vectors) ≡ Ok (s, rest) → HasVectors s vectors
unfolding read
type_vectors b vectors s rest = of_test (b == 0x60)
  where
    of_test : (p : Bool) →
        read (pick p (after (vector val_type) (λ params. after (vector val_type) (λ results. is (record { params = params; results = results })))) (refuse NotModule)) vectors ≡ Ok (s, rest) → HasVectors s vectors
    of_test false e = absurd cc
    of_test true e =
        let a = bind_ok (read (vector val_type) vectors) (λ y. read (vector val_type) y.1 >>= λ z. Ok (record { params = y.0; results = z.0 }, z.1)) (s, rest) e in
        let o = bind_ok (read (vector val_type) a.0.1) (λ z. Ok (record { params = a.0.0; results = z.0 }, z.1)) (s, rest) a.2 in
        let q = ok_is (record { params = a.0.0; results = o.0.0 }, o.0.1) (s, rest) o.2 in
        let params : a.0.0 ≡ s.params = ap (λ z. z.0.params) q in
        let results : o.0.0 ≡ s.results = ap (λ z. z.0.results) q in
        (a.0.1, o.0.1, subst (λ (ts : List ValType). read (vector val_type) vectors ≡ Ok (ts, a.0.1)) params a.1, subst (λ (ts : List ValType). read (vector val_type) a.0.1 ≡ Ok (ts, o.0.1)) results o.1)

-- the type of a function whose two vectors are read one after the other
abbrev pub typed_by : List ValType → List ValType → Signature
typed_by params results = record { params = params; results = results }

-- what stands where a vector is read, and what is left
abbrev pub StandsFor : List ℕ → List ℕ → List ℕ → Type 0
StandsFor bytes found left = (types : List ValType) (rest : List ℕ) → read (vector val_type) bytes ≡ Ok (types, rest) → (map type_by found ≡ types) × (left ≡ rest)

pub type_again : (octets params mid results last : List ℕ) (s : Signature) (rest : List ℕ) → 1 ≤ length octets → StandsFor (take (length octets - 1) (drop 1 octets)) params mid → StandsFor mid results last →
    read func_type octets ≡ Ok (s, rest) → typed_by (map type_by params) (map type_by results) ≡ s
type_again [] params mid results last s rest long first second e = absurd (omega (arith, long))
type_again (b ∷ vectors) params mid results last s rest long first second e =
    let v = type_vectors b vectors s rest e in
    let f = first s.params v.0 (ap (λ (bs : List ℕ). read (vector val_type) bs) (tail_of b vectors) ∙ v.2) in
    let g = second s.results v.1 (ap (λ (bs : List ℕ). read (vector val_type) bs) f.1 ∙ v.3) in
    ap₂ typed_by f.0 g.0

-- ---- the type of an index

abbrev pub IsReadAs : List ℕ → Signature → Type 0
IsReadAs bytes found = (s : Signature) (rest : List ℕ) → read func_type bytes ≡ Ok (s, rest) → found ≡ s

at_offset : (octets : List ℕ) (offset : ℕ) (found : Signature) → IsTypeAt octets offset → IsReadAs (drop offset octets) found → signature_at octets offset ≡ found
unfolding signature_at IsTypeAt
at_offset octets offset found type same = ap signature_by type.2 ∙ sym (same type.0 type.1 type.2)

pub got_type : (octets offsets : List ℕ) (index offset : ℕ) (found : Signature) → All (IsTypeAt octets) offsets → slice_get offsets index ≡ Some offset → IsReadAs (drop offset octets) found →
    slice_get (map (signature_at octets) offsets) index ≡ Some found
got_type octets offsets index offset found are there same =
    let type : IsTypeAt octets offset =
    subst (IsTypeAt octets) (get_or_from_slice_get offsets index offset offset there) (All-get_or (IsTypeAt octets) offsets index offset (slice_get_within offsets index offset there) are) in
    slice_get-map (signature_at octets) offsets index ∙ ap (option_map (signature_at octets)) there ∙ ap (λ (s : Signature). Some s) (at_offset octets offset found type same)

-- the type of the function of an index
pub callee_type : (types : List Signature) (functions : List ℕ) (index type : ℕ) (found : Signature) → slice_get functions index ≡ Some type → slice_get types type ≡ Some found →
    slice_get (map (signature_in types) functions) index ≡ Some found
callee_type types functions index type found there found_is =
    slice_get-map (signature_in types) functions index ∙ ap (option_map (signature_in types)) there ∙ ap (λ (o : Option Signature). Some (unwrap_or o no_signature)) found_is

-- ---- at most one result of each

abbrev pub HaveOneResult : List ℕ → (offsets : List ℕ) → Type 0
HaveOneResult octets offsets = AllByRecursion HasOneResult (map (signature_at octets) offsets)

-- those from an index on decide
abbrev pub LeftDecide : List ℕ → (offsets : List ℕ) → (i : ℕ) → Type 0
LeftDecide octets offsets i = HaveOneResult octets (drop i offsets) ↔ HaveOneResult octets offsets

module _ (octets offsets : List ℕ) (i : ℕ) where
  pub one_result_all : length offsets ≤ i → LeftDecide octets offsets i → IsTrue true ↔ All HasOneResult (map (signature_at octets) offsets)
  one_result_all le decide =
      (λ t. All-from_recursion HasOneResult (map (signature_at octets) offsets) (decide.0 (subst (HaveOneResult octets) (sym (drop_all i offsets le)) tt)), λ all. refl)

  module _ (found : Signature) (are : All (IsTypeAt octets) offsets) (lt : i < length offsets) (reads : IsReadAs (drop (get_or offsets i 0) octets) found) where
    found_there : signature_at octets (get_or offsets i 0) ≡ found
    found_there = at_offset octets (get_or offsets i 0) found (All-get_or (IsTypeAt octets) offsets i 0 lt are) reads

    pub one_result_more : HasOneResult found → LeftDecide octets offsets i → LeftDecide octets offsets (i + 1)
    one_result_more one decide =
        let more = drop_more offsets i 0 lt in
        (λ later. decide.0 (subst (HaveOneResult octets) (sym more) (subst HasOneResult (sym found_there) one, later)), λ all. (subst (HaveOneResult octets) more (decide.1 all)).1)

    pub one_result_not : 1 < length found.results → LeftDecide octets offsets i → IsTrue false ↔ All HasOneResult (map (signature_at octets) offsets)
    one_result_not many decide = (
      λ f. absurd cc,
      λ all. absurd (
          omega (
            arith,
            many,
            subst HasOneResult found_there (subst (HaveOneResult octets) (drop_more offsets i 0 lt) (decide.1 (recursion_from_All HasOneResult (map (signature_at octets) offsets) all))).0,
          )
          ),
    )
