-- The codes of functions, read one after another, and what the check of each answers.
use Rattle.std.proofs.Common.{◌≡◌, ℕ, zero, suc, ◌+◌, ◌-◌, ◌<◌, ◌≤◌, Bool, true, false, cond, List, [], ◌∷◌, ◌++◌, length, get_or, reverse, take, drop, Option, Some, slice_get, Result, Ok, Err, refl, sym, ap, subst, ◌∙◌, append_assoc, arith, length-append}
use Rattle.std.specs.Prelude.{unwrap_or, nat_lt, OnOk}
use Rattle.std.specs.List.{AllByRecursion}
use Rattle.std.proofs.lemmas.List.{append-nil, take_at}
use Rattle.qw_octet_grammar.specs.declared.fault.BinaryFault.{BinaryFault}
use Rattle.qw_octet_grammar.specs.declared.fault.BinaryFault.TheVariants.{NotModule}
use Rattle.qw_octet_grammar.specs.Numbers.{u32}
use Rattle.qw_octet_grammar.specs.Vectors.{counted}
use Rattle.qw_octet_grammar.specs.Reading.{◌>>=◌, filled, read}
use Rattle.qw_octet_grammar.proofs.GrammarLaws.{bind_ok, ok_is}
use Rattle.qw_octet_grammar.proofs.Loops.{begin_counted, done_counted}
use Rattle.qw_module.specs.declared.instruction.ValType.{ValType}
use Rattle.qw_module.specs.declared.module.Locals.{Locals}
use Rattle.qw_module.specs.Syntax.{Sequences, code_of}
use Rattle.qw_module.specs.Typing.{Signature, Outside}
use Rattle.qw_module.specs.Places.{Typing, tokens_of, IsTypable, IsRefusedAt}
use Rattle.qw_module.specs.Validity.{declared_types}
use Rattle.qw_binary.specs.Contents.{FunctionContents}
use Rattle.qw_binary.specs.Instructions.{expression}
use Rattle.qw_binary.specs.Sections.{locals, code, next_function}
use Rattle.qw_binary.proofs.Apart.{joined}
use Rattle.qw_valid.specs.declared.valid.ValidFault.{ValidFault}
use Rattle.qw_scan.specs.declared.body.BodyFault.{BodyFault}
use Rattle.qw_scan.specs.declared.body.BodyFault.TheVariants as body
use Rattle.qw_scan.specs.Inner.TypesAt.{no_signature}
use Rattle.qw_scan.specs.Inner.Tables.{signature_in}
use Rattle.qw_scan.specs.Inner.Bodies.{typing_by, IsTyped, Judges, JudgesAll, code_held, fault_in}

-- ---- the code of one function

-- its locals, and then its body
abbrev pub HoldsCode : ℕ → List ℕ → FunctionContents → Type 0
HoldsCode index octets f = (mid last : List ℕ) × (read locals octets ≡ Ok (f.locals, mid)) × (read expression mid ≡ Ok (f.body, last)) × (f.type_index ≡ index)

abbrev coded_by : ℕ → List Locals → Sequences → FunctionContents
coded_by index runs body = record { type_index = index; locals = runs; body = body }

pub code_parts : (index : ℕ) (octets : List ℕ) (f : FunctionContents) (rest : List ℕ) → read (code_held index) octets ≡ Ok (f, rest) → HoldsCode index octets f
unfolding read
code_parts index octets f rest e =
    let a = bind_ok (read locals octets) (λ y. read expression y.1 >>= λ z. Ok (coded_by index y.0 z.0, z.1)) (f, rest) e in
    let b = bind_ok (read expression a.0.1) (λ z. Ok (coded_by index a.0.0 z.0, z.1)) (f, rest) a.2 in
    let q = ok_is (coded_by index a.0.0 b.0.0, b.0.1) (f, rest) b.2 in
    let same : coded_by index a.0.0 b.0.0 ≡ f = ap (λ z. z.0) q in (
      a.0.1,
      b.0.1,
      subst (λ (g : FunctionContents). read locals octets ≡ Ok (g.locals, a.0.1)) same a.1,
      subst (λ (g : FunctionContents). read expression a.0.1 ≡ Ok (g.body, b.0.1)) same b.1,
      sym (ap (λ (g : FunctionContents). g.type_index) same),
    )

-- the typing of a body, by what was found
pub same_typing : (outside : Outside) (types : List Signature) (f : FunctionContents) (index : ℕ) (signature : Signature) (params declared results : List ValType) → f.type_index ≡ index → slice_get types index ≡ Some signature →
    params ≡ signature.params → declared ≡ declared_types f.locals → results ≡ reverse signature.results →
    record { outside = outside; locals = params ++ declared; results = results } ≡ typing_by outside types f
same_typing outside types f index signature params declared results at found a b c =
    let same : signature_in types f.type_index ≡ signature = ap (signature_in types) at ∙ ap (λ (o : Option Signature). unwrap_or o no_signature) found in
    rw (a, b, c, same) refl

-- what its check answers
pub judged : {A : Type 0} (r : Result A BodyFault) (outside : Outside) (types : List Signature) (f : FunctionContents) (g : Typing) → g ≡ typing_by outside types f →
    OnOk r (IsTypable g (tokens_of (code_of f.body))) → ((at : ℕ) → r ≡ Err (body.At at) → IsRefusedAt g (tokens_of (code_of f.body)) at) → Judges outside types f r
judged (Ok x) outside types f g same typable refused = subst (λ (h : Typing). IsTypable h (tokens_of (code_of f.body))) same typable
judged (Err (body.At at)) outside types f g same typable refused = subst (λ (h : Typing). IsRefusedAt h (tokens_of (code_of f.body)) at) same (refused at refl)
judged (Err body.NoMemory) outside types f g same typable refused = tt

abbrev no_code : Result (FunctionContents × List ℕ) BinaryFault
no_code = Err NotModule

abbrev this_code : FunctionContents × List ℕ → Result (FunctionContents × List ℕ) BinaryFault
this_code y = Ok y

-- behind its size
filled_parts : (size : ℕ) (mid : List ℕ) (y : FunctionContents × List ℕ) (f : FunctionContents) (rest : List ℕ) → filled size false mid y ≡ Ok (f, rest) → (y.0 ≡ f) × (drop size mid ≡ rest)
filled_parts size mid y f rest = by_tests (nat_lt (length mid) size) (nat_lt 0 (length y.1))
  where
    by_tests : (b c : Bool) → cond b no_code (cond c no_code (this_code (y.0, drop size mid))) ≡ this_code (f, rest) → (y.0 ≡ f) × (drop size mid ≡ rest)
    by_tests true c e = absurd cc
    by_tests false true e = absurd cc
    by_tests false false e = let q = ok_is (y.0, drop size mid) (f, rest) e in (ap (λ z. z.0) q, ap (λ z. z.1) q)

pub sized_code : (index : ℕ) (octets : List ℕ) (size : ℕ) (mid : List ℕ) (f : FunctionContents) (rest : List ℕ) → read u32 octets ≡ Ok (size, mid) → read (code index) octets ≡ Ok (f, rest) →
    (left : List ℕ) × (read (code_held index) (take size mid) ≡ Ok (f, left)) × (drop size mid ≡ rest)
unfolding read
sized_code index octets size mid f rest sized e =
    let whole : (read (code_held index) (take size mid) >>= filled size false mid) ≡ Ok (f, rest) = sym (ap (λ (r : Result (ℕ × List ℕ) BinaryFault). r >>= λ y. read (code_held index) (take y.0 y.1) >>= filled y.0 false y.1) sized) ∙ e in
    let a = bind_ok (read (code_held index) (take size mid)) (filled size false mid) (f, rest) whole in
    let q = filled_parts size mid a.0 f rest a.2 in
    (a.0.1, a.1 ∙ ap (λ (g : FunctionContents). Ok (g, a.0.1)) q.0, q.1)

-- ---- the codes of all functions

abbrev pub Codes : List ℕ → ℕ → List FunctionContents → List ℕ → Result (List FunctionContents × List ℕ) BinaryFault
Codes own n before bytes = read (counted n (next_function own) before) bytes

abbrev put_behind : List FunctionContents → FunctionContents × List ℕ → Result (List FunctionContents × List ℕ) BinaryFault
put_behind before y = Ok (before ++ y.0 ∷ [], y.1)

-- the first of those that are left
pub one_code : (own : List ℕ) (n : ℕ) (before : List FunctionContents) (bytes : List ℕ) (fs : List FunctionContents) (last : List ℕ) → Codes own (suc n) before bytes ≡ Ok (fs, last) →
    (f : FunctionContents) × (mid : List ℕ) × (read (code (get_or own (length before) 0)) bytes ≡ Ok (f, mid)) × (Codes own n (before ++ f ∷ []) mid ≡ Ok (fs, last))
unfolding read counted
one_code own n before bytes fs last e =
    let index = get_or own (length before) 0 in
    let a = bind_ok (read (code index) bytes >>= put_behind before) (λ y. Codes own n y.0 y.1) (fs, last) e in
    let b = bind_ok (read (code index) bytes) (put_behind before) a.0 a.1 in
    let q = ok_is (before ++ b.0.0 ∷ [], b.0.1) a.0 b.2 in
    (b.0.0, b.0.1, b.1, ap (λ (y : List FunctionContents × List ℕ). Codes own n y.0 y.1) q ∙ a.2)

all_behind : (own : List ℕ) (n : ℕ) (before : List FunctionContents) (bytes : List ℕ) (fs : List FunctionContents) (last : List ℕ) → Codes own n before bytes ≡ Ok (fs, last) → (more : List FunctionContents) × (fs ≡ before ++ more)
unfolding read counted
all_behind own zero before bytes fs last e = ([], sym (ap (λ z. z.0) (ok_is (before, bytes) (fs, last) e)) ∙ sym (append-nil before))
all_behind own (suc n) before bytes fs last e =
    let o = one_code own n before bytes fs last e in
    let m = all_behind own n (before ++ o.0 ∷ []) o.1 fs last o.3 in
    (o.0 ∷ m.0, m.1 ∙ append_assoc before (o.0 ∷ []) m.0)

module _ (outside : Outside) (types : List Signature) (own octets : List ℕ) where
  -- so many are typed, and these octets are left
  pub record AreTypedTo (i : ℕ) (rest : List ℕ) (fs : List FunctionContents) (last : List ℕ) : Type 0 where
    pub before : List FunctionContents
    pub count : length before ≡ i
    pub left : Codes own (length own - i) before rest ≡ Ok (fs, last)
    pub typed : AllByRecursion (IsTyped outside types) before

  abbrev pub TypedTo : ℕ → List ℕ → Type 0
  TypedTo i rest = (fs : List FunctionContents) (last : List ℕ) → Codes own (length own) [] octets ≡ Ok (fs, last) → AreTypedTo i rest fs last

  pub typed_first : TypedTo 0 octets
  typed_first fs last e = record { before = []; count = refl; left = begin_counted (next_function own) (length own) [] octets ∙ e; typed = tt }

  pub typed_all : (i : ℕ) (rest : List ℕ) → length own ≤ i → TypedTo i rest → (fs : List FunctionContents) (last : List ℕ) → Codes own (length own) [] octets ≡ Ok (fs, last) → AllByRecursion (IsTyped outside types) fs
  typed_all i rest le typed fs last e =
      let t = typed fs last e in
      let d = done_counted (next_function own) (length own) i t.before rest (Ok (fs, last)) le t.left in
      subst (AllByRecursion (IsTyped outside types)) (sym (ap (λ z. z.0) (ok_is (fs, last) (t.before, rest) d))) t.typed

  module _ (i index : ℕ) (rest : List ℕ) (lt : i < length own) (is : index ≡ get_or own i index) (so_far : TypedTo i rest) where
    -- the function that stands there
    record IsNext (fs : List FunctionContents) (last : List ℕ) : Type 0 where
      pub before : List FunctionContents
      pub f : FunctionContents
      pub mid : List ℕ
      pub count : length before ≡ i
      pub reads : read (code index) rest ≡ Ok (f, mid)
      pub left : Codes own (length own - (i + 1)) (before ++ f ∷ []) mid ≡ Ok (fs, last)
      pub typed : AllByRecursion (IsTyped outside types) before

    next : (fs : List FunctionContents) (last : List ℕ) → Codes own (length own) [] octets ≡ Ok (fs, last) → IsNext fs last
    next fs last e =
        let t = so_far fs last e in
        let k : length own - i ≡ suc (length own - (i + 1)) = omega (arith, lt) in
        let o = one_code own (length own - (i + 1)) t.before rest fs last (sym (ap (λ (n : ℕ). Codes own n t.before rest) k) ∙ t.left) in
        let here : get_or own (length t.before) 0 ≡ get_or own i 0 = ap (λ (n : ℕ). get_or own n 0) t.count in
        let same : get_or own (length t.before) 0 ≡ index = here ∙ any_default own i 0 index lt ∙ sym is in
        record { before = t.before; f = o.0; mid = o.1; count = t.count; reads = subst (λ (n : ℕ). read (code n) rest ≡ Ok (o.0, o.1)) same o.2; left = o.3; typed = t.typed }
      where
        any_default : (xs : List ℕ) (k c d : ℕ) → k < length xs → get_or xs k c ≡ get_or xs k d
        any_default [] k c d lt = absurd (omega (arith, lt))
        any_default (x ∷ xs) zero c d lt = refl
        any_default (x ∷ xs) (suc k) c d lt = any_default xs k c d (omega (arith, lt))

    module _ {A : Type 0} (r : Result A BodyFault) (judges : (f : FunctionContents) (mid : List ℕ) → read (code index) rest ≡ Ok (f, mid) → Judges outside types f r) where
      pub typed_next : (x : A) (after : List ℕ) → r ≡ Ok x → ((f : FunctionContents) (mid : List ℕ) → read (code index) rest ≡ Ok (f, mid) → after ≡ mid) → TypedTo (i + 1) after
      typed_next x after ok behind fs last e =
          let n = next fs last e in
          let typed_too : IsTyped outside types n.f = subst (Judges outside types n.f) ok (judges n.f n.mid n.reads) in
          record {
            before = n.before ++ n.f ∷ [];
            count = omega (arith, n.count, length-append n.before (n.f ∷ []));
            left = ap (λ (bs : List ℕ). Codes own (length own - (i + 1)) (n.before ++ n.f ∷ []) bs) (behind n.f n.mid n.reads) ∙ n.left;
            typed = joined (IsTyped outside types) n.before (n.f ∷ []) n.typed (typed_too, tt);
          }

      pub fault_next : (imported : ℕ) (fault : BodyFault) (answer : ValidFault) → r ≡ Err fault → answer ≡ fault_in (imported + i) fault → (fs : List FunctionContents) (last : List ℕ) → Codes own (length own) [] octets ≡ Ok (fs, last) →
          JudgesAll outside types imported fs (Err answer)
      fault_next imported fault answer err same fs last e =
          subst (λ (v : ValidFault). JudgesAll outside types imported fs (Err v)) (sym same) (by_fault fault (subst (Judges outside types n.f) err (judges n.f n.mid n.reads)))
        where
          n : IsNext fs last
          n = next fs last e

          more : (more : List FunctionContents) × (fs ≡ (n.before ++ n.f ∷ []) ++ more)
          more = all_behind own (length own - (i + 1)) (n.before ++ n.f ∷ []) n.mid fs last n.left

          split : n.before ++ n.f ∷ more.0 ≡ fs
          split = sym (more.1 ∙ append_assoc n.before (n.f ∷ []) more.0)

          there : (before : List FunctionContents) (f : FunctionContents) (others : List FunctionContents) → slice_get (before ++ f ∷ others) (length before) ≡ Some f
          there [] f others = refl
          there (g ∷ before) f others = there before f others

          by_fault : (fault : BodyFault) → Judges {X = A} outside types n.f (Err fault) → JudgesAll outside types imported fs (Err (fault_in (imported + i) fault))
          by_fault body.NoMemory judges = tt
          by_fault (body.At at) judges = (
            i,
            n.f,
            refl,
            sym (ap (λ (gs : List FunctionContents). slice_get gs i) split) ∙ ap (λ (k : ℕ). slice_get (n.before ++ n.f ∷ more.0) k) (sym n.count) ∙ there n.before n.f more.0,
            subst (AllByRecursion (IsTyped outside types)) (sym (sym (ap (take i) split) ∙ take_at n.before (n.f ∷ more.0) i n.count)) n.typed,
            judges,
          )
