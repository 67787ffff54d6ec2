-- What a section holds stands where it was read.
use Rattle.std.proofs.Common.{◌≡◌, ℕ, zero, suc, ◌+◌, ◌<◌, ◌≤◌, Bool, true, false, cond, List, [], ◌∷◌, ◌++◌, length, take, drop, get_or, Option, Some, None, Result, Ok, Err, refl, sym, ap, subst, ◌∙◌, append_assoc, arith, length-append, ◌⊎◌, inl, inr, ⊎_elim}
use Rattle.std.specs.Prelude.{◌==◌, ◌||◌, IfSome, is_some, nat_lt}
use Rattle.std.proofs.lemmas.Bool.{cases_eq, eq-eqb, ne_eqb, lt-ltb, le-ltb, ltb-true}
use Rattle.qw_octet_grammar.specs.declared.fault.BinaryFault.{BinaryFault}
use Rattle.qw_octet_grammar.specs.declared.fault.BinaryFault.TheVariants.{NotModule, NoMemory, OutOfProfile}
use Rattle.qw_octet_grammar.specs.declared.fault.What.TheVariants as what
use Rattle.qw_octet_grammar.specs.Grammar.{Grammar, is, refuse, after, within, pick, settle}
use Rattle.qw_octet_grammar.specs.Reading.{◌>>=◌, Fails, filled, read, read_all}
use Rattle.qw_octet_grammar.specs.Numbers.{u32}
use Rattle.qw_octet_grammar.specs.Vectors.{counted, one_more, vector, name}
use Rattle.qw_octet_grammar.proofs.GrammarLaws.{bind_ok, ok_is, takes, again}
use Rattle.qw_octet_grammar.proofs.Loops.{fails_through}
use Rattle.qw_binary.specs.Types.{func_type, limits}
use Rattle.qw_binary.specs.Contents.{FunctionContents, Contents}
use Rattle.qw_binary.specs.Sections.{imports, global, export, code, next_function, functions, Sections, with_types, with_imports, with_indices, with_memories, with_globals, with_exports, with_functions, content, section_by, section, no_sections, equal}
use Rattle.qw_binary.specs.Modules.{header}
use Rattle.qw_binary.specs.Inner.Decoding.{finish, module_in}
use Rattle.qw_scan.specs.declared.outline.Outline.{Outline}
use Rattle.qw_scan.specs.Read.{mapped, passed_over}
use Rattle.qw_scan.specs.Inner.Passing.{over}
use Rattle.qw_scan.specs.Inner.Over.{type_over, global_over, export_over, content_over}
use Rattle.qw_scan.specs.Inner.Outlines.{values_of, values_at, indices_in, sections_in, contents_in, IsOutline, IsThere, StandsAt, noted}
use Rattle.qw_scan.proofs.ReadOver.{was_read, was_stuck}
use Rattle.qw_scan.proofs.SamePassing.{over_same, vector_same}
use Rattle.qw_scan.proofs.SameOver.{type_same, global_same, export_same, codes_same, content_same}

-- ---- where it stands

pub value_stands : {A : Type 0} (g : Grammar (List A)) (whole : List ℕ) (at : ℕ) (octets : List ℕ) (xs : List A) (rest : List ℕ) →
    StandsAt whole at octets → read g octets ≡ Ok (xs, rest) → values_at g whole (Some at) ≡ xs
unfolding values_at StandsAt
value_stands g whole at octets xs rest stands e =
    let t = takes g octets xs rest e in
    let there : drop at whole ≡ t.0 ++ (rest ++ stands.0) = stands.1 ∙ ap (λ (bs : List ℕ). bs ++ stands.0) t.1 ∙ append_assoc t.0 rest stands.0 in
    ap values_of (ap (λ (bs : List ℕ). read g bs) there ∙ again g xs t.0 (rest ++ stands.0) t.2)

pub was_there : {A : Type 0} (g : Grammar (List A)) (whole : List ℕ) (at : ℕ) (octets : List ℕ) (xs : List A) (rest : List ℕ) →
    StandsAt whole at octets → read g octets ≡ Ok (xs, rest) → IsThere g whole (Some at)
unfolding IsThere StandsAt
was_there g whole at octets xs rest stands e =
    let t = takes g octets xs rest e in
    let there : drop at whole ≡ t.0 ++ (rest ++ stands.0) = stands.1 ∙ ap (λ (bs : List ℕ). bs ++ stands.0) t.1 ∙ append_assoc t.0 rest stands.0 in
    (xs, rest ++ stands.0, ap (λ (bs : List ℕ). read g bs) there ∙ again g xs t.0 (rest ++ stands.0) t.2)

nowhere_there : {A : Type 0} (g : Grammar (List A)) (whole : List ℕ) (at : Option ℕ) → at ≡ None → IsThere g whole at
unfolding IsThere
nowhere_there g whole None none = tt
nowhere_there g whole (Some n) none = absurd (some-is-none none)
  where
    some-is-none : Some n ≡ None → ⊥
    some-is-none e = cc

-- ---- how many

module _ {A : Type 0} (step : List A → Grammar (List A)) (one : (before : List A) (bytes : List ℕ) (xs : List A) (rest : List ℕ) → read (step before) bytes ≡ Ok (xs, rest) → length xs ≡ length before + 1) where
  counted_length : (n : ℕ) (before : List A) (bytes : List ℕ) (xs : List A) (rest : List ℕ) → read (counted n step before) bytes ≡ Ok (xs, rest) → length xs ≡ length before + n
  unfolding read counted
  counted_length zero before bytes xs rest e =
      let same : before ≡ xs = ap (λ z. z.0) (ok_is (before, bytes) (xs, rest) e) in
      omega (arith, ap (λ (ys : List A). length ys) same)
  counted_length (suc n) before bytes xs rest e =
      let a = bind_ok (read (step before) bytes) (λ y. read (counted n step y.0) y.1) (xs, rest) e in
      omega (arith, one before bytes a.0.0 a.0.1 a.1, counted_length n a.0.0 a.0.1 xs rest a.2)

one_longer : {A : Type 0} (g : Grammar A) (before : List A) (bytes : List ℕ) (xs : List A) (rest : List ℕ) → read (one_more g before) bytes ≡ Ok (xs, rest) → length xs ≡ length before + 1
unfolding read
one_longer {A} g before bytes xs rest e =
    let a = bind_ok (read g bytes) (λ y. Ok (before ++ y.0 ∷ [], y.1)) (xs, rest) e in
    let same : before ++ a.0.0 ∷ [] ≡ xs = ap (λ z. z.0) (ok_is (before ++ a.0.0 ∷ [], a.0.1) (xs, rest) a.2) in
    omega (arith, ap (λ (ys : List A). length ys) same, length-append before (a.0.0 ∷ []))

pub vector_length : {A : Type 0} (g : Grammar A) (bytes : List ℕ) (count : ℕ) (inner : List ℕ) (xs : List A) (rest : List ℕ) → read u32 bytes ≡ Ok (count, inner) → read (vector g) bytes ≡ Ok (xs, rest) → length xs ≡ count
unfolding read
vector_length g bytes count inner xs rest h e =
    omega (arith, counted_length (one_more g) (one_longer g) count [] inner xs rest (sym (ap (λ r. r >>= λ y. read (counted y.0 (one_more g) []) y.1) h) ∙ e))

pub functions_length : (indices : List ℕ) (bytes : List ℕ) (xs : List FunctionContents) (rest : List ℕ) → read (functions indices) bytes ≡ Ok (xs, rest) → length xs ≡ length indices
unfolding read
functions_length indices bytes xs rest e =
    let a = bind_ok (read u32 bytes) (λ y. read (pick (y.0 == length indices) (counted y.0 (next_function indices) []) (refuse NotModule)) y.1) (xs, rest) e in
    ⊎_elim (λ (same : a.0.0 ≡ length indices). found a.0.0 a.0.1 (a.0.0 == length indices) a.2 ∙ same) (λ ne. absurd (other a.0.1 (a.0.0 == length indices) a.0.0 (ne_eqb a.0.0 (length indices) ne) a.2)) (cases_eq a.0.0 (length indices))
  where
    found : (n : ℕ) (mid : List ℕ) (b : Bool) → read (pick b (counted n (next_function indices) []) (refuse NotModule)) mid ≡ Ok (xs, rest) → length xs ≡ n
    found n mid true h = omega (arith, counted_length (next_function indices) (λ before. one_longer (code (get_or indices (length before) 0)) before) n [] mid xs rest h)
    found n mid false h = absurd cc

    other : (mid : List ℕ) (b : Bool) (n : ℕ) → b ≡ false → read (pick b (counted n (next_function indices) []) (refuse NotModule)) mid ≡ Ok (xs, rest) → ⊥
    other mid true n differs h = absurd cc
    other mid false n differs h = cc

-- ---- what is noted of a section

-- what is read of a section is what the outline says after it was noted
pub record IsNoted (whole : List ℕ) (o : Outline) (id at count : ℕ) (held left : List ℕ) : Type 0 where
  pub reads : read (content (sections_in whole o) id) held ≡ Ok (sections_in whole (noted o id at count), left)
  pub outline : IsOutline whole (noted o id at count)

-- no codes were read before a section that stands before theirs
no_codes : (whole : List ℕ) (o : Outline) (id : ℕ) → IsOutline whole o → o.last < id → id < 10 → o.codes ≡ None
no_codes whole o id outline below early = by_codes o.codes outline.coded
  where
    by_codes : (codes : Option ℕ) → IfSome codes (λ at. (10 ≤ o.last) × (length (contents_in whole o).functions ≡ o.own)) → codes ≡ None
    by_codes None coded = refl
    by_codes (Some at) coded = absurd (omega (arith, coded.0, below, early))

none_there : (whole : List ℕ) (g h : Grammar (List FunctionContents)) (codes : Option ℕ) → codes ≡ None → values_at g whole codes ≡ values_at h whole codes
unfolding values_at
none_there whole g h None none = refl
none_there whole g h (Some n) none = absurd (some-is-none none)
  where
    some-is-none : Some n ≡ None → ⊥
    some-is-none e = cc

module _ (whole : List ℕ) (o : Outline) (at count : ℕ) (held left inner : List ℕ) (stands : StandsAt whole at held) (outline : IsOutline whole o) (counts : read u32 held ≡ Ok (count, inner)) where
  -- a vector whose octets were passed over
  made : {A : Type 0} (g : Grammar (List A)) (make : List A → Sections) → mapped passed_over (read g held) ≡ Ok (tt, left) → read (after g (λ xs. is (make xs))) held ≡ Ok (make (values_at g whole (Some at)), left)
  unfolding read
  made g make e =
      let found = was_read (read g held) left e in
      ap (λ r. r >>= λ y. Ok (make y.0, y.1)) found.1 ∙ ap (λ xs. Ok (make xs, left)) (sym (value_stands g whole at held found.0 left stands found.1))

  now_there : {A : Type 0} (g : Grammar (List A)) → mapped passed_over (read g held) ≡ Ok (tt, left) → IsThere g whole (Some at)
  now_there g e =
      let found = was_read (read g held) left e in
      was_there g whole at held found.0 left stands found.1

  -- where there are no codes yet, there is none to count
  uncoded : (codes : Option ℕ) (P : ℕ → Type 0) → codes ≡ None → IfSome codes P
  uncoded None P none = tt
  uncoded (Some at) P none = absurd (some-is-none none)
    where
      some-is-none : Some at ≡ None → ⊥
      some-is-none e = cc

  -- before the codes, what was read before stays where it is
  before_codes : (last : ℕ) → o.codes ≡ None → (types_at imports_at memories_at globals_at exports_at : Option ℕ) → IsThere (vector func_type) whole types_at → IsThere imports whole imports_at →
      IsThere (vector limits) whole memories_at → IsThere (vector global) whole globals_at → IsThere (vector export) whole exports_at →
      IsOutline whole (record o { last = last; types = types_at; imports = imports_at; memories = memories_at; globals = globals_at; exports = exports_at })
  before_codes last none types_at imports_at memories_at globals_at exports_at types_there imports_there memories_there globals_there exports_there = record {
    own = outline.own;
    coded = uncoded o.codes _ none;
    types = types_there;
    imports = imports_there;
    indices = outline.indices;
    memories = memories_there;
    globals = globals_there;
    exports = exports_there;
    codes = outline.codes;
  }

  at_types : o.last < 1 → read (content_over o.own 1) held ≡ Ok (tt, left) → IsNoted whole o 1 at count held left
  at_types below e =
      let over_is = sym (vector_same func_type type_over type_same held) ∙ e in
      record {
        reads = made (vector func_type) (with_types (sections_in whole o)) over_is;
        outline = before_codes 1 (no_codes whole o 1 outline below (omega arith)) (Some at) o.imports o.memories o.globals o.exports (now_there (vector func_type) over_is) outline.imports outline.memories outline.globals outline.exports;
      }

  at_imports : o.last < 2 → read (content_over o.own 2) held ≡ Ok (tt, left) → IsNoted whole o 2 at count held left
  at_imports below e =
      let over_is = sym (over_same imports held) ∙ e in
      record {
        reads = made imports (with_imports (sections_in whole o)) over_is;
        outline = before_codes 2 (no_codes whole o 2 outline below (omega arith)) o.types (Some at) o.memories o.globals o.exports outline.types (now_there imports over_is) outline.memories outline.globals outline.exports;
      }

  at_memories : o.last < 5 → read (content_over o.own 5) held ≡ Ok (tt, left) → IsNoted whole o 5 at count held left
  at_memories below e =
      let over_is = sym (vector_same limits (over limits) (over_same limits) held) ∙ e in
      record {
        reads = made (vector limits) (with_memories (sections_in whole o)) over_is;
        outline = before_codes 5 (no_codes whole o 5 outline below (omega arith)) o.types o.imports (Some at) o.globals o.exports outline.types outline.imports (now_there (vector limits) over_is) outline.globals outline.exports;
      }

  at_globals : o.last < 6 → read (content_over o.own 6) held ≡ Ok (tt, left) → IsNoted whole o 6 at count held left
  at_globals below e =
      let over_is = sym (vector_same global global_over global_same held) ∙ e in
      record {
        reads = made (vector global) (with_globals (sections_in whole o)) over_is;
        outline = before_codes 6 (no_codes whole o 6 outline below (omega arith)) o.types o.imports o.memories (Some at) o.exports outline.types outline.imports outline.memories (now_there (vector global) over_is) outline.exports;
      }

  at_exports : o.last < 7 → read (content_over o.own 7) held ≡ Ok (tt, left) → IsNoted whole o 7 at count held left
  at_exports below e =
      let over_is = sym (vector_same export export_over export_same held) ∙ e in
      record {
        reads = made (vector export) (with_exports (sections_in whole o)) over_is;
        outline = before_codes 7 (no_codes whole o 7 outline below (omega arith)) o.types o.imports o.memories o.globals (Some at) outline.types outline.imports outline.memories outline.globals (now_there (vector export) over_is);
      }

  -- the indices say which functions codes are of, so there are none yet
  at_indices : o.last < 3 → read (content_over o.own 3) held ≡ Ok (tt, left) → IsNoted whole o 3 at count held left
  at_indices below e =
      let none = no_codes whole o 3 outline below (omega arith) in
      let over_is = sym (vector_same u32 (over u32) (over_same u32) held) ∙ e in
      let found = was_read (read (vector u32) held) left over_is in
      let indices = values_at (vector u32) whole (Some at) in
      let same : values_at (functions (indices_in whole o)) whole o.codes ≡ values_at (functions indices) whole o.codes = none_there whole (functions (indices_in whole o)) (functions indices) o.codes none in (
      record {
        reads = made (vector u32) (with_indices (sections_in whole o)) over_is
            ∙ ap (λ (fs : List FunctionContents). Ok (with_functions_only fs, left)) same;
        outline = record {
          own = sym (vector_length u32 held count inner found.0 left counts found.1) ∙ ap (λ (ns : List ℕ). length ns) (sym (value_stands (vector u32) whole at held found.0 left stands found.1));
          coded = uncoded o.codes _ none;
          types = outline.types;
          imports = outline.imports;
          indices = now_there (vector u32) over_is;
          memories = outline.memories;
          globals = outline.globals;
          exports = outline.exports;
          codes = nowhere_there (functions indices) whole o.codes none;
        };
      }
      )
    where
      with_functions_only : List FunctionContents → Sections
      with_functions_only fs =
          let s = sections_in whole (noted o 3 at count) in
          record s { contents = record (s.contents) { functions = fs } }

  at_codes : o.last < 10 → read (content_over o.own 10) held ≡ Ok (tt, left) → IsNoted whole o 10 at count held left
  at_codes below e =
      let over_is = sym (codes_same (indices_in whole o) o.own held outline.own) ∙ e in
      let found = was_read (read (functions (indices_in whole o)) held) left over_is in (
      record {
        reads = made (functions (indices_in whole o)) (with_functions (sections_in whole o)) over_is;
        outline = record {
          own = outline.own;
          coded = (
            omega arith,
            ap (λ (fs : List FunctionContents). length fs) (value_stands (functions (indices_in whole o)) whole at held found.0 left stands found.1)
                ∙ functions_length (indices_in whole o) held found.0 left found.1 ∙ sym outline.own,
          );
          types = outline.types;
          imports = outline.imports;
          indices = outline.indices;
          memories = outline.memories;
          globals = outline.globals;
          exports = outline.exports;
          codes = now_there (functions (indices_in whole o)) over_is;
        };
      }
      )

  no_reading : read {A = Unit {0}} (refuse NotModule) held ≡ Ok (tt, left) → ⊥
  unfolding read
  no_reading e = cc

  -- whichever it is
  pub content_noted : (id : ℕ) → o.last < id → read (content_over o.own id) held ≡ Ok (tt, left) → IsNoted whole o id at count held left
  content_noted id below e =
      one id 1 (at_types) below e (λ n1. one id 2 (at_imports) below e (λ n2. one id 3 (at_indices) below e (λ n3. one id 5 (at_memories) below e
      (λ n5. one id 6 (at_globals) below e (λ n6. one id 7 (at_exports) below e (λ n7. one id 10 (at_codes) below e (λ n10. absurd (none id n1 n2 n3 n5 n6 n7 n10 e))))))))
    where
      one : (id k : ℕ) → (o.last < k → read (content_over o.own k) held ≡ Ok (tt, left) → IsNoted whole o k at count held left) → o.last < id → read (content_over o.own id) held ≡ Ok (tt, left) →
          ((id == k) ≡ false → IsNoted whole o id at count held left) → IsNoted whole o id at count held left
      one id k here below e other =
          ⊎_elim
          (λ (same : id ≡ k). subst (λ (n : ℕ). IsNoted whole o n at count held left) (sym same) (here (omega (arith, below, same)) (ap (λ (n : ℕ). read (content_over o.own n) held) (sym same) ∙ e)))
          (λ ne. other (ne_eqb id k ne)) (cases_eq id k)

      none : (id : ℕ) → (id == 1) ≡ false → (id == 2) ≡ false → (id == 3) ≡ false → (id == 5) ≡ false → (id == 6) ≡ false → (id == 7) ≡ false → (id == 10) ≡ false →
          read (content_over o.own id) held ≡ Ok (tt, left) → ⊥
      none id n1 n2 n3 n5 n6 n7 n10 e = no_reading (rw (n1, n2, n3, n5, n6, n7, n10) at e)

-- ---- a section

abbrev placed : ℕ → Result ℕ BinaryFault
placed id = Ok id

section_order : (last id kind : ℕ) → section_by last id ≡ Ok kind → (id ≡ kind) × (last < kind)
section_order last id kind e = by_tests (id == 4) (id == 8) (id == 9) (id == 11) (nat_lt 11 id) (nat_lt last id) refl e
  where
    by_tests : (a b c d f g : Bool) → nat_lt last id ≡ g →
        cond a (Err (OutOfProfile what.Table)) (cond b (Err (OutOfProfile what.Start)) (cond c (Err (OutOfProfile what.Element)) (cond d (Err (OutOfProfile what.DataSection)) (cond f (Err NotModule) (cond g (placed id) (Err NotModule)))))) ≡ placed kind →
        (id ≡ kind) × (last < kind)
    by_tests false false false false false true lt e =
        let same = ok_is id kind e in
        (same, omega (arith, ltb-true last id lt, same))
    by_tests _ _ _ _ _ _ lt e = absurd cc

filled_all : {A : Type 0} (n : ℕ) (bytes left : List ℕ) (x : A) → n ≤ length bytes → length left ≡ 0 → filled n false bytes (x, left) ≡ Ok (x, drop n bytes)
filled_all n bytes left x long none =
    let enough : nat_lt (length bytes) n ≡ false = le-ltb (length bytes) n long in
    let all : nat_lt 0 (length left) ≡ false = le-ltb 0 (length left) (omega (arith, none)) in
    rw (enough, all) refl

section_reads : (s t : Sections) (id kind size : ℕ) (octets rest held left behind : List ℕ) → (id == 0) ≡ false → section_by s.last id ≡ Ok kind → read u32 octets ≡ Ok (size, rest) → held ≡ take size rest → size ≤ length rest → length left ≡ 0 → behind ≡ drop size rest →
    read (content s kind) held ≡ Ok (t, left) → read (section s id) octets ≡ Ok (t, behind)
unfolding read
section_reads s t id kind size octets rest held left behind others placed_is sized cut long none tail e =
    ap (λ (b : Bool). read (pick b (after u32 (λ n. within n true (after name (λ text. is s)))) (after (settle (section_by s.last id)) (λ k. after u32 (λ n. within n false (content s k))))) octets) others
    ∙ ap (λ (r : Result ℕ BinaryFault). read (settle r) octets >>= λ y. read u32 y.1 >>= λ z. read (within z.0 false (content s y.0)) z.1) placed_is
    ∙ ap (λ r. r >>= λ z. read (within z.0 false (content s kind)) z.1) sized
    ∙ ap (λ (bs : List ℕ). read (content s kind) bs >>= filled size false rest) (sym cut)
    ∙ ap (λ r. r >>= filled size false rest) e
    ∙ filled_all size rest left t long none
    ∙ ap (λ (bs : List ℕ). Ok (t, bs)) (sym tail)

module _ (whole : List ℕ) (o : Outline) (id kind size at count : ℕ) (octets rest held left behind inner : List ℕ) where
  pub section_noted : (id == 0) ≡ false → section_by o.last id ≡ Ok kind → read u32 octets ≡ Ok (size, rest) → held ≡ take size rest → read (content_over o.own kind) held ≡ Ok (tt, left) → size ≤ length rest → length left ≡ 0 →
      behind ≡ drop size rest → read u32 held ≡ Ok (count, inner) → StandsAt whole at held → IsOutline whole o →
      (read (section (sections_in whole o) id) octets ≡ Ok (sections_in whole (noted o kind at count), behind)) × IsOutline whole (noted o kind at count)
  section_noted others placed_is sized cut passed long none tail counts stands outline =
      let order = section_order o.last id kind placed_is in
      let n = content_noted whole o at count held left inner stands outline counts kind order.1 passed in
      (section_reads (sections_in whole o) (sections_in whole (noted o kind at count)) id kind size octets rest held left behind others placed_is sized cut long none tail n.reads, n.outline)

-- ---- where a section is stuck

abbrev no_module : Result (Sections × List ℕ) BinaryFault
no_module = Err NotModule

either_way : (b : Bool) → cond b no_module no_module ≡ no_module
either_way true = refl
either_way false = refl

fails_is : {A : Type 0} (e : BinaryFault) (r : Result A BinaryFault) → r ≡ Err e → Fails e r
fails_is NoMemory r h = tt
fails_is NotModule r h = h
fails_is (OutOfProfile what) r h = h

module _ (s : Sections) (id : ℕ) (octets : List ℕ) (others : (id == 0) ≡ false) where
  abbrev placed_section : ℕ × List ℕ → Result (Sections × List ℕ) BinaryFault
  placed_section y = read (after u32 (λ n. within n false (content s y.0))) y.1

  section_is : (r : Result ℕ BinaryFault) → section_by s.last id ≡ r → read (section s id) octets ≡ (read (settle r) octets >>= placed_section)
  unfolding read
  section_is r e =
      ap (λ (b : Bool). read (pick b (after u32 (λ n. within n true (after name (λ text. is s)))) (after (settle (section_by s.last id)) (λ k. after u32 (λ n. within n false (content s k))))) octets) others
      ∙ ap (λ (q : Result ℕ BinaryFault). read (settle q) octets >>= placed_section) e

  pub section_misplaced : (e : BinaryFault) → section_by s.last id ≡ Err e → Fails e (read (section s id) octets)
  unfolding read
  section_misplaced e h = fails_is e (read (section s id) octets) (section_is (Err e) h)

  module _ (kind : ℕ) (placed_is : section_by s.last id ≡ Ok kind) where
    pub section_unsized : (e : BinaryFault) → Fails e (read u32 octets) → Fails e (read (section s id) octets)
    unfolding read
    section_unsized e h = fails_through e (read u32 octets) (λ z. read (within z.0 false (content s kind)) z.1) (read (section s id) octets) h (sym (section_is (Ok kind) placed_is))

    module _ (size : ℕ) (rest held : List ℕ) (sized : read u32 octets ≡ Ok (size, rest)) (cut : held ≡ take size rest) where
      section_filled : read (section s id) octets ≡ (read (content s kind) held >>= filled size false rest)
      unfolding read
      section_filled = section_is (Ok kind) placed_is ∙ ap (λ r. r >>= λ z. read (within z.0 false (content s kind)) z.1) sized ∙ ap (λ (bs : List ℕ). read (content s kind) bs >>= filled size false rest) (sym cut)

      pub section_stuck : (e : BinaryFault) (own : ℕ) → own ≡ length s.type_indices → Fails e (read (content_over own kind) held) → Fails e (read (section s id) octets)
      section_stuck e own counted h =
          fails_through e (read (content s kind) held) (filled size false rest) (read (section s id) octets) (was_stuck e (read (content s kind) held) (subst (Fails e) (content_same s own kind held counted) h)) (sym section_filled)

      pub section_unfilled : (e : BinaryFault) (own : ℕ) (left : List ℕ) → own ≡ length s.type_indices → read (content_over own kind) held ≡ Ok (tt, left) → (e ≡ NotModule) × ((length rest < size) ⊎ (1 ≤ length left)) → Fails e (read (section s id) octets)
      section_unfilled e own left own_is passed why =
          let found = was_read (read (content s kind) held) left (sym (content_same s own kind held own_is) ∙ passed) in
          fails_is e (read (section s id) octets) (section_filled ∙ ap (λ r. r >>= filled size false rest) found.1 ∙ not_filled found.0 why.1 ∙ ap (λ (f : BinaryFault). Err f) (sym why.0))
        where
          not_filled : (t : Sections) → (length rest < size) ⊎ (1 ≤ length left) → filled size false rest (t, left) ≡ Err NotModule
          not_filled t (inl short) = ap (λ (b : Bool). cond b (Err NotModule) (cond (nat_lt 0 (length left)) (Err NotModule) (Ok (t, drop size rest)))) (lt-ltb (length rest) size short)
          not_filled t (inr more) = ap (λ (b : Bool). cond (nat_lt (length rest) size) no_module (cond b no_module (Ok (t, drop size rest)))) (lt-ltb 0 (length left) (omega (arith, more))) ∙ either_way (nat_lt (length rest) size)

-- ---- the module

-- whether all functions have their codes
pub complete_test : (whole : List ℕ) (o : Outline) → IsOutline whole o → ((o.own == 0) || is_some o.codes) ≡ (length (indices_in whole o) == length (contents_in whole o).functions)
unfolding values_at
complete_test whole o outline = by_codes o.codes outline.coded
  where
    by_codes : (codes : Option ℕ) → IfSome codes (λ at. (10 ≤ o.last) × (length (values_at (functions (indices_in whole o)) whole codes) ≡ o.own)) →
        ((o.own == 0) || is_some codes) ≡ (length (indices_in whole o) == length (values_at (functions (indices_in whole o)) whole codes))
    by_codes None coded = or_false (o.own == 0) ∙ ap (λ (n : ℕ). n == 0) outline.own
      where
        or_false : (b : Bool) → (b || false) ≡ b
        or_false true = refl
        or_false false = refl
    by_codes (Some at) coded = or_true (o.own == 0) ∙ sym (eq-eqb (length (indices_in whole o)) (length (values_at (functions (indices_in whole o)) whole (Some at))) (sym outline.own ∙ sym coded.1))
      where
        or_true : (b : Bool) → (b || true) ≡ true
        or_true true = refl
        or_true false = refl

abbrev sections_of : Result Sections BinaryFault → Result Contents BinaryFault
sections_of r = r >>= finish

module _ (bytes : List ℕ) where
  with_header : equal (take 8 bytes) header ≡ true → module_in bytes ≡ (read_all section (length bytes) no_sections (drop 8 bytes) >>= finish)
  with_header same = ap (λ (b : Bool). cond b (read_all section (length bytes) no_sections (drop 8 bytes) >>= finish) (Err NotModule)) same

  finished : (s : Sections) → equal (take 8 bytes) header ≡ true → read_all section (length bytes) no_sections (drop 8 bytes) ≡ Ok s → module_in bytes ≡ finish s
  finished s same e = with_header same ∙ ap sections_of e

  pub module_found : (s : Sections) → equal (take 8 bytes) header ≡ true → read_all section (length bytes) no_sections (drop 8 bytes) ≡ Ok s → (length s.type_indices == length s.contents.functions) ≡ true → module_in bytes ≡ Ok s.contents
  module_found s same e complete = finished s same e ∙ ap (λ (b : Bool). cond b (Ok s.contents) (Err NotModule)) complete

  pub module_short : (s : Sections) → equal (take 8 bytes) header ≡ true → read_all section (length bytes) no_sections (drop 8 bytes) ≡ Ok s → (length s.type_indices == length s.contents.functions) ≡ false → module_in bytes ≡ Err NotModule
  module_short s same e short = finished s same e ∙ ap (λ (b : Bool). cond b (Ok s.contents) (Err NotModule)) short

  pub module_stuck : (e : BinaryFault) → equal (take 8 bytes) header ≡ true → Fails e (read_all section (length bytes) no_sections (drop 8 bytes)) → Fails e (module_in bytes)
  module_stuck e same h = fails_through e (read_all section (length bytes) no_sections (drop 8 bytes)) finish (module_in bytes) h (sym (with_header same))

pub first_or : (b c : Bool) → b ≡ true → b ≡ (b || c)
first_or true c e = refl
first_or false c e = absurd cc

pub second_or : (b c : Bool) → b ≡ false → c ≡ (b || c)
second_or true c e = absurd cc
second_or false c e = refl
