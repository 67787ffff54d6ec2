-- What is read as a module is spelled as one, and what is stuck where reading fails.
use Rattle.std.proofs.Common.{◌≡◌, ℕ, Bool, true, false, cond, eqb, List, [], ◌∷◌, ◌++◌, length, take, drop, Result, Ok, Err, refl, sym, ap, ◌∙◌, arith, ◌⊎◌, inl, inr}
use Rattle.std.specs.Prelude.{IfOk, IfErr}
use Rattle.std.proofs.lemmas.Bool.{eqb-true, eq-eqb}
use Rattle.std.proofs.lemmas.List.{take-append-drop, length-drop}
use Rattle.qw_octet_grammar.specs.declared.fault.BinaryFault.{BinaryFault}
use Rattle.qw_octet_grammar.specs.declared.fault.BinaryFault.TheVariants.{NoMemory, NotModule, OutOfProfile}
use Rattle.qw_octet_grammar.specs.Reading.{◌>>=◌, read_all, Gives}
use Rattle.qw_octet_grammar.proofs.GrammarLaws.{bind_ok, bind_err, ok_is}
use Rattle.qw_octet_grammar.proofs.AllLaws.{all_takes, all_stuck}
use Rattle.qw_binary.specs.Contents.{Contents}
use Rattle.qw_binary.specs.Sections.{equal, Sections, no_sections, section}
use Rattle.qw_binary.specs.Modules.{header, SpellsModule, FirstStuck, at_header, in_section, at_end_of_octets, IsFirstStuck}
use Rattle.qw_binary.specs.Inner.Decoding.{finish, module_in}

-- ---- tests

both : (a b : Bool) → cond a b false ≡ true → (a ≡ true) × (b ≡ true)
both true b e = (refl, e)
both false b e = absurd cc

equal_same : (xs ys : List ℕ) → equal xs ys ≡ true → xs ≡ ys
equal_same [] [] e = refl
equal_same [] (y ∷ ys) e = absurd cc
equal_same (x ∷ xs) [] e = absurd cc
equal_same (x ∷ xs) (y ∷ ys) e = let h = both (eqb x y) (equal xs ys) e in let a = eqb-true x y h.0 in let t = equal_same xs ys h.1 in cc

equal_self : (xs : List ℕ) → equal xs xs ≡ true
equal_self [] = refl
equal_self (x ∷ xs) = rw (eq-eqb x x refl) (equal_self xs)

not_both : {b : Bool} → b ≡ true → b ≡ false → ⊥
not_both h k = cc

passed_test : {A : Type 0} (b : Bool) (r : Result A BinaryFault) (y : A) → cond b r (Err NotModule) ≡ Ok y → (b ≡ true) × (r ≡ Ok y)
passed_test true r y e = (refl, e)
passed_test false r y e = absurd cc

failed_test : {A : Type 0} (b : Bool) (r : Result A BinaryFault) (f : BinaryFault) → cond b r (Err NotModule) ≡ Err f → ((b ≡ false) × (f ≡ NotModule)) ⊎ ((b ≡ true) × (r ≡ Err f))
failed_test true r f e = inr (refl, e)
failed_test false r f e = inl (refl, cc)

abbrev is_complete : Sections → Bool
is_complete t = eqb (length t.type_indices) (length t.contents.functions)

finished : (t : Sections) (c : Contents) → finish t ≡ Ok c → (length t.type_indices ≡ length t.contents.functions) × (t.contents ≡ c)
finished t c e = let h = passed_test (is_complete t) (Ok t.contents) c e in (eqb-true _ _ h.0, ok_is t.contents c h.1)

unfinished : (t : Sections) (f : BinaryFault) → finish t ≡ Err f → (length t.type_indices ≡ length t.contents.functions → ⊥) × (f ≡ NotModule)
unfinished t f e =
    elim (failed_test (is_complete t) (Ok t.contents) f e) [
      | inl a ↦ ((λ same. not_both (eq-eqb (length t.type_indices) (length t.contents.functions) same) a.0), a.1)
      | inr a ↦ absurd (none a.1)
    ]
  where
    none : Ok t.contents ≡ Err f → ⊥
    none h = cc

-- ---- the module

module _ (text : List ℕ) where
  abbrev sections_all : Result Sections BinaryFault
  sections_all = read_all section (length text) no_sections (drop 8 text)

  spelled : (c : Contents) → module_in text ≡ Ok c → SpellsModule c text
  spelled c e =
      let h = passed_test (equal (take 8 text) header) (sections_all >>= finish) c e in
      let a = bind_ok sections_all finish c h.1 in
      let k = finished a.0 c a.2 in (
      record {
        sections = drop 8 text;
        begins = sym (take-append-drop 8 text) ∙ ap (λ (bs : List ℕ). bs ++ drop 8 text) (equal_same (take 8 text) header h.0);
        most = length text;
        last = a.0;
        each = all_takes section (length text) no_sections (drop 8 text) a.0 a.1;
        complete = k.0;
        stands_for = k.1;
      }
      )

  stuck : (f : BinaryFault) → module_in text ≡ Err f → FirstStuck text f
  stuck f e =
      elim (failed_test (equal (take 8 text) header) (sections_all >>= finish) f e) [
        | inl a ↦ at_header (λ same. not_both (ap (λ (bs : List ℕ). equal bs header) same ∙ equal_self header) a.0) a.1
        | inr a ↦
            let same = equal_same (take 8 text) header a.0 in
            elim (bind_err sections_all finish f a.1) [
              | inl b ↦ in_section same (length text) (all_stuck section (length text) no_sections (drop 8 text) f (omega (arith, length-drop 8 text)) b)
              | inr b ↦
                  let k = unfinished b.0 f b.2 in
                  at_end_of_octets same (length text) b.0 (all_takes section (length text) no_sections (drop 8 text) b.0 b.1) k.0 k.1
            ]
      ]

  module _ {X : Type 0} (view : X → Contents) where
    pub is_spelled : (r : Result X BinaryFault) → Gives view r (module_in text) → IfOk r (λ x. SpellsModule (view x) text)
    is_spelled (Ok x) given = spelled (view x) given
    is_spelled (Err e) given = tt

    pub is_stuck : (r : Result X BinaryFault) → Gives view r (module_in text) → IfErr r (λ fault. IsFirstStuck fault text)
    is_stuck (Ok x) given = tt
    is_stuck (Err NoMemory) given = tt
    is_stuck (Err NotModule) given = stuck NotModule given
    is_stuck (Err (OutOfProfile what)) given = stuck (OutOfProfile what) given
