-- What is decoded of a module, and what it spells, are the same; so are what fails and what is stuck.
use Rattle.std.proofs.Common.{◌≡◌, ℕ, Bool, true, false, cond, eqb, List, [], ◌∷◌, ◌++◌, length, take, drop, Result, Ok, Err, refl, sym, ap, ◌∙◌, arith, ◌⊎◌, inl, inr}
use Rattle.std.specs.Prelude.{IfOk, IfErr}
use Rattle.std.proofs.lemmas.Bool.{eqb-true, eq-eqb}
use Rattle.std.proofs.lemmas.List.{take_at, drop_at, take-append-drop, length-append, length-drop}
use Rattle.qw_octet_grammar.specs.declared.fault.BinaryFault.{BinaryFault}
use Rattle.qw_octet_grammar.specs.declared.fault.BinaryFault.TheVariants.{NoMemory, NotModule, OutOfProfile}
use Rattle.qw_octet_grammar.specs.Reading.{◌>>=◌, read_all, Gives}
use Rattle.qw_octet_grammar.proofs.GrammarLaws.{bind_ok, bind_err, ok_is}
use Rattle.qw_octet_grammar.proofs.AllLaws.{all_takes, all_again, all_stuck, all_fails}
use Rattle.qw_module.specs.declared.module.Module.{Module}
use Rattle.qw_binary.specs.Contents.{Contents, contents_of}
use Rattle.qw_binary.specs.Sections.{equal, Sections, no_sections, section}
use Rattle.qw_binary.specs.Modules.{header, SpellsModule, FirstStuck, at_header, in_section, at_end_of_octets, IsFirstStuck}
use Rattle.qw_binary.specs.Inner.Decoding.{finish, module_in}

eqb-self : (n : ℕ) → eqb n n ≡ true
eqb-self n = eq-eqb n n refl

both : (a b : Bool) → cond a b false ≡ true → (a ≡ true) × (b ≡ true)
both true b e = (refl, e)
both false b e = absurd cc

pub equal-true : (xs ys : List ℕ) → equal xs ys ≡ true → xs ≡ ys
equal-true [] [] e = refl
equal-true [] (y ∷ ys) e = absurd cc
equal-true (x ∷ xs) [] e = absurd cc
equal-true (x ∷ xs) (y ∷ ys) e = let h = both (eqb x y) (equal xs ys) e in let a = eqb-true x y h.0 in let t = equal-true xs ys h.1 in cc

pub equal_self : (xs : List ℕ) → equal xs xs ≡ true
equal_self [] = refl
equal_self (x ∷ xs) = rw (eqb-self x) (equal_self xs)

guarded : {A : Type 0} (b : Bool) (r : Result A BinaryFault) (y : A) → cond b r (Err NotModule) ≡ Ok y → (b ≡ true) × (r ≡ Ok y)
guarded true r y e = (refl, e)
guarded false r y e = absurd cc

split : {A : Type 0} (b : Bool) (r : Result A BinaryFault) (f : BinaryFault) → cond b r (Err NotModule) ≡ Err f → ((b ≡ false) × (f ≡ NotModule)) ⊎ ((b ≡ true) × (r ≡ Err f))
split true r f e = inr (refl, e)
split false r f e = inl (refl, cc)

chosen : {A : Type 0} (b : Bool) (r : Result A BinaryFault) → b ≡ true → cond b r (Err NotModule) ≡ r
chosen true r e = refl
chosen false r e = absurd cc

refused : {A : Type 0} (b : Bool) (r : Result A BinaryFault) (f : BinaryFault) → b ≡ false → f ≡ NotModule → cond b r (Err NotModule) ≡ Err f
refused true r f e g = absurd cc
refused false r f e g = ap Err (sym g)

not_both : {b : Bool} → b ≡ true → b ≡ false → ⊥
not_both h k = cc

not_equal : (c b : Bool) → b ≡ c → (b ≡ true → ⊥) → b ≡ false
not_equal true b e none = absurd (none e)
not_equal false b e none = e

finish_err : (t : Sections) (f : BinaryFault) → finish t ≡ Err f → (length t.type_indices ≡ length t.contents.functions → ⊥) × (f ≡ NotModule)
finish_err t f e = one (eqb (length t.type_indices) (length t.contents.functions)) t.contents f refl e
  where
    one : (b : Bool) (x : Contents) (f : BinaryFault) → eqb (length t.type_indices) (length t.contents.functions) ≡ b → cond b (Ok x) (Err NotModule) ≡ Err f → (length t.type_indices ≡ length t.contents.functions → ⊥) × (f ≡ NotModule)
    one true x f q e = absurd cc
    one false x f q e = ((λ same. not_both (ap (λ n. eqb (length t.type_indices) n) (sym same) ∙ eqb-self (length t.type_indices)) q), cc)

unfinished : (t : Sections) (f : BinaryFault) → (length t.type_indices ≡ length t.contents.functions → ⊥) → f ≡ NotModule → finish t ≡ Err f
unfinished t f none g = one (eqb (length t.type_indices) (length t.contents.functions)) t.contents refl
  where
    one : (b : Bool) (x : Contents) → eqb (length t.type_indices) (length t.contents.functions) ≡ b → cond b (Ok x) (Err NotModule) ≡ Err f
    one true x q = absurd (none (eqb-true _ _ q))
    one false x q = ap Err (sym g)

cut : (text : List ℕ) → take 8 text ≡ header → text ≡ header ++ drop 8 text
cut text e = sym (take-append-drop 8 text) ∙ ap (λ w. w ++ drop 8 text) e

finish_ok : (t : Sections) (m : Contents) → finish t ≡ Ok m → (length t.type_indices ≡ length t.contents.functions) × (t.contents ≡ m)
finish_ok t m e = let h = one (eqb (length t.type_indices) (length t.contents.functions)) t.contents m e in (eqb-true _ _ h.0, h.1)
  where
    one : (b : Bool) (x y : Contents) → cond b (Ok x) (Err NotModule) ≡ Ok y → (b ≡ true) × (x ≡ y)
    one true x y e = (refl, ok_is x y e)
    one false x y e = absurd cc

pub found : (text : List ℕ) (m : Contents) → module_in text ≡ Ok m → SpellsModule m text
found text m e =
    let h = guarded (equal (take 8 text) header) (read_all section (length text) no_sections (drop 8 text) >>= finish) m e in
    let a = bind_ok (read_all section (length text) no_sections (drop 8 text)) finish m h.1 in
    let k = finish_ok a.0 m a.2 in
    record { sections = drop 8 text; begins = cut text (equal-true _ _ h.0); most = length text; last = a.0; each = all_takes section (length text) no_sections (drop 8 text) a.0 a.1; complete = k.0; stands_for = k.1 }

pub only : (text : List ℕ) (m : Contents) → SpellsModule m text → module_in text ≡ Ok m
only text m h =
    let a : take 8 text ≡ header = ap (take 8) h.begins ∙ take_at header h.sections 8 refl in
    let b : drop 8 text ≡ h.sections = ap (drop 8) h.begins ∙ drop_at header h.sections 8 refl in
    let c : read_all section (length text) no_sections h.sections ≡ Ok h.last = all_again section h.most no_sections h.last h.sections (length text) h.each (omega (arith, ap length h.begins, length-append header h.sections)) in
    let d : finish h.last ≡ Ok m = ap (λ t. cond t (Ok h.last.contents) (Err NotModule)) (ap (λ n. eqb (length h.last.type_indices) n) (sym h.complete) ∙ eqb-self (length h.last.type_indices)) ∙ ap Ok h.stands_for in
    chosen (equal (take 8 text) header) _ (ap (λ w. equal w header) a ∙ equal_self header) ∙ ap (λ w. read_all section (length text) no_sections w >>= finish) b ∙ ap (λ r. r >>= finish) c ∙ d

pub stuck : (text : List ℕ) (f : BinaryFault) → module_in text ≡ Err f → FirstStuck text f
stuck text f e =
    elim (split (equal (take 8 text) header) _ f e) [
      | inl a ↦ at_header (λ same. not_both (ap (λ w. equal w header) same ∙ equal_self header) a.0) a.1
      | inr a ↦
          let same = equal-true _ _ a.0 in
          elim (bind_err (read_all section (length text) no_sections (drop 8 text)) finish f a.1) [
            | inl b ↦ in_section same (length text) (all_stuck section (length text) no_sections (drop 8 text) f (omega (arith, length-drop 8 text)) b)
            | inr b ↦
                let k = finish_err b.0 f b.2 in
                at_end_of_octets same (length text) b.0 (all_takes section (length text) no_sections (drop 8 text) b.0 b.1) k.0 k.1
          ]
    ]

pub stuck_only : (text : List ℕ) (f : BinaryFault) → FirstStuck text f → module_in text ≡ Err f
stuck_only text f (at_header none e) = refused (equal (take 8 text) header) _ f (not_equal (equal (take 8 text) header) (equal (take 8 text) header) refl (λ h. none (equal-true _ _ h))) e
stuck_only text f (in_section same n h) =
    chosen (equal (take 8 text) header) _ (ap (λ w. equal w header) same ∙ equal_self header) ∙ ap (λ r. r >>= finish) (all_fails section n no_sections (drop 8 text) f (length text) h (omega (arith, length-drop 8 text)))
stuck_only text f (at_end_of_octets same n last each none e) =
    chosen (equal (take 8 text) header) _ (ap (λ w. equal w header) same ∙ equal_self header) ∙ ap (λ r. r >>= finish) (all_again section n no_sections last (drop 8 text) (length text) each (omega (arith, length-drop 8 text))) ∙ unfinished last f none e

pub one_module : (text : List ℕ) (m n : Contents) → SpellsModule m text → SpellsModule n text → m ≡ n
one_module text m n h j = ok_is m n (sym (only text m h) ∙ only text n j)

abbrev failed : BinaryFault → Result Contents BinaryFault
failed f = Err f

pub one_fault : (text : List ℕ) (f g : BinaryFault) → FirstStuck text f → FirstStuck text g → f ≡ g
one_fault text f g h j = let e : failed f ≡ failed g = sym (stuck_only text f h) ∙ stuck_only text g j in cc

pub never_both : (text : List ℕ) (m : Contents) (f : BinaryFault) → SpellsModule m text → FirstStuck text f → ⊥
never_both text m f h j = let e : Ok m ≡ failed f = sym (only text m h) ∙ stuck_only text f j in cc

-- ---- what decode promises

pub is_found : (text : List ℕ) (r : Result Module BinaryFault) → Gives contents_of r (module_in text) → IfOk r (λ m. SpellsModule (contents_of m) text)
is_found text (Ok m) given = found text (contents_of m) given
is_found text (Err e) given = tt

pub is_stuck : (text : List ℕ) (r : Result Module BinaryFault) → Gives contents_of r (module_in text) → IfErr r (λ e. IsFirstStuck e text)
is_stuck text (Ok m) given = tt
is_stuck text (Err NoMemory) given = tt
is_stuck text (Err NotModule) given = stuck text NotModule given
is_stuck text (Err (OutOfProfile what)) given = stuck text (OutOfProfile what) given
